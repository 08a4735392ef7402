-- What stands in a log above the flushed number, where all of it was flushed.
use Rattle.std.proofs.Common.{◌≡◌, ◌≤◌, ℕ, List, [], ◌∷◌, refl, sym, ap, subst, ◌∙◌, arith}
use Rattle.std.specs.List.{AllByRecursion}
use Rattle.px_outside.specs.declared.disk.Disk.{Ghosts}
use Rattle.px_wal.specs.Batches.{AreRisingBatches, LogBatch, batches_above}
use Rattle.px_wal.specs.Form.{cell_count, last_batch_number}
use Rattle.px_wal.proofs.Cuts.{above_drop}
use Rattle.px_wal.proofs.Numbers.{last_top}
use Rattle.px_region.specs.Ordered.{HasFlushed, IsFlushOrdered, flushed_of}
use Rattle.px_region.specs.Region.{RegionData, RegionHolds, logged_of}
use Rattle.px_region.specs.declared.region.Region.{Region}

none_over : (m n : ℕ) (batches : List LogBatch) → m ≤ n → AllByRecursion (λ b. b.number ≤ m) batches → batches_above n batches ≡ []
none_over m n [] low all = refl
none_over m n (b ∷ batches) low all = above_drop n b batches (omega (arith, all.0)) ∙ none_over m n batches low all.1

none_above : (n : ℕ) (batches : List LogBatch) → AreRisingBatches batches → last_batch_number n batches ≤ n → batches_above n batches ≡ []
none_above n [] rising low = refl
none_above n (b ∷ batches) rising low = (let
    top = last_top b.number batches rising.0 rising.1
    in above_drop n b batches (omega (arith, top.0, low)) ∙ none_over (last_batch_number b.number batches) n batches low top.1)

pub nothing_logged : {D : Type 0} (d : Ghosts D) (region : Region) (disk : D) (s : RegionData) → RegionHolds d region disk s → IsFlushOrdered region → HasFlushed region → logged_of region ≡ 0
nothing_logged d region disk s holds ordered flushed = (let
    log = holds.has.parts.log
    in let
    low : last_batch_number (flushed_of region) holds.batches ≤ flushed_of region = subst (λ (n : ℕ). n ≤ flushed_of region) log.last (omega (arith, ordered, flushed))
    in holds.counted ∙ ap cell_count (none_above (flushed_of region) holds.batches log.right.rising low))
