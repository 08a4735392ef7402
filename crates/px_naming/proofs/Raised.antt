-- A log that is flushed further.
use Rattle.std.proofs.Common.{◌≡◌, ℕ, ◌≤◌, List, [], ◌∷◌, refl, ◌∙◌, arith}
use Rattle.px_outside.specs.declared.disk.Disk.{Ghosts}
use Rattle.px_gatelog.specs.Weaker.{IsWeaker}
use Rattle.px_gatelog.proofs.Weaker.{settled_weaker}
use Rattle.px_wal.specs.Batches.{LogBatch}
use Rattle.px_wal.specs.Form.{IsFirstAfter, IsUpTo, last_batch_number, wal_form}
use Rattle.px_wal.specs.Wal.{HasBatches}
use Rattle.px_wal.specs.declared.wal.Wal.{Wal}
use Rattle.px_wal.proofs.Numbers.{wrong_weaker}

weaker : (m n : ℕ) → m ≤ n → IsWeaker (wal_form m) (wal_form n)
weaker m n le = record { both = refl; empty = λ e. e; wrong = λ before r. wrong_weaker m n le before r }

first_weaker : (m n : ℕ) (batches : List LogBatch) → m ≤ n → IsFirstAfter m batches → IsFirstAfter n batches
first_weaker m n [] le first = tt
first_weaker m n (b ∷ batches) le first = omega arith

last_same : (m n : ℕ) (batches more : List LogBatch) (b : LogBatch) → batches ≡ b ∷ more → last_batch_number m batches ≡ last_batch_number n batches
last_same m n [] more b is = cc
last_same m n (x ∷ batches) more b is = refl

upto_raised : (m n to : ℕ) (batches : List LogBatch) → m ≤ n → IsUpTo m batches to → IsUpTo n batches to
upto_raised m n to [] le is = omega (arith, le, is)
upto_raised m n to (b ∷ batches) le is = is

-- where it has batches, it has them whatever number it is flushed up to from then on
pub log_raised : {D : Type 0} (d : Ghosts D) (region m n : ℕ) (wal : Wal) (disk : D) (batches more : List LogBatch) (b : LogBatch) → m ≤ n → batches ≡ b ∷ more → HasBatches d region m wal disk batches → HasBatches d region n wal disk batches
log_raised d region m n wal disk batches more b le is has = record {
  log = record {
    segments = has.log.segments;
    first_is = has.log.first_is;
    second_is = has.log.second_is;
    settled = settled_weaker (wal_form m) (wal_form n) (weaker m n le) d wal.log disk has.log.segments has.log.settled;
    records_are = has.log.records_are;
    laid = has.log.laid;
  };
  right = record { each = has.right.each; rising = has.right.rising; first = first_weaker m n batches le has.right.first };
  last = has.last ∙ last_same m n batches more b is;
  cut = record {
    older = has.cut.older;
    newer = has.cut.newer;
    all = has.cut.all;
    before = has.cut.before;
    upto_is = upto_raised m n wal.older_to has.cut.older le has.cut.upto_is;
  };
}
