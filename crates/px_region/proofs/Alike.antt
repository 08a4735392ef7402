-- Regions that differ in their room alone.
use Rattle.std.proofs.Common.{refl, ◌∙◌}
use Rattle.px_region.specs.Promise.{IsAlike}
use Rattle.px_region.specs.declared.region.Region.{Region}

pub alike_refl : (x : Region) → IsAlike x x
alike_refl x = record { number = refl; wal = refl; manifest = refl; flushing = refl; horizon = refl; store = refl; cells = refl; bytes = refl; stamps = refl }

pub alike_then : (x y z : Region) → IsAlike x y → IsAlike y z → IsAlike x z
alike_then x y z a b = record {
  number = b.number ∙ a.number;
  wal = b.wal ∙ a.wal;
  manifest = b.manifest ∙ a.manifest;
  flushing = b.flushing ∙ a.flushing;
  horizon = b.horizon ∙ a.horizon;
  store = b.store ∙ a.store;
  cells = b.cells ∙ a.cells;
  bytes = b.bytes ∙ a.bytes;
  stamps = b.stamps ∙ a.stamps;
}
