use Rattle.std.proofs.Common.{◌≡◌, ◌≤◌, drop, length, take}
use Rattle.px_memstore.specs.inner.Merging.{ArePlaces}
use Rattle.px_memstore.proofs.Weaving.{IsWeaving}
use Rattle.px_memstore.proofs.merging.weave_few.Given as goal

abbrev pub invariant-loop-rest : goal.invariant-loop-rest
invariant-loop-rest l = record {
  weaving : IsWeaving l.fn.cells l.end l.rest l.cells;
  placed : ArePlaces (take l.end l.cells) l.before (take l.rest (drop l.end l.cells)) (take l.rest l.places);
  left : l.rest ≤ length l.places;
  len : length l.cells ≡ length l.fn.cells;
}

abbrev pub decreases-loop-rest : goal.decreases-loop-rest
decreases-loop-rest l = l.rest
