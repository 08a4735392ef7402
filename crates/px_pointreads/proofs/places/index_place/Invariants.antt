use Rattle.std.proofs.Common.{◌≡◌, Some}
use Rattle.px_calls.specs.Requires.{index_among}
use Rattle.px_pointreads.proofs.places.index_place.Given as goal

abbrev pub invariant-loop-place : goal.invariant-loop-place
invariant-loop-place l = Some l.wanted ≡ index_among l.fn.index.0 l.p.found.indexes
