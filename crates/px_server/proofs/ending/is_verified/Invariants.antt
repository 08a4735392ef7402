use Rattle.std.proofs.Common.{◌≡◌, ◌<◌, ℕ, false, Some}
use Rattle.std.specs.Prelude.{slice_get}
use Rattle.px_trail.specs.declared.entry.Entry.{Entry}
use Rattle.px_server.specs.Ending.{tells_verified}
use Rattle.px_server.proofs.ending.is_verified.Given as goal

abbrev pub invariant-loop-place : goal.invariant-loop-place
invariant-loop-place l = (k : ℕ) → k < l.place → (e : Entry) → slice_get l.trail.entries k ≡ Some e → tells_verified l.table.0 l.stamp e.act ≡ false
