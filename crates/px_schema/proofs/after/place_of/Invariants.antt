use Rattle.std.proofs.Common.{◌≡◌, ◌+◌, map, drop}
use Rattle.px_schema.specs.Places.{first_at}
use Rattle.px_schema.proofs.after.place_of.Given as goal

abbrev pub invariant-loop-one : goal.invariant-loop-one
invariant-loop-one g l = (first_at (map g.T.Numbered.number_of l.list) l.number ≡ l.one-index + first_at (map g.T.Numbered.number_of (drop l.one-index l.list)) l.number) × (l.at ≡ l.one-index)
