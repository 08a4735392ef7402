use Rattle.std.proofs.Common.{◌≡◌, map, take}
use Rattle.px_bind.specs.Upserts.{given}
use Rattle.px_bind.proofs.upserts.key_row.Given as goal

abbrev pub invariant-loop-part : goal.invariant-loop-part
invariant-loop-part l = l.row.items ≡ map (λ k. given l.places l.values k.column) (take l.part-index l.key)
