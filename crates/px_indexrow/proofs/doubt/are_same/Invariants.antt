use Rattle.std.proofs.Common.{◌≡◌, true, get_or, None}
use Rattle.std.specs.Prelude.{nat_eq}
use Rattle.std.specs.Cmp.Lexicographic.{pointwise}
use Rattle.px_world.specs.Shape.{all_below, same_cell}
use Rattle.px_indexrow.proofs.doubt.are_same.Given as goal

abbrev pub invariant-loop-place : goal.invariant-loop-place
invariant-loop-place l = all_below l.place (λ c. same_cell (pointwise nat_eq) (get_or l.values c None) (get_or l.others c None)) ≡ true
