use Rattle.std.proofs.Common.{◌≡◌, map, take}
use Rattle.px_expr.specs.Holds.{truth_of}
use Rattle.px_expr.specs.Truth.{each_of, some_of}
use Rattle.px_expr.proofs.truth.+condition.Given as goal

abbrev pub invariant-each_holds-loop-part : goal.invariant-each_holds-loop-part
invariant-each_holds-loop-part l = l.found ≡ each_of (map (truth_of l.row) (take l.part-index l.parts))

abbrev pub invariant-some_holds-loop-part : goal.invariant-some_holds-loop-part
invariant-some_holds-loop-part l = l.found ≡ some_of (map (truth_of l.row) (take l.part-index l.parts))
