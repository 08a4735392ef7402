use Rattle.std.proofs.Common.{true, false, ◌+◌, get_or, None, sym, arith}
use Rattle.std.specs.Prelude.{nat_eq}
use Rattle.std.specs.Cmp.Lexicographic.{pointwise}
use Rattle.px_world.specs.Shape.{same_cell}
use Rattle.px_indexrow.proofs.Dues.{below_next, below_none, below_not, same_at}
use Rattle.px_indexrow.proofs.doubt.are_same.Goals as goal

pub loop-place-init : goal.loop-place-init
loop-place-init c = below_none _

pub returns-then-not-is_same : goal.returns-then-not-is_same
returns-then-not-is_same c =
    let xs = c.args.values.now in
    let ys = c.args.others.now in
    sym (below_not _ c.loop-place.place (λ i. same_cell (pointwise nat_eq) (get_or xs i None) (get_or ys i None)) c.loop-place-test.true (same_at xs ys c.loop-place.place c.index-values-place.result c.index-others-place.result false c.requires c.loop-place-test.true c.index-values-place.is c.index-others-place.is c.if-not-is_same.ensures))

pub loop-place-preserved : goal.loop-place-preserved
loop-place-preserved c =
    let xs = c.args.values.now in
    let ys = c.args.others.now in
    below_next c.loop-place.place (c.loop-place.place + 1) (λ i. same_cell (pointwise nat_eq) (get_or xs i None) (get_or ys i None)) (omega arith) c.loop-place.invariant (same_at xs ys c.loop-place.place c.index-values-place.result c.index-others-place.result true c.requires c.loop-place-test.true c.index-values-place.is c.index-others-place.is c.if-not-is_same.ensures)
