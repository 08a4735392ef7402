use Rattle.std.proofs.Common.{◌≡◌, true, rules}
use Rattle.std.specs.Prelude.{◌==◌}
use Rattle.px_opening.proofs.Building.{horizon_raised, last_raised, no_horizon, no_number}
use Rattle.px_opening.proofs.heights.index_heights.Goals as goal

pub loop-index-init : goal.loop-index-init
loop-index-init c = λ f all. (no_number, no_horizon)

pub loop-index-preserved : goal.loop-index-preserved
loop-index-preserved c = λ f all.
    let v = c.loop-index.invariant f all in
    let r = c.in_ok-region.ensures f all in
    let raised = c.raised-heights.ensures f r.0 r.1 in
    let mine : (c.index-item.result.table.0 == c.args.number) ≡ true = search rules in (
      last_raised f c.args.number c.args.indexes.now c.loop-index.index-index c.index-item.result c.loop-index-test.true c.index-item.is mine c.loop-index.heights c.raised-heights.result raised v.0,
      horizon_raised f c.args.number c.args.indexes.now c.loop-index.index-index c.index-item.result c.loop-index-test.true c.index-item.is mine c.loop-index.heights c.raised-heights.result raised v.1,
    )
