use Rattle.std.proofs.Common.{◌∙◌, ◌++◌, ◌∷◌, []}
use Rattle.px_looks.specs.inner.Seen.{value_in}
use Rattle.px_looks.proofs.IndexKeys.{columns_more, columns_none}
use Rattle.px_looks.proofs.keys.row_of.Goals as goal

pub loop-place-init : goal.loop-place-init
loop-place-init c = c.in_ok-row.ensures.items ∙ columns_none c.args.table.now c.args.index.now c.args.values.now (value_in c.args.puts.now)

pub loop-place-preserved : goal.loop-place-preserved
loop-place-preserved c = c.in_ok-push.ensures.items ∙ (λ i. c.loop-place.invariant i ++ c.in_ok-value.ensures i ∷ []) ∙ columns_more c.args.table.now c.args.index.now c.args.values.now (value_in c.args.puts.now) c.loop-place.place
