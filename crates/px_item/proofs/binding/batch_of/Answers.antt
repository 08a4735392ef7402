use Rattle.std.proofs.Common.{◌∙◌, ap, List}
use Rattle.px_values.specs.declared.change.Change.{Change}
use Rattle.px_trail.specs.Batches.{is_distinct, rows_of}
use Rattle.px_item.proofs.Following.{one_distinct}
use Rattle.px_item.proofs.binding.batch_of.Goals as goal

pub new-requires-clause-distinct : goal.new-requires-clause-distinct
new-requires-clause-distinct c = ap (λ (l : List Change). is_distinct (rows_of l)) c.in-Ok.ensures ∙ one_distinct c.args.change
