use Rattle.std.proofs.Common.{List, sym, ◌∙◌, ap}
use Rattle.px_values.specs.declared.change.Change.{Change}
use Rattle.px_trail.specs.Batches.{is_distinct, rows_of}
use Rattle.px_trail.specs.Trail.{table_shape}
use Rattle.px_held.proofs.Each.{distinct-each}
use Rattle.px_held.proofs.changes.with_each.Goals as goal

pub invariant_of-result : goal.invariant_of-result
invariant_of-result c = record {
  some = λ e. c.requires.some (sym c.in-Ok.ensures.ok ∙ e);
  rows = c.hold_each.ensures.rows c.requires.rows;
  distinct = ap (λ (l : List Change). is_distinct (rows_of l)) c.in-Ok.ensures.ok ∙ distinct-each (table_shape c.args.of.now) c.args.held.items c.args.changes.items c.requires.distinct;
}
