use Rattle.px_tables.specs.declared.table.TableColumn.{TableColumn}
use Rattle.px_schema.specs.Parts.{name_piece}
use Rattle.px_standing.proofs.SameNames.{all_next}
use Rattle.px_server.proofs.defining.spelled.are_spelled.Goals as goal

pub loop-column-preserved : goal.loop-column-preserved
loop-column-preserved c = all_next (λ (x : TableColumn). name_piece.right x.name) c.args.columns.now c.loop-column.column-index c.column-item.result c.loop-column-test.true c.column-item.is c.loop-column.invariant (c.is_spelled.ensures c.if-not-is_spelled.false)
