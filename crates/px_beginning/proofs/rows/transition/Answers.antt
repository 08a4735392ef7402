use Rattle.std.proofs.Common.{◌∙◌, ap, length, sym, subst, List}
use Rattle.px_indexrow.proofs.KeysHeld.{row_count}
use Rattle.px_indexrow.specs.Form.{FitsRowState}
use Rattle.px_region.specs.Region.{read_of}
use Rattle.px_values.specs.declared.row.Value.{Value}
use Rattle.px_beginning.proofs.rows.transition.Goals as goal

pub row_state-requires-clause-count : goal.row_state-requires-clause-count
row_state-requires-clause-count g c = ap (λ (r : List Value). length r) c.as_slice-row.ensures ∙ row_count c.args.table.now c.args.change.now.row c.requires.fit.0

pub row_state-requires-clause-region : goal.row_state-requires-clause-region
row_state-requires-clause-region g c = c.law_rows_read.ensures.plain c.args.table.now (read_of c.args.rows.now) c.requires.shape

pub row_state-requires-clause-plain : goal.row_state-requires-clause-plain
row_state-requires-clause-plain g c = c.law_rows_read.ensures.plain_at c.args.table.now (read_of c.args.rows.now) c.requires.shape c.args.key.now

pub expected_of-requires-clause-state : goal.expected_of-requires-clause-state
expected_of-requires-clause-state g c = subst (FitsRowState c.args.table.now) (sym c.in_ok-state.ensures.state) (c.law_rows_read.ensures.typed c.args.table.now (read_of c.args.rows.now) c.requires.table c.requires.shape c.as_slice-row.result.now 9223372036854775807)
