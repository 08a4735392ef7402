use Rattle.px_schema.specs.Format.{table}
use Rattle.px_schema.specs.Parts.{id}
use Rattle.px_schema.proofs.Joins.{exit_reads, exit_wrong}
use Rattle.px_schema.proofs.TableSteps.{table_first, table_second, table_taken}
use Rattle.px_schema.proofs.table.table_in.Goals as goal

pub returns-in_err-number : goal.returns-in_err-number
unfolding id
returns-in_err-number c =
    exit_wrong table c.args.bytes.now c.args.at c.from_residual.result c.in_err-number.field-0.0.place c.from_residual.ensures.1 (table_first c.args.bytes.now c.args.at c.in_err-number.field-0.0.place c.in_err-number.ensures.stopped)

pub returns-in_err-name : goal.returns-in_err-name
unfolding id
returns-in_err-name c =
    exit_reads table c.args.bytes.now c.args.at c.from_residual-in_err-name.result c.in_err-name.field-0.0 c.from_residual-in_err-name.ensures.1
    (table_second c.args.bytes.now c.args.at c.in_ok-number.number c.in_err-name.field-0.0 c.in_ok-number.ensures.taken c.in_err-name.ensures)

pub returns : goal.returns
unfolding id
returns c = table_taken c.args.bytes.now c.args.at c.in_ok-number.number c.in_ok-name.name c.in_ok-name.columns c.in_ok-name.key c.in_ok-name.regions c.in_ok-name.end c.in_ok-number.ensures.taken c.in_ok-name.ensures
