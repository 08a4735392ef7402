use Rattle.px_schema.specs.Parts.{column_piece}
use Rattle.px_schema.proofs.Joins.{exit_reads, wrong_reads}
use Rattle.px_schema.proofs.PartSteps.{column_first, column_second, column_taken}
use Rattle.px_schema.proofs.part.column_in.Goals as goal

pub returns-in_err-name : goal.returns-in_err-name
returns-in_err-name c =
    exit_reads column_piece c.args.bytes.now c.args.at c.from_residual.result c.in_err-name.field-0.0 c.from_residual.ensures.1 (column_first c.args.bytes.now c.args.at c.in_err-name.field-0.0 c.in_err-name.ensures)

pub returns-in-Ok : goal.returns-in-Ok
returns-in-Ok c = column_taken c.args.bytes.now c.args.at c.in_ok-name.name c.in_ok-name.behind c.in-Ok.column_type c.in-Ok.not_null c.in_ok-name.ensures c.in-Ok.ensures.taken

pub returns-in-Err : goal.returns-in-Err
returns-in-Err c =
    wrong_reads column_piece c.args.bytes.now c.args.at c.into.result c.in-Err.wrong.place c.into.ensures
    (column_second c.args.bytes.now c.args.at c.in_ok-name.name c.in_ok-name.behind c.in-Err.wrong.place c.in_ok-name.ensures c.in-Err.ensures.stopped)
