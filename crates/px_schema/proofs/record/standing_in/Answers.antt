use Rattle.px_schema.specs.Format.{standing_piece}
use Rattle.px_schema.proofs.Joins.{exit_reads, exit_wrong}
use Rattle.px_schema.proofs.TableSteps.{standing_first, standing_indexes, standing_tables, standing_taken}
use Rattle.px_schema.specs.Format.{indexes_in}
use Rattle.px_schema.specs.Outcomes.{ReadsPiece}
use Rattle.px_pieces.specs.Taking.{IsTakenAt}
use Rattle.std.proofs.Common.{subst, Err}
use Rattle.px_schema.proofs.record.standing_in.Goals as goal

pub returns-in_err-next : goal.returns-in_err-next
returns-in_err-next c = exit_wrong standing_piece c.args.bytes.now 0 c.from_residual.result c.in_err-next.field-0.0.place c.from_residual.ensures.1 (standing_first c.args.bytes.now c.in_err-next.field-0.0.place c.in_err-next.ensures.stopped)

pub returns-in_err-tables : goal.returns-in_err-tables
returns-in_err-tables c =
    exit_reads standing_piece c.args.bytes.now 0 c.from_residual-in_err-tables.result c.in_err-tables.field-0.0 c.from_residual-in_err-tables.ensures.1
    (standing_tables c.args.bytes.now c.in_ok-next.next c.in_ok-next.ensures.taken c.in_err-tables.field-0.0 c.in_err-tables.ensures)

pub returns-in-Ok : goal.returns-in-Ok
returns-in-Ok c =
    standing_taken c.args.bytes.now c.in_ok-next.next c.in_ok-next.ensures.taken c.in_ok-tables.tables c.in_ok-tables.behind c.in-Ok.indexes c.in-Ok.end c.in_ok-tables.ensures
    (subst (λ ts. IsTakenAt (indexes_in ts) c.args.bytes.now c.in_ok-tables.behind c.in-Ok.indexes c.in-Ok.end) c.as_slice.ensures c.in-Ok.ensures)

pub returns-in-Err : goal.returns-in-Err
returns-in-Err c =
    standing_indexes c.args.bytes.now c.in_ok-next.next c.in_ok-next.ensures.taken c.in_ok-tables.tables c.in_ok-tables.behind c.in-Err.fault c.in_ok-tables.ensures
    (subst (λ ts. ReadsPiece (indexes_in ts) c.args.bytes.now c.in_ok-tables.behind (Err c.in-Err.fault)) c.as_slice.ensures c.in-Err.ensures)
