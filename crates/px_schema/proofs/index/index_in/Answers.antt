use Rattle.std.proofs.Common.{◌+◌, ℕ, subst}
use Rattle.px_pieces.specs.Taking.{IsTakenAt}
use Rattle.px_schema.specs.Format.{called, index}
use Rattle.px_schema.specs.Outcomes.{ReadsPiece}
use Rattle.px_schema.specs.Parts.{id}
use Rattle.std.specs.Prelude.{Err}
use Rattle.px_schema.proofs.Joins.{exit_reads, exit_wrong}
use Rattle.px_schema.proofs.TableSteps.{index_called, index_number, index_table, index_taken}
use Rattle.px_schema.proofs.index.index_in.Goals as goal

pub returns-in_err-number : goal.returns-in_err-number
unfolding id
returns-in_err-number c =
    exit_wrong (index c.args.tables.now) c.args.bytes.now c.args.at c.from_residual.result c.in_err-number.field-0.0.place c.from_residual.ensures.1
    (index_number c.args.bytes.now c.args.at c.args.tables.now c.in_err-number.field-0.0.place c.in_err-number.ensures.stopped)

pub returns-in_err-table : goal.returns-in_err-table
unfolding id
returns-in_err-table c =
    exit_wrong (index c.args.tables.now) c.args.bytes.now c.args.at c.from_residual-in_err-table.result c.in_err-table.field-0.0.place c.from_residual-in_err-table.ensures.1
    (index_table c.args.bytes.now c.args.at c.args.tables.now c.in_ok-number.number c.in_ok-number.ensures.taken c.in_err-table.field-0.0.place c.in_err-table.ensures.stopped)

pub returns-in_err-name : goal.returns-in_err-name
unfolding id
returns-in_err-name c =
    exit_reads (index c.args.tables.now) c.args.bytes.now c.args.at c.from_residual-in_err-name.result c.in_err-name.field-0.0 c.from_residual-in_err-name.ensures.1
    (index_called c.args.bytes.now c.args.at c.args.tables.now c.in_ok-number.number c.in_ok-number.ensures.taken c.in_ok-table.table c.in_ok-table.ensures.taken c.in_err-name.field-0.0
    (subst (λ (n : ℕ). ReadsPiece (called n) c.args.bytes.now (c.args.at + 8) (Err c.in_err-name.field-0.0)) c.columns_of-columns.ensures c.in_err-name.ensures))

pub returns : goal.returns
unfolding id
returns c =
    index_taken c.args.bytes.now c.args.at c.args.tables.now c.in_ok-number.number c.in_ok-number.ensures.taken c.in_ok-table.table c.in_ok-table.ensures.taken c.in_ok-name.name c.in_ok-name.state c.in_ok-name.birth c.in_ok-name.region
    c.in_ok-name.parts c.in_ok-name.included c.in_ok-name.end
    (subst (λ (n : ℕ). IsTakenAt (called n) c.args.bytes.now (c.args.at + 8) (c.in_ok-name.name, (c.in_ok-name.state, (c.in_ok-name.birth, (c.in_ok-name.region, (c.in_ok-name.parts, c.in_ok-name.included))))) c.in_ok-name.end)
    c.columns_of-columns.ensures c.in_ok-name.ensures)
