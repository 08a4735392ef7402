use Rattle.std.proofs.Common.{length, sym, subst}
use Rattle.px_schema.specs.Format.{defined, keyed}
use Rattle.px_schema.specs.Outcomes.{ReadsPiece}
use Rattle.px_schema.specs.Parts.{columns_piece}
use Rattle.px_schema.proofs.Joins.{exit_reads, first_reads, then_reads}
use Rattle.px_schema.proofs.table.defined_in.Goals as goal

pub returns-in_err-columns : goal.returns-in_err-columns
returns-in_err-columns c =
    exit_reads (defined) c.args.bytes.now c.args.at c.from_residual.result c.in_err-columns.field-0.0 c.from_residual.ensures.1 (first_reads (columns_piece) (λ cs. keyed (length cs)) c.args.bytes.now c.args.at c.in_err-columns.field-0.0 c.in_err-columns.ensures)

pub returns : goal.returns
returns c =
    subst (ReadsPiece (defined) c.args.bytes.now c.args.at) (sym c.with_first.ensures)
    (then_reads (columns_piece) (λ cs. keyed (length cs)) c.args.bytes.now c.args.at c.in_ok-columns.columns c.in_ok-columns.behind c.keyed_in-rest.result c.in_ok-columns.ensures (subst (λ cs. ReadsPiece (keyed (length cs)) c.args.bytes.now c.in_ok-columns.behind c.keyed_in-rest.result) c.as_slice.ensures c.keyed_in-rest.ensures))
