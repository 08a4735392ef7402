use Rattle.std.proofs.Common.{sym, subst}
use Rattle.px_schema.specs.Format.{defined, named}
use Rattle.px_schema.specs.Outcomes.{ReadsPiece}
use Rattle.px_schema.specs.Parts.{name_piece}
use Rattle.px_schema.proofs.Joins.{exit_reads, first_reads, then_reads}
use Rattle.px_schema.proofs.table.named_in.Goals as goal

pub returns-in_err-name : goal.returns-in_err-name
returns-in_err-name c =
    exit_reads (named) c.args.bytes.now c.args.at c.from_residual.result c.in_err-name.field-0.0 c.from_residual.ensures.1 (first_reads (name_piece) (λ m. defined) c.args.bytes.now c.args.at c.in_err-name.field-0.0 c.in_err-name.ensures)

pub returns : goal.returns
returns c =
    subst (ReadsPiece (named) c.args.bytes.now c.args.at) (sym c.with_first.ensures)
    (then_reads (name_piece) (λ m. defined) c.args.bytes.now c.args.at c.in_ok-name.name c.in_ok-name.behind c.defined_in.result c.in_ok-name.ensures c.defined_in.ensures)
