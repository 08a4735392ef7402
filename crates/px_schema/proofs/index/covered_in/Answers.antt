use Rattle.std.proofs.Common.{sym, subst}
use Rattle.px_schema.specs.Format.{covered}
use Rattle.px_schema.specs.Outcomes.{ReadsPiece}
use Rattle.px_schema.specs.Parts.{parts, places}
use Rattle.px_schema.proofs.Joins.{exit_reads, first_reads, then_reads}
use Rattle.px_schema.proofs.index.covered_in.Goals as goal

pub returns-in_err-parts : goal.returns-in_err-parts
returns-in_err-parts c =
    exit_reads (covered c.args.columns) c.args.bytes.now c.args.at c.from_residual.result c.in_err-parts.field-0.0 c.from_residual.ensures.1 (first_reads (parts c.args.columns) (λ ps. places c.args.columns) c.args.bytes.now c.args.at c.in_err-parts.field-0.0 c.in_err-parts.ensures)

pub returns : goal.returns
returns c =
    subst (ReadsPiece (covered c.args.columns) c.args.bytes.now c.args.at) (sym c.with_first.ensures)
    (then_reads (parts c.args.columns) (λ ps. places c.args.columns) c.args.bytes.now c.args.at c.in_ok-parts.parts c.in_ok-parts.behind c.places_in.result c.in_ok-parts.ensures c.places_in.ensures)
