use Rattle.std.proofs.Common.{sym, subst}
use Rattle.px_schema.specs.Format.{keyed}
use Rattle.px_schema.specs.Outcomes.{ReadsPiece}
use Rattle.px_schema.specs.Parts.{parts, regions}
use Rattle.px_schema.proofs.Joins.{exit_reads, first_reads, then_reads}
use Rattle.px_schema.proofs.table.keyed_in.Goals as goal

pub returns-in_err-key : goal.returns-in_err-key
returns-in_err-key c =
    exit_reads (keyed c.args.columns) c.args.bytes.now c.args.at c.from_residual.result c.in_err-key.field-0.0 c.from_residual.ensures.1 (first_reads (parts c.args.columns) (λ ps. regions) c.args.bytes.now c.args.at c.in_err-key.field-0.0 c.in_err-key.ensures)

pub returns : goal.returns
returns c =
    subst (ReadsPiece (keyed c.args.columns) c.args.bytes.now c.args.at) (sym c.with_first.ensures)
    (then_reads (parts c.args.columns) (λ ps. regions) c.args.bytes.now c.args.at c.in_ok-key.key c.in_ok-key.behind c.regions_in.result c.in_ok-key.ensures c.regions_in.ensures)
