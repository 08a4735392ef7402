use Rattle.px_schema.specs.Parts.{part_piece}
use Rattle.px_schema.proofs.Joins.{exit_stopped}
use Rattle.px_schema.proofs.PartSteps.{part_first, part_second, part_taken}
use Rattle.px_schema.proofs.part.part_in.Goals as goal

pub returns-in_err-column-clause-stopped : goal.returns-in_err-column-clause-stopped
returns-in_err-column-clause-stopped c =
    exit_stopped (part_piece c.args.columns) c.args.bytes.now c.args.at c.from_residual.result c.in_err-column.field-0.0 c.from_residual.ensures.1
    (part_first c.args.bytes.now c.args.at c.args.columns c.in_err-column.field-0.0.place c.in_err-column.ensures.stopped)

pub returns-in_err-direction-clause-stopped : goal.returns-in_err-direction-clause-stopped
returns-in_err-direction-clause-stopped c =
    exit_stopped (part_piece c.args.columns) c.args.bytes.now c.args.at c.from_residual-in_err-direction.result c.in_err-direction.field-0.0 c.from_residual-in_err-direction.ensures.1
    (part_second c.args.bytes.now c.args.at c.args.columns c.in_ok-column.column c.in_err-direction.field-0.0.place c.in_ok-column.ensures.taken c.in_err-direction.ensures.stopped)

pub returns-clause-taken : goal.returns-clause-taken
returns-clause-taken c = part_taken c.args.bytes.now c.args.at c.args.columns c.in_ok-column.column c.in_ok-direction.direction c.in_ok-column.ensures.taken c.in_ok-direction.ensures.taken
