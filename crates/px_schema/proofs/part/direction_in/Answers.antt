use Rattle.std.proofs.Common.{ap}
use Rattle.px_values.specs.declared.order.Direction.TheVariants.{Ascending, Descending}
use Rattle.px_schema.specs.Parts.{direction_of, direction_piece}
use Rattle.px_schema.proofs.Joins.{exit_stopped}
use Rattle.px_schema.proofs.PartSteps.{direction_stopped, direction_taken, later_descends}
use Rattle.px_schema.proofs.part.direction_in.Goals as goal

pub returns-in_err-code-clause-stopped : goal.returns-in_err-code-clause-stopped
returns-in_err-code-clause-stopped c =
    exit_stopped direction_piece c.args.bytes.now c.args.at c.from_residual.result c.in_err-code.field-0.0 c.from_residual.ensures.1 (direction_stopped c.args.bytes.now c.args.at c.in_err-code.field-0.0.place c.in_err-code.ensures.stopped)

pub returns-then-code-eq0-clause-taken : goal.returns-then-code-eq0-clause-taken
returns-then-code-eq0-clause-taken c = direction_taken c.args.bytes.now c.args.at c.in_ok-code.code Ascending (ap direction_of c.if-code-eq0.true) c.in_ok-code.ensures.taken

pub returns-clause-taken : goal.returns-clause-taken
returns-clause-taken c = direction_taken c.args.bytes.now c.args.at c.in_ok-code.code Descending (later_descends c.in_ok-code.code c.if-code-eq0.false) c.in_ok-code.ensures.taken
