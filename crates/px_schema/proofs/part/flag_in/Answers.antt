use Rattle.px_schema.specs.Parts.{flag}
use Rattle.px_schema.proofs.Joins.{exit_stopped}
use Rattle.px_schema.proofs.PartSteps.{flag_stopped, flag_taken}
use Rattle.px_schema.proofs.part.flag_in.Goals as goal

pub returns-in_err-byte_in-clause-stopped : goal.returns-in_err-byte_in-clause-stopped
returns-in_err-byte_in-clause-stopped c =
    exit_stopped flag c.args.bytes.now c.args.at c.from_residual.result c.in_err-byte_in.field-0.0 c.from_residual.ensures.1 (flag_stopped c.args.bytes.now c.args.at c.in_err-byte_in.field-0.0.place c.in_err-byte_in.ensures.stopped)

pub returns-clause-taken : goal.returns-clause-taken
returns-clause-taken c = flag_taken c.args.bytes.now c.args.at c.in_ok-byte_in.field-0 c.in_ok-byte_in.ensures.taken
