use Rattle.std.proofs.Common.{ap}
use Rattle.px_tables.specs.declared.index.IndexState.TheVariants.{Building, Active, Disabled}
use Rattle.px_schema.specs.Parts.{state, state_of_code}
use Rattle.px_schema.proofs.Joins.{exit_stopped}
use Rattle.px_schema.proofs.PartSteps.{later_disabled, state_stopped, state_taken}
use Rattle.px_schema.proofs.index.state_in.Goals as goal

pub returns-in_err-code-clause-stopped : goal.returns-in_err-code-clause-stopped
returns-in_err-code-clause-stopped c =
    exit_stopped state c.args.bytes.now c.args.at c.from_residual.result c.in_err-code.field-0.0 c.from_residual.ensures.1 (state_stopped c.args.bytes.now c.args.at c.in_err-code.field-0.0.place c.in_err-code.ensures.stopped)

pub returns-then-code-eq0-clause-taken : goal.returns-then-code-eq0-clause-taken
returns-then-code-eq0-clause-taken c = state_taken c.args.bytes.now c.args.at c.in_ok-code.code Building (ap state_of_code c.if-code-eq0.true) c.in_ok-code.ensures.taken

pub returns-then-code-eq1-clause-taken : goal.returns-then-code-eq1-clause-taken
returns-then-code-eq1-clause-taken c = state_taken c.args.bytes.now c.args.at c.in_ok-code.code Active (ap state_of_code c.if-code-eq1.true) c.in_ok-code.ensures.taken

pub returns-clause-taken : goal.returns-clause-taken
returns-clause-taken c = state_taken c.args.bytes.now c.args.at c.in_ok-code.code Disabled (later_disabled c.in_ok-code.code c.if-code-eq0.false c.if-code-eq1.false) c.in_ok-code.ensures.taken
