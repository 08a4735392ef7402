use Rattle.px_schema.specs.Parts.{column_type_piece, type_of, type_same}
use Rattle.px_schema.proofs.Joins.{exit_stopped}
use Rattle.px_schema.proofs.PartSteps.{type_stopped, type_taken}
use Rattle.px_schema.proofs.part.type_in.Goals as goal

pub returns-in_err-code-clause-stopped : goal.returns-in_err-code-clause-stopped
returns-in_err-code-clause-stopped c =
    exit_stopped column_type_piece c.args.bytes.now c.args.at c.from_residual.result c.in_err-code.field-0.0 c.from_residual.ensures.1 (type_stopped c.args.bytes.now c.args.at c.in_err-code.field-0.0.place c.in_err-code.ensures.stopped)

pub unreachable-requires : goal.unreachable-requires
unreachable-requires c =
    let range = c.in_ok-code.ensures.range in
    c.in-None.ensures (type_of c.in_ok-code.code) (type_same c.in_ok-code.code range.0 range.1)

pub returns-clause-taken : goal.returns-clause-taken
returns-clause-taken c = type_taken c.args.bytes.now c.args.at c.in_ok-code.code c.in-Some.ty c.in-Some.ensures c.in_ok-code.ensures.taken
