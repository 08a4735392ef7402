use Rattle.std.proofs.Common.{◌+◌}
use Rattle.px_pieces.specs.Pieces.{followed_by}
use Rattle.px_pieces.proofs.Takes.{stopped_first, stopped_second}
use Rattle.px_schema.specs.Parts.{column_type_piece, flag}
use Rattle.px_schema.proofs.Joins.{exit_stopped}
use Rattle.px_schema.proofs.PartSteps.{typed_taken}
use Rattle.px_schema.proofs.part.typed_in.Goals as goal

pub returns-in_err-column_type-clause-stopped : goal.returns-in_err-column_type-clause-stopped
returns-in_err-column_type-clause-stopped c =
    exit_stopped (followed_by column_type_piece (λ c. flag)) c.args.bytes.now c.args.at c.from_residual.result c.in_err-column_type.field-0.0 c.from_residual.ensures.1
    (stopped_first c.args.bytes.now c.args.at column_type_piece (λ c. flag) c.in_err-column_type.field-0.0.place c.in_err-column_type.ensures.stopped)

pub returns-in_err-not_null-clause-stopped : goal.returns-in_err-not_null-clause-stopped
returns-in_err-not_null-clause-stopped c =
    exit_stopped (followed_by column_type_piece (λ c. flag)) c.args.bytes.now c.args.at c.from_residual-in_err-not_null.result c.in_err-not_null.field-0.0 c.from_residual-in_err-not_null.ensures.1
    (stopped_second c.args.bytes.now c.args.at column_type_piece (λ c. flag) c.in_ok-column_type.column_type (c.args.at + 1) c.in_err-not_null.field-0.0.place c.in_ok-column_type.ensures.taken c.in_err-not_null.ensures.stopped)

pub returns-clause-taken : goal.returns-clause-taken
returns-clause-taken c = typed_taken c.args.bytes.now c.args.at c.in_ok-column_type.column_type c.in_ok-not_null.not_null c.in_ok-column_type.ensures.taken c.in_ok-not_null.ensures.taken
