use Rattle.std.proofs.Common.{◌+◌, ℕ, subst}
use Rattle.px_pieces.specs.Numbers.{number_piece}
use Rattle.px_pieces.specs.Taking.{IsStoppedAt, IsTakenAt}
use Rattle.px_schema.specs.Format.{index, indexes_in, most_indexes, no_index}
use Rattle.px_schema.proofs.Joins.{exit_wrong}
use Rattle.px_schema.proofs.ListSteps.{listed_reads, listed_stopped}
use Rattle.px_schema.proofs.index.indexes_in.Goals as goal

pub returns-in_err-count : goal.returns-in_err-count
returns-in_err-count c =
    exit_wrong (indexes_in c.args.tables.now) c.args.bytes.now c.args.at c.from_residual.result c.in_err-count.field-0.0.place c.from_residual.ensures.1
    (listed_stopped no_index (index c.args.tables.now) (number_piece 2 (most_indexes c.args.tables.now)) c.args.bytes.now c.args.at c.in_err-count.field-0.0.place
    (subst (λ (m : ℕ). IsStoppedAt (number_piece 2 m) c.args.bytes.now c.args.at c.in_err-count.field-0.0.place) c.most_indexes.ensures c.in_err-count.ensures.stopped))

pub returns : goal.returns
returns c =
    listed_reads no_index (index c.args.tables.now) (number_piece 2 (most_indexes c.args.tables.now)) c.args.bytes.now c.args.at c.in_ok-count.count (c.args.at + 2) c.indexes_from.result
    (subst (λ (m : ℕ). IsTakenAt (number_piece 2 m) c.args.bytes.now c.args.at c.in_ok-count.count (c.args.at + 2)) c.most_indexes.ensures c.in_ok-count.ensures.taken) c.indexes_from.ensures
