use Rattle.std.proofs.Common.{◌+◌}
use Rattle.px_pieces.specs.Bytes.{one_byte}
use Rattle.px_schema.specs.Parts.{blank_part, part_piece, parts, some_count}
use Rattle.px_schema.proofs.Joins.{exit_wrong}
use Rattle.px_schema.proofs.ListSteps.{listed_reads, listed_stopped}
use Rattle.px_schema.proofs.list.parts_in.Goals as goal

pub returns-in_err-count : goal.returns-in_err-count
unfolding parts some_count
returns-in_err-count c =
    exit_wrong (parts c.args.columns) c.args.bytes.now c.args.at c.from_residual.result c.in_err-count.field-0.0.place c.from_residual.ensures.1
    (listed_stopped blank_part (part_piece c.args.columns) (one_byte 1 256) c.args.bytes.now c.args.at c.in_err-count.field-0.0.place c.in_err-count.ensures.stopped)

pub returns : goal.returns
unfolding parts some_count
returns c = listed_reads blank_part (part_piece c.args.columns) (one_byte 1 256) c.args.bytes.now c.args.at c.in_ok-count.count (c.args.at + 1) c.parts_from.result c.in_ok-count.ensures.taken c.parts_from.ensures
