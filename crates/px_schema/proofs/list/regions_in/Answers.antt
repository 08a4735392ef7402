use Rattle.std.proofs.Common.{◌+◌}
use Rattle.px_pieces.specs.Bytes.{one_byte}
use Rattle.px_schema.specs.Parts.{regions, regions_from, regions_long, some_count}
use Rattle.px_schema.proofs.Joins.{exit_wrong}
use Rattle.px_schema.proofs.ListSteps.{measured_reads, measured_stopped}
use Rattle.px_schema.proofs.list.regions_in.Goals as goal

pub returns-in_err-count : goal.returns-in_err-count
unfolding regions some_count
returns-in_err-count c =
    exit_wrong regions c.args.bytes.now c.args.at c.from_residual.result c.in_err-count.field-0.0.place c.from_residual.ensures.1
    (measured_stopped (regions_from 0) regions_long (one_byte 1 256) c.args.bytes.now c.args.at c.in_err-count.field-0.0.place c.in_err-count.ensures.stopped)

pub returns : goal.returns
unfolding regions some_count
returns c = measured_reads (regions_from 0) regions_long (one_byte 1 256) c.args.bytes.now c.args.at c.in_ok-count.count (c.args.at + 1) c.regions_from_place.result c.in_ok-count.ensures.taken c.regions_from_place.ensures
