use Rattle.std.proofs.Common.{◌+◌}
use Rattle.px_pieces.specs.Numbers.{number_piece}
use Rattle.px_schema.specs.Format.{greatest_count, no_table, table, tables_in}
use Rattle.px_schema.proofs.Joins.{exit_wrong}
use Rattle.px_schema.proofs.ListSteps.{listed_reads, listed_stopped}
use Rattle.px_schema.proofs.table.tables_in.Goals as goal

pub returns-in_err-count : goal.returns-in_err-count
returns-in_err-count c =
    exit_wrong tables_in c.args.bytes.now c.args.at c.from_residual.result c.in_err-count.field-0.0.place c.from_residual.ensures.1
    (listed_stopped no_table table (number_piece 2 greatest_count) c.args.bytes.now c.args.at c.in_err-count.field-0.0.place c.in_err-count.ensures.stopped)

pub returns : goal.returns
returns c = listed_reads no_table table (number_piece 2 greatest_count) c.args.bytes.now c.args.at c.in_ok-count.count (c.args.at + 2) c.tables_from.result c.in_ok-count.ensures.taken c.tables_from.ensures
