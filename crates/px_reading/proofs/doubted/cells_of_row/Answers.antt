use Rattle.std.proofs.Common.{ap, ◌∙◌, Err}
use Rattle.px_region.specs.Region.{read_of}
use Rattle.px_reading.proofs.Rows.{no_row}
use Rattle.px_reading.proofs.doubted.cells_of_row.Goals as goal

pub returns-in-Err-KeyTooLong-clause-cells : goal.returns-in-Err-KeyTooLong-clause-cells
returns-in-Err-KeyTooLong-clause-cells g c = no_row c.args.table.now c.args.row.now (read_of c.args.rows.now) c.requires.right (c.key_of.ensures.too_long (c.in-Err-KeyTooLong.is ∙ ap Err c.in-Err-KeyTooLong.field-0-is)) c.new.result.items c.new.ensures.items
