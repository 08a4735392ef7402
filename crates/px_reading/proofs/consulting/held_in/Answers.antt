use Rattle.std.proofs.Common.{ap, ◌∙◌, length}
use Rattle.px_indexrow.proofs.KeysHeld.{row_count}
use Rattle.px_reading.proofs.consulting.held_in.Goals as goal

pub row_at-requires-clause-count : goal.row_at-requires-clause-count
row_at-requires-clause-count c = ap length c.deref.ensures.value ∙ row_count c.args.table.now c.args.doubted.now.row.items c.requires.row.fits
