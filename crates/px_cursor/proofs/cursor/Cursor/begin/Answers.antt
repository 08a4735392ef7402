use Rattle.std.proofs.Common.{◌≡◌, Err, ap, refl, arith}
use Rattle.std.specs.Option.{option_copied}
use Rattle.px_file.specs.Format.{cells_in}
use Rattle.px_file.specs.declared.fault.FileFault.TheVariants.{Damaged}
use Rattle.px_cursor.specs.Range.{cells_within}
use Rattle.px_cursor.proofs.Cursors.{at_first}
use Rattle.px_cursor.proofs.Ranges.{rows_within}
use Rattle.px_cursor.proofs.cursor.Cursor.begin.Goals as goal

pub returns-in-Ok-clause-begun : goal.returns-in-Ok-clause-begun
returns-in-Ok-clause-begun g c = λ blocks tells has. (
  cells_within c.args.low.now (option_copied c.args.high) (cells_in blocks),
  rows_within c.args.low.now (option_copied c.args.high) (cells_in blocks) has.right.written.listed.ascending,
  c.in-Ok.ensures.filled (cells_within c.args.low.now (option_copied c.args.high) (cells_in blocks))
      (at_first g.D.Disk _ c.args.disk.now blocks tells has (c.first_block-first.ensures.first blocks has.right has.index) (c.limit_of-limit.ensures.limit blocks has.right has.index) refl (omega arith)),
)

pub returns-in-Err-clause-sound : goal.returns-in-Err-clause-sound
returns-in-Err-clause-sound g c = λ blocks at place tells has e. (
    let same : c.in-Err.fault ≡ Damaged at place = cc in
    c.in-Err.ensures.sound (cells_within c.args.low.now (option_copied c.args.high) (cells_in blocks)) at place
    (at_first g.D.Disk _ c.args.disk.now blocks tells has (c.first_block-first.ensures.first blocks has.right has.index) (c.limit_of-limit.ensures.limit blocks has.right has.index) refl (omega arith)) (ap Err same))
