use Rattle.std.proofs.Common.{◌≤◌, ◌-◌, List, length, take, drop, refl, ap, subst, arith}
use Rattle.std.specs.Option.{option_copied}
use Rattle.px_cells.specs.CellData.{CellData}
use Rattle.px_cells.specs.Rows.{AreRows}
use Rattle.px_file.proofs.Blocks.{length-index_of}
use Rattle.px_cursor.proofs.Cursors.{at_loaded}
use Rattle.px_cursor.proofs.cursor.Cursor.load.Goals as goal

pub returns-clause-loaded : goal.returns-clause-loaded
returns-clause-loaded g c = λ left at.
    let inside : c.args.self.now.limit ≤ length at.blocks =
    (let l = length-index_of 8 at.blocks in let e = ap length at.has.index.entries in let m = c.args.self.now.limited in omega arith) in
    at_loaded g.D.Disk c.args.self.now _ c.args.disk.now c.block.new.disk left c.in_ok-block.block at (record { file = refl; low = refl; high = refl; first = refl; limit = refl }) refl c.requires.none c.requires.more c.block.ensures.quiet c.block.ensures.seen inside
    (c.in_ok-block.ensures.cells at.blocks at.has at.tells) c.in_ok-block.ensures.listed.ascending
    (subst (λ (l : List CellData). AreRows l c.args.self.now.low.now (option_copied c.args.self.now.high) (take (c.part_of-at.result.1 - c.part_of-at.result.0) (drop c.part_of-at.result.0 l))) c.as_slice.ensures c.part_of-at.ensures.rows)
