use Rattle.std.proofs.Common.{◌∙◌, List, ap, arith, length, sym}
use Rattle.px_cells.specs.CellData.{CellData}
use Rattle.px_keptcells.specs.Kept.{laid}
use Rattle.px_keptcells.proofs.Rows.{laid_cut}
use Rattle.px_keptcells.proofs.kept.KeptCells.count.Goals as goal

pub returns : goal.returns
returns c =
    let e = ap (λ (x : List CellData). length x) (sym (laid_cut c.self.inside.counts.items c.self.inside.cells.items c.self.invariant.counted) ∙ ap laid c.self.view_is) in
    let l = c.len.ensures in
    let o = c.self.inside.cells.ok in
    let s = c.self.inside.cells.small in
    omega arith
