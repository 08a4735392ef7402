use Rattle.std.proofs.Common.{◌∙◌, List, ap, length, min, sym}
use Rattle.px_cells.specs.CellData.{CellData}
use Rattle.px_cellbytes.specs.Spelling.{all_bytes}
use Rattle.px_keptcells.specs.Kept.{laid}
use Rattle.px_keptcells.proofs.Rows.{laid_cut}
use Rattle.px_keptcells.proofs.kept.KeptCells.bytes.Goals as goal

pub returns : goal.returns
returns c = c.self.invariant.bytes ∙ ap (λ (x : List CellData). min (length (all_bytes x)) 18446744073709551615) (sym (laid_cut c.self.inside.counts.items c.self.inside.cells.items c.self.invariant.counted) ∙ ap laid c.self.view_is)
