-- How far the file of a flush is.
use Rattle.std.specs.Prelude.{◌≡◌, ℕ, List, length, IsTrue}
use Rattle.px_outside.specs.declared.disk.Disk.{Ghosts}
use Rattle.px_cells.specs.CellData.{CellData}
use Rattle.px_making.specs.Making.{HasCells, IsFileMade, IsMaking, file_made}
use Rattle.px_flushing.specs.declared.stage.Stage.{Stage}
use Rattle.px_flushing.specs.declared.stage.Stage.TheVariants as stage

-- The stage is that of a file of these cells: nothing of it counts, or some of them are written, or all, or it is made, or its
-- length is known too.
abbrev pub IsStage : {D : Type 0} → Ghosts D → ℕ → D → List CellData → Stage → Type 0
IsStage d file disk cells stage.Frozen = Unit {0}
IsStage d file disk cells (stage.Making making) = (file_made making ≡ file) × IsMaking d making disk cells
IsStage d file disk cells (stage.Written making) = (file_made making ≡ file) × HasCells d making disk cells
IsStage d file disk cells (stage.Made made) = (made.file ≡ file) × IsFileMade d made disk cells
IsStage d file disk cells (stage.Measured made len) = (made.file ≡ file) × (IsFileMade d made disk cells) × (IsTrue d.tells → len ≡ length (d.seen disk file))
