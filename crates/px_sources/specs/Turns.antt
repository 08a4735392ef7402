-- One cell more was given.
use Rattle.std.specs.Prelude.{◌≡◌, ◌<◌, ◌+◌, ℕ, List, length, drop, min, if◌then◌else◌}
use Rattle.px_outside.specs.declared.disk.Disk.{Ghosts}
use Rattle.px_cells.specs.CellData.{CellData}
use Rattle.px_merge.specs.Merged.{joined}
use Rattle.px_merge.specs.Settle.{settle}
use Rattle.px_sources.specs.Giving.{begins_row}
use Rattle.px_sources.specs.Passed.{KnowsRow}
use Rattle.px_sources.specs.Sources.{AllGive}
use Rattle.px_sources.specs.declared.last.Last.{Last}
use Rattle.px_sources.specs.declared.source.Source.{Source}

-- of all cells one more than n was given, and counted where a row begins with it
pub record IsMoved {D : Type 0} (d : Ghosts D) (sources : List Source) (disk : D) (last : Last) (all : List CellData) (n looked now : ℕ) : Type 0 where
  pub within : n < length all
  pub lists : List (List CellData)
  pub give : AllGive d sources disk lists
  pub rest : settle (joined lists) ≡ drop (n + 1) all
  pub known : KnowsRow last all (n + 1)
  pub counted : now ≡ min (looked + (if begins_row all n then 1 else 0)) 18446744073709551615
