use Rattle.px_told.proofs.Files.{file_is}
use Rattle.px_told.proofs.laws.a_file_tells_its_cells.Goals as goal

pub returns : goal.returns
returns g c = file_is g.D.Disk
