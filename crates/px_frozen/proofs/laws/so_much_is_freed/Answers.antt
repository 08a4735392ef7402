use Rattle.px_frozen.proofs.Coming.{bytes_freed, cells_freed}
use Rattle.px_frozen.proofs.laws.so_much_is_freed.Goals as goal

pub returns-clause-cells : goal.returns-clause-cells
returns-clause-cells c = cells_freed

pub returns-clause-bytes : goal.returns-clause-bytes
returns-clause-bytes c = bytes_freed
