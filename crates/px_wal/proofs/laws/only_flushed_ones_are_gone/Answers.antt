use Rattle.px_wal.proofs.Parting.{rest_above, rest_cells}
use Rattle.px_wal.proofs.laws.only_flushed_ones_are_gone.Goals as goal

pub returns-clause-above : goal.returns-clause-above
returns-clause-above c = rest_above

pub returns-clause-cells : goal.returns-clause-cells
returns-clause-cells c = rest_cells
