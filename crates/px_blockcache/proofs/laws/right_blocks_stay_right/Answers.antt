use Rattle.px_blockcache.proofs.Right.{kept_right, none_right, read_right, right_stay}
use Rattle.px_blockcache.proofs.laws.right_blocks_stay_right.Goals as goal

pub returns : goal.returns
returns g c = record { none = none_right g.D.Disk; read = read_right g.D.Disk; kept = kept_right g.D.Disk; stay = right_stay g.D.Disk }
