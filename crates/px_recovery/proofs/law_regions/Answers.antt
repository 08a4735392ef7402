use Rattle.px_recovery.proofs.Regions.{kept_at, moved_at, moves_at, stays_at}
use Rattle.px_recovery.proofs.law_regions.Goals as goal

pub returns : goal.returns
returns g c = record { moves = moves_at g.D.Disk; moved = moved_at g.D.Disk; stays = stays_at g.D.Disk; kept = kept_at g.D.Disk }
