use Rattle.px_world.proofs.IndexCells.{mark_is, verify_is, base_is, fix_is}
use Rattle.px_world.proofs.events_write_cells.Goals as goal

pub returns-clause-mark : goal.returns-clause-mark
returns-clause-mark g c n w t = mark_is n w t

pub returns-clause-close : goal.returns-clause-close
returns-clause-close g c n w t = verify_is n w t

pub returns-clause-base : goal.returns-clause-base
returns-clause-base g c n w = base_is n w

pub returns-clause-fix : goal.returns-clause-fix
returns-clause-fix g c n lawful w k t = fix_is n lawful w k t
