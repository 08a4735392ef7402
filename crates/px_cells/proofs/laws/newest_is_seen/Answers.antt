use Rattle.std.proofs.Common.{refl}
use Rattle.px_cells.proofs.NewestSeen.{visible_from, visible_to}
use Rattle.px_cells.proofs.laws.newest_is_seen.Goals as goal

pub returns-clause-newest : goal.returns-clause-newest
returns-clause-newest c = λ cells point k q s plain. visible_from cells plain point k q s

pub returns-clause-seen : goal.returns-clause-seen
returns-clause-seen c = λ cells point p plain. visible_to cells plain point p.key p.qualifier p refl refl
