use Rattle.px_world.proofs.Closed.{verify_closes, closed_stays}
use Rattle.px_world.proofs.closed_marks_stay.Goals as goal

pub returns-clause-closes : goal.returns-clause-closes
returns-clause-closes g c n w t = verify_closes n w t

pub returns-clause-stays : goal.returns-clause-stays
returns-clause-stays g c n w t k written running closed event none may = closed_stays n w t k written running closed event none may
