use Rattle.px_noting.proofs.OpenPoints.{points_opened, points_released, tallied_opened, tallied_released}
use Rattle.px_noting.proofs.laws.law_points.Goals as goal

pub returns-clause-opened : goal.returns-clause-opened
returns-clause-opened c b es g hs k e s = tallied_opened b es g hs k e s

pub returns-clause-released : goal.returns-clause-released
returns-clause-released c b es g hs k e s = tallied_released b es g hs k e s

pub returns-clause-after_opened : goal.returns-clause-after_opened
returns-clause-after_opened c = points_opened

pub returns-clause-after_released : goal.returns-clause-after_released
returns-clause-after_released c = points_released
