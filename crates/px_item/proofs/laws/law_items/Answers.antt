use Rattle.std.proofs.Common.{refl}
use Rattle.px_item.specs.Right as right
use Rattle.px_item.proofs.Again.{again_only}
use Rattle.px_item.proofs.Passing.{fits_passes}
use Rattle.px_item.proofs.laws.law_items.Goals as goal

pub returns-clause-others : goal.returns-clause-others
returns-clause-others g c = λ before asked own s k k' h f. fits_passes g.S.Steps.sound before asked own s k k' h f

pub returns-clause-at_once : goal.returns-clause-at_once
returns-clause-at_once g c = λ st p a k before h. right.is_at_once h refl

pub returns-clause-again : goal.returns-clause-again
returns-clause-again g c = λ k before own st p a st' r more. again_only a st' more g.S.Steps.sound k before own st p r
