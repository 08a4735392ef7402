use Rattle.px_session.proofs.Lives.{grows, stays}
use Rattle.px_session.proofs.laws.law_answers.Goals as goal

pub returns : goal.returns
returns g c = record { stays = stays g.S.Steps.sound; grows = grows g.S.Steps.sound }
