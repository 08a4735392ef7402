use Rattle.px_tests_rounds.proofs.Bares.{finds}
use Rattle.px_tests_rounds.proofs.bare.BareSteps.upkeep.Goals as goal

pub returns-clause-ok : goal.returns-clause-ok
returns-clause-ok c = finds c.args.self.now.seat

pub returns-clause-still : goal.returns-clause-still
returns-clause-still c = λ alone sound p v is_open was. was
