use Rattle.px_tests_rounds.proofs.Bares.{finds}
use Rattle.px_tests_rounds.proofs.bare.BareSteps.order.Goals as goal

pub returns-clause-ok : goal.returns-clause-ok
returns-clause-ok c = finds c.args.self.now.seat
