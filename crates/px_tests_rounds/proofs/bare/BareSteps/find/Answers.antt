use Rattle.px_tests_rounds.proofs.Bares.{names_none, running, sees}
use Rattle.px_tests_rounds.proofs.bare.BareSteps.find.Goals as goal

pub returns-clause-refused : goal.returns-clause-refused
returns-clause-refused c = (names_none c.args.self.now.seat _, sees c.args.self.now.seat, running c.args.self.now.seat)
