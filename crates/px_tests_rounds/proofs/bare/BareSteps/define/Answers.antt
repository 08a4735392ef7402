use Rattle.px_tests_rounds.proofs.Bares.{running, sees}
use Rattle.px_tests_rounds.proofs.bare.BareSteps.define.Goals as goal

pub returns-clause-refused : goal.returns-clause-refused
returns-clause-refused c = (tt, sees c.args.self.now.seat, running c.args.self.now.seat)
