use Rattle.px_tests_rounds.proofs.Bares.{lacks, running, sees}
use Rattle.px_tests_rounds.proofs.bare.BareSteps.open_point.Goals as goal

pub returns-clause-refused : goal.returns-clause-refused
returns-clause-refused c = (lacks c.args.self.now.seat _, sees c.args.self.now.seat, running c.args.self.now.seat)
