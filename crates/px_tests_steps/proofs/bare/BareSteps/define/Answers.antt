use Rattle.px_tests_steps.proofs.Bares.{running, sees}
use Rattle.px_tests_steps.proofs.bare.BareSteps.define.Goals as goal

pub returns-clause-refused : goal.returns-clause-refused
returns-clause-refused c = (tt, sees, running)
