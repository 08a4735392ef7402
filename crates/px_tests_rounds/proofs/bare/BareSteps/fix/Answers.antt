use Rattle.std.proofs.Common.{◌≡◌, false, true}
use Rattle.px_tests_rounds.proofs.Bares.{finds}
use Rattle.px_tests_rounds.proofs.bare.BareSteps.fix.Goals as goal

pub returns-clause-ok : goal.returns-clause-ok
returns-clause-ok c = finds c.args.self.now.seat

pub returns-clause-there : goal.returns-clause-there
returns-clause-there c = λ alone sound p is_open was gone. (let z : false ≡ true = was in cc)

pub returns-clause-others : goal.returns-clause-others
returns-clause-others c = λ alone sound p v is_open other was. was
