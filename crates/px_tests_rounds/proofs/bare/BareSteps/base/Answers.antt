use Rattle.px_tests_rounds.proofs.Bares.{no_point}
use Rattle.px_tests_rounds.proofs.bare.BareSteps.base.Goals as goal

pub unreachable-requires : goal.unreachable-requires
unreachable-requires c = no_point c.args.self.now.seat c.args._p.now c.requires.«open»
