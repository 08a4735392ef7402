use Rattle.px_tests_rounds.proofs.Bares.{no_abandon}
use Rattle.px_tests_rounds.proofs.bare.BareSteps.abandon.Goals as goal

pub unreachable-requires : goal.unreachable-requires
unreachable-requires c = no_abandon c.args.self.now.seat _ c.requires
