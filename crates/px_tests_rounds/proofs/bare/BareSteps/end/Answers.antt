use Rattle.px_tests_rounds.proofs.Bares.{no_end}
use Rattle.px_tests_rounds.proofs.bare.BareSteps.end.Goals as goal

pub unreachable-requires : goal.unreachable-requires
unreachable-requires c = no_end c.args.self.now.seat _ c.requires
