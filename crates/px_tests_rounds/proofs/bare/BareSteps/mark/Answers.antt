use Rattle.px_tests_rounds.proofs.Bares.{no_ticket}
use Rattle.px_tests_rounds.proofs.bare.BareSteps.mark.Goals as goal

pub unreachable-requires : goal.unreachable-requires
unreachable-requires c = no_ticket c.args.self.now.seat _ _ c.requires
