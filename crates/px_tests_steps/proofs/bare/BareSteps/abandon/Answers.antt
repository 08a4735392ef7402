use Rattle.px_tests_steps.proofs.Bares.{no_abandon}
use Rattle.px_tests_steps.proofs.bare.BareSteps.abandon.Goals as goal

pub unreachable-requires : goal.unreachable-requires
unreachable-requires c = no_abandon _ c.requires
