use Rattle.px_tests_steps.proofs.Bares.{no_end}
use Rattle.px_tests_steps.proofs.bare.BareSteps.end.Goals as goal

pub unreachable-requires : goal.unreachable-requires
unreachable-requires c = no_end _ c.requires
