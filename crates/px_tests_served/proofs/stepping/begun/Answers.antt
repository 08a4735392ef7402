use Rattle.px_tests_served.proofs.Beside.{begun-then}
use Rattle.px_tests_served.proofs.Uses.{begun-marking}
use Rattle.px_tests_served.proofs.stepping.begun.Goals as goal

pub returns-in-Ok-begun-clause-ticket : goal.returns-in-Ok-begun-clause-ticket
returns-in-Ok-begun-clause-ticket g c = begun-marking _ _ _ _ _ c.in-Ok-begun.ticket c.in-Ok-begun.ensures.ok

pub returns-in-Ok-begun-clause-others : goal.returns-in-Ok-begun-clause-others
returns-in-Ok-begun-clause-others g c = begun-then _ _ _ _ _ _ c.in-Ok-begun.ticket c.in-Some-table_for.ensures.sees c.in-Ok-begun.ensures.ok
