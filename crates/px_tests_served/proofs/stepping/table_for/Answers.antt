use Rattle.px_tests_served.proofs.stepping.table_for.Goals as goal

pub returns-then-is_fitting-clause-sees : goal.returns-then-is_fitting-clause-sees
returns-then-is_fitting-clause-sees g c = c.in-Ok.ensures.ok.finds.sees
