use Rattle.px_calls.specs.Causes.{read_cause}
use Rattle.px_tests_served.proofs.Sights.{refuses-open, sees-open}
use Rattle.px_tests_served.proofs.late.doubt_at.Goals as goal

pub returns-in-Err : goal.returns-in-Err
returns-in-Err g c = record { «open» = refuses-open (read_cause g.S.Steps.sound) _ _ c.in-Err.field-0 c.args.point.now c.in-Err.ensures.refused c.requires.open }

pub returns-in_default-only_doubt : goal.returns-in_default-only_doubt
returns-in_default-only_doubt g c = record { «open» = sees-open _ _ c.args.point.now c.in-Ok-looked.ensures.ok.finds.sees c.requires.open }

pub consult-requires-clause-open : goal.consult-requires-clause-open
consult-requires-clause-open g c = sees-open _ _ c.args.point.now c.in-Ok-looked.ensures.ok.finds.sees c.requires.open

pub returns-in-Ok-consult : goal.returns-in-Ok-consult
returns-in-Ok-consult g c = record { «open» = sees-open _ _ c.args.point.now c.in-Ok-consult.ensures.ok.finds.sees (sees-open _ _ c.args.point.now c.in-Ok-looked.ensures.ok.finds.sees c.requires.open) }

pub returns-in-Err-consult : goal.returns-in-Err-consult
returns-in-Err-consult g c = record { «open» = refuses-open (read_cause g.S.Steps.sound) _ _ c.in-Err-consult.field-0 c.args.point.now c.in-Err-consult.ensures.refused (sees-open _ _ c.args.point.now c.in-Ok-looked.ensures.ok.finds.sees c.requires.open) }
