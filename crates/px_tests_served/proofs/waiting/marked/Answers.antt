use Rattle.px_tests_served.proofs.Beside.{marked-beside}
use Rattle.px_tests_served.proofs.Uses.{marked-ticket}
use Rattle.px_tests_served.proofs.waiting.marked.Goals as goal

pub returns-in-Ok-AllMarked-clause-ticket : goal.returns-in-Ok-AllMarked-clause-ticket
returns-in-Ok-AllMarked-clause-ticket g c = marked-ticket _ _ c.args.t.now c.mark.new.t c.in-Ok-AllMarked.field-0 c.in-Ok-AllMarked.ensures.ticket c.in-Ok-AllMarked.field-0-is c.in-Ok-AllMarked.ensures.ok c.requires

pub returns-in-Ok-AllMarked-clause-others : goal.returns-in-Ok-AllMarked-clause-others
returns-in-Ok-AllMarked-clause-others g c = marked-beside _ _ c.args.t.now c.mark.new.t c.in-Ok-AllMarked.field-0 c.in-Ok-AllMarked.ensures.ticket c.in-Ok-AllMarked.field-0-is c.in-Ok-AllMarked.ensures.ok
