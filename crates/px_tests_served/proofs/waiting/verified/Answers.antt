use Rattle.px_tests_served.proofs.Beside.{verified-beside}
use Rattle.px_tests_served.proofs.Uses.{verified-ticket}
use Rattle.px_tests_served.proofs.waiting.verified.Goals as goal

pub returns-in-Ok-Done-clause-ticket : goal.returns-in-Ok-Done-clause-ticket
returns-in-Ok-Done-clause-ticket g c = verified-ticket _ _ c.args.t.now c.verify_marks.new.t c.in-Ok-Done.field-0 c.in-Ok-Done.ensures.ticket c.in-Ok-Done.field-0-is c.in-Ok-Done.ensures.ok c.requires

pub returns-in-Ok-Done-clause-others : goal.returns-in-Ok-Done-clause-others
returns-in-Ok-Done-clause-others g c = verified-beside _ _ c.args.t.now c.verify_marks.new.t c.in-Ok-Done.field-0 c.in-Ok-Done.ensures.ticket c.in-Ok-Done.field-0-is c.in-Ok-Done.ensures.ok
