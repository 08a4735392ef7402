use Rattle.px_tests_served.proofs.Beside.{written-beside}
use Rattle.px_tests_served.proofs.waiting.written.Goals as goal

pub returns-in-Ok-AllWritten-clause-others : goal.returns-in-Ok-AllWritten-clause-others
returns-in-Ok-AllWritten-clause-others g c = written-beside _ _ c.args.t.now c.write.new.t c.in-Ok-AllWritten.field-0 c.in-Ok-AllWritten.ensures.ticket c.in-Ok-AllWritten.field-0-is c.in-Ok-AllWritten.ensures.ok
