use Rattle.px_trail.specs.Batches.{Marking}
use Rattle.px_calls.proofs.Runs.{sees-ticket}
use Rattle.px_tests_served.proofs.Uses.{marked-ticket}
use Rattle.px_tests_served.proofs.dropping.marked.Goals as goal

pub mark-requires : goal.mark-requires
mark-requires g c = sees-ticket _ _ c.args.t.now Marking c.in_ok-in_use.ensures c.requires

pub returns-in-Ok-AllMarked-clause-ticket : goal.returns-in-Ok-AllMarked-clause-ticket
returns-in-Ok-AllMarked-clause-ticket g c =
    marked-ticket _ _ c.args.t.now c.mark.new.t c.in-Ok-AllMarked.field-0 c.in-Ok-AllMarked.ensures.ticket c.in-Ok-AllMarked.field-0-is c.in-Ok-AllMarked.ensures.ok
    (sees-ticket _ _ c.args.t.now Marking c.in_ok-in_use.ensures c.requires)
