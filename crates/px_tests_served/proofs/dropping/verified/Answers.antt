use Rattle.std.proofs.lemmas.Result.{on_ok_weaker}
use Rattle.px_trail.specs.Batches.{Closing, Verifying}
use Rattle.px_calls.proofs.Runs.{sees-ticket}
use Rattle.px_tests_served.proofs.Uses.{verified-ticket}
use Rattle.px_tests_served.proofs.dropping.verified.Goals as goal

pub verify_marks-requires : goal.verify_marks-requires
verify_marks-requires g c = sees-ticket _ _ c.args.t.now Verifying c.in_ok-in_use.ensures c.requires

pub returns-in-Ok-Done-clause-ticket : goal.returns-in-Ok-Done-clause-ticket
returns-in-Ok-Done-clause-ticket g c =
    let closing =
    verified-ticket _ _ c.args.t.now c.verify_marks.new.t c.in-Ok-Done.field-0 c.in-Ok-Done.ensures.ticket c.in-Ok-Done.field-0-is c.in-Ok-Done.ensures.ok
    (sees-ticket _ _ c.args.t.now Verifying c.in_ok-in_use.ensures c.requires) in
    on_ok_weaker c.in_use-in-Ok-Done.result (λ sees. sees-ticket _ _ c.verify_marks.new.t Closing sees closing) c.in_use-in-Ok-Done.ensures
