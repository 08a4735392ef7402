use Rattle.std.proofs.Common.{ap, length, subst, ◌∙◌}
use Rattle.px_calls.specs.Known.{Known}
use Rattle.px_verified.specs.Verified.{HasVerified}
use Rattle.px_program.proofs.Serving.{stays}
use Rattle.px_program.proofs.Verified.{answers, goes, unmade}
use Rattle.px_program.proofs.served.run_verified.Goals as goal

pub returns-in-Err-clause-goes : goal.returns-in-Err-clause-goes
returns-in-Err-clause-goes g c = rw c.untold.ensures.server (stays (g.S.Steps.known c.args.server) c.requires.alone c.requires.nothing)

pub returns-in-Ok-clause-goes : goal.returns-in-Ok-clause-goes
returns-in-Ok-clause-goes g c =
    let S = g.S.Steps in
    let h = subst (λ (k : Known). HasVerified S.sound k (S.known c.verify-reply.new.s) c.args.asked c.verify-reply.result) c.act_as.ensures c.verify-reply.ensures in
    rw c.told.ensures.server (goes S.sound (S.known c.args.server) (S.known c.verify-reply.new.s) c.requires.alone c.requires.nothing c.args.asked c.verify-reply.result h)

pub returns-in-Ok-clause-answered : goal.returns-in-Ok-clause-answered
returns-in-Ok-clause-answered g c =
    let S = g.S.Steps in
    let h = subst (λ (k : Known). HasVerified S.sound k (S.known c.verify-reply.new.s) c.args.asked c.verify-reply.result) c.act_as.ensures c.verify-reply.ensures in
    rw c.told.ensures.server (answers S.sound (S.known c.args.server) (S.known c.verify-reply.new.s) c.requires.alone c.requires.nothing c.args.asked c.verify-reply.result h
    c.told.result.transcripts c.told.result.memory c.seen-first.result c.seen-last.result (c.seen-first.ensures ∙ ap (λ (k : Known). length k.seen) c.act_as.ensures) c.seen-last.ensures (c.told.ensures.transcripts ∙ c.answered-transcripts.ensures))
