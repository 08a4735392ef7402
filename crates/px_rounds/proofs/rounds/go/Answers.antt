use Rattle.std.proofs.Common.{◌∙◌, ◌++◌, ◌≡◌, List, sym, ap, subst, refl, inr}
use Rattle.std.specs.Prelude.{IfErr, IfOk, length}
use Rattle.px_reply.specs.declared.transcript.Transcript.{Transcript}
use Rattle.px_reply.specs.Printed.{printed}
use Rattle.px_rounds.specs.Rounds.{HasRound}
use Rattle.px_rounds.specs.Written.{WritesRound}
use Rattle.px_rounds.proofs.Waying as waying
use Rattle.px_rounds.proofs.rounds.go.Goals as goal

pub returns-then-either-clause-went : goal.returns-then-either-clause-went
returns-then-either-clause-went g c = waying.went_stopped g.S.Steps.sound _ c.args.number c.args.round.now (g.S.Steps.known c.args.way.server) c.args.way.states.items c.args.way.done.items c.args.out.now c.args.way.sink_failed c.args.way.memory (sym c.either.ensures ∙ c.if-either.true)

pub returns-then-is_err-clause-went : goal.returns-then-is_err-clause-went
returns-then-is_err-clause-went g c =
    let k = g.S.Steps.known c.args.way.server in
    waying.went_without_memory g.S.Steps.sound _ c.args.number c.args.round.now k k c.args.way.states.items c.args.way.states.items c.args.way.done.items c.reserve.new.self.items c.args.out.now c.args.way.sink_failed c.args.way.memory (sym c.either.ensures ∙ c.if-either.false) refl refl c.reserve.ensures.items

pub returns-in-Err-clause-went : goal.returns-in-Err-clause-went
returns-in-Err-clause-went g c =
    let k = g.S.Steps.known c.args.way.server in
    let none = subst (λ r. IfErr r (λ back. (back.items ≡ c.args.way.states.items) × ((g.S.Steps.known c.run_round-server.result.0).seen ≡ k.seen))) c.in-Err.is c.run_round-server.ensures.none in
    waying.went_without_memory g.S.Steps.sound _ c.args.number c.args.round.now k (g.S.Steps.known c.run_round-server.result.0) c.args.way.states.items c.in-Err.states.items c.args.way.done.items c.reserve.new.self.items c.args.out.now c.args.way.sink_failed c.args.way.memory
    (sym c.either.ensures ∙ c.if-either.false) none.1 none.0 c.reserve.ensures.items

pub returns-in-Ok-clause-went : goal.returns-in-Ok-clause-went
returns-in-Ok-clause-went g c =
    let k = g.S.Steps.known c.args.way.server in
    let k' = g.S.Steps.known c.run_round-server.result.0 in
    let told = c.in-Ok.told in
    let ts = told.transcripts.items in
    inr (record {
      going = sym c.either.ensures ∙ c.if-either.false;
      answers = ts;
      ts_are = c.keep.ensures ∙ (ap (λ (l : List Transcript). l ++ c.into_vec.result.items) c.reserve.ensures.items ∙ ap (λ (l : List Transcript). c.args.way.done.items ++ l) (c.into_vec.ensures ∙ c.of-answers.ensures));
      lacked = told.lacked;
      has = subst (λ r. IfOk r (λ told. HasRound g.S.Steps.sound k' (length k.seen) (length k'.seen) c.args.number c.args.way.states.items c.args.round.now told.transcripts.items told.states.items told.lacked)) c.in-Ok.is c.run_round-server.ensures.round;
      print_failed = c.write_round-sink_failed.result.1;
      written = subst (λ (l : List Transcript). WritesRound g.O.Sink c.args.out.now c.write_round-sink_failed.new.out (printed l) c.write_round-sink_failed.result.0 c.write_round-sink_failed.result.1) c.of-answers.ensures c.write_round-sink_failed.ensures;
      memory_is = c.either-in-Ok.ensures;
    })
