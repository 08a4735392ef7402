use Rattle.std.proofs.Common.{rules, ◌≡◌, ◌∙◌, ◌<◌, ◌+◌, ◌++◌, ◌∷◌, [], List, length, take, false, arith, sym, ap, subst}
use Rattle.std.proofs.lemmas.List.{length-replicate, length-take-le, take_all, take_more}
use Rattle.px_reply.specs.declared.transcript.Transcript.{Transcript}
use Rattle.px_reply.specs.Printed.{printed}
use Rattle.px_script.specs.declared.script.SessionText.{SessionText}
use Rattle.px_session.specs.declared.state.SessionState.{SessionState}
use Rattle.px_rounds.specs.Rounds.{AreWithin, RanRounds, first_state, fresh_sessions}
use Rattle.px_rounds.specs.Written.{IsTextWritten}
use Rattle.px_rounds.proofs.Rounding.{stays}
use Rattle.px_rounds.proofs.Waying as waying
use Rattle.px_rounds.proofs.rounds.run_rounds.Goals as goal

pub loop-place-init : goal.loop-place-init
loop-place-init g c =
    let k = g.S.Steps.known c.args.server in
    let sound = g.S.Steps.sound in
    let first = fresh_sessions c.sessions_in-count.result in
    let none : c.new-2.result.items ≡ [] = c.new-2.ensures.items in
    let F : List Transcript × List SessionState → Type 0 = λ q. RanRounds sound k (length k.seen) first [] q.0 q.1 false false in
    record {
      goes = stays k c.requires.single;
      ran = subst F (λ i. (sym none i, sym c.in-Ok.ensures i)) (waying.none_ran sound k first);
      written = subst (λ (l : List Transcript). IsTextWritten g.O.Sink c.args.out.now c.args.out.now (printed l) false false) (sym none) (waying.nothing_written g.O.Sink c.args.out.now false);
      count = ap length c.in-Ok.ensures ∙ length-replicate c.sessions_in-count.result first_state;
    }

pub loop-place-preserved : goal.loop-place-preserved
loop-place-preserved g c =
    let at = c.loop-place in
    let i = at.invariant in
    let sound = g.S.Steps.sound in
    let k0 = g.S.Steps.known c.args.server in
    let k = g.S.Steps.known at.way.server in
    let k' = g.S.Steps.known c.go-way.result.server in
    let new = c.go-way.result in
    let rounds = c.as_slice-rounds.result.now in
    let round = c.index-rounds-place.result in
    let went = c.go-way.ensures.went in
    let goes = c.go-way.ensures.goes in
    let low : at.place < length rounds = search rules in
    let more : take (at.place + 1) rounds ≡ take at.place rounds ++ round ∷ [] = take_more rounds at.place round low ∙ ap (λ r. take at.place rounds ++ r ∷ []) (sym c.index-rounds-place.is) in
    let taken : length (take at.place rounds) ≡ at.place = length-take-le at.place rounds (omega arith) in
    let number : at.place + 1 ≡ 1 + length (take at.place rounds) = omega arith in
    let first = fresh_sessions c.sessions_in-count.result in
    record {
      goes = waying.goes_then k0 k k' i.goes goes;
      ran = subst (λ (l : List (List SessionText)). RanRounds sound k' (length k0.seen) first l new.done.items new.states.items new.sink_failed new.memory) (sym more)
          (waying.ran_on sound g.O.Sink (length k0.seen) first (take at.place rounds) (at.place + 1) round k k' at.way.states.items at.way.done.items new.done.items new.states.items at.out c.go-way.new.out at.way.sink_failed at.way.memory new.sink_failed new.memory number i.ran went goes);
      written = waying.written_on sound g.O.Sink (at.place + 1) round k k' at.way.states.items at.way.done.items new.done.items new.states.items c.args.out.now at.out c.go-way.new.out at.way.sink_failed at.way.memory new.sink_failed new.memory i.written went;
      count = waying.count_on sound g.O.Sink (at.place + 1) round k k' at.way.states.items at.way.done.items new.done.items new.states.items at.out c.go-way.new.out at.way.sink_failed at.way.memory new.sink_failed new.memory went ∙ i.count;
    }

pub returns-in_default-clause-ran : goal.returns-in_default-clause-ran
returns-in_default-clause-ran g c =
    let k = g.S.Steps.known c.args.server in
    let n = c.sessions_in-count.result in
    let within = subst (λ (l : List (List SessionText)). AreWithin n l) c.as_slice-rounds.ensures c.sessions_in-count.ensures in
    waying.script_lacking g.S.Steps.sound k n c.args.script.now _ within (search rules)

pub returns-clause-ran : goal.returns-clause-ran
returns-clause-ran g c =
    let at = c.loop-place in
    let i = at.invariant in
    let n = c.sessions_in-count.result in
    let rounds = c.as_slice-rounds.result.now in
    let within = subst (λ (l : List (List SessionText)). AreWithin n l) c.as_slice-rounds.ensures c.sessions_in-count.ensures in
    let whole : take at.place rounds ≡ c.args.script.now = take_all at.place rounds (search rules) ∙ c.as_slice-rounds.ensures in
    waying.script_ran g.S.Steps.sound (g.S.Steps.known at.way.server) (length (g.S.Steps.known c.args.server).seen) n c.args.script.now (take at.place rounds) _ at.way.done.items at.way.states.items at.way.sink_failed at.way.memory within whole (search rules) i.ran
