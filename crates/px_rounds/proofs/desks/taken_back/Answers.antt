use Rattle.std.proofs.Common.{rules, ◌≡◌, ◌∙◌, ℕ, ◌+◌, ◌<◌, false, [], ◌∷◌, length, drop, sym, ap, subst, ⊎_elim, arith, length-append}
use Rattle.std.specs.Prelude.{slice_get}
use Rattle.px_reply.specs.declared.transcript.Transcript.{Transcript}
use Rattle.px_session.specs.declared.run.SessionRun.{SessionRun}
use Rattle.px_session.specs.declared.state.SessionState.{SessionState}
use Rattle.px_rounds.specs.inner.Desks.{IsTold}
use Rattle.px_rounds.specs.Turns.{as_seat}
use Rattle.px_rounds.proofs.Lists.{drop_one, front_is, get_lt, get_snoc, get_some, some_same}
use Rattle.px_rounds.proofs.Rounding.{still_told}
use Rattle.px_rounds.proofs.Waying.{neither}
use Rattle.px_rounds.proofs.desks.taken_back.Goals as goal

pub transcript-transcript-requires-clause-live : goal.transcript-transcript-requires-clause-live
transcript-transcript-requires-clause-live g c =
    let i = c.loop-runs.invariant in
    let some_left : 0 < length c.loop-runs.runs.items = search rules in
    let n = length c.loop-runs.transcripts.items in
    let here = front_is c.args.runs.items c.loop-runs.runs.items n c.remove.result i.left some_left c.remove.ensures.value in
    let live = c.requires.live in
    let low = get_lt c.args.runs.items c.remove.result n here in
    let st = get_some live.1 n (let count = live.2.count in omega arith) in
    (as_seat (n + 1) live.0, st.0, live.2.each n st.0 c.remove.result st.1 here)

pub loop-runs-preserved : goal.loop-runs-preserved
loop-runs-preserved g c =
    let at = c.loop-runs in
    let i = at.invariant in
    let n = length at.transcripts.items in
    let run = c.remove.result in
    let some_left : 0 < length at.runs.items = search rules in
    let here = front_is c.args.runs.items at.runs.items n run i.left some_left c.remove.ensures.value in
    let ts = c.push_reserved.ensures.items in
    let sts = c.push_reserved-in-loop-runs.ensures.items in
    let t' = c.transcript-transcript.result.0 in
    let st' = c.transcript-transcript.result.1 in
    let more : length c.push_reserved.new.self.items ≡ n + 1 = ap length ts ∙ length-append at.transcripts.items (t' ∷ []) in
    let more' : length c.push_reserved-in-loop-runs.new.self.items ≡ length at.states.items + 1 = ap length sts ∙ length-append at.states.items (st' ∷ []) in
    let less : length c.remove.new.self.items + 1 ≡ length at.runs.items = omega (arith, c.remove.ensures.len, at.runs.ok, c.remove.new.self.ok) in
    let sum : c.either-lacked.result ≡ false → (at.lacked ≡ false) × (c.is_memory.result ≡ false) = λ no. neither at.lacked c.is_memory.result (sym c.either-lacked.ensures ∙ no) in
    record {
      left = c.remove.ensures.items ∙ (ap (drop 1) i.left ∙ (drop_one c.args.runs.items n ∙ ap (λ k. drop k c.args.runs.items) (sym more)));
      sum = (let was = i.sum in omega arith);
      count = more' ∙ (ap (λ (k : ℕ). k + 1) i.count ∙ sym more);
      room = (search rules, search rules);
      each = λ k began live m s r t st b e f h. ⊎_elim
          (λ was. ⊎_elim
          (λ was'. still_told g.S.Steps.sound (as_seat (m + 1) k) s r t st at.lacked c.either-lacked.result (λ no. (sum no).0) (i.each k began live m s r t st b e was was'))
          (λ (q : (m ≡ length at.states.items) × (st' ≡ st)). let low = get_lt at.transcripts.items t m was in let same = q.0 in let len = i.count in absurd (omega arith))
          (get_snoc at.states.items st' st m (ap (λ l. slice_get l m) (sym sts) ∙ h)))
          (λ (p : (m ≡ n) × (t' ≡ t)). ⊎_elim
          (λ was'. let low = get_lt at.states.items st m was' in let same = p.0 in let len = i.count in absurd (omega arith))
          (λ (q : (m ≡ length at.states.items) × (st' ≡ st)).
          let run_is : run ≡ r = some_same run r (sym here ∙ (ap (slice_get c.args.runs.items) (sym p.0) ∙ e)) in
          let one = live.each n s run (ap (slice_get began) (sym p.0) ∙ b) here in
          let told : IsTold g.S.Steps.sound (as_seat (n + 1) k) s run t' st' c.either-lacked.result = record {
            session = c.transcript-transcript.ensures.session.0;
            round = c.transcript-transcript.ensures.session.1;
            ending = c.transcript-transcript.result.2;
            answered = c.transcript-transcript.ensures.answered (as_seat (n + 1) k) s one;
            whole = λ no. c.is_memory.ensures (sum no).1;
          } in
          let F : ℕ × SessionRun × Transcript × SessionState → Type 0 = λ x. IsTold g.S.Steps.sound (as_seat (x.0 + 1) k) s x.1 x.2 x.3 c.either-lacked.result in
          subst F (λ j. (sym p.0 j, run_is j, p.1 j, q.1 j)) told)
          (get_snoc at.states.items st' st m (ap (λ l. slice_get l m) (sym sts) ∙ h)))
          (get_snoc at.transcripts.items t' t m (ap (λ l. slice_get l m) (sym ts) ∙ f));
    }

pub returns : goal.returns
returns g c =
    let i = c.loop-runs.invariant in
    let none : length c.loop-runs.runs.items ≡ 0 = search rules in
    let sum = i.sum in
    let same = i.count in
    record { told = λ k began live. record { count = omega arith; count' = omega arith; each = i.each k began live } }
