-- One round more.
use Rattle.std.proofs.Common.{ℕ, ◌≡◌, ◌+◌, ◌||◌, Bool, true, false, List, [], ◌∷◌, ◌++◌, length, take, refl, sym, ◌∙◌, ap, subst, arith, append_assoc, length-append, inl, inr}
use Rattle.std.specs.Prelude.{IsTrue}
use Rattle.std.proofs.lemmas.Grind.{flat_map-append}
use Rattle.std.proofs.lemmas.List.{append-nil}
use Rattle.std.proofs.Math.Seq.{take-length, take-append-add, take-append_seam}
use Rattle.px_outside.specs.Faults.{FaultsRose}
use Rattle.px_outside.specs.declared.sink.Sink.{Ghosts}
use Rattle.px_trail.specs.declared.entry.Entry.{Entry}
use Rattle.px_calls.specs.Known.{Known}
use Rattle.px_reply.specs.declared.transcript.Transcript.{Transcript}
use Rattle.px_reply.specs.Printed.{printed, printed_transcript}
use Rattle.px_script.specs.declared.script.SessionText.{SessionText}
use Rattle.px_session.specs.declared.state.SessionState.{SessionState}
use Rattle.px_rounds.specs.Rounds.{AreRounds, AreWithin, HasRound, RanRounds, RanScript, all_transcripts, fresh_sessions}
use Rattle.px_rounds.specs.Turns.{TrailGoesOn}
use Rattle.px_rounds.specs.Written.{IsTextWritten, WritesRound}
use Rattle.px_rounds.specs.inner.Ways.{RanOne, Stayed, WentOn}
use Rattle.px_rounds.proofs.Rounding.{round_on}

pub neither : (a b : Bool) → (a || b) ≡ false → (a ≡ false) × (b ≡ false)
neither false false h = (refl, refl)
neither false true h = cc
neither true b h = cc

not_both : (a b : Bool) → (a || b) ≡ true → a ≡ false → b ≡ false → ⊥
not_both a b h x y = cc

-- where a flag that was set stays set, one that isn't wasn't
was_not : (m m' : Bool) → (m ≡ true → m' ≡ true) → m' ≡ false → m ≡ false
was_not true m' h off = let on = h refl in cc
was_not false m' h off = refl

pub goes_then : (k k' k'' : Known) → TrailGoesOn k k' → TrailGoesOn k' k'' → TrailGoesOn k k''
goes_then k k' k'' h j = record { more = h.more ++ j.more; seen = j.seen ∙ (ap (λ (l : List Entry). l ++ j.more) h.seen ∙ append_assoc k.seen h.more j.more); base = j.base ∙ h.base; damaged = j.damaged ∙ h.damaged; single = j.single }

-- 1. Rounds

module _ (sound : Type 0) where
  rounds_on : (k k' : Known) (from number : ℕ) (states : List SessionState) (rs : List (List SessionText)) (tss : List (List Transcript)) (to : ℕ) (states' : List SessionState) (memory memory' : Bool) → TrailGoesOn k k' → (memory' ≡ false → memory ≡ false) → AreRounds sound k from number states rs tss to states' memory
      → AreRounds sound k' from number states rs tss to states' memory'
  rounds_on k k' from number states [] [] to states' memory memory' goes less h = h
  rounds_on k k' from number states [] (ts ∷ tss) to states' memory memory' goes less h = absurd h
  rounds_on k k' from number states (r ∷ rs) [] to states' memory memory' goes less h = absurd h
  rounds_on k k' from number states (r ∷ rs) (ts ∷ tss) to states' memory memory' goes less h =
      (h.0, h.1, round_on sound k k' from h.0 number states r ts h.1 memory memory' goes less h.2, rounds_on k k' h.0 (number + 1) h.1 rs tss to states' memory memory' goes less h.3)

  next_number : (number : ℕ) (rs : List (List SessionText)) (r : List SessionText) → number + length (r ∷ rs) ≡ (number + 1) + length rs
  next_number number rs r = omega arith

  rounds_snoc : (k : Known) (from number : ℕ) (states : List SessionState) (rs : List (List SessionText)) (tss : List (List Transcript)) (mid : ℕ) (mids : List SessionState) (r : List SessionText) (ts : List Transcript) (to : ℕ) (states' : List SessionState) (memory : Bool)
      → AreRounds sound k from number states rs tss mid mids memory → HasRound sound k mid to (number + length rs) mids r ts states' memory → AreRounds sound k from number states (rs ++ r ∷ []) (tss ++ ts ∷ []) to states' memory
  rounds_snoc k from number states [] [] mid mids r ts to states' memory h one =
      let none : number + 0 ≡ number = omega arith in
      let F : ℕ × ℕ × List SessionState → Type 0 = λ q. HasRound sound k q.0 to q.1 q.2 r ts states' memory in
      (to, states', subst F (λ i. (sym h.0 i, none i, sym h.1 i)) one, (refl, refl))
  rounds_snoc k from number states [] (us ∷ tss) mid mids r ts to states' memory h one = absurd h
  rounds_snoc k from number states (q ∷ rs) [] mid mids r ts to states' memory h one = absurd h
  rounds_snoc k from number states (q ∷ rs) (us ∷ tss) mid mids r ts to states' memory h one =
      let there = subst (λ (n : ℕ). HasRound sound k mid to n mids r ts states' memory) (next_number number rs q) one in
      (h.0, h.1, h.2, rounds_snoc k h.0 (number + 1) h.1 rs tss mid mids r ts to states' memory h.3 there)

  flat_snoc : (tss : List (List Transcript)) (ts : List Transcript) → all_transcripts (tss ++ ts ∷ []) ≡ all_transcripts tss ++ ts
  flat_snoc tss ts = flat_map-append (λ (l : List Transcript). l) tss (ts ∷ []) ∙ ap (λ (l : List Transcript). all_transcripts tss ++ l) (append-nil ts)

  pub none_ran : (k : Known) (first : List SessionState) → RanRounds sound k (length k.seen) first [] [] first false false
  none_ran k first = record { passed = []; rest = []; all = refl; done = []; flat = refl; answered = (refl, refl); whole = λ sink memory. refl }

  pub no_memory : (k : Known) (first : List SessionState) (rounds : List (List SessionText)) → RanRounds sound k (length k.seen) first rounds [] first false true
  no_memory k first rounds = record { passed = []; rest = rounds; all = refl; done = []; flat = refl; answered = (refl, refl); whole = λ sink memory. cc }

  stayed_on : {O : Type 0} (from : ℕ) (first : List SessionState) (rounds : List (List SessionText)) (round : List SessionText) (k k' : Known) (states : List SessionState) (ts ts' : List Transcript) (states' : List SessionState) (out out' : O) (sink memory sink' memory' : Bool)
      → RanRounds sound k from first rounds ts states sink memory → Stayed k k' states ts ts' states' out out' sink memory sink' memory' → TrailGoesOn k k' → RanRounds sound k' from first (rounds ++ round ∷ []) ts' states' sink' memory'
  stayed_on {O} from first rounds round k k' states ts ts' states' out out' sink memory sink' memory' h s goes =
      let here : length k.seen ≡ length k'.seen = ap (λ (l : List Entry). length l) (sym s.same) in
      let on = rounds_on k k' from 1 first h.passed h.done (length k.seen) states memory memory' goes (was_not memory memory' s.memory_is) h.answered in
      let F : ℕ × List SessionState → Type 0 = λ q. AreRounds sound k' from 1 first h.passed h.done q.0 q.1 memory' in
      record {
        passed = h.passed;
        rest = h.rest ++ round ∷ [];
        all = sym (append_assoc h.passed h.rest (round ∷ [])) ∙ ap (λ l. l ++ round ∷ []) h.all;
        done = h.done;
        flat = s.ts_are ∙ h.flat;
        answered = subst F (λ i. (here i, sym s.states_are i)) on;
        whole = λ no none. absurd (not_both sink' memory' s.stopped no none);
      }

  ran_one_on : {O : Type 0} (K : Ghosts O) (from : ℕ) (first : List SessionState) (rounds : List (List SessionText)) (number : ℕ) (round : List SessionText) (k k' : Known) (states : List SessionState) (ts ts' : List Transcript) (states' : List SessionState) (out out' : O) (sink memory sink' memory' : Bool)
      → number ≡ 1 + length rounds → RanRounds sound k from first rounds ts states sink memory → RanOne sound K number round k k' states ts ts' states' out out' sink memory sink' memory' → TrailGoesOn k k' → RanRounds sound k' from first (rounds ++ round ∷ []) ts' states' sink' memory'
  ran_one_on {O} K from first rounds number round k k' states ts ts' states' out out' sink memory sink' memory' count h r goes =
      let going = neither sink memory r.going in
      let none : h.rest ≡ [] = h.whole going.0 going.1 in
      let all : h.passed ≡ rounds = sym (append-nil h.passed) ∙ (ap (λ l. h.passed ++ l) (sym none) ∙ h.all) in
      let on = rounds_on k k' from 1 first h.passed h.done (length k.seen) states memory memory' goes (λ no. going.1) h.answered in
      let less : memory' ≡ false → r.lacked ≡ false = λ no. (neither r.lacked r.print_failed (sym r.memory_is ∙ no)).0 in
      let one = round_on sound k' k' (length k.seen) (length k'.seen) number states round r.answers states' r.lacked memory' (Rattle.px_rounds.proofs.Rounding.stays k' goes.single) less r.has in
      let there = subst (λ (n : ℕ). HasRound sound k' (length k.seen) (length k'.seen) n states round r.answers states' memory') (count ∙ ap (λ l. 1 + length l) (sym all)) one in
      record {
        passed = h.passed ++ round ∷ [];
        rest = [];
        all = append-nil (h.passed ++ round ∷ []) ∙ ap (λ l. l ++ round ∷ []) all;
        done = h.done ++ r.answers ∷ [];
        flat = r.ts_are ∙ (ap (λ (l : List Transcript). l ++ r.answers) h.flat ∙ sym (flat_snoc h.done r.answers));
        answered = rounds_snoc k' from 1 first h.passed h.done (length k.seen) states round r.answers (length k'.seen) states' memory' on there;
        whole = λ no lacked. refl;
      }

  pub ran_on : {O : Type 0} (K : Ghosts O) (from : ℕ) (first : List SessionState) (rounds : List (List SessionText)) (number : ℕ) (round : List SessionText) (k k' : Known) (states : List SessionState) (ts ts' : List Transcript) (states' : List SessionState) (out out' : O) (sink memory sink' memory' : Bool)
      → number ≡ 1 + length rounds → RanRounds sound k from first rounds ts states sink memory → WentOn sound K number round k k' states ts ts' states' out out' sink memory sink' memory' → TrailGoesOn k k' → RanRounds sound k' from first (rounds ++ round ∷ []) ts' states' sink' memory'
  ran_on {O} K from first rounds number round k k' states ts ts' states' out out' sink memory sink' memory' count h (inl s) goes = stayed_on from first rounds round k k' states ts ts' states' out out' sink memory sink' memory' h s goes
  ran_on {O} K from first rounds number round k k' states ts ts' states' out out' sink memory sink' memory' count h (inr r) goes = ran_one_on K from first rounds number round k k' states ts ts' states' out out' sink memory sink' memory' count h r goes

  pub count_on : {O : Type 0} (K : Ghosts O) (number : ℕ) (round : List SessionText) (k k' : Known) (states : List SessionState) (ts ts' : List Transcript) (states' : List SessionState) (out out' : O) (sink memory sink' memory' : Bool)
      → WentOn sound K number round k k' states ts ts' states' out out' sink memory sink' memory' → length states' ≡ length states
  count_on {O} K number round k k' states ts ts' states' out out' sink memory sink' memory' (inl s) = ap length s.states_are
  count_on {O} K number round k k' states ts ts' states' out out' sink memory sink' memory' (inr r) = r.has.count'

  -- 2. A script

  pub script_lacking : (k : Known) (n : ℕ) (script : List (List SessionText)) (ts : List Transcript) → AreWithin n script → ts ≡ [] → RanScript sound k (length k.seen) script ts false true
  script_lacking k n script ts within none = record {
    sessions = n;
    within = within;
    states = fresh_sessions n;
    ran = subst (λ (l : List Transcript). RanRounds sound k (length k.seen) (fresh_sessions n) script l (fresh_sessions n) false true) (sym none) (no_memory k (fresh_sessions n) script);
  }

  pub script_ran : (k : Known) (from n : ℕ) (script taken : List (List SessionText)) (ts done : List Transcript) (states : List SessionState) (sink memory : Bool) → AreWithin n script → taken ≡ script → ts ≡ done → RanRounds sound k from (fresh_sessions n) taken done states sink memory → RanScript sound k from script ts sink memory
  script_ran k from n script taken ts done states sink memory within whole same h =
      let F : List (List SessionText) × List Transcript → Type 0 = λ q. RanRounds sound k from (fresh_sessions n) q.0 q.1 states sink memory in
      record { sessions = n; within = within; states = states; ran = subst F (λ i. (whole i, sym same i)) h }

-- 3. What is written

all_snoc : (ts more : List Transcript) → printed (ts ++ more) ≡ printed ts ++ printed more
all_snoc ts more = flat_map-append printed_transcript ts more

round_written : {O : Type 0} (K : Ghosts O) (out0 out out' : O) (text more : List ℕ) (sink' print' lacked : Bool) → (IsTrue K.tells → K.held out ≡ K.held out0 ++ text) → K.faults out ≡ K.faults out0 → WritesRound K out out' more sink' print'
    → IsTextWritten K out0 out' (text ++ more) sink' (lacked || print')
round_written {O} K out0 out out' text more true print' lacked held quiet w = record {
  bytes = λ tells.
      let n = (w.1 tells).0 in
      let low = (w.1 tells).1 in
      let len = length-append text more in
      record {
        n = length text + n;
        within = omega arith;
        held = (w.1 tells).2 ∙ (ap (λ (l : List ℕ). l ++ take n more) (held tells) ∙ (append_assoc (K.held out0) text (take n more) ∙ ap (λ (l : List ℕ). K.held out0 ++ l) (sym (take-append-add text more n))));
        all = λ no. cc;
        part = λ yes. omega arith;
      };
  failed = λ yes. subst (λ (n : ℕ). FaultsRose n (K.faults out')) quiet w.0;
  quiet = λ no. cc;
}
round_written {O} K out0 out out' text more false true lacked held quiet w = record {
  bytes = λ tells.
      let len = length-append text more in
      record {
        n = length text;
        within = omega arith;
        held = ap K.held w ∙ (held tells ∙ ap (λ (l : List ℕ). K.held out0 ++ l) (sym (take-append_seam text more)));
        all = λ no none. absurd (always lacked none);
        part = λ yes. cc;
      };
  failed = λ yes. cc;
  quiet = λ no. ap K.faults w ∙ quiet;
}
  where
    always : (b : Bool) → (b || true) ≡ false → ⊥
    always true h = cc
    always false h = cc
round_written {O} K out0 out out' text more false false lacked held quiet w = record {
  bytes = λ tells. record {
    n = length (text ++ more);
    within = omega arith;
    held = w.1 tells ∙ (ap (λ (l : List ℕ). l ++ more) (held tells) ∙ (append_assoc (K.held out0) text more ∙ ap (λ (l : List ℕ). K.held out0 ++ l) (sym (take-length (text ++ more)))));
    all = λ no none. refl;
    part = λ yes. cc;
  };
  failed = λ yes. cc;
  quiet = λ no. w.0 ∙ quiet;
}

pub written_on : {O : Type 0} (sound : Type 0) (K : Ghosts O) (number : ℕ) (round : List SessionText) (k k' : Known) (states : List SessionState) (ts ts' : List Transcript) (states' : List SessionState) (out0 out out' : O) (sink memory sink' memory' : Bool)
    → IsTextWritten K out0 out (printed ts) sink memory → WentOn sound K number round k k' states ts ts' states' out out' sink memory sink' memory' → IsTextWritten K out0 out' (printed ts') sink' memory'
written_on {O} sound K number round k k' states ts ts' states' out0 out out' sink memory sink' memory' h (inl s) =
    let F : List Transcript × O × Bool → Type 0 = λ q. IsTextWritten K out0 q.1 (printed q.0) q.2 memory' in
    let here : IsTextWritten K out0 out (printed ts) sink memory' = record {
      bytes = λ tells. (let p = h.bytes tells in record { n = p.n; within = p.within; held = p.held; all = λ no none. absurd (not_both sink memory' (ap (λ (x : Bool). x || memory') (sym s.sink) ∙ s.stopped) no none); part = p.part });
      failed = h.failed;
      quiet = h.quiet;
    } in
    subst F (λ i. (sym s.ts_are i, sym s.out_is i, sym s.sink i)) here
written_on {O} sound K number round k k' states ts ts' states' out0 out out' sink memory sink' memory' h (inr r) =
    let going = neither sink memory r.going in
    let text = printed ts in
    let held : IsTrue K.tells → K.held out ≡ K.held out0 ++ text = λ tells. (let p = h.bytes tells in p.held ∙ (ap (λ (n : ℕ). K.held out0 ++ take n text) (p.all going.0 going.1) ∙ ap (λ (l : List ℕ). K.held out0 ++ l) (take-length text))) in
    let one = round_written K out0 out out' text (printed r.answers) sink' r.print_failed r.lacked held (h.quiet going.0) r.written in
    let F : List ℕ × Bool → Type 0 = λ q. IsTextWritten K out0 out' q.0 sink' q.1 in
    subst F (λ i. ((sym (all_snoc ts r.answers) ∙ ap printed (sym r.ts_are)) i, sym r.memory_is i)) one

-- 4. Before the first round, and where nothing is run

pub nothing_written : {O : Type 0} (K : Ghosts O) (out : O) (memory : Bool) → IsTextWritten K out out [] false memory
nothing_written {O} K out memory = record {
  bytes = λ tells. record { n = 0; within = omega arith; held = sym (append-nil (K.held out)); all = λ no none. refl; part = λ yes. cc };
  failed = λ yes. cc;
  quiet = λ no. refl;
}

pub went_stopped : {O : Type 0} (sound : Type 0) (K : Ghosts O) (number : ℕ) (round : List SessionText) (k : Known) (states : List SessionState) (ts : List Transcript) (out : O) (sink memory : Bool) → (sink || memory) ≡ true → WentOn sound K number round k k states ts ts states out out sink memory sink memory
went_stopped {O} sound K number round k states ts out sink memory stopped = inl (record { same = refl; ts_are = refl; states_are = refl; out_is = refl; sink = refl; stopped = stopped; memory_is = λ m. m })

pub went_without_memory : {O : Type 0} (sound : Type 0) (K : Ghosts O) (number : ℕ) (round : List SessionText) (k k' : Known) (states states' : List SessionState) (ts ts' : List Transcript) (out : O) (sink memory : Bool) → (sink || memory) ≡ false → k'.seen ≡ k.seen → states' ≡ states → ts' ≡ ts
    → WentOn sound K number round k k' states ts ts' states' out out sink memory false true
went_without_memory {O} sound K number round k k' states states' ts ts' out sink memory going same states_are ts_are =
    inl (record { same = same; ts_are = ts_are; states_are = states_are; out_is = refl; sink = sym (neither sink memory going).0; stopped = refl; memory_is = λ m. refl })
