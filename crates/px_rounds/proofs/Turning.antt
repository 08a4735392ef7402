-- Sessions that take turns.
use Rattle.std.proofs.Common.{ℕ, ◌≡◌, ◌≢◌, ◌<◌, ◌+◌, Some, List, [], ◌++◌, length, refl, sym, ◌∙◌, ap, subst, arith, append_assoc, inl, inr, ⊎_elim}
use Rattle.std.specs.Prelude.{slice_get}
use Rattle.std.proofs.lemmas.List.{append-nil}
use Rattle.std.proofs.Math.ListN.{set, length-set}
use Rattle.px_trail.specs.declared.entry.Act.{Act}
use Rattle.px_trail.specs.declared.entry.Entry.{Entry}
use Rattle.px_trail.specs.Trail.{acts_by}
use Rattle.px_calls.specs.Known.{Known, Ran, TimePasses}
use Rattle.px_calls.proofs.Runs.{acts_by-append}
use Rattle.px_session.specs.declared.run.SessionRun.{SessionRun}
use Rattle.px_session.specs.declared.state.SessionState.{SessionState}
use Rattle.px_session.specs.Live.{IsSameSession, IsSessionLive, StepsOn}
use Rattle.px_session.proofs.Lives.{live_passes}
use Rattle.px_rounds.specs.Turns.{as_seat, AreLive, AreSame, IsNoSession, IsSingle, Turned}
use Rattle.px_rounds.proofs.Lists.{get_lt, get_set_other, get_set_same, get_some, same_or_not, some_same}

-- 1. What one seat did is others' entries to another

others : (m n : ℕ) (k k' : Known) (acts : List Act) → IsSingle k → m ≢ n → Ran (as_seat n k) k' acts → TimePasses (as_seat m k) (as_seat m k')
others m n k k' acts h apart r = record {
  others = r.added;
  seen = r.seen;
  apart = r.apart h.alone m apart;
  seat = refl;
  base = r.base;
  damaged = r.damaged;
  legal = r.legal h.legal;
}

single : (n : ℕ) (k k' : Known) (acts : List Act) → IsSingle k → Ran (as_seat n k) k' acts → IsSingle k'
single n k k' acts h r = record { alone = r.as_alone ∙ h.alone; legal = r.legal h.legal }

as_own : (n : ℕ) (k : Known) → k.seat ≡ n → k ≡ as_seat n k
as_own n k e = λ i. record { seat = e i; base = k.base; damaged = k.damaged; alone = k.alone; seen = k.seen }

same_run : (run : SessionRun) → IsSameSession run run
same_run run = record { pieces = refl; from = refl; session = refl; round = refl }

no_other : (n count seat : ℕ) → n < count → IsNoSession count seat → seat ≢ n + 1
no_other n count seat low (inl e) same = omega arith
no_other n count seat low (inr e) same = omega arith

module _ (sound : Type 0) where
  -- the one that has gone on, and the others
  live_on : (n : ℕ) (k k1 k' : Known) (acts : List Act) (began : List SessionState) (runs : List SessionRun) (run run' : SessionRun) → IsSingle k → k1 ≡ as_seat (n + 1) k → Ran (as_seat (n + 1) k) k' acts → slice_get runs n ≡ Some run
      → ((st : SessionState) → IsSessionLive sound k1 st run → StepsOn sound st k1 run k' run') → AreLive sound k began runs → AreLive sound k' began (set runs n run')
  live_on n k k1 k' acts began runs run run' one is ran at steps h = record {
    count = h.count ∙ sym (length-set runs n run');
    each = λ m st x s e. ⊎_elim
        (λ (same : m ≡ n).
        let here : x ≡ run' = get_set_same runs n run' x (ap (λ (j : ℕ). slice_get (set runs n run') j) (sym same) ∙ e) in
        let before : IsSessionLive sound (as_seat (n + 1) k) st run = h.each n st run (ap (slice_get began) (sym same) ∙ s) at in
        let after = (steps st (subst (λ (x : Known). IsSessionLive sound x st run) (sym is) before)).live in
        let there : k' ≡ as_seat (m + 1) k' = as_own (m + 1) k' (ran.seat ∙ ap (λ (j : ℕ). j + 1) (sym same)) in
        let F : Known × SessionRun → Type 0 = λ q. IsSessionLive sound q.0 st q.1 in
        subst F (λ i. (there i, sym here i)) after)
        (λ (other : m ≢ n).
        let was : slice_get runs m ≡ Some x = sym (get_set_other runs n m run' other) ∙ e in
        let apart : m + 1 ≢ n + 1 = λ same. other (omega arith) in
        live_passes sound st x (as_seat (m + 1) k) (as_seat (m + 1) k') (others (m + 1) (n + 1) k k' acts one apart ran) (h.each m st x s was))
        (same_or_not m n);
  }

  same_on : (n : ℕ) (runs : List SessionRun) (run run' : SessionRun) → slice_get runs n ≡ Some run → IsSameSession run run' → AreSame runs (set runs n run')
  same_on n runs run run' at one = record {
    count = length-set runs n run';
    each = λ m x y e f. ⊎_elim
        (λ (same : m ≡ n).
        let old : x ≡ run = some_same x run (sym e ∙ (ap (slice_get runs) same ∙ at)) in
        let new : y ≡ run' = get_set_same runs n run' y (ap (λ (j : ℕ). slice_get (set runs n run') j) (sym same) ∙ f) in
        let F : SessionRun × SessionRun → Type 0 = λ q. IsSameSession q.0 q.1 in
        subst F (λ i. (sym old i, sym new i)) one)
        (λ (other : m ≢ n).
        let was : slice_get runs m ≡ Some y = sym (get_set_other runs n m run' other) ∙ f in
        subst (λ (z : SessionRun). IsSameSession x z) (some_same x y (sym e ∙ was)) (same_run x))
        (same_or_not m n);
  }

  -- one session has gone on: it is on its way, and so are the others
  pub turns : (n : ℕ) (k k1 k' : Known) (runs : List SessionRun) (run run' : SessionRun) → IsSingle k → (began : List SessionState) × AreLive sound k began runs → k1 ≡ as_seat (n + 1) k → n < length runs → slice_get runs n ≡ Some run
      → ((st : SessionState) → IsSessionLive sound k1 st run → StepsOn sound st k1 run k' run') → Turned sound k runs k' (set runs n run')
  turns n k k1 k' runs run run' one live is low at steps =
      let st = get_some live.0 n (let c = live.1.count in omega arith) in
      let step = steps st.0 (subst (λ (x : Known). IsSessionLive sound x st.0 run) (sym is) (live.1.each n st.0 run st.1 at)) in
      let ran : Ran (as_seat (n + 1) k) k' step.acts = subst (λ (x : Known). Ran x k' step.acts) is step.ran in
      record {
        more = ran.added;
        seen = ran.seen;
        others = λ seat none. ran.apart one.alone seat (no_other n (length runs) seat low none);
        base = ran.base;
        damaged = ran.damaged;
        single = single (n + 1) k k' step.acts one ran;
        live = λ began h. live_on n k k1 k' step.acts began runs run run' one is ran at steps h;
        same = same_on n runs run run' at step.same;
      }

  pub no_turn : (k : Known) (runs : List SessionRun) → IsSingle k → Turned sound k runs k runs
  unfolding acts_by
  no_turn k runs one = record {
    more = [];
    seen = sym (append-nil k.seen);
    others = λ n high. refl;
    base = refl;
    damaged = refl;
    single = one;
    live = λ began h. h;
    same = record { count = refl; each = λ n x y e f. subst (λ (z : SessionRun). IsSameSession x z) (some_same x y (sym e ∙ f)) (same_run x) };
  }

  same_then : (a b c : List SessionRun) → AreSame a b → AreSame b c → AreSame a c
  same_then a b c h j = record {
    count = j.count ∙ h.count;
    each = λ n x z e f.
        let low : n < length b = (let l = get_lt a x n e in let s = h.count in omega arith) in
        let mid = get_some b n low in
        let one = h.each n x mid.0 e mid.1 in
        let two = j.each n mid.0 z mid.1 f in
        record { pieces = two.pieces ∙ one.pieces; from = two.from ∙ one.from; session = two.session ∙ one.session; round = two.round ∙ one.round };
  }

  pub turns_then : (k k' k'' : Known) (a b c : List SessionRun) → Turned sound k a k' b → Turned sound k' b k'' c → Turned sound k a k'' c
  turns_then k k' k'' a b c h j = record {
    more = h.more ++ j.more;
    seen = j.seen ∙ (ap (λ (l : List Entry). l ++ j.more) h.seen ∙ append_assoc k.seen h.more j.more);
    others = λ n none.
        let second : acts_by n j.more ≡ [] = j.others n (subst (λ (count : ℕ). IsNoSession count n) (sym h.same.count) none) in
        acts_by-append n h.more j.more ∙ (ap (λ (l : List Act). l ++ acts_by n j.more) (h.others n none) ∙ second);
    base = j.base ∙ h.base;
    damaged = j.damaged ∙ h.damaged;
    single = j.single;
    live = λ began l. j.live began (h.live began l);
    same = same_then a b c h.same j.same;
  }

  -- the sessions are still on their way
  pub still_live : (k k' : Known) (a b : List SessionRun) → Turned sound k a k' b → (began : List SessionState) × AreLive sound k began a → (began : List SessionState) × AreLive sound k' began b
  still_live k k' a b h live = (live.0, h.live live.0 live.1)
