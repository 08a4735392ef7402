-- A base version stays, whatever comes.
use Rattle.std.proofs.Common.{◌≡◌, ℕ, ◌<◌, ◌≤◌, ◌-◌, ◌&&◌, Bool, true, false, cond, not, Option, Some, None, refl, ap, sym, ◌∙◌, subst, inl, inr, arith}
use Rattle.std.specs.Prelude.{nat_eq, nat_lt}
use Rattle.std.proofs.lemmas.Bool.{cases_lt, cond-true, cond-false, eq-eqb, false≢true, lt-ltb, ne_eqb}
use Rattle.std.proofs.lemmas.Bool.Decides.{nat_tests}
use Rattle.px_cells.proofs.Newest.{newest-at, newest-here}
use Rattle.px_world.specs.Shape.{WorldShape, has_key}
use Rattle.px_world.specs.World.{Absent, Fate, IsWorldDecided, Status, Undecided, Verified, World, Written, expected, is_there, is_undecided, is_written, live, st, state_at, top}
use Rattle.px_world.specs.Events.{Event, Begin, Mark, Write, Verify, End, Raise, Forget, Fix, Birth, Base, Ready, Stop, Verdict, Leave, ToVerify, ToRetire, ToErase, May, due, fixed, happens, is_at, set_stamp}
use Rattle.px_world.specs.Facts.{Kept}
use Rattle.px_world.specs.IndexCells.{Moves}
use Rattle.px_world.proofs.States.{state_at-same}
use Rattle.px_world.proofs.Steps.{set_stamp-below}
use Rattle.px_built.specs.Built.{HasBase, IsOfRun}

verified_cond : (b : Bool) (x : Status) → x ≡ Verified → cond b Verified x ≡ Verified
verified_cond true x h = refl
verified_cond false x h = h

both : (a c : Bool) → a ≡ true → c ≡ true → (a && c) ≡ true
both true c h g = g
both false c h g = h

off : (a c : Bool) → a ≡ false → (a && c) ≡ false
off true c h = (let z : true ≡ false = h in cc)
off false c h = refl

lt_not : (a b : ℕ) → b ≤ a → nat_lt a b ≡ false
lt_not a b l = grind (arith, nat_tests, l)

module _ {K S X A : Type 0} (n : WorldShape K S X A) (w : World K S X) where
  -- the changes at or below the birth stay as they are
  module _ (t : ℕ) (later : w.birth < t) (f : Fate) (fresh : S) where
    state_below : (new : ℕ → S) → ((s : ℕ) → s ≤ w.birth → new s ≡ w.new s) → state_at w.base (λ s. is_written (set_stamp t f w.fate s)) new w.birth ≡ st w w.birth
    state_below new same = state_at-same w.base (λ s. is_written (w.fate s)) w.new (λ s. is_written (set_stamp t f w.fate s)) new w.birth (λ s l. ap is_written (set_stamp-below t f w.fate s (omega (arith, l, later)))) same

    decided_below : IsWorldDecided w w.birth → (s : ℕ) → s ≤ w.birth → is_undecided (set_stamp t f w.fate s) ≡ false
    decided_below d s l = ap is_undecided (set_stamp-below t f w.fate s (omega (arith, l, later))) ∙ d s l

  module _ (g : Kept n w) (h : HasBase n w) where
    later : (t : ℕ) → w.fate t ≡ Undecided → w.birth < t
    later t u = elim (cases_lt w.birth t) [ inl l ↦ l | inr l ↦ absurd (false≢true (sym (h.decided t l) ∙ ap is_undecided u)) ]

    repaired : (k : K) (t : ℕ) (v : Verdict) → HasBase n (fixed n w k t v)
    repaired k t Leave = h
    repaired k t ToVerify = record { decided = h.decided; version = λ l k' o. verified_cond (n.same_key k k' && nat_eq t w.birth) (w.status k' w.birth) (h.version l k' o) }
    repaired k t ToRetire = record { decided = h.decided; version = h.version }
    repaired k t ToErase = record { decided = h.decided; version = h.version }

    -- a version at the birth is the top there: nothing takes it away
    top_birth : (k : K) → w.status k w.birth ≡ Verified → top w k w.birth ≡ Some w.birth
    unfolding live
    top_birth k v =
        let m = g.no_marker_at_birth k w.birth (omega arith) in
        newest-at (w.fam k) (live w k) w.birth w.birth (newest-here (w.fam k) (live w k) w.birth m.0 (both (is_there (w.status k w.birth)) (not (w.ver k w.birth)) (ap is_there v) (ap not m.1)))

    compacted_version : (k : K) → w.raised ≤ w.birth → w.status k w.birth ≡ Verified → cond (nat_lt w.raised w.birth) (w.status k w.birth) (cond (is_at w.birth (top w k w.raised)) (w.status k w.birth) Absent) ≡ Verified
    compacted_version k l v = elim (cases_lt w.raised w.birth) [
      | inl m ↦ cond-true (nat_lt w.raised w.birth) (w.status k w.birth) _ (lt-ltb w.raised w.birth m) ∙ v
      | inr m ↦
          (let e : w.raised ≡ w.birth = omega (arith, l, m) in
          let at : is_at w.birth (top w k w.raised) ≡ true = ap (λ (p : ℕ). is_at w.birth (top w k p)) e ∙ (ap (is_at w.birth) (top_birth k v) ∙ eq-eqb w.birth w.birth refl) in
          cond-false (nat_lt w.raised w.birth) (w.status k w.birth) _ (lt_not w.raised w.birth m) ∙ (cond-true (is_at w.birth (top w k w.raised)) (w.status k w.birth) Absent at ∙ v))
    ]

    pub base_stays : (e : Event K A) → IsOfRun (Some e) → May n w e → HasBase n (happens n w e)
    base_stays (Begin t a) r m =
        let l = m.1.birth in
        let same = state_below t l Undecided (n.apply (expected w (t - 1)) a) (set_stamp t (n.apply (expected w (t - 1)) a) w.new) (λ s q. set_stamp-below t (n.apply (expected w (t - 1)) a) w.new s (omega (arith, q, l))) in
        record { decided = decided_below t l Undecided (n.apply (expected w (t - 1)) a) h.decided; version = λ low k o. h.version low k (ap (has_key n k) (sym same) ∙ o) }
    base_stays (Mark t) r m = record {
      decided = h.decided;
      version = λ low k o. cond-false _ _ _ (off (nat_eq t w.birth) _ (ne_eqb t w.birth (λ e. (let l = m.1.1.1 in absurd (omega (arith, e, l)))))) ∙ h.version low k o;
    }
    base_stays (Write t) r m =
        let l = later t m.1.0 in
        let same = state_below t l Written n.nothing w.new (λ s q. refl) in
        record { decided = decided_below t l Written n.nothing h.decided; version = λ low k o. h.version low k (ap (has_key n k) (sym same) ∙ o) }
    base_stays (Verify t) r m = record { decided = h.decided; version = λ low k o. verified_cond _ (w.status k w.birth) (h.version low k o) }
    base_stays (End t) r m = record { decided = h.decided; version = h.version }
    base_stays (Raise q) r m = record { decided = h.decided; version = λ low k o. h.version (let l = m.1.0 in omega (arith, l, low)) k o }
    base_stays (Forget false) r m = record { decided = h.decided; version = h.version }
    base_stays (Forget true) r m = record { decided = h.decided; version = λ low k o. compacted_version k low (h.version low k o) }
    base_stays (Fix k t) r m = repaired k t (due n w k t)
    base_stays (Birth b) r m = absurd r
    base_stays Base r m = record { decided = h.decided; version = λ low k o. verified_cond _ (w.status k w.birth) (h.version low k o) }
    base_stays Ready r m = record { decided = h.decided; version = h.version }
    base_stays (Stop o q) r m = absurd r

  -- and Base gives it
  pub base_gives : May n w Base → HasBase n (happens n w Base)
  base_gives m = record {
    decided = m.1.1.0;
    version = λ low k o. cond-true (nat_eq w.birth w.birth && has_key n k (st w w.birth)) Verified (w.status k w.birth) (both (nat_eq w.birth w.birth) (has_key n k (st w w.birth)) (eq-eqb w.birth w.birth refl) o);
  }

  pub moves_base : (g : Kept n w) (o : Option (Event K A)) (w' : World K S X) → IsOfRun o → Moves n o w w' → HasBase n w → HasBase n w'
  moves_base g None w' r m h = subst (HasBase n) (sym m) h
  moves_base g (Some e) w' r m h = subst (HasBase n) (sym m.1) (base_stays g h e r m.0)

  pub moves_given : (o : Option (Event K A)) (w' : World K S X) → o ≡ Some Base → Moves n o w w' → HasBase n w'
  moves_given o w' is m = (let b : Moves n (Some Base) w w' = subst (λ (x : Option (Event K A)). Moves n x w w') is m in subst (HasBase n) (sym b.1) (base_gives b.0))
