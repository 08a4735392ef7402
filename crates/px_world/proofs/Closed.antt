-- The marks of a change that are closed stay so until it has ended.
use Rattle.std.proofs.Common.{◌≡◌, ℕ, ◌<◌, ◌-◌, Bool, true, false, cond, not, ◌&&◌, sym, ◌∙◌, refl, ap, subst, inl, inr}
use Rattle.std.specs.Prelude.{nat_eq, nat_lt}
use Rattle.std.proofs.lemmas.Bool.{cases_lt, cond-true, cond-false, eq-eqb, ne_eqb, lt-ltb}
use Rattle.px_world.specs.Shape.{WorldShape, has_key}
use Rattle.px_world.specs.World.{Unbegun, Undecided, Written, Status, Verified, World, expected}
use Rattle.px_world.specs.Events.{Event, Begin, Mark, Write, Verify, End, Raise, Forget, Fix, Birth, Base, Ready, Stop, Verdict, Leave, ToVerify, ToRetire, ToErase, happens, fixed, due, May}
use Rattle.px_world.specs.Facts.{Kept}
use Rattle.px_world.specs.Closed.{IsClosed, Closed, IsNoBirth}
use Rattle.px_world.proofs.Steps.{set_stamp-below}

verified_cond : (b : Bool) (x : Status) → x ≡ Verified → cond b Verified x ≡ Verified
verified_cond true x h = refl
verified_cond false x h = h

true_cond : (b x : Bool) → x ≡ true → cond b true x ≡ true
true_cond true x h = refl
true_cond false x h = h

both : (a c : Bool) → a ≡ true → c ≡ true → (a && c) ≡ true
both true c h g = g
both false c h g = h

off : (a c : Bool) → a ≡ false → (a && c) ≡ false
off true c h = (let z : true ≡ false = h in cc)
off false c h = refl

module _ {K S X A : Type 0} (n : WorldShape K S X A) (w : World K S X) (t : ℕ) where
  pub verify_closes : Closed n (happens n w (Verify t)) t
  verify_closes = record {
    new_verified = λ k h. cond-true _ _ _ (both (nat_eq t t) (has_key n k (w.new t)) (eq-eqb t t refl) h);
    old_retired = λ k h g. cond-true _ _ _ (both (nat_eq t t) (has_key n k (w.old t) && not (has_key n k (w.new t))) (eq-eqb t t refl) (both (has_key n k (w.old t)) _ h (ap not g)));
  }

  module _ (g : Kept n w) (written : w.fate t ≡ Written) (running : w.is_ended t ≡ false) (c : Closed n w t) where
    low : w.raised < t
    low = g.raised_ended t written running

    repaired : (k : K) (s : ℕ) (v : Verdict) → Closed n (fixed n w k s v) t
    repaired k s Leave = c
    repaired k s ToVerify = record { new_verified = λ k' h. verified_cond (n.same_key k k' && nat_eq s t) (w.status k' t) (c.new_verified k' h); old_retired = c.old_retired }
    repaired k s ToRetire = record { new_verified = c.new_verified; old_retired = λ k' h e. true_cond (n.same_key k k' && nat_eq s t) (w.fam k' t) (c.old_retired k' h e) }
    repaired k s ToErase = c

    pub closed_stays : (e : Event K A) → IsNoBirth e → May n w e → Closed n (happens n w e) t
    closed_stays (Begin s a) b m =
        (let l : t < s = elim (cases_lt t s) [ inl l ↦ l | inr l ↦ (let z : Unbegun ≡ Written = sym (m.1.changes t l) ∙ written in cc) ] in
        let o : (happens n w (Begin s a)).old t ≡ w.old t = set_stamp-below s (expected w (s - 1)) w.old t l in
        let v : (happens n w (Begin s a)).new t ≡ w.new t = set_stamp-below s (n.apply (expected w (s - 1)) a) w.new t l in
        subst (λ x. IsClosed n x ((happens n w (Begin s a)).old t) (λ k. w.status k t) (λ k. w.fam k t)) (sym v) (subst (λ x. IsClosed n (w.new t) x (λ k. w.status k t) (λ k. w.fam k t)) (sym o) c))
    closed_stays (Mark s) b m = record {
      new_verified = λ k h. cond-false _ _ _ (off (nat_eq s t) _ (ne_eqb s t (λ e. (let z : Undecided ≡ Written = sym m.1.0 ∙ (ap w.fate e ∙ written) in cc)))) ∙ c.new_verified k h;
      old_retired = c.old_retired;
    }
    closed_stays (Write s) b m = c
    closed_stays (Verify s) b m = record { new_verified = λ k h. verified_cond _ (w.status k t) (c.new_verified k h); old_retired = λ k h e. true_cond _ (w.fam k t) (c.old_retired k h e) }
    closed_stays (End s) b m = c
    closed_stays (Raise h) b m = c
    closed_stays (Forget false) b m = c
    closed_stays (Forget true) b m = record {
      new_verified = λ k h. cond-true (nat_lt w.raised t) (w.status k t) _ (lt-ltb w.raised t low) ∙ c.new_verified k h;
      old_retired = λ k h e. both (nat_lt w.raised t) (w.fam k t) (lt-ltb w.raised t low) (c.old_retired k h e);
    }
    closed_stays (Fix k s) b m = repaired k s (due n w k s)
    closed_stays (Birth s) b m = absurd b
    closed_stays Base b m = record { new_verified = λ k h. verified_cond _ (w.status k t) (c.new_verified k h); old_retired = c.old_retired }
    closed_stays Ready b m = c
    closed_stays (Stop o h) b m = c
