-- What an event writes is its cells over those that stand.
use Rattle.std.proofs.Common.{◌≡◌, ℕ, Bool, true, false, cond, not, ◌&&◌, ◌||◌, Option, Some, None, refl, ap, sym, ◌∙◌, subst}
use Rattle.std.specs.Prelude.{nat_eq, nat_lt}
use Rattle.std.proofs.lemmas.Bool.{and_parts, eqb-true}
use Rattle.px_world.specs.Shape.{WorldShape, IsLawful, has_key}
use Rattle.px_world.specs.World.{Status, Absent, Unverified, Verified, World, st, horizon}
use Rattle.px_world.specs.Events.{Event, Mark, Verify, Fix, Base, Verdict, Leave, ToVerify, ToRetire, ToErase, happens, due, set_at, set_stamp, put_over, puts_of, dels_of, fixed}
use Rattle.px_world.specs.Facts.{Kept}
use Rattle.px_world.specs.IndexCells.{IndexCells, no_cells, over, world_index, with_index, put_of, del_of, mark_cells, close_cells, base_cells, fix_cells, status_over, Moves}
use Rattle.px_world.proofs.Runs.{step_kept}

-- equal functions make equal cells
pub same_cells : {K X : Type 0} (a b : IndexCells K X) → ((k : K) (s : ℕ) → a.status k s ≡ b.status k s) → ((k : K) (s c : ℕ) → a.put k s c ≡ b.put k s c) → ((k : K) (s c : ℕ) → a.del k s c ≡ b.del k s c) → ((k : K) (s : ℕ) → a.fam k s ≡ b.fam k s) → ((k : K) (s : ℕ) → a.ver k s ≡ b.ver k s) → a ≡ b
same_cells a b f g h p q = λ i. record { status = λ k s. f k s i; put = λ k s c. g k s c i; del = λ k s c. h k s c i; fam = λ k s. p k s i; ver = λ k s. q k s i }

-- no cells over others are the others
pub none_over : {K X : Type 0} (v : IndexCells K X) → over no_cells v ≡ v
none_over v = refl

pub with_cells : {K S X : Type 0} (w : World K S X) (a b : IndexCells K X) → a ≡ b → with_index w a ≡ with_index w b
with_cells w a b e = ap (with_index w) e

status_if : (b : Bool) (x y : Status) → (x ≡ Absent → ⊥) → cond b x y ≡ status_over (cond b x Absent) y
status_if false x y h = refl
status_if true Absent y h = absurd (h refl)
status_if true Unverified y h = refl
status_if true Verified y h = refl

unverified_there : Unverified ≡ Absent → ⊥
unverified_there e = cc

verified_there : Verified ≡ Absent → ⊥
verified_there e = cc

module _ {K S X A : Type 0} (n : WorldShape K S X A) where
  -- the cells of a version over others
  put_version : (s : S) (b : Bool) (old : ℕ → Option X) (c : ℕ) → cond b (puts_of n s old) old c ≡ put_over (put_of n s b c) (old c)
  put_version s false old c = refl
  put_version s true old c = by (nat_lt c n.columns)
    where
      by : (e : Bool) → cond e (put_over (n.col s c) (old c)) (old c) ≡ put_over (cond e (n.col s c) None) (old c)
      by true = refl
      by false = refl

  del_version : (s : S) (b : Bool) (old : ℕ → Bool) (c : ℕ) → cond b (dels_of n s old) old c ≡ (del_of n s b c || old c)
  del_version s false old c = refl
  del_version s true old c = refl

  pub mark_is : (w : World K S X) (t : ℕ) → happens n w (Mark t) ≡ with_index (record w { is_marked = set_stamp t true w.is_marked }) (over (mark_cells n t (w.old t) (w.new t)) (world_index w))
  mark_is w t = with_cells (record w { is_marked = set_stamp t true w.is_marked }) (world_index (happens n w (Mark t))) (over (mark_cells n t (w.old t) (w.new t)) (world_index w)) (same_cells _ _
      (λ k s. status_if (nat_eq t s && (has_key n k (w.new t) || has_key n k (w.old t))) Unverified (w.status k s) unverified_there)
      (λ k s c. put_version (w.new t) (nat_eq t s && has_key n k (w.new t)) (w.put k s) c)
      (λ k s c. del_version (w.new t) (nat_eq t s && has_key n k (w.new t)) (w.del k s) c)
      (λ k s. refl)
      (λ k s. refl))

  swap_and : (a b : Bool) → (a && b) ≡ (b && a)
  swap_and true true = refl
  swap_and true false = refl
  swap_and false true = refl
  swap_and false false = refl

  true_or : (b o : Bool) → cond b true o ≡ (b || o)
  true_or true o = refl
  true_or false o = refl

  pub verify_is : (w : World K S X) (t : ℕ) → happens n w (Verify t) ≡ with_index w (over (close_cells n t (w.old t) (w.new t)) (world_index w))
  verify_is w t = with_cells w (world_index (happens n w (Verify t))) (over (close_cells n t (w.old t) (w.new t)) (world_index w)) (same_cells _ _
      (λ k s. status_if (nat_eq t s && has_key n k (w.new t)) Verified (w.status k s) verified_there)
      (λ k s c. refl)
      (λ k s c. refl)
      (λ k s. true_or (nat_eq t s && (has_key n k (w.old t) && not (has_key n k (w.new t)))) (w.fam k s))
      (λ k s. refl))

  pub base_is : (w : World K S X) → happens n w Base ≡ with_index w (over (base_cells n w.birth (st w w.birth)) (world_index w))
  base_is w = with_cells w (world_index (happens n w Base)) (over (base_cells n w.birth (st w w.birth)) (world_index w)) (same_cells _ _
      (λ k s. status_if (nat_eq w.birth s && has_key n k (st w w.birth)) Verified (w.status k s) verified_there)
      (λ k s c. put_version (st w w.birth) (nat_eq w.birth s && has_key n k (st w w.birth)) (w.put k s) c)
      (λ k s c. del_version (st w w.birth) (nat_eq w.birth s && has_key n k (st w w.birth)) (w.del k s) c)
      (λ k s. refl)
      (λ k s. refl))

  module _ (lawful : IsLawful n) (w : World K S X) (k : K) (t : ℕ) where
    -- a value at the key and the stamp is that of the place
    at_place : {B C : Type 0} (k' : K) (s : ℕ) (b : Bool) → (n.same_key k k' && nat_eq t s) ≡ b → (g : K → ℕ → B) (f : B → C) (y : C) → cond b (f (g k t)) y ≡ cond b (f (g k' s)) y
    at_place k' s true e g f y = (let p = and_parts (n.same_key k k') (nat_eq t s) e in let q : k ≡ k' = lawful.key_is k k' p.0 in let r : t ≡ s = eqb-true t s p.1 in ap (λ u. f (g u t)) q ∙ ap (λ u. f (g k' u)) r)
    at_place k' s false e g f y = refl

    cond_at : {B : Type 0} (b : Bool) (f g : ℕ → B) (c : ℕ) → cond b f g c ≡ cond b (f c) (g c)
    cond_at true f g c = refl
    cond_at false f g c = refl

    verify_put : (s : S) (high : Bool) (k' : K) (u c : ℕ) → cond high w.put (set_at n k t (puts_of n s (w.put k t)) w.put) k' u c ≡ put_over (put_of n s (not high && (n.same_key k k' && nat_eq t u)) c) (w.put k' u c)
    verify_put s true k' u c = refl
    verify_put s false k' u c = cond_at (n.same_key k k' && nat_eq t u) (puts_of n s (w.put k t)) (w.put k' u) c ∙ (at_place k' u (n.same_key k k' && nat_eq t u) refl w.put (λ o. puts_of n s o c) (w.put k' u c) ∙ (sym (cond_at (n.same_key k k' && nat_eq t u) (puts_of n s (w.put k' u)) (w.put k' u) c) ∙ put_version s (n.same_key k k' && nat_eq t u) (w.put k' u) c))

    verify_del : (s : S) (high : Bool) (k' : K) (u c : ℕ) → cond high w.del (set_at n k t (dels_of n s (w.del k t)) w.del) k' u c ≡ (del_of n s (not high && (n.same_key k k' && nat_eq t u)) c || w.del k' u c)
    verify_del s true k' u c = refl
    verify_del s false k' u c = cond_at (n.same_key k k' && nat_eq t u) (dels_of n s (w.del k t)) (w.del k' u) c ∙ (at_place k' u (n.same_key k k' && nat_eq t u) refl w.del (λ o. dels_of n s o c) (w.del k' u c) ∙ (sym (cond_at (n.same_key k k' && nat_eq t u) (dels_of n s (w.del k' u)) (w.del k' u) c) ∙ del_version s (n.same_key k k' && nat_eq t u) (w.del k' u) c))

    pub fixed_is : (v : Verdict) → fixed n w k t v ≡ with_index w (over (fix_cells n (horizon w) (st w (horizon w)) k t v) (world_index w))
    fixed_is Leave = refl
    fixed_is ToVerify = with_cells w (world_index (fixed n w k t ToVerify)) (over (fix_cells n (horizon w) (st w (horizon w)) k t ToVerify) (world_index w)) (same_cells _ _
        (λ k' s. status_if (n.same_key k k' && nat_eq t s) Verified (w.status k' s) verified_there)
        (λ k' s c. verify_put (st w (horizon w)) (nat_lt (horizon w) t) k' s c)
        (λ k' s c. verify_del (st w (horizon w)) (nat_lt (horizon w) t) k' s c)
        (λ k' s. refl)
        (λ k' s. refl))
    fixed_is ToRetire = with_cells w (world_index (fixed n w k t ToRetire)) (over (fix_cells n (horizon w) (st w (horizon w)) k t ToRetire) (world_index w)) (same_cells _ _ (λ k' s. refl) (λ k' s c. refl) (λ k' s c. refl) (λ k' s. true_or (n.same_key k k' && nat_eq t s) (w.fam k' s)) (λ k' s. refl))
    fixed_is ToErase = with_cells w (world_index (fixed n w k t ToErase)) (over (fix_cells n (horizon w) (st w (horizon w)) k t ToErase) (world_index w)) (same_cells _ _ (λ k' s. refl) (λ k' s c. refl) (λ k' s c. refl) (λ k' s. refl) (λ k' s. true_or (n.same_key k k' && nat_eq t s) (w.ver k' s)))

    pub fix_is : happens n w (Fix k t) ≡ with_index w (over (fix_cells n (horizon w) (st w (horizon w)) k t (due n w k t)) (world_index w))
    fix_is = fixed_is (due n w k t)

  -- an event that may come keeps the facts, and none does so too
  pub moves_kept : (lawful : IsLawful n) (e : Option (Event K A)) (w w' : World K S X) → Moves n e w w' → Kept n w → Kept n w'
  moves_kept lawful None w w' m g = subst (Kept n) (sym m) g
  moves_kept lawful (Some e) w w' m g = subst (Kept n) (sym m.1) (step_kept n lawful w e g m.0)
