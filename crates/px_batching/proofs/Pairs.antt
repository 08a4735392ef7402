-- The open batches of a table and what is known of them, side by side.
use Rattle.std.proofs.Common.{◌≡◌, ℕ, zero, suc, ◌<◌, ◌≤◌, true, false, not, ◌||◌, map, length, get_or, set, remove, slice_get, Some, List, [], ◌∷◌, refl, ap, sym, subst, arith}
use Rattle.std.specs.Prelude.{nat_eq}
use Rattle.std.specs.List.{AllByRecursion}
use Rattle.std.proofs.lemmas.Bool.{ne_eqb, eq-eqb}
use Rattle.px_trail.specs.declared.entry.Entry.{Entry}
use Rattle.px_openbatches.specs.Pending.{AreStampsRisingFrom, HeldBatch, held_ended, is_in}
use Rattle.px_phases.specs.Batch.{AreHeldAs, IsHeldAs}
use Rattle.px_tablesteps.specs.Kept.{no_held}
use Rattle.px_group.specs.Group.{AreInPhase, IsInPhase, batch_in}
use Rattle.px_group.specs.declared.group.Begun.{Begun}

-- 1. Pairs

-- the batch is the one that is known, and in the phase that the trail tells
abbrev pub IsTied : List Entry → ℕ → Begun → HeldBatch → Type 0
IsTied es t x h = IsHeldAs x.batch h × IsInPhase es t x h

abbrev pub AreTied : List Entry → ℕ → List Begun → List HeldBatch → Type 0
AreTied es t [] [] = Unit {0}
AreTied es t [] (h ∷ hs) = ⊥
AreTied es t (x ∷ xs) [] = ⊥
AreTied es t (x ∷ xs) (h ∷ hs) = IsTied es t x h × AreTied es t xs hs

pub to_tied : (es : List Entry) (t : ℕ) (xs : List Begun) (hs : List HeldBatch) → AreHeldAs (map batch_in xs) hs → AreInPhase es t xs hs → AreTied es t xs hs
to_tied es t [] [] a p = tt
to_tied es t [] (h ∷ hs) a p = a
to_tied es t (x ∷ xs) [] a p = a
to_tied es t (x ∷ xs) (h ∷ hs) a p = ((a.0, p.0), to_tied es t xs hs a.1 p.1)

pub tied_held : (es : List Entry) (t : ℕ) (xs : List Begun) (hs : List HeldBatch) → AreTied es t xs hs → AreHeldAs (map batch_in xs) hs
tied_held es t [] [] a = tt
tied_held es t [] (h ∷ hs) a = a
tied_held es t (x ∷ xs) [] a = a
tied_held es t (x ∷ xs) (h ∷ hs) a = (a.0.0, tied_held es t xs hs a.1)

pub tied_phases : (es : List Entry) (t : ℕ) (xs : List Begun) (hs : List HeldBatch) → AreTied es t xs hs → AreInPhase es t xs hs
tied_phases es t [] [] a = tt
tied_phases es t [] (h ∷ hs) a = tt
tied_phases es t (x ∷ xs) [] a = tt
tied_phases es t (x ∷ xs) (h ∷ hs) a = (a.0.1, tied_phases es t xs hs a.1)

pub tied_at : (es : List Entry) (t : ℕ) (xs : List Begun) (hs : List HeldBatch) → AreTied es t xs hs → (m : ℕ) (x : Begun) → slice_get xs m ≡ Some x → (m < length hs) × IsTied es t x (get_or hs m no_held)
tied_at es t [] [] a m x e = cc
tied_at es t [] (h ∷ hs) a m x e = absurd a
tied_at es t (y ∷ xs) [] a m x e = absurd a
tied_at es t (y ∷ xs) (h ∷ hs) a zero x e = (omega arith, (let q : y ≡ x = cc in subst (λ (z : Begun). IsTied es t z h) q a.0))
tied_at es t (y ∷ xs) (h ∷ hs) a (suc m) x e = (let r = tied_at es t xs hs a.1 m x e in ((let l = r.0 in omega arith), r.1))

-- one pair goes on, without an entry
pub tied_set : (es : List Entry) (t : ℕ) (xs : List Begun) (hs : List HeldBatch) → AreTied es t xs hs → (m : ℕ) (x : Begun) (h : HeldBatch) → IsTied es t x h → AreTied es t (set xs m x) (set hs m h)
tied_set es t [] [] a m x h p = tt
tied_set es t [] (k ∷ hs) a m x h p = absurd a
tied_set es t (y ∷ xs) [] a m x h p = absurd a
tied_set es t (y ∷ xs) (k ∷ hs) a zero x h p = (p, a.1)
tied_set es t (y ∷ xs) (k ∷ hs) a (suc m) x h p = (a.0, tied_set es t xs hs a.1 m x h p)

-- 2. No other has the stamp

abbrev pub IsAlone : ℕ → ℕ → List HeldBatch → Type 0
IsAlone s m [] = Unit {0}
IsAlone s zero (h ∷ hs) = AllByRecursion (λ k. s ≡ k.stamp → ⊥) hs
IsAlone s (suc m) (h ∷ hs) = (s ≡ h.stamp → ⊥) × IsAlone s m hs

above : (q : ℕ) (hs : List HeldBatch) → AreStampsRisingFrom q hs → (p : ℕ) → p ≤ q → AllByRecursion (λ (k : HeldBatch). p < k.stamp) hs
above q [] r p l = tt
above q (h ∷ hs) r p l = ((let m = r.0 in omega arith), above h.stamp hs r.1 p (let m = r.0 in omega arith))

above_at : (q : ℕ) (hs : List HeldBatch) → AreStampsRisingFrom q hs → (m : ℕ) → m < length hs → q < (get_or hs m no_held).stamp
above_at q [] r m l = absurd (omega arith)
above_at q (h ∷ hs) r zero l = r.0
above_at q (h ∷ hs) r (suc m) l = (let z = above_at h.stamp hs r.1 m (omega arith) in let o = r.0 in omega arith)

differ : (s : ℕ) (hs : List HeldBatch) → AllByRecursion (λ (k : HeldBatch). s < k.stamp) hs → AllByRecursion (λ (k : HeldBatch). s ≡ k.stamp → ⊥) hs
differ s [] a = tt
differ s (h ∷ hs) a = ((λ e. (let l = a.0 in omega arith)), differ s hs a.1)

pub alone : (q : ℕ) (hs : List HeldBatch) → AreStampsRisingFrom q hs → (m : ℕ) → m < length hs → IsAlone (get_or hs m no_held).stamp m hs
alone q [] r m l = tt
alone q (h ∷ hs) r zero l = differ h.stamp hs (above h.stamp hs r.1 h.stamp (omega arith))
alone q (h ∷ hs) r (suc m) l = ((λ e. (let z = above_at h.stamp hs r.1 m (omega arith) in omega arith)), alone h.stamp hs r.1 m (omega arith))

-- 3. An entry of one batch

module _ (es es' : List Entry) (t s : ℕ) (f : HeldBatch → HeldBatch) (others : (x : Begun) (h : HeldBatch) → (s ≡ h.stamp → ⊥) → IsTied es t x h → IsTied es' t x (f h)) where
  tied_all : (xs : List Begun) (hs : List HeldBatch) → AreTied es t xs hs → AllByRecursion (λ (k : HeldBatch). s ≡ k.stamp → ⊥) hs → AreTied es' t xs (map f hs)
  tied_all [] [] a n = tt
  tied_all [] (h ∷ hs) a n = absurd a
  tied_all (x ∷ xs) [] a n = absurd a
  tied_all (x ∷ xs) (h ∷ hs) a n = (others x h n.0 a.0, tied_all xs hs a.1 n.1)

  pub tied_map : (xs : List Begun) (hs : List HeldBatch) → AreTied es t xs hs → (m : ℕ) (x : Begun) → IsAlone s m hs → IsTied es' t x (f (get_or hs m no_held)) → AreTied es' t (set xs m x) (map f hs)
  tied_map [] [] a m x n p = tt
  tied_map [] (h ∷ hs) a m x n p = absurd a
  tied_map (y ∷ xs) [] a m x n p = absurd a
  tied_map (y ∷ xs) (h ∷ hs) a zero x n p = (p, tied_all xs hs a.1 n)
  tied_map (y ∷ xs) (h ∷ hs) a (suc m) x n p = (others y h n.0 a.0, tied_map xs hs a.1 m x n.1 p)

module _ (es es' : List Entry) (t s : ℕ) (others : (x : Begun) (h : HeldBatch) → (s ≡ h.stamp → ⊥) → IsTied es t x h → IsTied es' t x h) where
  kept_all : (xs : List Begun) (hs : List HeldBatch) → AreTied es t xs hs → AllByRecursion (λ (k : HeldBatch). s ≡ k.stamp → ⊥) hs → AreTied es' t xs (held_ended s hs)
  kept_all [] [] a n = tt
  kept_all [] (h ∷ hs) a n = absurd a
  kept_all (x ∷ xs) [] a n = absurd a
  kept_all (x ∷ xs) (h ∷ hs) a n =
      (let v : not (nat_eq h.stamp s) ≡ true = ap not (ne_eqb h.stamp s (λ e. n.0 (sym e))) in
      let z = kept_all xs hs a.1 n.1 in
      let o = others x h n.0 a.0 in
      rw v (o, z))

  -- the batch is let go
  pub tied_removed : (xs : List Begun) (hs : List HeldBatch) → AreTied es t xs hs → (m : ℕ) → IsAlone s m hs → (get_or hs m no_held).stamp ≡ s → m < length hs → AreTied es' t (remove xs m) (held_ended s hs)
  tied_removed [] [] a m n e l = absurd (omega arith)
  tied_removed [] (h ∷ hs) a m n e l = absurd a
  tied_removed (x ∷ xs) [] a m n e l = absurd a
  tied_removed (x ∷ xs) (h ∷ hs) a zero n e l =
      (let v : not (nat_eq h.stamp s) ≡ false = ap not (eq-eqb h.stamp s e) in
      let z = kept_all xs hs a.1 n in
      rw v z)
  tied_removed (x ∷ xs) (h ∷ hs) a (suc m) n e l =
      (let v : not (nat_eq h.stamp s) ≡ true = ap not (ne_eqb h.stamp s (λ q. n.0 (sym q))) in
      let z = tied_removed xs hs a.1 m n.1 e (omega arith) in
      let o = others x h n.0 a.0 in
      rw v (o, z))

-- 4. A known batch that has gone on keeps its stamp

pub rising_set : (q : ℕ) (hs : List HeldBatch) (m : ℕ) (h : HeldBatch) → h.stamp ≡ (get_or hs m no_held).stamp → AreStampsRisingFrom q hs → AreStampsRisingFrom q (set hs m h)
rising_set q [] m h e r = tt
rising_set q (k ∷ hs) zero h e r = ((let l = r.0 in omega arith), lower hs r.1)
  where
    lower : (ks : List HeldBatch) → AreStampsRisingFrom k.stamp ks → AreStampsRisingFrom h.stamp ks
    lower [] w = tt
    lower (z ∷ ks) w = ((let l = w.0 in omega arith), w.1)
rising_set q (k ∷ hs) (suc m) h e r = (r.0, rising_set k.stamp hs m h e r.1)

pub in_set : (u : ℕ) (hs : List HeldBatch) (m : ℕ) (h : HeldBatch) → h.stamp ≡ (get_or hs m no_held).stamp → is_in u (set hs m h) ≡ is_in u hs
in_set u [] m h e = refl
in_set u (k ∷ hs) zero h e = ap (λ (s : ℕ). nat_eq s u || is_in u hs) e
in_set u (k ∷ hs) (suc m) h e = ap (λ v. nat_eq k.stamp u || v) (in_set u hs m h e)

pub each_at : (P : HeldBatch → Type 0) (hs : List HeldBatch) (m : ℕ) → m < length hs → AllByRecursion P hs → P (get_or hs m no_held)
each_at P [] m l a = absurd (omega arith)
each_at P (h ∷ hs) zero l a = a.0
each_at P (h ∷ hs) (suc m) l a = each_at P hs m (omega arith) a.1

pub map_same : (hs : List HeldBatch) → map (λ (h : HeldBatch). h) hs ≡ hs
map_same [] = refl
map_same (h ∷ hs) = ap (λ (l : List HeldBatch). h ∷ l) (map_same hs)
