-- What is told is a fold from the left: one law an entry. And legal trails, entry by entry.
use Rattle.std.proofs.Common.{ℕ, ◌≡◌, ◌≢◌, ◌<◌, ◌≤◌, ◌+◌, ◌-◌, max, ◌==◌, ◌&&◌, if◌then◌else◌, Bool, true, false, Option, None, Some, List, [], ◌∷◌, ◌++◌, refl, sym, ◌∙◌, ap, subst, arith, append_assoc, ◌⊎◌, inl, inr}
use Rattle.std.proofs.lemmas.Bool.Decides.{Decides-eqb, nat_tests}
use Rattle.std.proofs.lemmas.List.{append-nil}
use Rattle.px_values.specs.declared.row.Value.{Value}
use Rattle.px_values.specs.States.{Shape}
use Rattle.px_trail.specs.declared.entry.Entry.{Entry}
use Rattle.px_trail.specs.Batches.{Batch, batch_step, batch_from, batch_of, acknowledged, acknowledged_by}
use Rattle.px_trail.specs.Trail.{Base, Catalogue, acts_by, base_shape, calls_from, calls_of, catalogue_step, catalogue_from, catalogue_of, closing_step, closing_from, closing_call, horizon_step, horizon_from, horizon_of, last_step, last_from, last_of, missed_step, missed_from, missed_call, open_points, points_step, points_from, shape_step, shape_from, shape_of}
use Rattle.px_trail.specs.Legal.{IsLegal, MayCome}
use Rattle.px_trail.specs.States.{Dated, begun, begun_by}

-- 1. One entry more

pub batch_from-append : (t s : ℕ) (b : Option Batch) (xs ys : List Entry) → batch_from t s b (xs ++ ys) ≡ batch_from t s (batch_from t s b xs) ys
unfolding batch_from
batch_from-append t s b [] ys = refl
batch_from-append t s b (x ∷ xs) ys = batch_from-append t s (batch_step t s b x.seat x.act) xs ys

pub batch_of-snoc : (t s : ℕ) (es : List Entry) (e : Entry) → batch_of t s (es ++ e ∷ []) ≡ batch_step t s (batch_of t s es) e.seat e.act
unfolding batch_from
batch_of-snoc t s es e = batch_from-append t s None es (e ∷ [])

pub catalogue_from-append : (c : Catalogue) (xs ys : List Entry) → catalogue_from c (xs ++ ys) ≡ catalogue_from (catalogue_from c xs) ys
unfolding catalogue_from
catalogue_from-append c [] ys = refl
catalogue_from-append c (x ∷ xs) ys = catalogue_from-append (catalogue_step c x.act) xs ys

pub catalogue-snoc : (b : Base) (es : List Entry) (e : Entry) → catalogue_of b (es ++ e ∷ []) ≡ catalogue_step (catalogue_of b es) e.act
unfolding catalogue_from
catalogue-snoc b es e = catalogue_from-append (record { tables = b.tables; indexes = b.indexes; next = b.next }) es (e ∷ [])

pub shape_from-append : (t : ℕ) (shape : Shape) (xs ys : List Entry) → shape_from t shape (xs ++ ys) ≡ shape_from t (shape_from t shape xs) ys
unfolding shape_from
shape_from-append t shape [] ys = refl
shape_from-append t shape (x ∷ xs) ys = shape_from-append t (shape_step t shape x.act) xs ys

pub shape-snoc : (b : Base) (es : List Entry) (e : Entry) (t : ℕ) → shape_of b (es ++ e ∷ []) t ≡ shape_step t (shape_of b es t) e.act
unfolding shape_from
shape-snoc b es e t = shape_from-append t (base_shape (b.tables t)) es (e ∷ [])

pub last_from-append : (t l : ℕ) (xs ys : List Entry) → last_from t l (xs ++ ys) ≡ last_from t (last_from t l xs) ys
unfolding last_from
last_from-append t l [] ys = refl
last_from-append t l (x ∷ xs) ys = last_from-append t (last_step t l x.act) xs ys

pub last-snoc : (b : Base) (t : ℕ) (es : List Entry) (e : Entry) → last_of b t (es ++ e ∷ []) ≡ last_step t (last_of b t es) e.act
unfolding last_from
last-snoc b t es e = last_from-append t (b.last t) es (e ∷ [])

pub horizon_from-append : (t h : ℕ) (xs ys : List Entry) → horizon_from t h (xs ++ ys) ≡ horizon_from t (horizon_from t h xs) ys
unfolding horizon_from
horizon_from-append t h [] ys = refl
horizon_from-append t h (x ∷ xs) ys = horizon_from-append t (horizon_step t h x.act) xs ys

pub horizon-snoc : (b : Base) (t : ℕ) (es : List Entry) (e : Entry) → horizon_of b t (es ++ e ∷ []) ≡ horizon_step t (horizon_of b t es) e.act
unfolding horizon_from
horizon-snoc b t es e = horizon_from-append t (b.horizon t) es (e ∷ [])

pub points_from-append : (seat t s n : ℕ) (xs ys : List Entry) → points_from seat t s n (xs ++ ys) ≡ points_from seat t s (points_from seat t s n xs) ys
unfolding points_from
points_from-append seat t s n [] ys = refl
points_from-append seat t s n (x ∷ xs) ys = points_from-append seat t s (points_step seat t s n x.seat x.act) xs ys

pub points-snoc : (seat t s : ℕ) (es : List Entry) (e : Entry) → open_points seat t s (es ++ e ∷ []) ≡ points_step seat t s (open_points seat t s es) e.seat e.act
unfolding points_from
points-snoc seat t s es e = points_from-append seat t s 0 es (e ∷ [])

calls_from-append : (n : ℕ) (xs ys : List Entry) → calls_from n (xs ++ ys) ≡ calls_from (calls_from n xs) ys
unfolding calls_from
calls_from-append n [] ys = refl
calls_from-append n (x ∷ xs) ys = calls_from-append x.calls xs ys

pub calls-snoc : (es : List Entry) (e : Entry) → calls_of (es ++ e ∷ []) ≡ e.calls
unfolding calls_from
calls-snoc es e = calls_from-append 0 es (e ∷ [])

pub closing_from-append : (o : Option ℕ) (xs ys : List Entry) → closing_from o (xs ++ ys) ≡ closing_from (closing_from o xs) ys
unfolding closing_from
closing_from-append o [] ys = refl
closing_from-append o (x ∷ xs) ys = closing_from-append (closing_step o x.act) xs ys

pub closing-snoc : (es : List Entry) (e : Entry) → closing_call (es ++ e ∷ []) ≡ closing_step (closing_call es) e.act
unfolding closing_from
closing-snoc es e = closing_from-append None es (e ∷ [])

missed_from-append : (n : ℕ) (xs ys : List Entry) → missed_from n (xs ++ ys) ≡ missed_from (missed_from n xs) ys
unfolding missed_from
missed_from-append n [] ys = refl
missed_from-append n (x ∷ xs) ys = missed_from-append (missed_step n x.act) xs ys

pub missed-snoc : (es : List Entry) (e : Entry) → missed_call (es ++ e ∷ []) ≡ missed_step (missed_call es) e.act
unfolding missed_from
missed-snoc es e = missed_from-append 0 es (e ∷ [])

pub begun-append : (t : ℕ) (r : List Value) (xs ys : List Entry) → begun t r (xs ++ ys) ≡ begun t r xs ++ begun t r ys
unfolding begun
begun-append t r [] ys = refl
begun-append t r (x ∷ xs) ys = ap (λ l. begun_by t r x.act ++ l) (begun-append t r xs ys) ∙ sym (append_assoc (begun_by t r x.act) (begun t r xs) (begun t r ys))

pub begun-snoc : (t : ℕ) (r : List Value) (es : List Entry) (e : Entry) → begun t r (es ++ e ∷ []) ≡ begun t r es ++ begun_by t r e.act
unfolding begun
begun-snoc t r es e = begun-append t r es (e ∷ []) ∙ ap (λ l. begun t r es ++ l) (append-nil (begun_by t r e.act))

pub acknowledged-append : (t : ℕ) (xs ys : List Entry) → acknowledged t (xs ++ ys) ≡ acknowledged t xs ++ acknowledged t ys
unfolding acknowledged
acknowledged-append t [] ys = refl
acknowledged-append t (x ∷ xs) ys = ap (λ l. acknowledged_by t x.act ++ l) (acknowledged-append t xs ys) ∙ sym (append_assoc (acknowledged_by t x.act) (acknowledged t xs) (acknowledged t ys))

pub acknowledged-snoc : (t : ℕ) (es : List Entry) (e : Entry) → acknowledged t (es ++ e ∷ []) ≡ acknowledged t es ++ acknowledged_by t e.act
unfolding acknowledged
acknowledged-snoc t es e = acknowledged-append t es (e ∷ []) ∙ ap (λ l. acknowledged t es ++ l) (append-nil (acknowledged_by t e.act))

-- 2. Legal trails

no_middle : {A : Type 0} (x : A) (ys zs : List A) → [] ≡ ys ++ x ∷ zs → ⊥
no_middle x [] zs h = cc
no_middle x (y ∷ ys) zs h = cc

split_snoc : {A : Type 0} (es before after : List A) (e e' : A) → es ++ e ∷ [] ≡ before ++ e' ∷ after → ((es ≡ before) × (e ≡ e')) ⊎ ((rest : List A) × (es ≡ before ++ e' ∷ rest))
split_snoc [] [] after e e' h = inl (refl, cc)
split_snoc [] (y ∷ ys) after e e' h = let t : [] ≡ ys ++ e' ∷ after = cc in absurd (no_middle e' ys after t)
split_snoc (x ∷ xs) [] after e e' h = let t : x ≡ e' = cc in inr (xs, ap (λ z. z ∷ xs) t)
split_snoc (x ∷ xs) (y ∷ ys) after e e' h =
    let head : x ≡ y = cc in
    let tail : xs ++ e ∷ [] ≡ ys ++ e' ∷ after = cc in
    elim (split_snoc xs ys after e e' tail) [
      | inl s ↦ inl (ap (λ z. z ∷ xs) head ∙ ap (λ l. y ∷ l) s.0, s.1)
      | inr s ↦ inr (s.0, ap (λ z. z ∷ xs) head ∙ ap (λ l. y ∷ l) s.1)
    ]

pub legal-none : (b : Base) → IsLegal b []
legal-none b = record { each = λ before e after h. absurd (no_middle e before after h) }

pub legal-snoc : (b : Base) (es : List Entry) (e : Entry) → IsLegal b es → MayCome b es e → IsLegal b (es ++ e ∷ [])
legal-snoc b es e legal may = record {
  each = λ before e' after h.
      elim (split_snoc es before after e e' h) [
        | inl s ↦ subst (λ (l : List Entry). MayCome b l e') s.0 (subst (λ (z : Entry). MayCome b es z) s.1 may)
        | inr s ↦ legal.each before e' s.0 s.1
      ];
}

pub legal-prefix : (b : Base) (xs ys : List Entry) → IsLegal b (xs ++ ys) → IsLegal b xs
legal-prefix b xs ys legal = record {
  each = λ before e after h. legal.each before e (after ++ ys) (ap (λ (l : List Entry). l ++ ys) h ∙ append_assoc before (e ∷ after) ys);
}

-- what each entry of a legal trail keeps holds of the whole
pub legal-induct : (b : Base) (P : List Entry → Type 0) → ((es : List Entry) (e : Entry) → IsLegal b es → MayCome b es e → P es → P (es ++ e ∷ [])) → (pre rest : List Entry) → IsLegal b (pre ++ rest) → P pre → P (pre ++ rest)
legal-induct b P step pre [] legal p = subst P (sym (append-nil pre)) p
legal-induct b P step pre (e ∷ rest) legal p =
    let split : pre ++ e ∷ rest ≡ (pre ++ e ∷ []) ++ rest = sym (append_assoc pre (e ∷ []) rest) in
    subst P (sym split)
    (legal-induct b P step (pre ++ e ∷ []) rest (subst (λ (l : List Entry). IsLegal b l) split legal) (step pre e (legal-prefix b pre (e ∷ rest) legal) (legal.each pre e rest refl) p))

-- 3. Entries of other seats

-- the seat of an entry that is none of the seat's
pub acts_by-none : (seat : ℕ) (e : Entry) (es : List Entry) → acts_by seat (e ∷ es) ≡ [] → (e.seat ≢ seat) × (acts_by seat es ≡ [])
unfolding acts_by
acts_by-none seat e es =
    elim (e.seat == seat) as (λ v. (e.seat == seat) ≡ v → (if v then e.act ∷ acts_by seat es else acts_by seat es) ≡ [] → (e.seat ≢ seat) × (acts_by seat es ≡ [])) [
      | true ↦ λ h n. cc
      | false ↦ λ h n. ((λ same. let t : (e.seat == seat) ≡ true = (Decides-eqb e.seat seat).1 same in cc), n)
    ] refl
