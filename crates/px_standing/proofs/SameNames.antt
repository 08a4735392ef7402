-- Names that are the same or differ.
use Rattle.std.proofs.Common.{◌≡◌, ◌≢◌, ◌<◌, ◌+◌, ◌⊎◌, inl, inr, ℕ, zero, suc, Bool, true, false, not, Option, None, Some, List, [], ◌∷◌, length, get_or, take, refl, sym, ap, subst, ◌∙◌, arith}
use Rattle.std.specs.List.{AllByRecursion}
use Rattle.std.specs.Option.{IfSome, is_some}
use Rattle.px_tables.specs.declared.table.Table.{Table}
use Rattle.px_schema.specs.declared.standing.Standing.{Standing}
use Rattle.px_standing.specs.Agrees.{IsUnused}
use Rattle.std.specs.Str.{bytes_eq}
use Rattle.std.proofs.lemmas.Bool.{cases_Bool, false≢true}
use Rattle.std.proofs.lemmas.Slice.Eq.{bytes_eq-Decides}
use Rattle.px_trail.specs.Answers.{IsAmong}

pub not_same : (xs ys a b : List ℕ) (r : Bool) → r ≡ bytes_eq xs ys → r ≡ false → xs ≡ a → ys ≡ b → a ≢ b
not_same xs ys a b r is off left right same = false≢true (sym off ∙ (is ∙ (bytes_eq-Decides xs ys).1 (left ∙ (same ∙ sym right))))

pub is_same : (xs ys a b : List ℕ) (r : Bool) → r ≡ bytes_eq xs ys → r ≡ true → xs ≡ a → ys ≡ b → a ≡ b
is_same xs ys a b r is on left right = sym left ∙ ((bytes_eq-Decides xs ys).0 (sym is ∙ on) ∙ right)

pub same_or_not : (a b : List ℕ) → (a ≡ b) ⊎ (a ≢ b)
same_or_not a b = elim (cases_Bool (bytes_eq a b)) [
  | inl e ↦ inl ((bytes_eq-Decides a b).0 e)
  | inr e ↦ inr (λ same. false≢true (sym e ∙ (bytes_eq-Decides a b).1 same))
]

-- one of them has the name, or none
pub named_or_not : {A : Type 0} (name_of : A → List ℕ) (name : List ℕ) (xs : List A) → ((x : A) × (IsAmong x xs × (name_of x ≡ name))) ⊎ AllByRecursion (λ x. name_of x ≢ name) xs
unfolding IsAmong
named_or_not name_of name [] = inr tt
named_or_not name_of name (x ∷ xs) = elim (same_or_not (name_of x) name) [
  | inl e ↦ inl (x, (inl refl, e))
  | inr e ↦ elim (named_or_not name_of name xs) [
    | inl k ↦ inl (k.0, (inr k.1.0, k.1.1))
    | inr k ↦ inr (e, k)
  ]
]

-- one more of those that were looked at
pub all_taken : {A : Type 0} (P : A → Type 0) (xs : List A) (i : ℕ) (x : A) → i < length xs → x ≡ get_or xs i x → AllByRecursion P (take i xs) → P x → AllByRecursion P (take (suc i) xs)
all_taken P [] i x l at all is = absurd (omega (arith, l))
all_taken P (y ∷ ys) zero x l at all is = (subst P at is, tt)
all_taken P (y ∷ ys) (suc i) x l at all is = (all.0, all_taken P ys i x (omega (arith, l)) at all.1 is)

pub all_next : {A : Type 0} (P : A → Type 0) (xs : List A) (i : ℕ) (x : A) → i < length xs → x ≡ get_or xs i x → AllByRecursion P (take i xs) → P x → AllByRecursion P (take (i + 1) xs)
all_next P xs i x l at all is = subst (λ (n : ℕ). AllByRecursion P (take n xs)) (let e : suc i ≡ i + 1 = omega arith in e) (all_taken P xs i x l at all is)

-- what holds of an element that was looked at
pub not_all : {A : Type 0} (P : A → Type 0) (xs : List A) (i : ℕ) (x : A) → i < length xs → x ≡ get_or xs i x → (P x → ⊥) → AllByRecursion P xs → ⊥
not_all P [] i x l at fails all = absurd (omega (arith, l))
not_all P (y ∷ ys) zero x l at fails all = fails (subst P (sym at) all.0)
not_all P (y ∷ ys) (suc i) x l at fails all = not_all P ys i x (omega (arith, l)) at fails all.1

not_at : {A : Type 0} (P : A → Type 0) (xs : List A) (i : ℕ) → i < length xs → ((d : A) → P (get_or xs i d) → ⊥) → AllByRecursion P xs → ⊥
not_at P [] i l fails all = absurd (omega (arith, l))
not_at P (y ∷ ys) zero l fails all = fails y all.0
not_at P (y ∷ ys) (suc i) l fails all = not_at P ys i (omega (arith, l)) fails all.1

-- a name that a table was found by
pub used : (s : Standing) (name : List ℕ) (o : Option ℕ) (v : Bool) → is_some o ≡ not v → v ≡ false → IfSome o (λ p. p < length s.tables) → IfSome o (λ p. (none : Table) → (get_or s.tables p none).name ≡ name) → IsUnused s name → ⊥
used s name None v is off found named u = false≢true (is ∙ ap not off)
used s name (Some p) v is off found named u = not_at (λ (t : Table). t.name ≢ name) s.tables p found (λ d other. other (named d)) u.tables
