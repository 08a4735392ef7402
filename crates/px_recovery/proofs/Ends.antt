-- Lists with one element more at their end.
use Rattle.std.proofs.Common.{◌≡◌, ◌≢◌, ◌<◌, inl, inr, Option, ℕ, zero, suc, Bool, Some, List, [], ◌∷◌, ◌++◌, length, get_or, refl, sym, ap, ◌∙◌, arith}
use Rattle.std.specs.Prelude.{if◌then◌else◌, ◌==◌}
use Rattle.std.specs.List.{AllByRecursion}
use Rattle.std.proofs.lemmas.Bool.{cases_eq, eq-eqb, ne_eqb}
use Rattle.std.proofs.lemmas.List.{append-nil}
use Rattle.std.proofs.lemmas.List.Elements.{filter-append}
use Rattle.px_outside.specs.Parts.{AreDistinct, HasNone}
use Rattle.px_tables.specs.declared.index.Index.{Index}
use Rattle.px_schema.specs.Stands.{put_index}
use Rattle.px_recovery.specs.Tables.{index_in, indexes_of, number_of_index}
use Rattle.px_recovery.proofs.Lookups.{index_first, index_later}

pub get_end_old : {A : Type 0} (xs : List A) (y d : A) (q : ℕ) → q < length xs → get_or (xs ++ y ∷ []) q d ≡ get_or xs q d
get_end_old [] y d q l = absurd (omega arith)
get_end_old (x ∷ xs) y d zero l = refl
get_end_old (x ∷ xs) y d (suc q) l = get_end_old xs y d q (omega arith)

pub get_end_new : {A : Type 0} (xs : List A) (y d : A) (q : ℕ) → q ≡ length xs → get_or (xs ++ y ∷ []) q d ≡ y
get_end_new [] y d zero l = refl
get_end_new [] y d (suc q) l = absurd (omega arith)
get_end_new (x ∷ xs) y d zero l = absurd (omega arith)
get_end_new (x ∷ xs) y d (suc q) l = get_end_new xs y d q (omega arith)

pub none_end : {A : Type 0} (num : A → ℕ) (n : ℕ) (xs : List A) (y : A) → HasNone num n xs → num y ≢ n → HasNone num n (xs ++ y ∷ [])
none_end num n [] y none other = (other, tt)
none_end num n (x ∷ xs) y none other = (none.0, none_end num n xs y none.1 other)

pub distinct_end : {A : Type 0} (num : A → ℕ) (xs : List A) (y : A) → AreDistinct num xs → HasNone num (num y) xs → AreDistinct num (xs ++ y ∷ [])
distinct_end num [] y once none = (tt, tt)
distinct_end num (x ∷ xs) y once none = (none_end num (num x) xs y once.0 (λ same. none.0 (sym same)), distinct_end num xs y once.1 none.1)

-- ---- indexes

pub put_end : (xs : List Index) (y : Index) → HasNone number_of_index y.id.0 xs → put_index xs y ≡ xs ++ y ∷ []
put_end [] y none = refl
put_end (x ∷ xs) y none = ap (λ (c : Bool). if c then y ∷ xs else x ∷ put_index xs y) (ne_eqb x.id.0 y.id.0 none.0) ∙ ap (λ (l : List Index). x ∷ l) (put_end xs y none.1)

pub index_end_here : (xs : List Index) (y : Index) (q : ℕ) → y.id.0 ≡ q → HasNone number_of_index q xs → index_in (xs ++ y ∷ []) q ≡ Some y
index_end_here [] y q same none = index_first y [] q same
index_end_here (x ∷ xs) y q same none = index_later x (xs ++ y ∷ []) q none.0 ∙ index_end_here xs y q same none.1

pub index_end_other : (xs : List Index) (y : Index) (q : ℕ) → y.id.0 ≢ q → index_in (xs ++ y ∷ []) q ≡ index_in xs q
unfolding index_in
index_end_other [] y q other = index_later y [] q other
index_end_other (x ∷ xs) y q other = ap (λ (o : Option Index). if x.id.0 == q then Some x else o) (index_end_other xs y q other)

pub indexes_end_other : (t : ℕ) (xs : List Index) (y : Index) → y.table.0 ≢ t → indexes_of t (xs ++ y ∷ []) ≡ indexes_of t xs
indexes_end_other t xs y other =
    filter-append (λ (i : Index). i.table.0 == t) xs (y ∷ [])
    ∙ (ap (λ (c : Bool). indexes_of t xs ++ (if c then y ∷ [] else [])) (ne_eqb y.table.0 t other) ∙ append-nil (indexes_of t xs))

pub indexes_end_own : (t : ℕ) (xs : List Index) (y : Index) → y.table.0 ≡ t → indexes_of t (xs ++ y ∷ []) ≡ indexes_of t xs ++ y ∷ []
indexes_end_own t xs y own = filter-append (λ (i : Index). i.table.0 == t) xs (y ∷ []) ∙ ap (λ (c : Bool). indexes_of t xs ++ (if c then y ∷ [] else [])) (eq-eqb y.table.0 t own)

-- numbers below another

pub none_under : (num : Index → ℕ) (next n : ℕ) (xs : List Index) → ((i : Index) → AllByRecursion (λ (k : ℕ). k < next) (i.region ∷ i.id.0 ∷ []) → num i ≢ n) → AllByRecursion (λ (i : Index). AllByRecursion (λ (k : ℕ). k < next) (i.region ∷ i.id.0 ∷ [])) xs → HasNone num n xs
none_under num next n [] each all = tt
none_under num next n (i ∷ xs) each all = (each i all.0, none_under num next n xs each all.1)

-- an index that is found has its number, which was drawn
pub index_below : (next n : ℕ) (xs : List Index) (i : Index) → AllByRecursion (λ (i : Index). AllByRecursion (λ (k : ℕ). k < next) (i.region ∷ i.id.0 ∷ [])) xs → index_in xs n ≡ Some i → n < next
unfolding index_in
index_below next n [] i all found = absurd cc
index_below next n (x ∷ xs) i all found = elim (cases_eq x.id.0 n) [
  | inl same ↦ (let a = all.0.1.0 in omega (arith, same, a))
  | inr other ↦ index_below next n xs i all.1 (sym (index_later x xs n other) ∙ found)
]
