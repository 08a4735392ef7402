-- A table and a folder with an index less.
use Rattle.std.proofs.Common.{◌≡◌, ◌≢◌, ◌<◌, ◌≤◌, inl, inr, ℕ, zero, suc, Bool, true, false, Some, None, List, [], ◌∷◌, length, get_or, refl, sym, ap, subst, ◌∙◌, arith}
use Rattle.std.specs.Prelude.{filter, if◌then◌else◌, not, ◌==◌}
use Rattle.std.specs.List.{AllByRecursion}
use Rattle.std.proofs.lemmas.Bool.{cases_eq, eq-eqb, ne_eqb, false≢true}
use Rattle.px_outside.specs.Parts.{AreDistinct, HasNone}
use Rattle.px_tables.specs.declared.index.Index.{Index}
use Rattle.px_trail.specs.declared.entry.Entry.{Entry}
use Rattle.px_indexed.specs.Kept.{IndexKept}
use Rattle.px_indexed.specs.Worlds.{Indexed}
use Rattle.px_groupworld.specs.Group.{GroupData, GroupKept, IndexPart, OpenBatch, TableForm, as_index, no_part}
use Rattle.px_schema.specs.Stands.{other_indexes}
use Rattle.px_recovery.specs.Tables.{index_in, indexes_of, number_of_index}
use Rattle.px_recovery.proofs.Lookups.{index_first, index_later}

-- ---- places of a list that is filtered

abbrev first_if : {A : Type 0} → Bool → A → List A → List A
first_if c x l = if c then x ∷ l else l

-- an element that is kept
abbrev pub IsFrom : {A : Type 0} → (A → Bool) → List A → A → A → Type 0
IsFrom keep xs d p = (m : ℕ) × ((m < length xs) × ((p ≡ get_or xs m d) × (keep (get_or xs m d) ≡ true)))

from_by : {A : Type 0} (keep : A → Bool) (x : A) (xs : List A) (d : A) → ((k : ℕ) → k < length (filter keep xs) → IsFrom keep xs d (get_or (filter keep xs) k d)) → (c : Bool) → keep x ≡ c → (k : ℕ) → k < length (first_if c x (filter keep xs))
    → IsFrom keep (x ∷ xs) d (get_or (first_if c x (filter keep xs)) k d)
from_by keep x xs d rest true is zero l = (zero, (omega arith, (refl, is)))
from_by keep x xs d rest true is (suc k) l = let r = rest k (omega arith) in (suc r.0, ((let m = r.1.0 in omega arith), r.1.1))
from_by keep x xs d rest false is k l = let r = rest k l in (suc r.0, ((let m = r.1.0 in omega arith), r.1.1))

pub from_filter : {A : Type 0} (keep : A → Bool) (xs : List A) (d : A) (k : ℕ) → k < length (filter keep xs) → IsFrom keep xs d (get_or (filter keep xs) k d)
from_filter keep [] d k l = absurd (omega arith)
from_filter keep (x ∷ xs) d k l = from_by keep x xs d (λ m less. from_filter keep xs d m less) (keep x) refl k l

abbrev pub IsAt : {A : Type 0} → List A → A → A → Type 0
IsAt ys d p = (k : ℕ) × ((k < length ys) × (get_or ys k d ≡ p))

to_by : {A : Type 0} (keep : A → Bool) (x : A) (xs : List A) (d : A) → ((m : ℕ) → m < length xs → keep (get_or xs m d) ≡ true → IsAt (filter keep xs) d (get_or xs m d)) → (c : Bool) → keep x ≡ c → (m : ℕ) → m < length (x ∷ xs) → keep (get_or (x ∷ xs) m d) ≡ true
    → IsAt (first_if c x (filter keep xs)) d (get_or (x ∷ xs) m d)
to_by keep x xs d rest true is zero l a = (zero, (omega arith, refl))
to_by keep x xs d rest false is zero l a = absurd (false≢true (sym is ∙ a))
to_by keep x xs d rest true is (suc m) l a = let r = rest m (omega arith) a in (suc r.0, ((let n = r.1.0 in omega arith), r.1.1))
to_by keep x xs d rest false is (suc m) l a = rest m (omega arith) a

pub to_filter : {A : Type 0} (keep : A → Bool) (xs : List A) (d : A) (m : ℕ) → m < length xs → keep (get_or xs m d) ≡ true → IsAt (filter keep xs) d (get_or xs m d)
to_filter keep [] d m l a = absurd (omega arith)
to_filter keep (x ∷ xs) d m l a = to_by keep x xs d (λ n less b. to_filter keep xs d n less b) (keep x) refl m l a

swap_by : {A : Type 0} (p q : A → Bool) (x : A) (xs : List A) (a b : Bool) → p x ≡ a → q x ≡ b → filter p (filter q xs) ≡ filter q (filter p xs) → filter p (first_if b x (filter q xs)) ≡ filter q (first_if a x (filter p xs))
swap_by p q x xs true true is at rest = ap (λ (c : Bool). first_if c x (filter p (filter q xs))) is ∙ (ap (λ (l : List _). x ∷ l) rest ∙ sym (ap (λ (c : Bool). first_if c x (filter q (filter p xs))) at))
swap_by p q x xs true false is at rest = rest ∙ sym (ap (λ (c : Bool). first_if c x (filter q (filter p xs))) at)
swap_by p q x xs false true is at rest = ap (λ (c : Bool). first_if c x (filter p (filter q xs))) is ∙ rest
swap_by p q x xs false false is at rest = rest

pub filter_swap : {A : Type 0} (p q : A → Bool) (xs : List A) → filter p (filter q xs) ≡ filter q (filter p xs)
filter_swap p q [] = refl
filter_swap p q (x ∷ xs) = swap_by p q x xs (p x) (q x) refl refl (filter_swap p q xs)

-- ---- what is kept of a table without open batches

same_index : (f : TableForm) (low k m : ℕ) (p q : IndexPart) → p ≡ q → as_index f low [] k p ≡ as_index f low [] m q
same_index f low k m p q e = ap (as_index f low [] k) e

pub kept_fewer : (f : TableForm) (es : List Entry) (v : GroupData) (keep : IndexPart → Bool) → GroupKept f es v → v.opens ≡ [] → GroupKept f es (record v { indexes = filter keep v.indexes; opens = [] })
kept_fewer f es v keep g none = record {
  legal = g.legal;
  base = g.base;
  shape = g.shape;
  high = g.high;
  indexes = λ k l.
      let m = from_filter keep v.indexes no_part k l in
      let was : IndexKept f.rows.shape f.base es f.id.0 v.high (as_index f v.low [] m.0 (get_or v.indexes m.0 no_part)) =
      subst (λ (os : List OpenBatch). IndexKept f.rows.shape f.base es f.id.0 v.high (as_index f v.low os m.0 (get_or v.indexes m.0 no_part))) none (g.indexes m.0 m.1.0) in
      subst (λ (y : Indexed). IndexKept f.rows.shape f.base es f.id.0 v.high y) (same_index f v.low m.0 k (get_or v.indexes m.0 no_part) (get_or (filter keep v.indexes) k no_part) (sym m.1.1.0)) was;
  told = g.told;
  low = g.low;
  own = λ k l. (let m = from_filter keep v.indexes no_part k l in subst (λ (p : IndexPart). p.horizon ≤ v.high) (sym m.1.1.0) (g.own m.0 m.1.0));
  begun = tt;
  apart = tt;
}

-- ---- what stands without the index of a number

gone_if : (x : Index) (xs : List Index) (n : ℕ) (c : Bool) → (x.id.0 == n) ≡ c → other_indexes n (x ∷ xs) ≡ (if not c then x ∷ other_indexes n xs else other_indexes n xs)
gone_if x xs n c is = ap (λ (b : Bool). if not b then x ∷ other_indexes n xs else other_indexes n xs) is

pub index_gone_here : (xs : List Index) (n q : ℕ) → n ≡ q → index_in (other_indexes n xs) q ≡ None
unfolding index_in
index_gone_here [] n q same = refl
index_gone_here (x ∷ xs) n q same = elim (cases_eq x.id.0 n) [
  | inl e ↦ ap (λ (l : List Index). index_in l q) (gone_if x xs n true (eq-eqb x.id.0 n e)) ∙ index_gone_here xs n q same
  | inr e ↦ ap (λ (l : List Index). index_in l q) (gone_if x xs n false (ne_eqb x.id.0 n e)) ∙ (index_later x (other_indexes n xs) q (λ is. e (is ∙ sym same)) ∙ index_gone_here xs n q same)
]

pub index_gone_other : (xs : List Index) (n q : ℕ) → n ≢ q → index_in (other_indexes n xs) q ≡ index_in xs q
unfolding index_in
index_gone_other [] n q other = refl
index_gone_other (x ∷ xs) n q other = elim (cases_eq x.id.0 n) [
  | inl e ↦ ap (λ (l : List Index). index_in l q) (gone_if x xs n true (eq-eqb x.id.0 n e)) ∙ (index_gone_other xs n q other ∙ sym (index_later x xs q (λ is. other (sym e ∙ is))))
  | inr e ↦ ap (λ (l : List Index). index_in l q) (gone_if x xs n false (ne_eqb x.id.0 n e)) ∙ (elim (cases_eq x.id.0 q) [
    | inl here ↦ index_first x (other_indexes n xs) q here ∙ sym (index_first x xs q here)
    | inr there ↦ index_later x (other_indexes n xs) q there ∙ (index_gone_other xs n q other ∙ sym (index_later x xs q there))
  ])
]

-- where it is of another table nothing changes
pub indexes_gone_other : (q n : ℕ) (xs : List Index) → AllByRecursion (λ (x : Index). x.id.0 ≡ n → x.table.0 ≢ q) xs → indexes_of q (other_indexes n xs) ≡ indexes_of q xs
indexes_gone_other q n [] all = refl
indexes_gone_other q n (x ∷ xs) all = elim (cases_eq x.id.0 n) [
  | inl e ↦
      ap (indexes_of q) (gone_if x xs n true (eq-eqb x.id.0 n e))
      ∙ (indexes_gone_other q n xs all.1 ∙ sym (ap (λ (b : Bool). if b then x ∷ indexes_of q xs else indexes_of q xs) (ne_eqb x.table.0 q (all.0 e))))
  | inr e ↦ ap (indexes_of q) (gone_if x xs n false (ne_eqb x.id.0 n e)) ∙ ap (λ (l : List Index). if x.table.0 == q then x ∷ l else l) (indexes_gone_other q n xs all.1)
]

none_is : (n : ℕ) (P : Index → Type 0) (xs : List Index) → HasNone number_of_index n xs → AllByRecursion (λ (x : Index). x.id.0 ≡ n → P x) xs
none_is n P [] none = tt
none_is n P (x ∷ xs) none = ((λ is. absurd (none.0 is)), none_is n P xs none.1)

-- only the index that is found has the number
pub one_is : (n : ℕ) (P : Index → Type 0) (xs : List Index) (z : Index) → index_in xs n ≡ Some z → AreDistinct number_of_index xs → P z → AllByRecursion (λ (x : Index). x.id.0 ≡ n → P x) xs
unfolding index_in
one_is n P [] z found once holds = tt
one_is n P (x ∷ xs) z found once holds = elim (cases_eq x.id.0 n) [
  | inl e ↦ ((λ is. (let same : x ≡ z = (let k : Some x ≡ Some z = sym (index_first x xs n e) ∙ found in cc) in subst P (sym same) holds)), none_is n P xs (subst (λ (m : ℕ). HasNone number_of_index m xs) e once.0))
  | inr e ↦ ((λ is. absurd (e is)), one_is n P xs z (sym (index_later x xs n e) ∙ found) once.1 holds)
]
