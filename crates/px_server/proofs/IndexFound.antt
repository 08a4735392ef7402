-- An index of a table among those that stand.
use Rattle.std.proofs.Common.{◌≡◌, ◌≢◌, ◌<◌, ◌⊎◌, inl, inr, ℕ, zero, suc, Bool, true, false, Some, List, [], ◌∷◌, length, get_or, refl, sym, ap, ◌∙◌, arith}
use Rattle.std.specs.List.{AllByRecursion}
use Rattle.std.specs.Prelude.{◌==◌, if◌then◌else◌}
use Rattle.std.proofs.lemmas.Bool.{cases_eq, eq-eqb, ne_eqb}
use Rattle.px_values.specs.declared.name.IndexId.{IndexId}
use Rattle.px_values.specs.declared.name.TableId.{TableId}
use Rattle.px_tables.specs.declared.index.Index.{Index}
use Rattle.px_trail.specs.Answers.{IsAmong}
use Rattle.px_trail.specs.Trail.{Base, catalogue_of, index_of}
use Rattle.px_trail.specs.declared.entry.Entry.{Entry}
use Rattle.px_schema.specs.declared.standing.Standing.{Standing}
use Rattle.px_recovery.specs.Tables.{index_in, number_of_index}
use Rattle.px_standing.specs.Agrees.{Agrees}
use Rattle.px_standing.proofs.Finder.{among_found}
use Rattle.px_standing.proofs.Looked.{index_finder}

-- one of these is the index of the table
abbrev pub HasIndexOf : List Index → TableId → IndexId → Type 0
HasIndexOf [] t i = ⊥
HasIndexOf (x ∷ xs) t i = ((x.id ≡ i) × (x.table ≡ t)) ⊎ HasIndexOf xs t i

among_index : (xs : List Index) (t : TableId) (i : IndexId) → HasIndexOf xs t i → (x : Index) × (IsAmong x xs × ((x.id ≡ i) × (x.table ≡ t)))
unfolding IsAmong
among_index [] t i has = absurd has
among_index (x ∷ xs) t i (inl own) = (x, (inl refl, own))
among_index (x ∷ xs) t i (inr later) = (let r = among_index xs t i later in (r.0, (inr r.1.0, r.1.1)))

-- one that stands at a place, or none
pub has_at : (xs : List Index) (t : TableId) (i : IndexId) (n : ℕ) → n < length xs → ((none : Index) → (get_or xs n none).id ≡ i) → ((none : Index) → (get_or xs n none).table ≡ t) → HasIndexOf xs t i
has_at [] t i n l id own = absurd (omega (arith, l))
has_at (y ∷ ys) t i zero l id own = inl (id y, own y)
has_at (y ∷ ys) t i (suc n) l id own = inr (has_at ys t i n (omega (arith, l)) id own)

pub has_none : (xs : List Index) (t : TableId) (i : IndexId) → AllByRecursion (λ (x : Index). (x.id ≡ i) × (x.table ≡ t) → ⊥) xs → HasIndexOf xs t i → ⊥
has_none [] t i all has = has
has_none (x ∷ xs) t i all (inl own) = all.0 own
has_none (x ∷ xs) t i all (inr later) = has_none xs t i all.1 later

if_true : {A : Type 0} (v : Bool) (a c : A) → v ≡ true → (if v then a else c) ≡ a
if_true true a c h = refl
if_true false a c h = absurd cc

if_false : {A : Type 0} (v : Bool) (a c : A) → v ≡ false → (if v then a else c) ≡ c
if_false true a c h = absurd cc
if_false false a c h = refl

pub id_is : (i j : IndexId) → i.0 ≡ j.0 → i ≡ j
id_is i j e = λ k. record { 0 = e k }

pub table_is : (t u : TableId) → t.0 ≡ u.0 → t ≡ u
table_is t u e = λ k. record { 0 = e k }

has_found : (xs : List Index) (t : TableId) (i : IndexId) (x : Index) → index_in xs i.0 ≡ Some x → x.table.0 ≡ t.0 → HasIndexOf xs t i
unfolding index_in
has_found [] t i x found own = absurd cc
has_found (y ∷ xs) t i x found own = elim (cases_eq y.id.0 i.0) [
  | inl e ↦
      (let one : Some y ≡ Some x = sym (if_true (y.id.0 == i.0) (Some y) (index_in xs i.0) (eq-eqb y.id.0 i.0 e)) ∙ found in
      let same : y ≡ x = cc in
      inl (id_is y.id i e, table_is y.table t (ap (λ (z : Index). z.table.0) same ∙ own)))
  | inr e ↦ inr (has_found xs t i x (sym (if_false (y.id.0 == i.0) (Some y) (index_in xs i.0) (ne_eqb y.id.0 i.0 e)) ∙ found) own)
]

-- what is found has its number
pub number_found : (xs : List Index) (n : ℕ) (y : Index) → index_in xs n ≡ Some y → y.id.0 ≡ n
unfolding index_in
number_found [] n y is = absurd cc
number_found (x ∷ xs) n y is = elim (cases_eq x.id.0 n) [
  | inl e ↦ (let one : Some x ≡ Some y = sym (if_true (x.id.0 == n) (Some x) (index_in xs n) (eq-eqb x.id.0 n e)) ∙ is in let same : x ≡ y = cc in sym (ap (λ (z : Index). z.id.0) same) ∙ e)
  | inr e ↦ number_found xs n y (sym (if_false (x.id.0 == n) (Some x) (index_in xs n) (ne_eqb x.id.0 n e)) ∙ is)
]

module _ (b : Base) (es : List Entry) (standing : Standing) (agrees : Agrees standing (catalogue_of b es)) (t : TableId) (i : IndexId) where
  -- the trail has the index
  pub stands_of : HasIndexOf standing.indexes t i → (x : Index) × ((index_of b es i.0 ≡ Some x) × (x.table.0 ≡ t.0))
  stands_of has =
      let x = among_index standing.indexes t i has in
      let number : x.0.id.0 ≡ i.0 = ap (λ (n : IndexId). n.0) x.1.1.0 in
      (x.0, (sym (agrees.indexes i.0) ∙ (ap (index_in standing.indexes) (sym number) ∙ among_found number_of_index index_in index_finder standing.indexes x.0 agrees.order.indexes x.1.0), ap (λ (u : TableId). u.0) x.1.1.1))

  -- or none of this table
  pub lacks_of : (HasIndexOf standing.indexes t i → ⊥) → (x : Index) → index_of b es i.0 ≡ Some x → x.table.0 ≢ t.0
  lacks_of not x is own = not (has_found standing.indexes t i x (agrees.indexes i.0 ∙ is) own)
