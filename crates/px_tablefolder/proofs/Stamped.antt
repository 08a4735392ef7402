-- Which stamps the cells of a list have.
use Rattle.std.proofs.Common.{◌≡◌, ℕ, zero, suc, ◌<◌, ◌≤◌, Bool, true, false, cond, ◌&&◌, ◌||◌, Some, None, List, [], ◌∷◌, length, get_or, refl, ap, sym, ◌∙◌, inl, inr, arith}
use Rattle.std.specs.Prelude.{nat_eq}
use Rattle.std.specs.Cmp.Lexicographic.{pointwise}
use Rattle.std.proofs.lemmas.Slice.Eq.{bytes_eq-Decides}
use Rattle.std.proofs.lemmas.Bool.{cases_Bool, cases_lt, cond-true, cond-false, and_parts, both_ways, eqb-true, eq-eqb, false≢true}
use Rattle.px_cells.specs.declared.kind.CellKind.{CellKind}
use Rattle.px_cells.specs.Kind.{code_of}
use Rattle.px_cells.specs.CellData.{CellData}
use Rattle.px_cells.specs.Contents.{stands_at, value_at}
use Rattle.px_tablefolder.specs.Folder.{IndexFiles, last_cell, greatest_horizon, greatest_in_indexes, key_has_stamp, no_files}

both_true : (a b : Bool) → a ≡ true → b ≡ true → (a && b) ≡ true
both_true true b h g = g
both_true false b h g = h

or_left : (a b : Bool) → a ≡ true → (a || b) ≡ true
or_left true b h = refl
or_left false b h = absurd (false≢true h)

abbrev test : List ℕ → ℕ → CellData → Bool
test k s c = pointwise nat_eq c.key k && nat_eq c.stamp s

from_stands : (k : List ℕ) (q s : ℕ) (d : CellKind) (c : CellData) → stands_at k q s d c ≡ true → test k s c ≡ true
from_stands k q s d c h = (let a = and_parts (pointwise nat_eq c.key k) (nat_eq c.qualifier q && (nat_eq c.stamp s && nat_eq (code_of c.kind) (code_of d))) h in let b = and_parts (nat_eq c.qualifier q) (nat_eq c.stamp s && nat_eq (code_of c.kind) (code_of d)) a.1 in let e = and_parts (nat_eq c.stamp s) (nat_eq (code_of c.kind) (code_of d)) b.1 in both_true (pointwise nat_eq c.key k) (nat_eq c.stamp s) a.0 e.0)

to_stands : (k : List ℕ) (s : ℕ) (c : CellData) → test k s c ≡ true → stands_at k c.qualifier s c.kind c ≡ true
to_stands k s c h = (let a = and_parts _ _ h in both_true _ _ a.0 (both_true _ _ (eq-eqb c.qualifier c.qualifier refl) (both_true _ _ a.1 (eq-eqb (code_of c.kind) (code_of c.kind) refl))))

-- something is read at the stamp
pub record IsRead (cells : List CellData) (k : List ℕ) (s : ℕ) : Type 0 where
  pub qualifier : ℕ
  pub kind : CellKind
  pub value : List ℕ
  pub is : value_at cells k qualifier s kind ≡ Some value

pub stamp_read : (k : List ℕ) (s : ℕ) (cells : List CellData) → key_has_stamp k s cells ≡ true → IsRead cells k s
unfolding key_has_stamp value_at
stamp_read k s [] h = absurd (false≢true h)
stamp_read k s (c ∷ cells) h = elim (cases_Bool (test k s c)) [
  | inl e ↦ record { qualifier = c.qualifier; kind = c.kind; value = c.value; is = cond-true _ _ _ (to_stands k s c e) }
  | inr e ↦ later (stamp_read k s cells (sym (ap (λ (v : Bool). v || key_has_stamp k s cells) e) ∙ h))
]
  where
    later : IsRead cells k s → IsRead (c ∷ cells) k s
    later z = elim (cases_Bool (stands_at k z.qualifier s z.kind c)) [
      | inl e ↦ record { qualifier = z.qualifier; kind = z.kind; value = c.value; is = cond-true _ _ _ e }
      | inr e ↦ record { qualifier = z.qualifier; kind = z.kind; value = z.value; is = cond-false _ _ _ e ∙ z.is }
    ]

or_false : (a b : Bool) → (a || b) ≡ false → (a ≡ false) × (b ≡ false)
or_false true b h = absurd (false≢true (sym h))
or_false false b h = (refl, h)

-- nothing is read at a stamp that no cell has
pub none_read : (k : List ℕ) (s : ℕ) (cells : List CellData) → key_has_stamp k s cells ≡ false → (q : ℕ) (d : CellKind) → value_at cells k q s d ≡ None
unfolding key_has_stamp value_at
none_read k s [] h q d = refl
none_read k s (c ∷ cells) h q d =
    let z = or_false (test k s c) (key_has_stamp k s cells) h in
    elim (cases_Bool (stands_at k q s d c)) [
      | inl e ↦ absurd (both_ways _ z.0 (from_stands k q s d c e))
      | inr e ↦ cond-false _ _ _ e ∙ none_read k s cells z.1 q d
    ]

pub stamp_within : (k : List ℕ) (s : ℕ) (cells : List CellData) → key_has_stamp k s cells ≡ true → s ≤ last_cell cells
unfolding key_has_stamp last_cell
stamp_within k s [] h = absurd (false≢true h)
stamp_within k s (c ∷ cells) h = elim (cases_Bool (test k s c)) [
  | inl e ↦ (let q : c.stamp ≡ s = eqb-true c.stamp s (and_parts (pointwise nat_eq c.key k) (nat_eq c.stamp s) e).1 in omega arith)
  | inr e ↦ (let z = stamp_within k s cells (sym (ap (λ (v : Bool). v || key_has_stamp k s cells) e) ∙ h) in omega arith)
]

pub none_above : (cells : List CellData) (k : List ℕ) (q s : ℕ) (d : CellKind) → last_cell cells < s → value_at cells k q s d ≡ None
unfolding last_cell value_at
none_above [] k q s d l = refl
none_above (c ∷ cells) k q s d l = elim (cases_Bool (stands_at k q s d c)) [
  | inl e ↦ (let t = from_stands k q s d c e in let z : c.stamp ≡ s = eqb-true c.stamp s (and_parts (pointwise nat_eq c.key k) (nat_eq c.stamp s) t).1 in absurd (omega arith))
  | inr e ↦ cond-false _ _ _ e ∙ none_above cells k q s d (omega arith)
]

-- ---- the files of a table's indexes

pub horizon_within : (xs : List IndexFiles) (i : ℕ) → i < length xs → (get_or xs i no_files).horizon ≤ greatest_horizon xs
unfolding greatest_horizon
horizon_within [] i l = absurd (omega arith)
horizon_within (x ∷ xs) zero l = omega arith
horizon_within (x ∷ xs) (suc i) l = (let z = horizon_within xs i (omega arith) in omega arith)

pub numbers_within : (xs : List IndexFiles) (i : ℕ) → i < length xs → ((get_or xs i no_files).birth ≤ greatest_in_indexes xs) × (((get_or xs i no_files).horizon ≤ greatest_in_indexes xs) × (last_cell (get_or xs i no_files).cells ≤ greatest_in_indexes xs))
unfolding greatest_in_indexes
numbers_within [] i l = absurd (omega arith)
numbers_within (x ∷ xs) zero l = (omega arith, (omega arith, omega arith))
numbers_within (x ∷ xs) (suc i) l = (let z = numbers_within xs i (omega arith) in let a = z.0 in let b = z.1.0 in let c = z.1.1 in (omega arith, (omega arith, omega arith)))

pub horizons_numbers : (xs : List IndexFiles) → greatest_horizon xs ≤ greatest_in_indexes xs
unfolding greatest_horizon greatest_in_indexes
horizons_numbers [] = omega arith
horizons_numbers (x ∷ xs) = (let z = horizons_numbers xs in omega arith)

pub horizons_below : (xs : List IndexFiles) (h : ℕ) → ((i : ℕ) → i < length xs → (get_or xs i no_files).horizon ≤ h) → greatest_horizon xs ≤ h
unfolding greatest_horizon
horizons_below [] h a = omega arith
horizons_below (x ∷ xs) h a = (let y = a 0 (omega arith) in let z = horizons_below xs h (λ i l. a (suc i) (omega arith)) in omega arith)

-- no cell above a stamp from which nothing is read
pub cells_within : (cells : List CellData) (last : ℕ) → ((k : List ℕ) (q s : ℕ) (d : CellKind) → last < s → value_at cells k q s d ≡ None) → last_cell cells ≤ last
unfolding last_cell value_at
cells_within [] last a = omega arith
cells_within (c ∷ cells) last a =
    let here : c.stamp ≤ last = elim (cases_lt last c.stamp) [
      | inl l ↦ (let e : Some c.value ≡ None = sym (cond-true (stands_at c.key c.qualifier c.stamp c.kind c) (Some c.value) (value_at cells c.key c.qualifier c.stamp c.kind) (stands_here c)) ∙ a c.key c.qualifier c.stamp c.kind l in cc)
      | inr l ↦ l
    ] in
    let rest = cells_within cells last (λ k q s d l. later k q s d (a k q s d l)) in
    omega arith
  where
    stands_here : (c : CellData) → stands_at c.key c.qualifier c.stamp c.kind c ≡ true
    stands_here c = to_stands c.key c.stamp c (both_true _ _ ((bytes_eq-Decides c.key c.key).1 refl) (eq-eqb c.stamp c.stamp refl))

    later : (k : List ℕ) (q s : ℕ) (d : CellKind) → cond (stands_at k q s d c) (Some c.value) (value_at cells k q s d) ≡ None → value_at cells k q s d ≡ None
    later k q s d e = elim (cases_Bool (stands_at k q s d c)) [
      | inl t ↦ (let z : Some c.value ≡ None = sym (cond-true _ _ _ t) ∙ e in cc)
      | inr t ↦ sym (cond-false _ _ _ t) ∙ e
    ]

pub numbers_below : (xs : List IndexFiles) (last : ℕ) → ((i : ℕ) → i < length xs → ((get_or xs i no_files).birth ≤ last) × (((get_or xs i no_files).horizon ≤ last) × (last_cell (get_or xs i no_files).cells ≤ last))) → greatest_in_indexes xs ≤ last
unfolding greatest_in_indexes
numbers_below [] last a = omega arith
numbers_below (x ∷ xs) last a = (let y = a 0 (omega arith) in let b = y.0 in let c = y.1.0 in let d = y.1.1 in let z = numbers_below xs last (λ i l. a (suc i) (omega arith)) in omega arith)
