-- What tests of cells show.
use Rattle.std.proofs.Common.{◌≡◌, ℕ, zero, suc, ◌-◌, ◌<◌, ◌≤◌, Bool, true, ◌↔◌, IsTrue, Result, Ok, Err, IfOk, List, length, get_or, ap, sym, ◌∙◌, subst, inl, inr, arith}
use Rattle.std.specs.Prelude.{nat_eq, ◌||◌, [], ◌∷◌}
use Rattle.std.specs.List.{AllByRecursion, list_any}
use Rattle.std.specs.declared.alloc.AllocError.{AllocError}
use Rattle.std.proofs.lemmas.Bool.{cases_Bool, eqb-true}
use Rattle.px_cells.specs.declared.kind.CellKind.{CellKind}
use Rattle.px_cells.specs.declared.kind.CellKind.TheVariants.{Put}
use Rattle.px_cells.specs.CellData.{CellData}
use Rattle.px_cells.specs.Order.{IsAscending}
use Rattle.px_indexrow.specs.Form.{IsRightIndex}
use Rattle.px_rows.specs.Keys.{column_in}
use Rattle.px_tables.specs.declared.index.Index.{Index}
use Rattle.px_tables.specs.declared.table.Table.{Table}
use Rattle.px_values.specs.declared.column.ColType.{ColType}
use Rattle.px_cellshapes.specs.Keys.{AreRightKeys, FitsIncluded, FitsKeyPlace, IsRightIndexCell}
use Rattle.px_cellshapes.specs.Rows.{AreRightRows, FitsColumnCell, FitsPlace, IsRightRowCell}
use Rattle.px_cellshapes.specs.Values.{IsStored}
use Rattle.px_cellshapes.proofs.Each.{all_from_each, each_from_all}

-- 1. Answers that may want for memory

abbrev pub Shows : Result Bool AllocError → Type 0 → Type 0
Shows answer P = IfOk answer (λ b. IsTrue b ↔ P)

shows : {P Q : Type 0} (answer : Result Bool AllocError) → (P → Q) → (Q → P) → Shows answer P → Shows answer Q
shows (Ok b) f g h = (λ e. f (h.0 e), λ q. h.1 (g q))
shows (Err e) f g h = h

-- 2. Qualifiers

pub column_place : (t : Table) (q : ℕ) (d : CellKind) (v : List ℕ) (answer : Result Bool AllocError) → 2 ≤ q → Shows answer (FitsColumnCell t (q - 2) d v) → Shows answer (FitsPlace t q d v)
column_place t zero d v answer l h = absurd (omega arith)
column_place t (suc zero) d v answer l h = absurd (omega arith)
column_place t (suc (suc c)) d v answer l h = (let e : suc (suc c) - 2 ≡ c = omega arith in subst (λ (n : ℕ). Shows answer (FitsColumnCell t n d v)) e h)

pub included_place : (t : Table) (i : Index) (q : ℕ) (d : CellKind) (v : List ℕ) (answer : Result Bool AllocError) → 2 ≤ q → Shows answer (FitsIncluded t i (q - 2) d v) → Shows answer (FitsKeyPlace t i q d v)
included_place t i zero d v answer l h = absurd (omega arith)
included_place t i (suc zero) d v answer l h = absurd (omega arith)
included_place t i (suc (suc c)) d v answer l h = (let e : suc (suc c) - 2 ≡ c = omega arith in subst (λ (n : ℕ). Shows answer (FitsIncluded t i n d v)) e h)

-- 3. Included columns

-- a column that is among others stands at a place
pub place_among : (xs : List ℕ) (q : ℕ) → list_any (λ c. nat_eq c q) xs ≡ true → (k : ℕ) × (k < length xs) × (get_or xs k 0 ≡ q)
place_among [] q h = cc
place_among (x ∷ xs) q h = elim (cases_Bool (nat_eq x q)) [
  | inl e ↦ (0, omega arith, eqb-true x q e)
  | inr e ↦ (let later = place_among xs q (sym (ap (λ (b : Bool). b || list_any (λ c. nat_eq c q) xs) e) ∙ h) in (suc later.0, (let l = later.1 in omega arith), later.2))
]

pub included_within : (t : Table) (i : Index) (q : ℕ) → IsRightIndex t i → list_any (λ c. nat_eq c q) i.included ≡ true → q < length t.columns
included_within t i q right h = (let at = place_among i.included q h in subst (λ (c : ℕ). c < length t.columns) at.2 (right.within at.0 at.1))

pub stored_included : (t : Table) (i : Index) (q : ℕ) (d : CellKind) (v : List ℕ) (ty : ColType) (answer : Result Bool AllocError) → list_any (λ c. nat_eq c q) i.included ≡ true → d ≡ Put → ty ≡ (column_in t.columns q).column_type → Shows answer (IsStored ty v) → Shows answer (FitsIncluded t i q d v)
stored_included t i q d v ty answer h put same s = shows answer
    (λ p. record { included = h; stored = λ e. subst (λ (x : ColType). IsStored x v) same p })
    (λ f. subst (λ (x : ColType). IsStored x v) (sym same) (f.stored put))
    s

-- 4. Lists

pub rows_shown : (t : Table) (cells : List CellData) (answer : Result Bool AllocError) → IsAscending cells → Shows answer (AllByRecursion (IsRightRowCell t) cells) → Shows answer (AreRightRows t cells)
rows_shown t cells answer a = shows answer (λ all. record { each = each_from_all (IsRightRowCell t) cells all }) (λ h. all_from_each (IsRightRowCell t) cells a h.each)

pub keys_shown : (t : Table) (i : Index) (cells : List CellData) (answer : Result Bool AllocError) → IsAscending cells → Shows answer (AllByRecursion (IsRightIndexCell t i) cells) → Shows answer (AreRightKeys t i cells)
keys_shown t i cells answer a = shows answer (λ all. record { each = each_from_all (IsRightIndexCell t i) cells all }) (λ h. all_from_each (IsRightIndexCell t i) cells a h.each)
