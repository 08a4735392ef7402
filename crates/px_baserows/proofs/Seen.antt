-- Of the base versions of several rows each row sees its own, and no others; and they have the shape of the index's region.
use Rattle.std.proofs.Common.{◌≡◌, ℕ, ◌<◌, Some, List, [], ◌∷◌, ◌++◌, ◌+◌, ◌*◌, suc, length, refl, ap, sym, ◌∙◌, subst, arith}
use Rattle.std.specs.List.{AllByRecursion}
use Rattle.std.proofs.Math.Nat.{suc-mul, zero-mul}
use Rattle.std.proofs.lemmas.List.{length-append}
use Rattle.px_cells.specs.CellData.{CellData}
use Rattle.px_cells.specs.Order.{ReadsSame}
use Rattle.px_cellshapes.specs.Keys.{AreRightKeys, IsRightIndexCell}
use Rattle.px_cellshapes.proofs.Each.{all_append, each_from_all}
use Rattle.px_cellshapes.proofs.WrittenKeys.{base_right}
use Rattle.px_forms.specs.Indexes.{IndexForm, cells_if, shape_at, view_at}
use Rattle.px_forms.specs.Several.{cells_for}
use Rattle.px_forms.proofs.RowViews.{rows_view}
use Rattle.px_forms.proofs.Views.{view_same}
use Rattle.px_indexrow.specs.Form.{IsRightIndex, index_form}
use Rattle.px_indexrow.specs.Lists.{base_version, version_cells, version_if}
use Rattle.px_indexrow.proofs.FixesSeen.{base_view}
use Rattle.px_indexrow.proofs.KeysHeld.{form_laws, form_placed}
use Rattle.px_indexrow.proofs.MarksSeen.{base_owned}
use Rattle.px_keptcells.specs.Kept.{laid}
use Rattle.px_rows.specs.Keys.{IsRightTable}
use Rattle.px_tables.specs.declared.index.Index.{Index}
use Rattle.px_tables.specs.declared.table.Table.{Table}
use Rattle.px_trail.specs.Batches.{has}
use Rattle.px_values.specs.Limits.{most_key}
use Rattle.px_values.specs.States.{RowState, Shape}
use Rattle.px_values.specs.declared.row.Value.{Value}
use Rattle.px_world.specs.IndexCells.{base_cells}
use Rattle.px_baserows.specs.Rows.{AreBaseRows, IsBaseRow, base_parts, owner_in, owners_in}
use Rattle.px_calls.specs.declared.query.BaseRow.{BaseRow}
use Rattle.px_baserows.proofs.Fitting.{IsOf, all_more, version_count, version_of}
use Rattle.px_baserows.proofs.Given.{key_spelled}

-- ---- they are base versions

version_is : (t : Table) (i : Index) (s : ℕ) (x : BaseRow) → IsBaseRow t i x → base_version (index_form t i) (owner_in t x.row) s (Some x.row) ≡ version_cells (index_form t i) x.key s 1 (Some x.row)
version_is t i s x is = ap (version_if (index_form t i) s 1 (Some x.row)) is.key

-- where this is each one's state
pub laid_is : (t : Table) (i : Index) (s : ℕ) (state : List Value → RowState) (xs : List BaseRow) → AllByRecursion (IsBaseRow t i) xs → AllByRecursion (λ x. state (owner_in t x.row) ≡ Some x.row) xs
    → cells_for (λ r. base_version (index_form t i) r s (state r)) (owners_in t xs) ≡ laid (base_parts (index_form t i) s xs)
unfolding cells_for
laid_is t i s state [] a b = refl
laid_is t i s state (x ∷ xs) a b = (λ j. (ap (base_version (index_form t i) (owner_in t x.row) s) b.0 ∙ version_is t i s x a.0) j ++ laid_is t i s state xs a.1 b.1 j)

-- ---- what each row sees

pub bases_seen : (sh : Shape) (t : Table) (i : Index) → IsRightIndex t i → (s : ℕ) (state : List Value → RowState) (xs : List BaseRow) → AreBaseRows t i xs → AllByRecursion (λ x. state (owner_in t x.row) ≡ Some x.row) xs
    → (cells : List CellData) → ReadsSame cells (laid (base_parts (index_form t i) s xs)) → (r : List Value) → view_at (index_form t i) r cells ≡ cells_if (has (owners_in t xs) r) (base_cells (shape_at sh (index_form t i) r) s (state r))
bases_seen sh t i right s state xs are stood cells same r =
    let f : IndexForm = index_form t i in
    view_same f r cells (laid (base_parts f s xs)) same
    ∙ (ap (view_at f r) (sym (laid_is t i s state xs are.each stood))
    ∙ rows_view f (form_laws t i) (λ q. base_version f q s (state q)) (λ q. base_cells (shape_at sh f q) s (state q)) (λ q. base_owned f (form_laws t i) q s (state q)) (λ q. base_view sh f (form_laws t i) (form_placed t i right) q s (state q)) (owners_in t xs) are.distinct r)

-- ---- their shape

all_laid : (P : CellData → Type 0) (parts : List (List CellData)) → AllByRecursion (AllByRecursion P) parts → AllByRecursion P (laid parts)
all_laid P [] a = tt
all_laid P (p ∷ parts) a = all_append P p (laid parts) a.0 (all_laid P parts a.1)

all_parts : (P : CellData → Type 0) (f : IndexForm) (s : ℕ) (xs : List BaseRow) → AllByRecursion (λ x. AllByRecursion P (version_cells f x.key s 1 (Some x.row))) xs → AllByRecursion P (laid (base_parts f s xs))
all_parts P f s [] a = tt
all_parts P f s (x ∷ xs) a = all_append P (version_cells f x.key s 1 (Some x.row)) (laid (base_parts f s xs)) a.0 (all_parts P f s xs a.1)

pub bases_stamped : (f : IndexForm) (s : ℕ) (xs : List BaseRow) → AllByRecursion (λ c. c.stamp ≡ s) (laid (base_parts f s xs))
bases_stamped f s [] = tt
bases_stamped f s (x ∷ xs) = all_append (λ c. c.stamp ≡ s) (version_cells f x.key s 1 (Some x.row)) (laid (base_parts f s xs)) (all_more (IsOf x.key s) (λ c. c.stamp ≡ s) (λ c a. a.1) (version_cells f x.key s 1 (Some x.row)) (version_of f x.key s 1 (Some x.row))) (bases_stamped f s xs)

pub bases_right : (t : Table) (i : Index) (s : ℕ) (xs : List BaseRow) → IsRightTable t → IsRightIndex t i → AreBaseRows t i xs → AreRightKeys t i (laid (base_parts (index_form t i) s xs))
bases_right t i s xs table right are = record {
  each = each_from_all (IsRightIndexCell t i) (laid (base_parts (index_form t i) s xs)) (all_parts (IsRightIndexCell t i) (index_form t i) s xs
      (all_more (IsBaseRow t i) (λ x. AllByRecursion (IsRightIndexCell t i) (version_cells (index_form t i) x.key s 1 (Some x.row)))
      (λ x a. subst (AllByRecursion (IsRightIndexCell t i)) (version_is t i s x a) (base_right t i (owner_in t x.row) s (Some x.row) table right a.owner a.fits
      (λ long. (let l : most_key < length x.key = subst (λ (k : List ℕ). most_key < length k) (key_spelled t i x a) long in let m = a.short in absurd (omega arith)))))
      xs are.each));
}

-- ---- how many there are

pub bases_count : (f : IndexForm) (s : ℕ) (xs : List BaseRow) → length (laid (base_parts f s xs)) ≡ length xs * (f.columns + 1)
bases_count f s [] = sym (zero-mul (f.columns + 1))
bases_count f s (x ∷ xs) =
    let one = version_count f x.key s 1 (Some x.row) in
    let more = bases_count f s xs in
    length-append (version_cells f x.key s 1 (Some x.row)) (laid (base_parts f s xs)) ∙ (ap (λ (n : ℕ). n + length (laid (base_parts f s xs))) one ∙ (ap (λ (n : ℕ). suc f.columns + n) more ∙ (let q = suc-mul (length xs) (f.columns + 1) in omega (arith, q))))
