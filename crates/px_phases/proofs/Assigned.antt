-- A row with assignments, one after another.
use Rattle.std.proofs.Common.{◌≡◌, ℕ, zero, suc, ◌+◌, ◌<◌, List, [], ◌∷◌, ◌++◌, length, length-set, replicate, map, Some, None, take, get_or, refl, ap, sym, ◌∙◌, subst, arith}
use Rattle.std.specs.Prelude.{slice_set}
use Rattle.std.specs.List.{AllByRecursion}
use Rattle.std.proofs.lemmas.List.{take_more}
use Rattle.px_rows.specs.Spelled.{FitsColumnOf}
use Rattle.px_tables.specs.declared.table.Table.{Table}
use Rattle.px_indexrow.specs.Form.{FitsRowState}
use Rattle.px_trail.specs.Trail.{table_shape}
use Rattle.std.proofs.lemmas.List.{length-replicate}
use Rattle.std.specs.Option.{unwrap_or}
use Rattle.px_values.specs.States.{RowState, assigned, fresh_row, with_values}
use Rattle.px_values.specs.declared.row.Value.TheVariants.{Null}
use Rattle.px_values.specs.declared.change.Assignment.{Assignment}
use Rattle.px_values.specs.declared.row.Value.{Value}

assigned_snoc : (row : List Value) (as' : List Assignment) (a : Assignment) → assigned row (as' ++ a ∷ []) ≡ slice_set (assigned row as') a.column a.value
assigned_snoc row [] a = refl
assigned_snoc row (x ∷ as') a = assigned_snoc (slice_set row x.column x.value) as' a

pub assigned_more : (row : List Value) (as' : List Assignment) (i : ℕ) (a : Assignment) → i < length as' → a ≡ get_or as' i a → assigned row (take (i + 1) as') ≡ slice_set (assigned row (take i as')) a.column a.value
assigned_more row as' i a l is = ap (assigned row) (take_more as' i a l) ∙ (assigned_snoc row (take i as') (get_or as' i a) ∙ ap (λ (x : Assignment). slice_set (assigned row (take i as')) x.column x.value) (sym is))

-- an assignment at a place is such as all are
pub all_at : {A : Type 0} (P : A → Type 0) (xs : List A) (i : ℕ) (x : A) → AllByRecursion P xs → i < length xs → x ≡ get_or xs i x → P x
all_at P [] i x a l is = absurd (omega arith)
all_at P (y ∷ xs) zero x a l is = subst P (sym is) a.0
all_at P (y ∷ xs) (suc i) x a l is = all_at P xs i x a.1 (omega arith) is

pub columns_within : (t : Table) (as' : List Assignment) → AllByRecursion (FitsColumnOf t) as' → (n : ℕ) → n ≡ length t.columns → AllByRecursion (λ a. a.column < n) as'
columns_within t [] a n e = tt
columns_within t (x ∷ as') a n e = ((let w = a.0.within in omega arith), columns_within t as' a.1 n e)

with_count : (columns : List ℕ) (values row : List Value) → length (with_values columns values row) ≡ length row
with_count [] values row = refl
with_count (c ∷ columns) [] row = refl
with_count (c ∷ columns) (v ∷ values) row = with_count columns values (slice_set row c v) ∙ length-set row c v

-- the values of a row, or those of one of which only the key is known
pub values_count : (t : Table) (r : List Value) (state : RowState) → FitsRowState t state → length (unwrap_or state (fresh_row (table_shape t) r)) ≡ length t.columns
values_count t r None f = with_count (map (λ p. p.column) t.key) r (replicate (length t.columns) Null) ∙ length-replicate (length t.columns) Null
values_count t r (Some row) f = f.0
