-- The states of rows fit their table as long as changes do.
use Rattle.std.proofs.Common.{ℕ, ◌<◌, List, [], ◌∷◌, Some, None, length, map, replicate, get_or, sym, ◌∙◌, subst, inl, inr, arith}
use Rattle.std.specs.Prelude.{slice_set}
use Rattle.std.specs.List.{All, AllByRecursion}
use Rattle.std.proofs.lemmas.Bool.{cases_eq}
use Rattle.std.proofs.lemmas.List.{get_or-set_other, get_or-set_same, length-set, length-replicate, get_or-replicate}
use Rattle.std.proofs.lemmas.List.Elements.{All-head, All-tail}
use Rattle.px_keys.specs.Spelling.{Fits}
use Rattle.px_tables.specs.declared.table.KeyPlace.{KeyPlace}
use Rattle.px_tables.specs.declared.table.Table.{Table}
use Rattle.px_trail.specs.Trail.{table_shape}
use Rattle.px_values.specs.States.{RowState, apply, assigned, with_values}
use Rattle.px_values.specs.Types.{HasType}
use Rattle.px_values.specs.declared.change.Assignment.{Assignment}
use Rattle.px_values.specs.declared.change.What.{What}
use Rattle.px_values.specs.declared.change.What.TheVariants.{Set, Gone}
use Rattle.px_values.specs.declared.row.Value.{Value}
use Rattle.px_values.specs.declared.row.Value.TheVariants.{Null}
use Rattle.px_rows.specs.Keys.{IsRightTable, column_in, key_column}
use Rattle.px_rows.specs.Spelled.{FitsColumnOf, FitsTable}
use Rattle.px_indexrow.specs.Form.{FitsRowState}

-- one column of a row that fits is set
set_fits : (t : Table) (row : List Value) (c : ℕ) (v : Value) → FitsRowState t (Some row) → c < length t.columns → HasType (column_in t.columns c).column_type v → FitsRowState t (Some (slice_set row c v))
set_fits t row c v s l h = (
  length-set row c v ∙ s.0,
  λ d m. elim (cases_eq d c) [
    | inl e ↦ subst (λ (x : ℕ). HasType (column_in t.columns x).column_type (get_or (slice_set row c v) x Null)) (sym e) (subst (HasType (column_in t.columns c).column_type) (sym (get_or-set_same row c v Null (let z = s.0 in omega arith))) h)
    | inr e ↦ subst (HasType (column_in t.columns d).column_type) (sym (get_or-set_other row c d v Null e)) (s.1 d m)
  ],
)

assigned_keeps : (t : Table) (row : List Value) (as' : List Assignment) → AllByRecursion (FitsColumnOf t) as' → FitsRowState t (Some row) → FitsRowState t (Some (assigned row as'))
assigned_keeps t row [] h s = s
assigned_keeps t row (a ∷ as') h s = assigned_keeps t (slice_set row a.column a.value) as' h.1 (set_fits t row a.column a.value s h.0.within h.0.has_type)

keys_keep : (t : Table) (key : List KeyPlace) (r row : List Value) → All (λ p. p.column < length t.columns) key → Fits (map (key_column t.columns) key) r → FitsRowState t (Some row) → FitsRowState t (Some (with_values (map (λ p. p.column) key) r row))
keys_keep t [] r row a f s = s
keys_keep t (p ∷ key) [] row a f s = s
keys_keep t (p ∷ key) (v ∷ r) row a f s = keys_keep t key r (slice_set row p.column v) (All-tail (λ p. p.column < length t.columns) p key a) f.1 (set_fits t row p.column v s (All-head (λ p. p.column < length t.columns) p key a) f.0.0)

nulls_fit : (t : Table) → FitsRowState t (Some (replicate (length t.columns) Null))
nulls_fit t = (length-replicate (length t.columns) Null, λ d m. subst (HasType (column_in t.columns d).column_type) (sym (get_or-replicate (length t.columns) d Null Null m)) tt)

-- a change that fits leaves a state that fits
pub apply_fits : (t : Table) (r : List Value) (o : RowState) (w : What) → IsRightTable t → FitsTable t r w → FitsRowState t o → FitsRowState t (apply (table_shape t) r o w)
apply_fits t r None (Set as') right h s = assigned_keeps t (with_values (map (λ p. p.column) t.key) r (replicate (length t.columns) Null)) as' h.1 (keys_keep t t.key r (replicate (length t.columns) Null) right.within h.0 (nulls_fit t))
apply_fits t r (Some row) (Set as') right h s = assigned_keeps t row as' h.1 s
apply_fits t r None Gone right h s = tt
apply_fits t r (Some row) Gone right h s = tt
