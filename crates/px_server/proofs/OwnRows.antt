-- A row that a batch counts on has the values of its primary key at its columns, and so it has after a change that fits.
use Rattle.std.proofs.Common.{◌≡◌, ℕ, ◌<◌, Bool, true, false, not, ◌||◌, Option, Some, None, List, [], ◌∷◌, map, length, get_or, replicate, refl, sym, ◌∙◌, subst, inl, inr, arith}
use Rattle.std.specs.Prelude.{nat_eq, slice_set}
use Rattle.std.specs.List.{All, AllByRecursion}
use Rattle.std.proofs.lemmas.Bool.{and_parts, both_ways, cases_eq, eq-eqb, not-true}
use Rattle.std.proofs.lemmas.List.{get_or-set_other, get_or-set_same, length-replicate, length-set}
use Rattle.std.proofs.lemmas.List.Elements.{All-head, All-tail}
use Rattle.px_cells.specs.Contents.{value_at}
use Rattle.px_cells.specs.CellData.{CellData}
use Rattle.px_values.specs.States.{RowState, apply, assigned, fresh_row, with_values}
use Rattle.px_values.specs.declared.change.Assignment.{Assignment}
use Rattle.px_values.specs.declared.change.What.{What}
use Rattle.px_values.specs.declared.change.What.TheVariants.{Gone, Set}
use Rattle.px_values.specs.declared.row.Value.{Value}
use Rattle.px_values.specs.declared.row.Value.TheVariants.{Null}
use Rattle.px_keys.specs.Spelling.{Fits}
use Rattle.px_tables.specs.declared.table.KeyPlace.{KeyPlace}
use Rattle.px_tables.specs.declared.table.Table.{Table}
use Rattle.px_trail.specs.States.{greatest_stamp, key_in}
use Rattle.px_trail.specs.Trail.{table_shape}
use Rattle.px_rows.specs.Keys.{IsRightTable, are_distinct, is_part, row_columns}
use Rattle.px_rows.specs.Spelled.{FitsColumnOf, FitsTable, row_form}
use Rattle.px_indexrow.proofs.KeysHeld.{row_count}
use Rattle.px_openbatches.specs.Pending.{applied_if}
use Rattle.px_cellshapes.specs.Rows.{AreRightRows}
use Rattle.px_phases.specs.Batch.{AllFit, left_in, pending_state}
use Rattle.px_phases.proofs.Left.{left_fits}
use Rattle.px_shown.proofs.OwnKeys.{columns_of, own_key, spells_rows}
use Rattle.px_region.specs.Region.{read_of}
use Rattle.px_group.specs.Group.{IsRightBatch, IsRightGroup, batch_in}
use Rattle.px_group.specs.declared.group.Begun.{Begun}
use Rattle.px_group.specs.declared.group.Group.{Group}
use Rattle.px_beginning.specs.Begins.{old_state}

-- the row of a state has these values of its primary key
abbrev pub HasKey : Table → List Value → RowState → Type 0
HasKey t r None = Unit {0}
HasKey t r (Some row) = key_in (table_shape t) row ≡ r

-- ---- assignments beside the primary key

or_parts : (a b : Bool) → (a || b) ≡ false → (a ≡ false) × (b ≡ false)
or_parts true b h = absurd (let z : ◌≡◌ {A = Bool} true false = h in cc)
or_parts false b h = (refl, h)

keeps_columns : (ps : List KeyPlace) (row : List Value) (c : ℕ) (v : Value) → is_part ps c ≡ false → map (λ p. get_or (slice_set row c v) p.column Null) ps ≡ map (λ p. get_or row p.column Null) ps
keeps_columns [] row c v beside = refl
keeps_columns (p ∷ ps) row c v beside = elim (cases_eq p.column c) [
  | inl e ↦ absurd (both_ways _ (or_parts (nat_eq p.column c) (is_part ps c) beside).0 (eq-eqb p.column c e))
  | inr e ↦ (λ i. get_or-set_other row c p.column v Null e i ∷ keeps_columns ps row c v (or_parts (nat_eq p.column c) (is_part ps c) beside).1 i)
]

keeps_key : (t : Table) (row : List Value) (c : ℕ) (v : Value) → is_part t.key c ≡ false → key_in (table_shape t) (slice_set row c v) ≡ key_in (table_shape t) row
keeps_key t row c v beside = columns_of (slice_set row c v) t.key ∙ (keeps_columns t.key row c v beside ∙ sym (columns_of row t.key))

assigned_key : (t : Table) (as' : List Assignment) (row : List Value) → AllByRecursion (FitsColumnOf t) as' → key_in (table_shape t) (assigned row as') ≡ key_in (table_shape t) row
assigned_key t [] row fits = refl
assigned_key t (a ∷ as') row fits = assigned_key t as' (slice_set row a.column a.value) fits.1 ∙ keeps_key t row a.column a.value fits.0.beside

-- ---- a row of which only the key is known

other_column : (ps : List KeyPlace) (vs row : List Value) (c : ℕ) → is_part ps c ≡ false → get_or (with_values (map (λ p. p.column) ps) vs row) c Null ≡ get_or row c Null
other_column [] vs row c beside = refl
other_column (p ∷ ps) [] row c beside = refl
other_column (p ∷ ps) (v ∷ vs) row c beside = elim (cases_eq c p.column) [
  | inl e ↦ absurd (both_ways _ (or_parts (nat_eq p.column c) (is_part ps c) beside).0 (eq-eqb p.column c (sym e)))
  | inr e ↦ other_column ps vs (slice_set row p.column v) c (or_parts (nat_eq p.column c) (is_part ps c) beside).1 ∙ get_or-set_other row p.column c v Null e
]

own_columns : (ps : List KeyPlace) (vs row : List Value) → are_distinct ps ≡ true → length vs ≡ length ps → All (λ p. p.column < length row) ps → map (λ p. get_or (with_values (map (λ p. p.column) ps) vs row) p.column Null) ps ≡ vs
unfolding are_distinct
own_columns [] [] row once n within = refl
own_columns [] (v ∷ vs) row once n within = absurd (omega arith)
own_columns (p ∷ ps) [] row once n within = absurd (omega arith)
own_columns (p ∷ ps) (v ∷ vs) row once n within =
    let parts = and_parts (not (is_part ps p.column)) (are_distinct ps) once in
    let head : get_or (with_values (map (λ p. p.column) ps) vs (slice_set row p.column v)) p.column Null ≡ v = other_column ps vs (slice_set row p.column v) p.column (not-true _ parts.0) ∙ get_or-set_same row p.column v Null (All-head (λ p. p.column < length row) p ps within) in
    (λ i. head i ∷ own_columns ps vs (slice_set row p.column v) parts.1 (omega arith) (subst (λ (m : ℕ). All (λ p. p.column < m) ps) (sym (length-set row p.column v)) (All-tail (λ p. p.column < length row) p ps within)) i)

fresh_key : (t : Table) (r : List Value) → IsRightTable t → Fits (row_columns t) r → key_in (table_shape t) (fresh_row (table_shape t) r) ≡ r
fresh_key t r right fits =
    columns_of (fresh_row (table_shape t) r) t.key
    ∙ own_columns t.key r (replicate (length t.columns) Null) right.distinct (row_count t r fits) (subst (λ (n : ℕ). All (λ p. p.column < n) t.key) (sym (length-replicate (length t.columns) Null)) right.within)

-- ---- changes

pub apply_key : (t : Table) (r : List Value) (o : RowState) (w : What) → IsRightTable t → FitsTable t r w → HasKey t r o → HasKey t r (apply (table_shape t) r o w)
apply_key t r None (Set as') right fits k = assigned_key t as' (fresh_row (table_shape t) r) fits.1 ∙ fresh_key t r right fits.0
apply_key t r (Some row) (Set as') right fits k = assigned_key t as' row fits.1 ∙ k
apply_key t r None Gone right fits k = tt
apply_key t r (Some row) Gone right fits k = tt

if_key : (t : Table) (r : List Value) (o : RowState) (w : Option What) → IsRightTable t → ((x : What) → w ≡ Some x → FitsTable t r x) → HasKey t r o → HasKey t r (applied_if (table_shape t) r o w)
if_key t r o None right fits k = k
if_key t r o (Some w) right fits k = apply_key t r o w right (fits w refl) k

pending_key : (t : Table) (r : List Value) (ms : List Begun) (o : RowState) → IsRightTable t → AllByRecursion (λ m. AllFit t m.batch.changes) ms → HasKey t r o → HasKey t r (pending_state (table_shape t) r o (map batch_in ms))
pending_key t r [] o right fit k = k
pending_key t r (m ∷ ms) o right fit k = pending_key t r ms (applied_if (table_shape t) r o (left_in m.batch r)) right fit.1 (if_key t r o (left_in m.batch r) right (λ w is. left_fits t m.batch r w fit.0 is) k)

-- ---- a group

fits_of : (g : Group) (ms : List Begun) → AllByRecursion (IsRightBatch g) ms → AllByRecursion (λ m. AllFit g.table m.batch.changes) ms
fits_of g [] all = tt
fits_of g (m ∷ ms) all = (all.0.fit, fits_of g ms all.1)

spelled_key : (t : Table) (cells : List CellData) → IsRightTable t → AreRightRows t cells → (r : List Value) (o : RowState) → (row_form t).spelled (value_at cells) r greatest_stamp ≡ o → HasKey t r o
spelled_key t cells right rows r None is = tt
spelled_key t cells right rows r (Some row) is = own_key t (value_at cells) right (spells_rows t cells right rows) r row greatest_stamp is

-- the state that a batch counts on
pub old_key : (g : Group) → IsRightGroup g → (r : List Value) → HasKey g.table r (old_state g r)
old_key g right r =
    pending_key g.table r g.batches.items ((row_form g.table).spelled (value_at (read_of g.rows)) r greatest_stamp) right.table (fits_of g g.batches.items right.batches)
    (spelled_key g.table (read_of g.rows) right.table right.rows r ((row_form g.table).spelled (value_at (read_of g.rows)) r greatest_stamp) refl)
