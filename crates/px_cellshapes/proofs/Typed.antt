-- Right cells spell rows of the columns' types, with short keys.
use Rattle.std.proofs.Common.{◌≡◌, ℕ, zero, suc, ◌+◌, ◌<◌, true, Option, Some, None, List, [], ◌∷◌, length, get_or, refl, ap, sym, ◌∙◌, subst, arith}
use Rattle.std.specs.Prelude.{is_some, not}
use Rattle.std.proofs.lemmas.Bool.{and_parts}
use Rattle.px_cells.specs.declared.kind.CellKind.TheVariants.{Put, DeleteFamilyVersion}
use Rattle.px_cells.specs.CellData.{CellData}
use Rattle.px_cells.specs.Contents.{Contents, cell_of, value_at}
use Rattle.px_cells.specs.Sight.{puts_at, seen_at, stops_at}
use Rattle.px_cells.proofs.Newest.{newest-is}
use Rattle.px_indexrow.specs.Form.{FitsRowState}
use Rattle.px_indexrow.proofs.StatesFit.{apply_fits}
use Rattle.px_keys.specs.Reading.{IsKey}
use Rattle.px_keys.specs.Spelling.{IsKeyOf, IsKeyWithin}
use Rattle.px_rows.specs.Keys.{IsRightTable, column_in, row_columns, row_key}
use Rattle.px_rows.specs.Spelled.{column_at, decoded, overlay, pick, row_form, row_spelling, state_if}
use Rattle.px_rows.proofs.KeysBack.{row_key-apart, row_key-fits}
use Rattle.px_rows.proofs.Overlays.{overlay_length}
use Rattle.px_tables.specs.declared.table.Table.{Table}
use Rattle.px_trail.specs.Trail.{table_shape}
use Rattle.px_values.specs.Limits.{most_key}
use Rattle.px_values.specs.States.{fresh_row}
use Rattle.px_values.specs.Types.{HasType}
use Rattle.px_values.specs.declared.change.What.TheVariants.{Set}
use Rattle.px_values.specs.declared.row.Value.{Value}
use Rattle.px_values.specs.declared.row.Value.TheVariants.{Null}
use Rattle.px_world.specs.World.{read_at}
use Rattle.px_cellshapes.specs.Rows.{IsRightRowCell}
use Rattle.px_cellshapes.proofs.Each.{EachRead}

-- 1. Keys

-- a key is that of a row
pub key_owner : (t : Table) (k : List ℕ) → IsKey most_key (row_columns t) k → (r : List Value) × (k ≡ row_key t r)
key_owner t k h = (h.0, sym h.1.spells ∙ sym (row_key-fits t h.0 h.1.fits))

-- and of no other
pub own_key : (t : Table) (r : List Value) → IsKey most_key (row_columns t) (row_key t r) → IsKeyOf (row_columns t) r (row_key t r)
own_key t r h =
    let same : h.0 ≡ r = row_key-apart t h.0 r (row_key-fits t h.0 h.1.fits ∙ h.1.spells) in
    subst (λ (vs : List Value). IsKeyWithin most_key (row_columns t) vs (row_key t r)) same h.1

-- 2. What is seen

some_of : {A : Type 0} (o : Option A) → is_some o ≡ true → (v : A) × (o ≡ Some v)
some_of None h = cc
some_of (Some v) h = (v, refl)

-- the put that is seen stands
pub stands : (g : Contents) (k : List ℕ) (q p s : ℕ) → seen_at g k q p ≡ Some s → (v : List ℕ) × (g k q s Put ≡ Some v)
stands g k q p s e = some_of (g k q s Put) (and_parts (is_some (g k q s Put)) (not (is_some (g k 0 s DeleteFamilyVersion))) (newest-is (stops_at g k q) (puts_at g k q) p s e).hits).0

-- 3. Values over a row

overlay_at : (o : ℕ → Option Value) (i : ℕ) (xs : List Value) (c : ℕ) → c < length xs → get_or (overlay o i xs) c Null ≡ pick (o (i + c)) (get_or xs c Null)
unfolding overlay
overlay_at o i [] c l = absurd (omega arith)
overlay_at o i (x ∷ xs) zero l = (let e : i ≡ i + 0 = omega arith in ap (λ (n : ℕ). pick (o n) x) e)
overlay_at o i (x ∷ xs) (suc c) l = (let e : suc i + c ≡ i + suc c = omega arith in overlay_at o (suc i) xs c (omega arith) ∙ ap (λ (n : ℕ). pick (o n) (get_or xs c Null)) e)

pub overlay_fits : (t : Table) (o : ℕ → Option Value) (row : List Value) → FitsRowState t (Some row) → ((c : ℕ) (v : Value) → o c ≡ Some v → HasType (column_in t.columns c).column_type v) → FitsRowState t (Some (overlay o 0 row))
overlay_fits t o row h f = (
  overlay_length o 0 row ∙ h.0,
  λ c l. (let n = h.0 in let e : 0 + c ≡ c = omega arith in
      subst (HasType (column_in t.columns c).column_type) (sym (overlay_at o 0 row c (omega arith) ∙ ap (λ (m : ℕ). pick (o m) (get_or row c Null)) e)) (picked (o c) c (get_or row c Null) (f c) (h.1 c l))),
)
  where
    picked : (x : Option Value) (c : ℕ) (y : Value) → ((v : Value) → x ≡ Some v → HasType (column_in t.columns c).column_type v) → HasType (column_in t.columns c).column_type y → HasType (column_in t.columns c).column_type (pick x y)
    picked None c y g h = h
    picked (Some v) c y g h = g v refl

-- 4. Rows

some_is : {v w : Value} → Some v ≡ Some w → v ≡ w
some_is e = cc

module _ (t : Table) (cells : List CellData) (each : EachRead (IsRightRowCell t) cells) (r : List Value) where
  right_cell : (q s : ℕ) (v : List ℕ) → value_at cells (row_key t r) q s Put ≡ Some v → IsRightRowCell t (cell_of (row_key t r) q s Put v)
  right_cell q s v e = each (cell_of (row_key t r) q s Put v) e

  value_typed : (c s : ℕ) (v : Value) (o : Option (List ℕ)) → value_at cells (row_key t r) (suc (suc c)) s Put ≡ o → decoded (row_spelling t) c o ≡ Some v → HasType (column_in t.columns c).column_type v
  value_typed c s v None e h = cc
  value_typed c s v (Some bytes) e h = subst (HasType (column_in t.columns c).column_type) (some_is h) ((right_cell (suc (suc c)) s bytes e).fits.stored refl).typed

  seen_typed : (p c : ℕ) (v : Value) (o : Option ℕ) → decoded (row_spelling t) c (read_at (λ s. value_at cells (row_key t r) (suc (suc c)) s Put) o) ≡ Some v → HasType (column_in t.columns c).column_type v
  seen_typed p c v None h = cc
  seen_typed p c v (Some s) h = value_typed c s v (value_at cells (row_key t r) (suc (suc c)) s Put) refl h

  -- a row that stands has a short key
  seen_key : (p s : ℕ) → seen_at (value_at cells) (row_key t r) 1 p ≡ Some s → IsKeyOf (row_columns t) r (row_key t r)
  seen_key p s e = (let put = stands (value_at cells) (row_key t r) 1 p s e in own_key t r (right_cell 1 s put.0 put.1).key)

  pub short_key : (row : List Value) (p : ℕ) → (row_form t).spelled (value_at cells) r p ≡ Some row → IsKeyOf (row_columns t) r (row_key t r)
  short_key row p = by (seen_at (value_at cells) (row_key t r) 1 p) refl
    where
      by : (o : Option ℕ) → seen_at (value_at cells) (row_key t r) 1 p ≡ o → state_if o (overlay (column_at (row_spelling t) (value_at cells) r p) 0 (fresh_row (table_shape t) r)) ≡ Some row → IsKeyOf (row_columns t) r (row_key t r)
      by None e h = cc
      by (Some s) e h = seen_key p s e

  -- and values of its columns' types
  pub spelled_fits : IsRightTable t → (p : ℕ) → FitsRowState t ((row_form t).spelled (value_at cells) r p)
  spelled_fits right p = by (seen_at (value_at cells) (row_key t r) 1 p) refl
    where
      by : (o : Option ℕ) → seen_at (value_at cells) (row_key t r) 1 p ≡ o → FitsRowState t (state_if o (overlay (column_at (row_spelling t) (value_at cells) r p) 0 (fresh_row (table_shape t) r)))
      by None e = tt
      by (Some s) e = overlay_fits t (column_at (row_spelling t) (value_at cells) r p) (fresh_row (table_shape t) r) (apply_fits t r None (Set []) right ((seen_key p s e).fits, tt) tt) (λ c v h. seen_typed p c v (seen_at (value_at cells) (row_key t r) (suc (suc c)) p) h)
