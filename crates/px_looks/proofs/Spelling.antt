-- What is spelled at one key.
use Rattle.std.proofs.Common.{◌≡◌, ℕ, true, Option, Some, None, List, [], ◌∷◌, length, arith, refl, ap, sym, subst, ◌∙◌}
use Rattle.std.specs.Prelude.{is_some}
use Rattle.std.proofs.lemmas.Bool.{and_parts}
use Rattle.px_cells.specs.declared.kind.CellKind.{CellKind}
use Rattle.px_cells.specs.declared.kind.CellKind.TheVariants.{Put}
use Rattle.px_cells.specs.CellData.{CellData}
use Rattle.px_cells.specs.Contents.{Contents}
use Rattle.px_cells.specs.Sight.{puts_at, seen_at, stops_at}
use Rattle.px_cells.proofs.Newest.{newest-is}
use Rattle.px_values.specs.declared.row.Value.{Value}
use Rattle.px_values.specs.States.{fresh_row}
use Rattle.px_tables.specs.declared.table.Table.{Table}
use Rattle.px_keys.specs.Spelling.{Fits, IsKeyOf}
use Rattle.px_keys.specs.declared.parts.KeyColumn.{KeyColumn}
use Rattle.px_rows.specs.Keys.{row_columns, row_key}
use Rattle.px_rows.specs.Spelled.{IsPlainAt, column_at, overlay, row_form, row_spelling, state_if}
use Rattle.px_rows.specs.inner.Found.{AreOf}
use Rattle.px_rows.proofs.KeysBack.{row_key-apart, row_key-fits}
use Rattle.px_rows.proofs.Spelled.{table_laws}
use Rattle.px_calls.specs.declared.query.FoundKey.{FoundKey}
use Rattle.px_calls.specs.declared.query.FoundKey.TheVariants.{Sure}
use Rattle.px_looks.specs.Found.{RowContents, at_key}
use Rattle.px_looks.specs.Rows.{ShowsRow, everywhere}

-- a key is that of one row
pub key_values : (t : Table) (r r' : List Value) (k : List ℕ) → IsKeyOf (row_columns t) r k → IsKeyOf (row_columns t) r' k → r ≡ r'
key_values t r r' k a b = row_key-apart t r r' (row_key-fits t r a.fits ∙ a.spells ∙ sym b.spells ∙ sym (row_key-fits t r' b.fits))

pub fits_length : (columns : List KeyColumn) (values : List Value) → Fits columns values → length values ≡ length columns
fits_length [] [] h = refl
fits_length [] (v ∷ values) h = absurd h
fits_length (c ∷ columns) [] h = absurd h
fits_length (c ∷ columns) (v ∷ values) h = (let e = fits_length columns values h.1 in omega arith)

same_some : {A : Type 0} {a b : A} → Some a ≡ Some b → a ≡ b
same_some e = cc

-- what stands at the key alone spells the row
pub spelled_here : (t : Table) (g : Contents) (r : List Value) (p : ℕ) (k : List ℕ) → row_key t r ≡ k → (row_form t).spelled (everywhere (at_key g k)) r p ≡ (row_form t).spelled g r p
spelled_here t g r p k is = (table_laws t).local g (everywhere (at_key g k)) r p (record { each = λ q u d le. ap (λ (x : List ℕ). g x q u d) (sym is) })

pub shows_once : (t : Table) (p : ℕ) (k : List ℕ) (h : RowContents) (f g : FoundKey) → ShowsRow t p k h f → ShowsRow t p k h g → f ≡ g
shows_once t p k h f g a b =
    let values = key_values t a.values b.values k a.key b.key in
    let row : a.row ≡ b.row = same_some (sym a.stands ∙ ap (λ (r : List Value). (row_form t).spelled (everywhere h) r p) values ∙ b.stands) in
    a.is ∙ ap (λ (r : List Value). Sure (record { key = k; row = r })) row ∙ sym b.is

some_from : {A : Type 0} (o : Option A) → is_some o ≡ true → (v : A) × (o ≡ Some v)
some_from None h = cc
some_from (Some v) h = (v, refl)

-- a point sees of a column a put that stands
pub seen_stands : (g : Contents) (k : List ℕ) (q p s : ℕ) → seen_at g k q p ≡ Some s → (v : List ℕ) × (g k q s Put ≡ Some v)
seen_stands g k q p s e = some_from (g k q s Put) (and_parts _ _ (newest-is (stops_at g k q) (puts_at g k q) p s e).hits).0

-- a row that stands has its empty column
pub row_stands : (t : Table) (g : Contents) (r row : List Value) (p : ℕ) → (row_form t).spelled g r p ≡ Some row → (s : ℕ) × (v : List ℕ) × (g (row_key t r) 1 s Put ≡ Some v)
row_stands t g r row p e = by (seen_at g (row_key t r) 1 p) refl (overlay (column_at (row_spelling t) g r p) 0 (fresh_row (row_spelling t).shape r)) e
  where
    by : (o : Option ℕ) → seen_at g (row_key t r) 1 p ≡ o → (values : List Value) → state_if o values ≡ Some row → (s : ℕ) × (v : List ℕ) × (g (row_key t r) 1 s Put ≡ Some v)
    by None is values h = absurd (let z : None ≡ Some row = h in cc)
    by (Some s) is values h = (let z = seen_stands g (row_key t r) 1 p s is in (s, z.0, z.1))

pub shows_some : (t : Table) (p : ℕ) (k : List ℕ) (h : RowContents) (f : FoundKey) → ShowsRow t p k h f → (q s : ℕ) × (d : CellKind) × (v : List ℕ) × (h q s d ≡ Some v)
shows_some t p k h f a = (let z = row_stands t (everywhere h) a.values a.row p a.stands in (1, z.0, Put, z.1, z.2))

-- ---- what is read

module _ (t : Table) (p : ℕ) (g : Contents) (k : List ℕ) (r : List Value) (key : IsKeyOf (row_columns t) r k) where
  is_key : row_key t r ≡ k
  is_key = row_key-fits t r key.fits ∙ key.spells

  pub own_here : (cells : List CellData) → AreOf k cells → AreOf (row_key t r) cells
  own_here cells own = subst (λ (x : List ℕ). AreOf x cells) (sym is_key) own

  pub plain_here : IsPlainAt (everywhere (at_key g k)) k → IsPlainAt g (row_key t r)
  plain_here plain = subst (IsPlainAt g) (sym is_key) (record { no_delete = plain.no_delete; no_version = plain.no_version })

  pub reads_none : (row_form t).spelled g r p ≡ None → (f : FoundKey) → ShowsRow t p k (at_key g k) f → ⊥
  reads_none none f a =
      let values = key_values t r a.values k key a.key in
      let z : None ≡ Some a.row = sym none ∙ sym (spelled_here t g r p k is_key) ∙ ap (λ (x : List Value). (row_form t).spelled (everywhere (at_key g k)) x p) values ∙ a.stands in cc

  pub reads_row : (row : List Value) (f : FoundKey) → (row_form t).spelled g r p ≡ Some row → f ≡ Sure (record { key = k; row = row }) → ShowsRow t p k (at_key g k) f
  reads_row row f stands is = record { values = r; key = key; row = row; stands = spelled_here t g r p k is_key ∙ stands; is = is }
