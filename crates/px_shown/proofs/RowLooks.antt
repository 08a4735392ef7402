-- What is found at the keys of a table's rows is what a look of its path shows.
use Rattle.std.proofs.Common.{◌≡◌, ℕ, ◌≤◌, length, true, inl, Option, Some, List, refl, ap, sym, subst, ◌∙◌}
use Rattle.px_cells.specs.Contents.{Contents}
use Rattle.px_values.specs.Limits.{most_key}
use Rattle.px_values.specs.States.{RowState, Shape}
use Rattle.px_values.specs.declared.row.Value.{Value}
use Rattle.px_keys.specs.Spelling.{IsKeyOf, spelled}
use Rattle.px_tables.specs.declared.table.Table.{Table}
use Rattle.px_trail.specs.Answers.{IsAmong}
use Rattle.px_trail.specs.States.{key_in}
use Rattle.px_trail.specs.Trail.{Base, shape_of, table_shape}
use Rattle.px_trail.specs.declared.entry.Entry.{Entry}
use Rattle.px_paths.specs.Paths.{FitsRow, key_on, table_path}
use Rattle.px_rows.specs.Keys.{row_columns, row_key}
use Rattle.px_rows.specs.Spelled.{row_form}
use Rattle.px_rows.proofs.KeysBack.{row_key-fits}
use Rattle.px_calls.specs.Looks.{IsRightRow, IsRowAt, IsRowShown, Shows, ShowsRows, is_covered, is_on, is_past, key_by, key_found, row_at}
use Rattle.px_calls.specs.declared.query.By.{By}
use Rattle.px_calls.specs.declared.query.By.TheVariants.{Table as ByTable}
use Rattle.px_calls.specs.declared.query.Doubt.{Doubt}
use Rattle.px_calls.specs.declared.query.FoundKey.{FoundKey}
use Rattle.px_calls.specs.declared.query.FoundKey.TheVariants.{Sure, InDoubt}
use Rattle.px_calls.specs.declared.query.FoundRow.{FoundRow}
use Rattle.px_calls.specs.declared.query.Path.{Path}
use Rattle.px_calls.specs.declared.query.Point.{Point}
use Rattle.px_looks.specs.Found.{AreNext, at_key}
use Rattle.px_looks.specs.Rows.{ShowsRow}
use Rattle.px_looks.proofs.Spelling.{reads_row, spelled_here}
use Rattle.px_shown.specs.Told.{AreStates}
use Rattle.px_shown.proofs.RowsAt.{on_within, row_fits, row_state, state_row, table_key, within_on}

sure_same : (a b : FoundRow) → ◌≡◌ {A = FoundKey} (Sure a) (Sure b) → a ≡ b
sure_same a b e = cc

module _ (t : Table) (g : Contents) (q : ℕ) (p : Point) where
  no_doubt : (k : List ℕ) (d : Doubt) → ShowsRow t q k (at_key g k) (InDoubt d) → ⊥
  no_doubt k d a = (let z : ◌≡◌ {A = FoundKey} (InDoubt d) (Sure (record { key = k; row = a.row })) = a.is in cc)

  -- what is found is in order and on the path, and none is a doubt
  pub rows_shown : (path : Path) → path.by ≡ ByTable → (after : Option (List ℕ)) (fs : List FoundKey) (next : Option (List ℕ)) → AreNext (ShowsRow t q) g path.low path.high after fs next → Shows p path after fs next
  rows_shown path by after fs next n = record {
    rising = n.rising;
    sized = n.sized;
    last = n.last;
    on_path = λ f a. within_on path (key_found f) (n.right f a).0;
    covered = n.covered;
    doubts = λ d a. absurd (no_doubt d.key d (n.right (InDoubt d) a).1);
  }

module _ (t : Table) (state : List Value → RowState) (states : AreStates t state) (g : Contents) (q : ℕ) (spells : (r : List Value) → (row_form t).spelled g r q ≡ state r)
    (b : Base) (es : List Entry) (p : Point) (at : (r : List Value) → row_at b es p r ≡ state r) (shape : shape_of b es p.table.0 ≡ table_shape t) (table : p.found.table ≡ t) where
  key_is : (row : List Value) → key_by p.found ByTable row ≡ key_on (table_path t) row
  key_is row = ap (λ (z : Table). key_on (table_path z) row) table

  row_right : (k : List ℕ) (f : FoundRow) → ShowsRow t q k (at_key g k) (Sure f) → IsRightRow b es p ByTable f
  row_right k f a =
      let is : row_key t a.values ≡ k = row_key-fits t a.values a.key.fits ∙ a.key.spells in
      let stands : state a.values ≡ Some a.row = sym (spells a.values) ∙ sym (spelled_here t g a.values q k is) ∙ a.stands in
      (a.row, state_row t state states b es p at shape a.values a.row stands, sure_same f (record { key = k; row = a.row }) a.is ∙ (λ i. record { key = (sym a.key.spells ∙ sym (table_key t state states a.values a.row stands) ∙ sym (key_is a.row)) i; row = a.row }))

  module _ (path : Path) (by : path.by ≡ ByTable) (after : Option (List ℕ)) (fs : List FoundKey) (next : Option (List ℕ)) (n : AreNext (ShowsRow t q) g path.low path.high after fs next) where
    row_whole : (row : List Value) → IsRowAt b es p row → is_on path (key_on (table_path t) row) ≡ true → is_past after (key_on (table_path t) row) ≡ true → is_covered next (key_on (table_path t) row) ≡ true → IsRowShown fs p.found ByTable row
    row_whole row h on past covered =
        let r = key_in (table_shape t) row in
        let k = key_on (table_path t) row in
        let stands = row_state t state states b es p at shape row h in
        let keyed = states.keyed r row stands in
        let is : spelled (row_columns t) r ≡ k = sym (table_key t state states r row stands) in
        let f : FoundRow = record { key = k; row = row } in
        let key : IsKeyOf (row_columns t) r k = record { fits = keyed.fits; spells = is; short = subst (λ (z : List ℕ). length z ≤ most_key) (row_key-fits t r keyed.fits ∙ is) keyed.short } in
        let among = n.whole k (Sure f) (on_within path k on) past covered (reads_row t q g k r key row (Sure f) (spells r ∙ stands) refl) in
        inl (subst (λ (e : FoundRow). IsAmong (Sure e) fs) (λ i. record { key = sym (key_is row) i; row = row }) among)

    pub rows_rows : ShowsRows b es p path after fs next
    rows_rows = record {
      right = λ f a. subst (λ (z : By). IsRightRow b es p z f) (sym by) (row_right f.key f (n.right (Sure f) a).1);
      fits = λ row h. subst (λ (z : Table). FitsRow z row) (sym table) (row_fits t state states (key_in (table_shape t) row) row (row_state t state states b es p at shape row h));
      own = λ r row h. ap (λ (sh : Shape). key_in sh row) shape ∙ states.own r row (sym (at r) ∙ h);
      whole = λ row h. subst (λ (z : By). is_on path (key_by p.found z row) ≡ true → is_past after (key_by p.found z row) ≡ true → is_covered next (key_by p.found z row) ≡ true → IsRowShown fs p.found z row) (sym by)
          (subst (λ (k : List ℕ). is_on path k ≡ true → is_past after k ≡ true → is_covered next k ≡ true → IsRowShown fs p.found ByTable row) (sym (key_is row)) (row_whole row h));
    }
