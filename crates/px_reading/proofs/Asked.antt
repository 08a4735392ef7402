-- What is consulted of a group that was looked at is what it would have been before.
use Rattle.std.proofs.Common.{◌≡◌, ℕ, ◌<◌, ◌≤◌, max, true, Option, Some, None, List, length, refl, ap, sym, subst, ◌∙◌, arith}
use Rattle.std.specs.Prelude.{◌↔◌, ◌≢◌}
use Rattle.std.specs.List.{slice_get}
use Rattle.px_calls.specs.declared.query.Point.{Point}
use Rattle.px_cells.specs.CellData.{CellData}
use Rattle.px_cells.specs.Contents.{value_at}
use Rattle.px_cells.specs.Rows.{IsRow}
use Rattle.px_cellshapes.specs.Rows.{AreRightRows}
use Rattle.px_forms.specs.Indexes.{IndexForm}
use Rattle.px_groupworld.specs.Group.{GroupData, shape_in, table_form, world_in}
use Rattle.px_indexrow.specs.Form.{IsRightIndex, row_of_index}
use Rattle.px_indexrow.specs.Verdicts.{verdict_of}
use Rattle.px_indexrow.specs.declared.doubt.Repair.{Repair}
use Rattle.px_indexrow.specs.declared.doubt.Repair.TheVariants.{Leave}
use Rattle.px_keys.specs.Reading.{IsKey}
use Rattle.px_keys.specs.Spelling.{Fits}
use Rattle.px_looks.specs.Found.{at_key}
use Rattle.px_looks.specs.Versions.{version_at}
use Rattle.px_looks.specs.declared.version.KeyVersion.{KeyVersion}
use Rattle.px_looks.proofs.RowCells.{row_spelled}
use Rattle.px_openbatches.specs.Pending.{HeldBatch}
use Rattle.px_paths.specs.Paths.{columns_on, index_path, owner_of}
use Rattle.px_region.specs.Region.{read_of}
use Rattle.px_rows.specs.Keys.{row_columns, row_key}
use Rattle.px_rows.specs.Spelled.{row_form}
use Rattle.px_shown.specs.Told.{IsHolder, IsIndexAt, IsPointOfTable, keyed_if, reach_of}
use Rattle.px_shown.proofs.OwnKeys.{spells_rows}
use Rattle.px_shown.proofs.Owners.{owner_fits, owner_read}
use Rattle.px_shown.proofs.Points.{row_held}
use Rattle.px_tablereads.specs.Told.{AreTold}
use Rattle.px_tables.specs.declared.index.Index.{Index}
use Rattle.px_tables.specs.declared.table.Table.{Table}
use Rattle.px_trail.specs.Trail.{Base, horizon_of}
use Rattle.px_trail.specs.declared.entry.Entry.{Entry}
use Rattle.px_values.specs.Limits.{most_key}
use Rattle.px_values.specs.States.{RowState}
use Rattle.px_values.specs.declared.row.Value.{Value}
use Rattle.px_world.specs.Events.{due}
use Rattle.px_group.specs.Group.{IsRightGroup, IsRightPart, IsShownBy, IsTallied, form_of}
use Rattle.px_group.specs.declared.group.Group.{Group}
use Rattle.px_group.specs.declared.group.IndexRegion.{IndexRegion}
use Rattle.px_reading.specs.Doubts.{IsKeyIn, IsToldBy, horizon_at, is_pending, version_seen}
use Rattle.px_reading.specs.Looked.{HasLooked}
use Rattle.px_reading.proofs.Looked.{Looked, looked_back, looked_length, looked_on, part_at, still_shown, still_tallied}

-- ---- the same of the group before

module _ (g h : Group) (looked : HasLooked g h) where
  pub looked_there : (place : ℕ) → place < length g.indexes.items → place < length h.indexes.items
  looked_there place l = subst (λ (n : ℕ). place < n) (sym (looked_length g.indexes.items h.indexes.items looked.indexes)) l

  pub looked_told : (b : Base) (index : ℕ → IndexForm) (es : List Entry) (v : GroupData) → IsToldBy b index es g v → IsToldBy b index es h v
  looked_told b index es v k = record {
    told = subst (λ (t : Table). AreTold (table_form b t.id index (row_form t)) es v) (sym looked.table) k.told;
    own = λ i y at. (let z = looked_back g.indexes.items h.indexes.items looked.indexes i y at in k.own i z.0 z.1.0 ∙ sym z.1.1.region.alike.horizon);
  }

  pub looked_key : (place : ℕ) (k : List ℕ) → ((x : IndexRegion) → slice_get g.indexes.items place ≡ Some x → IsKeyIn g x k) → (y : IndexRegion) → slice_get h.indexes.items place ≡ Some y → IsKeyIn h y k
  looked_key place k f y at =
      let z = looked_back g.indexes.items h.indexes.items looked.indexes place y at in
      let one : IsKey most_key (columns_on (index_path g.table y.index)) k = subst (λ (i : Index). IsKey most_key (columns_on (index_path g.table i)) k) (sym z.1.1.index) (f z.0 z.1.0) in
      subst (λ (t : Table). IsKey most_key (columns_on (index_path t y.index)) k) (sym looked.table) one

  pending_looked : (s : ℕ) (r : List Value) → is_pending h s r ≡ is_pending g s r
  pending_looked s r = ap (λ (m : Group). is_pending m s r) (λ i. record h { batches = looked.batches i })

  module _ (x y : IndexRegion) (same : Looked x y) where
    owner_looked : (k : List ℕ) → row_of_index h.table y.index k ≡ row_of_index g.table x.index k
    owner_looked k = (λ i. row_of_index (looked.table i) (same.index i) k)

    horizon_looked : horizon_at h y ≡ horizon_at g x
    horizon_looked = (λ i. max ((same.index i).birth) (looked.horizon i))

    seen_looked : (k : List ℕ) (s : ℕ) → version_seen h y k s ≡ version_seen g x k s
    seen_looked k s = (λ i. version_at (at_key (value_at (same.region.alike.store i)) k) (same.index i).included (max s (max ((same.index i).birth) (looked.horizon i))))

  -- what was seen before is what would be seen
  pub looked_seen : (place : ℕ) (k : List ℕ) (s : ℕ) (seen : Option KeyVersion) → ((x : IndexRegion) → slice_get g.indexes.items place ≡ Some x → seen ≡ version_seen g x k s) → (y : IndexRegion) → slice_get h.indexes.items place ≡ Some y → seen ≡ version_seen h y k s
  looked_seen place k s seen f y at = (let z = looked_back g.indexes.items h.indexes.items looked.indexes place y at in f z.0 z.1.0 ∙ sym (seen_looked z.0 y z.1.1 k s))

  pub looked_row : (place : ℕ) (k : List ℕ) (r : List Value) → ((x : IndexRegion) → slice_get g.indexes.items place ≡ Some x → r ≡ row_of_index g.table x.index k) → (y : IndexRegion) → slice_get h.indexes.items place ≡ Some y → r ≡ row_of_index h.table y.index k
  looked_row place k r f y at = (let z = looked_back g.indexes.items h.indexes.items looked.indexes place y at in f z.0 z.1.0 ∙ sym (owner_looked z.0 y z.1.1 k))

  pub row_before : (place : ℕ) (k : List ℕ) (r : List Value) → ((y : IndexRegion) → slice_get h.indexes.items place ≡ Some y → r ≡ row_of_index h.table y.index k) → (x : IndexRegion) → slice_get g.indexes.items place ≡ Some x → r ≡ row_of_index g.table x.index k
  row_before place k r f x at = (let y = looked_on g.indexes.items h.indexes.items looked.indexes place x at in f y.0 y.1.0 ∙ owner_looked x y.0 y.1.1 k)

  pub cells_before : (r : List Value) (cells : List CellData) → IsRow (read_of h.rows) (row_key h.table r) cells → IsRow (read_of g.rows) (row_key g.table r) cells
  cells_before r cells is = subst (λ (t : Table). IsRow (read_of g.rows) (row_key t r) cells) looked.table (subst (λ (l : List CellData). IsRow l (row_key h.table r) cells) looked.rows.alike.store is)

  pub looked_cells : (r : List Value) (cells : List CellData) → IsRow (read_of g.rows) (row_key g.table r) cells → IsRow (read_of h.rows) (row_key h.table r) cells
  looked_cells r cells is = subst (λ (t : Table). IsRow (read_of h.rows) (row_key t r) cells) (sym looked.table) (subst (λ (l : List CellData). IsRow l (row_key g.table r) cells) (sym looked.rows.alike.store) is)

  module _ (place : ℕ) (x : IndexRegion) (at : slice_get g.indexes.items place ≡ Some x) (k : List ℕ) (s : ℕ) (r : List Value) (row : r ≡ row_of_index g.table x.index k) (seen : Option KeyVersion) (seen_is : seen ≡ version_seen g x k s) (repair : Repair) where
    pub looked_leave : (repair ≡ Leave) ↔ (is_pending h s r ≡ true) → (repair ≡ Leave) ↔ (is_pending g s (row_of_index g.table x.index k) ≡ true)
    looked_leave f =
        let same : is_pending h s r ≡ is_pending g s (row_of_index g.table x.index k) = pending_looked s r ∙ ap (is_pending g s) row in
        (λ e. sym same ∙ f.0 e, λ e. f.1 (same ∙ e))

    abbrev IsDueIn : Group → IndexRegion → Type 0
    IsDueIn m z = (b : Base) (index : ℕ → IndexForm) (es : List Entry) (v : GroupData) (hs : List HeldBatch) → IsTallied b es m hs → IsShownBy b index es m v hs → IsToldBy b index es m v → (s ≤ horizon_at m z → seen ≢ None) → verdict_of repair ≡ due (shape_in (form_of b index m) v place r) (world_in (form_of b index m) es v place r) k s

    abbrev DueAt : Base → (ℕ → IndexForm) → List Entry → GroupData → Table → List Value → Type 0
    DueAt b index es v t r = verdict_of repair ≡ due (shape_in (table_form b t.id index (row_form t)) v place r) (world_in (table_form b t.id index (row_form t)) es v place r) k s

    pub looked_due : ((y : IndexRegion) → slice_get h.indexes.items place ≡ Some y → IsDueIn h y)
        → (b : Base) (index : ℕ → IndexForm) (es : List Entry) (v : GroupData) (hs : List HeldBatch) → IsTallied b es g hs → IsShownBy b index es g v hs → IsToldBy b index es g v → (s ≤ horizon_at g x → version_seen g x k s ≢ None)
        → DueAt b index es v g.table (row_of_index g.table x.index k)
    looked_due f b index es v hs tallied shown told stands =
        let y = looked_on g.indexes.items h.indexes.items looked.indexes place x at in
        let found : DueAt b index es v h.table r = f y.0 y.1.0 b index es v hs (still_tallied g h looked b es hs tallied) (still_shown g h looked b index es v hs shown) (looked_told b index es v told)
        (λ low none. stands (subst (λ (n : ℕ). s ≤ n) (horizon_looked x y.0 y.1.1) low) (sym seen_is ∙ none)) in
        subst (DueAt b index es v g.table) row (subst (λ (t : Table). DueAt b index es v t r) looked.table found)

-- ---- the row at the point

module _ (g : Group) (right : IsRightGroup g) (place : ℕ) (x : IndexRegion) (at : slice_get g.indexes.items place ≡ Some x) (k : List ℕ) (key : IsKeyIn g x k) where
  pub row_fits : Fits (row_columns g.table) (row_of_index g.table x.index k)
  row_fits = owner_fits g.table x.index k key

  pub right_index : IsRightIndex g.table x.index
  right_index = (part_at (IsRightPart g.table) g.indexes.items right.parts place x at).index

  abbrev own : List Value
  own = row_of_index g.table x.index k

  pub holder_is : (cells : List CellData) → IsRow (read_of g.rows) (row_key g.table own) cells → (point : ℕ) (row : RowState) → row ≡ keyed_if g.table x.index own k ((row_form g.table).spelled (value_at cells) own point)
      → (b : Base) (index : ℕ → IndexForm) (es : List Entry) (v : GroupData) (hs : List HeldBatch) → IsShownBy b index es g v hs → (p : Point) → IsPointOfTable g.table p → IsIndexAt p x.index → reach_of p ≡ point → horizon_of b g.table.id.0 es ≤ point → IsHolder b es p x.index.id k row
  holder_is cells is point row e b index es v hs shown p of index_at reach above =
      let kept = shown.kept.group in
      let spells = spells_rows g.table v.cells right.table (subst (λ (l : List CellData). AreRightRows g.table l) (sym shown.rows) right.rows) in
      let low : v.low ≤ reach_of p = (let a = kept.low in let c = kept.high in let d = reach in omega arith) in
      let held = row_held g.table right.table b index es v kept spells p of low x.index right_index index_at k key.0 key.1 in
      let spelled : (row_form g.table).spelled (value_at cells) own point ≡ (row_form g.table).spelled (value_at v.cells) own (reach_of p) =
      row_spelled (read_of g.rows) cells (row_key g.table own) is g.table own point refl ∙ (λ i. (row_form g.table).spelled (value_at (sym shown.rows i)) own (sym reach i)) in
      let same : owner_of g.table (index_path g.table x.index) key.0 ≡ own = owner_read g.table x.index k key.0 key.1 in
      let held2 = subst (λ (r : List Value). IsHolder b es p x.index.id k (keyed_if g.table x.index r k ((row_form g.table).spelled (value_at v.cells) r (reach_of p)))) same held in
      subst (IsHolder b es p x.index.id k) (sym (e ∙ ap (keyed_if g.table x.index own k) spelled)) held2

-- the same of the group before, by a row that is the key's
module _ (g h : Group) (looked : HasLooked g h) (right : IsRightGroup g) (place : ℕ) (x : IndexRegion) (at : slice_get g.indexes.items place ≡ Some x) (k : List ℕ) (key : IsKeyIn g x k) (r : List Value) (r_is : r ≡ row_of_index g.table x.index k) (cells : List CellData) (is : IsRow (read_of g.rows) (row_key g.table r) cells) (point : ℕ) (row : RowState) where
  pub looked_holder : ((y : IndexRegion) → slice_get h.indexes.items place ≡ Some y → row ≡ keyed_if h.table y.index r k ((row_form h.table).spelled (value_at cells) r point))
      → (b : Base) (index : ℕ → IndexForm) (es : List Entry) (v : GroupData) (hs : List HeldBatch) → IsShownBy b index es g v hs → (p : Point) → IsPointOfTable g.table p → IsIndexAt p x.index → reach_of p ≡ point → horizon_of b g.table.id.0 es ≤ point → IsHolder b es p x.index.id k row
  looked_holder f =
      let y = looked_on g.indexes.items h.indexes.items looked.indexes place x at in
      let e : row ≡ keyed_if g.table x.index r k ((row_form g.table).spelled (value_at cells) r point) = f y.0 y.1.0 ∙ (λ i. keyed_if (looked.table i) (y.1.1.index i) r k ((row_form (looked.table i)).spelled (value_at cells) r point)) in
      holder_is g right place x at k key cells (subst (λ (z : List Value). IsRow (read_of g.rows) (row_key g.table z) cells) r_is is) point row (e ∙ ap (λ (z : List Value). keyed_if g.table x.index z k ((row_form g.table).spelled (value_at cells) z point)) r_is)
