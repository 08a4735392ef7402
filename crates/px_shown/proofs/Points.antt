-- The states of rows at a point, and what looks find there.
use Rattle.std.proofs.Common.{◌≡◌, ℕ, ◌<◌, ◌≤◌, max, Bool, true, false, if◌then◌else◌, Option, Some, List, get_or, length, refl, ap, sym, subst, ◌∙◌, arith}
use Rattle.px_cells.specs.Contents.{value_at}
use Rattle.px_cells.specs.declared.kind.CellKind.TheVariants.{Put}
use Rattle.px_values.specs.Limits.{most_key}
use Rattle.px_values.specs.States.{RowState}
use Rattle.px_values.specs.declared.name.TableId.{TableId}
use Rattle.px_values.specs.declared.row.Value.{Value}
use Rattle.px_keys.specs.Spelling.{IsKeyOf}
use Rattle.px_tables.specs.declared.index.Index.{Index}
use Rattle.px_tables.specs.declared.table.Table.{Table}
use Rattle.px_trail.specs.States.{greatest_stamp, state_now, state_of}
use Rattle.px_trail.specs.Trail.{Base, shape_of, table_shape}
use Rattle.px_trail.specs.declared.entry.Entry.{Entry}
use Rattle.px_forms.specs.Indexes.{IndexForm}
use Rattle.px_paths.specs.Paths.{columns_on, index_path, owner_of}
use Rattle.px_rows.specs.Keys.{IsRightTable}
use Rattle.px_rows.specs.Spelled.{row_form}
use Rattle.px_indexrow.specs.Form.{IsRightIndex, index_form}
use Rattle.px_groupworld.specs.Group.{GroupData, GroupKept, no_part, table_form}
use Rattle.px_groupworld.proofs.Queries.{group_answers}
use Rattle.px_calls.specs.Looks.{ShowsRows, row_at}
use Rattle.px_calls.specs.declared.query.By.TheVariants.{Index as ByIndex, Table as ByTable}
use Rattle.px_calls.specs.declared.query.FoundKey.{FoundKey}
use Rattle.px_calls.specs.declared.query.Path.{Path}
use Rattle.px_calls.specs.declared.query.Point.{Point}
use Rattle.px_looks.specs.Found.{AreNext}
use Rattle.px_looks.specs.IndexKeys.{ShowsKey}
use Rattle.px_looks.specs.Rows.{ShowsRow}
use Rattle.px_shown.specs.Told.{AreStates, IsHolder, IsIndexAt, IsPointOfTable, SpellsRows, keyed_if, reach_of}
use Rattle.px_shown.proofs.Holders.{holder}
use Rattle.px_shown.proofs.KeyLooks.{keys_rows}
use Rattle.px_shown.proofs.RowLooks.{rows_rows}
use Rattle.px_shown.proofs.Tables.{index_tells, states_are}

-- the state of a row at a point is that of the stamp up to which the point sees
pub at_reach : (b : Base) (es : List Entry) (p : Point) (id : TableId) → p.table ≡ id → (r : List Value) → row_at b es p r ≡ state_of b es id.0 r (reach_of p)
at_reach b es p id same r = by p.scn ∙ ap (λ (t : TableId). state_of b es t.0 r (reach_of p)) same
  where
    by : (v : Bool) → (if v then state_of b es p.table.0 r p.stamp else state_now b es p.table.0 r) ≡ state_of b es p.table.0 r (if v then p.stamp else greatest_stamp)
    by true = refl
    by false = refl

module _ (t : Table) (right : IsRightTable t) (b : Base) (index : ℕ → IndexForm) (es : List Entry) (v : GroupData) (kept : GroupKept (table_form b t.id index (row_form t)) es v) (rows : SpellsRows t (value_at v.cells)) (p : Point) (of : IsPointOfTable t p) where
  abbrev state : List Value → RowState
  state r = state_of b es t.id.0 r (reach_of p)

  at : (r : List Value) → row_at b es p r ≡ state r
  at = at_reach b es p t.id of.table

  shape : shape_of b es p.table.0 ≡ table_shape t
  shape = ap (λ (id : TableId). shape_of b es id.0) of.table ∙ kept.shape

  module _ (low : v.low ≤ reach_of p) where
    states : AreStates t state
    states = states_are t b t.id index es v kept right rows (reach_of p) low

    spells : (r : List Value) → (row_form t).spelled (value_at v.cells) r (reach_of p) ≡ state r
    spells r = (group_answers (table_form b t.id index (row_form t)) es v kept).rows r (reach_of p) low

    pub look_rows : (path : Path) → path.by ≡ ByTable → (after : Option (List ℕ)) (fs : List FoundKey) (next : Option (List ℕ)) → AreNext (ShowsRow t (reach_of p)) (value_at v.cells) path.low path.high after fs next → ShowsRows b es p path after fs next
    look_rows path by after fs next n = rows_rows t state states (value_at v.cells) (reach_of p) spells b es p at shape of.found path by after fs next n

    module _ (x : Index) (index_right : IsRightIndex t x) (is : IsIndexAt p x) where
      pub row_held : (k : List ℕ) (values : List Value) → IsKeyOf (columns_on (index_path t x)) values k → IsHolder b es p x.id k (keyed_if t x (owner_of t (index_path t x) values) k ((row_form t).spelled (value_at v.cells) (owner_of t (index_path t x) values) (reach_of p)))
      row_held k values key = subst (λ (o : RowState). IsHolder b es p x.id k (keyed_if t x (owner_of t (index_path t x) values) k o)) (sym (spells (owner_of t (index_path t x) values))) (holder t x right index_right state states b es p at shape of.found is k values key)

  module _ (x : Index) (index_right : IsRightIndex t x) (is : IsIndexAt p x) (i : ℕ) (there : i < length v.indexes) (built : (get_or v.indexes i no_part).is_built ≡ true) (form : index (get_or v.indexes i no_part).id ≡ index_form t x)
      (short : (k : List ℕ) (s : ℕ) (status : List ℕ) → value_at (get_or v.indexes i no_part).cells k 1 s Put ≡ Some status → length k ≤ most_key) (high : max (get_or v.indexes i no_part).birth v.high ≤ reach_of p) where
    pub look_keys : (path : Path) → path.by ≡ ByIndex x.id → (after : Option (List ℕ)) (fs : List FoundKey) (next : Option (List ℕ)) → AreNext (ShowsKey t x (reach_of p)) (value_at (get_or v.indexes i no_part).cells) path.low path.high after fs next → ShowsRows b es p path after fs next
    look_keys path by after fs next n =
        let low : v.low ≤ reach_of p = (let z = kept.low in omega arith) in
        keys_rows t x right index_right state (states low) (value_at (get_or v.indexes i no_part).cells) (reach_of p) (index_tells t b t.id index es v kept i there built (reach_of p) high x form) b es p at shape of.found is short path by after fs next n
