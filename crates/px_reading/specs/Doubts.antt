-- What is asked of a doubted version.
use Rattle.std.specs.Prelude.{◌≡◌, ℕ, ◌<◌, Bool, true, false, cond, ◌&&◌, List, length, max, nat_eq, get_or, slice_get, Option, None, Some, is_some}
use Rattle.std.specs.List.{list_any}
use Rattle.px_cells.specs.CellData.{CellData}
use Rattle.px_cells.specs.Contents.{value_at}
use Rattle.px_cells.specs.Order.{IsCellList}
use Rattle.px_forms.specs.Indexes.{IndexForm}
use Rattle.px_groupworld.specs.Group.{GroupData, no_part}
use Rattle.px_indexrow.specs.Form.{FitsRowState, bytes_if}
use Rattle.px_keys.specs.Reading.{IsKey}
use Rattle.px_keys.specs.Spelling.{Fits}
use Rattle.px_looks.specs.Found.{at_key}
use Rattle.px_looks.specs.Versions.{version_at}
use Rattle.px_looks.specs.declared.version.KeyVersion.{KeyVersion}
use Rattle.px_paths.specs.Paths.{columns_on, index_path}
use Rattle.px_phases.specs.Batch.{left_in}
use Rattle.px_region.specs.Region.{read_of}
use Rattle.px_rows.specs.Keys.{column_in, row_columns, row_key}
use Rattle.px_rows.specs.Stored.{stored}
use Rattle.px_rows.specs.Spelled.{IsPlainAt, row_form}
use Rattle.px_rows.specs.inner.Found.{AreOf}
use Rattle.px_tablereads.specs.Told.{AreTold}
use Rattle.px_tables.specs.declared.index.Index.{Index}
use Rattle.px_tables.specs.declared.table.Table.{Table}
use Rattle.px_trail.specs.Trail.{Base}
use Rattle.px_trail.specs.declared.entry.Entry.{Entry}
use Rattle.px_values.specs.Limits.{most_key}
use Rattle.px_values.specs.States.{RowState}
use Rattle.px_values.specs.declared.row.Value.{Value}
use Rattle.px_values.specs.declared.row.Value.TheVariants.{Null}
use Rattle.px_world.specs.Events.{Verdict, ToVerify, ToRetire, ToErase}
use Rattle.px_world.specs.World.{World, horizon, is_undecided, st, vis}
use Rattle.px_shown.specs.Told.{is_key_in}
use Rattle.px_group.specs.Group.{form_of}
use Rattle.px_group.specs.declared.group.Begun.{Begun}
use Rattle.px_group.specs.declared.group.Group.{Group}
use Rattle.px_group.specs.declared.group.IndexRegion.{IndexRegion}

-- the key is one of the index's
abbrev pub IsKeyIn : Group → IndexRegion → List ℕ → Type 0
IsKeyIn g x k = IsKey most_key (columns_on (index_path g.table x.index)) k

-- an open batch of the stamp is still to write the row
abbrev pub is_left_of : ℕ → List Value → Begun → Bool
is_left_of s r m = nat_eq m.batch.stamp s && is_some (left_in m.batch r)

abbrev pub is_pending : Group → ℕ → List Value → Bool
is_pending g s r = list_any (is_left_of s r) g.batches.items

-- up to where the table and the index are forgotten
abbrev pub horizon_at : Group → IndexRegion → ℕ
horizon_at g x = max x.index.birth g.horizon

-- the version that is seen of the key, by a point at or above both the stamp and the horizon
abbrev pub version_seen : Group → IndexRegion → List ℕ → ℕ → Option KeyVersion
version_seen g x k s = version_at (at_key (value_at (read_of x.region)) k) x.index.included (max s (horizon_at g x))

-- What a repair rests on besides what is shown: written changes have their cells, and each index's cells are forgotten up to the horizon
-- of its manifest
pub record IsToldBy (b : Base) (index : ℕ → IndexForm) (es : List Entry) (g : Group) (v : GroupData) : Type 0 where
  pub told : AreTold (form_of b index g) es v
  pub own : (i : ℕ) (x : IndexRegion) → slice_get g.indexes.items i ≡ Some x → (get_or v.indexes i no_part).horizon ≡ x.region.horizon

-- a row's primary key values, and its cells
pub record IsRowOf (t : Table) (r : List Value) (cells : List CellData) : Type 0 where
  pub fits : Fits (row_columns t) r
  pub list : IsCellList cells
  pub own : AreOf (row_key t r) cells
  pub plain : IsPlainAt (value_at cells) (row_key t r)
  pub typed : (p : ℕ) → FitsRowState t ((row_form t).spelled (value_at cells) r p)

-- the bytes of a column's value, none of NULL
abbrev pub state_bytes : Table → RowState → ℕ → Option (List ℕ)
state_bytes t None c = None
state_bytes t (Some row) c = bytes_if (stored (column_in t.columns c).column_type (get_or row c Null)) (get_or row c Null)

-- what is due above the horizon: of a change that was written the version is verified at the row's new key and retired at another, and of
-- another change it is erased
abbrev pub above_verdict : Bool → Bool → Verdict
above_verdict false keyed = ToErase
above_verdict true keyed = cond keyed ToVerify ToRetire

-- in the world of the row and the index this is told of a version at or below the horizon
pub record IsBelow (t : Table) (x : Index) (r : List Value) (cells : List CellData) (k : List ℕ) (s h floor : ℕ) (values : List (Option (List ℕ))) (w : World (List ℕ) RowState (List ℕ)) : Type 0 where
  pub decided : is_undecided (w.fate s) ≡ false
  pub horizon_is : horizon w ≡ h
  pub floor_is : w.floor ≡ floor
  pub state : st w h ≡ (row_form t).spelled (value_at cells) r h
  pub values_are : (c : ℕ) → c < length x.included → get_or values c None ≡ vis w k h c

-- the same for any form of an index, by the values that are seen, and by the row's key and values at the horizon
pub record IsBelowBy (f : IndexForm) (r : List Value) (w : World (List ℕ) RowState (List ℕ)) (k : List ℕ) (s h floor : ℕ) (seen : List (Option (List ℕ))) (own : Option (List ℕ)) (values : List (Option (List ℕ))) : Type 0 where
  pub decided : is_undecided (w.fate s) ≡ false
  pub horizon_is : horizon w ≡ h
  pub floor_is : w.floor ≡ floor
  pub keyed : is_key_in k (f.key_of r (st w h)) ≡ is_key_in k own
  pub count : length seen ≡ f.columns
  pub seen_are : (c : ℕ) → c < f.columns → get_or seen c None ≡ vis w k h c
  pub values_are : (c : ℕ) → c < f.columns → get_or values c None ≡ f.col (st w h) c
