-- What a folder must give for a table, before the first entry of a run.
use Rattle.std.specs.Prelude.{◌≡◌, ℕ, ◌<◌, ◌≤◌, true, ◌⊎◌, List, [], length, get_or, Some}
use Rattle.px_cells.specs.declared.kind.CellKind.{CellKind}
use Rattle.px_cells.specs.Contents.{value_at}
use Rattle.px_values.specs.declared.row.Value.{Value}
use Rattle.px_trail.specs.Trail.{shape_of}
use Rattle.px_world.specs.Facts.{IsSoundWorld}
use Rattle.px_forms.specs.Indexes.{IsIndexForm}
use Rattle.px_forms.specs.Rows.{IsDataForm}
use Rattle.px_indexed.specs.Kept.{AreIndexCells, AreRowCells}
use Rattle.px_groupworld.specs.Group.{TableForm, GroupData, IsTableBase, no_part, indexed_at, shape_in, world_in}

-- an index of the folder, with a sound world of every row
pub record IsSoundIndex (f : TableForm) (v : GroupData) (i : ℕ) : Type 0 where
  pub form : IsIndexForm (indexed_at f v i).form
  pub birth : (indexed_at f v i).birth ≤ f.base.last f.id.0
  pub own : (get_or v.indexes i no_part).horizon ≤ v.high
  pub cells : AreIndexCells (indexed_at f v i).form (f.base.last f.id.0) (indexed_at f v i).cells
  pub worlds : (r : List Value) → IsSoundWorld (shape_in f v i r) (world_in f [] v i r)

-- the base's states of each row are what its cells spell, and each index is sound
pub record IsSoundTable (f : TableForm) (v : GroupData) : Type 0 where
  pub base : IsTableBase f.base f.id.0
  pub shape : shape_of f.base [] f.id.0 ≡ f.rows.shape
  pub high : f.base.horizon f.id.0 ≡ v.high
  pub opens : v.opens ≡ []
  pub low : v.low ≤ v.high
  pub indexes : (i : ℕ) → i < length v.indexes → IsSoundIndex f v i
  pub form : IsDataForm f.rows
  pub cells : AreRowCells f.rows v.cells
  pub stamps : (r : List Value) (q u : ℕ) (d : CellKind) (x : List ℕ) → value_at v.cells (f.rows.key_of r) q u d ≡ Some x → (u ≤ v.low) ⊎ (f.base.changed f.id.0 r u ≡ true)
  pub spells : (r : List Value) (p : ℕ) → v.low ≤ p → f.rows.spelled (value_at v.cells) r p ≡ f.base.state f.id.0 r p
  pub whole : (r : List Value) → f.rows.IsWhole v.low (value_at v.cells) r

-- a table that was just made
abbrev pub made_data : GroupData
made_data = record { high = 0; low = 0; cells = []; indexes = []; opens = [] }
