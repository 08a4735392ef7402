-- What the cells of the rows tell of a change: it was written where a cell has its stamp.
use Rattle.std.specs.Prelude.{◌≡◌, ℕ, ◌<◌, true, List, Some}
use Rattle.px_cells.specs.declared.kind.CellKind.{CellKind}
use Rattle.px_cells.specs.Contents.{Contents, value_at}
use Rattle.px_values.specs.declared.row.Value.{Value}
use Rattle.px_values.specs.declared.change.What.{What}
use Rattle.px_trail.specs.declared.entry.Act.{Act}
use Rattle.px_trail.specs.declared.entry.Act.TheVariants.{Wrote}
use Rattle.px_trail.specs.declared.entry.Entry.{Entry}
use Rattle.px_world.specs.World.{is_written}
use Rattle.px_forms.specs.Rows.{DataForm}
use Rattle.px_indexed.specs.Worlds.{history_at}
use Rattle.px_groupworld.specs.Group.{TableForm, GroupData}

-- a cell stands at the row's key with the stamp
pub record StandsAt (f : DataForm) (g : Contents) (r : List Value) (s : ℕ) : Type 0 where
  pub qualifier : ℕ
  pub kind : CellKind
  pub value : List ℕ
  pub is : g (f.key_of r) qualifier s kind ≡ Some value

-- each change writes a cell
pub record WritesSome (f : DataForm) : Type 0 where
  pub each : (r : List Value) (s : ℕ) (w : What) → f.Fits r w → StandsAt f (f.cells_of r s w) r s

-- each written change above the data horizon has a cell
pub record AreTold (f : TableForm) (es : List Entry) (v : GroupData) : Type 0 where
  pub each : (r : List Value) (s : ℕ) → v.low < s → is_written ((history_at f.rows.shape f.base es f.id.0 r).fate s) ≡ true → StandsAt f.rows (value_at v.cells) r s

-- the act writes no row
abbrev pub WritesNoRow : Act → Type 0
WritesNoRow (Wrote t s rows) = ⊥
WritesNoRow act = Unit {0}
