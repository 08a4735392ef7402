-- What a horizon keeps of cells that have their shape, and of tables.
use Rattle.std.proofs.Common.{◌≡◌, ◌≤◌, ℕ, List, sym, subst, ◌∙◌}
use Rattle.px_cells.specs.CellData.{CellData}
use Rattle.px_cellshapes.specs.Keys.{AreRightKeys, IsRightIndexCell}
use Rattle.px_cellshapes.specs.Rows.{AreRightRows, IsRightRowCell}
use Rattle.px_cellshapes.proofs.KeysRead.{keys_plain}
use Rattle.px_cellshapes.proofs.RowsRead.{rows_plain}
use Rattle.px_cellshapes.proofs.Steps.{each_compacted}
use Rattle.px_indexed.specs.Kept.{IsCompacted}
use Rattle.px_indexed.proofs.Compacted.{compacted_from}
use Rattle.px_merge.specs.Kept.{IsKeptList}
use Rattle.px_forms.specs.Indexes.{IndexForm}
use Rattle.px_groupworld.specs.Group.{GroupData}
use Rattle.px_openbatches.specs.Pending.{HeldBatch}
use Rattle.px_region.specs.declared.region.Region.{Region}
use Rattle.px_region.specs.Promise.{IsSamePromise}
use Rattle.px_tables.specs.declared.index.Index.{Index}
use Rattle.px_tables.specs.declared.table.Table.{Table}
use Rattle.px_trail.specs.Trail.{Base}
use Rattle.px_trail.specs.declared.entry.Entry.{Entry}
use Rattle.px_group.specs.Group.{IsShownBy, IsTallied}
use Rattle.px_group.specs.Room.{HasPromised}
use Rattle.px_group.specs.declared.group.Group.{Group}

module _ (t : Table) (cells : List CellData) (shape : AreRightRows t cells) (h : ℕ) (kept : List CellData) (is : IsKeptList cells h kept) where
  pub rows_compacted : IsCompacted cells kept h
  rows_compacted = compacted_from cells kept h (rows_plain t cells shape) is.exact

  pub rows_kept : AreRightRows t kept
  rows_kept = record { each = each_compacted cells kept h rows_compacted (IsRightRowCell t) shape.each }

module _ (t : Table) (i : Index) (cells : List CellData) (shape : AreRightKeys t i cells) (h : ℕ) (kept : List CellData) (is : IsKeptList cells h kept) where
  pub keys_compacted : IsCompacted cells kept h
  keys_compacted = compacted_from cells kept h (keys_plain t i cells shape) is.exact

  pub keys_kept : AreRightKeys t i kept
  keys_kept = record { each = each_compacted cells kept h keys_compacted (IsRightIndexCell t i) shape.each }

-- the room that was promised stays
pub promised_on : (old new : Region) (cells bytes : ℕ) → IsSamePromise old new → HasPromised old cells bytes → HasPromised new cells bytes
promised_on old new cells bytes same h = (subst (λ (n : ℕ). cells ≤ n) (sym same.cells) h.0, subst (λ (n : ℕ). bytes ≤ n) (sym same.bytes) h.1)

-- the table's data have its horizon
pub high_is : (b : Base) (index : ℕ → IndexForm) (es : List Entry) (g : Group) (hs : List HeldBatch) → IsTallied b es g hs → (v : GroupData) → IsShownBy b index es g v hs → v.high ≡ g.horizon
high_is b index es g hs k v shown = sym shown.kept.group.high ∙ k.horizon
