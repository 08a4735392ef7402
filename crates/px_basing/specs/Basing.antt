-- What writing the base versions of rows does to their table.
use Rattle.std.specs.Prelude.{◌≡◌, ℕ, List, Result, Ok, Err, Some, slice_get}
use Rattle.px_outside.specs.declared.disk.Disk.{Ghosts}
use Rattle.px_cells.specs.CellData.{CellData}
use Rattle.px_keptcells.specs.Kept.{laid}
use Rattle.px_region.specs.declared.region.Region.{Region}
use Rattle.px_indexrow.specs.Form.{index_form}
use Rattle.px_baserows.specs.Rows.{AreBaseRows, StoodAt, base_parts}
use Rattle.px_calls.specs.declared.query.BaseRow.{BaseRow}
use Rattle.px_trail.specs.Trail.{Base}
use Rattle.px_trail.specs.declared.entry.Entry.{Entry}
use Rattle.px_group.specs.declared.group.Group.{Group}
use Rattle.px_group.specs.declared.group.IndexRegion.{IndexRegion}
use Rattle.px_reading.specs.Looked.{IsLookedAt}
use Rattle.px_repairs.specs.Repairs.{HandsTo, HasStayed, IsRegionStep, WroteTo}
use Rattle.px_basing.specs.declared.fault.BaseFault.{BaseFault}
use Rattle.px_basing.specs.declared.fault.BaseFault.TheVariants.{Busy, NotReady, WriteFault, Memory}

-- 1. The rows

-- they are rows of the table with their keys in the index at the place
abbrev pub AreGiven : Group → ℕ → List BaseRow → Type 0
AreGiven g place xs = (x : IndexRegion) → slice_get g.indexes.items place ≡ Some x → AreBaseRows g.table x.index xs

-- and the trail tells that the table had them at the birth of that index
abbrev pub StoodAtBirth : Base → List Entry → Group → ℕ → List BaseRow → Type 0
StoodAtBirth b es g place xs = (x : IndexRegion) → slice_get g.indexes.items place ≡ Some x → StoodAt b es g.table x.index.birth xs

-- the cells of their base versions
abbrev pub base_cells_of : Group → IndexRegion → List BaseRow → List CellData
base_cells_of g x xs = laid (base_parts (index_form g.table x.index) x.index.birth xs)

-- 2. What is written

-- whether or not the disk fails, they are handed to the region of the index at the place
pub record HandsBases {D : Type 0} (d : Ghosts D) (g g' : Group) (disk disk' : D) (place : ℕ) (xs : List BaseRow) : Type 0 where
  pub index : IndexRegion
  pub region : Region
  pub step : IsRegionStep g g' place index region
  pub hands : HandsTo d index.region region disk disk' (base_cells_of g index xs)

-- where it doesn't fail they are written, and the room that was taken for them is used
pub record WroteBases {D : Type 0} (d : Ghosts D) (g g' : Group) (disk disk' : D) (place : ℕ) (xs : List BaseRow) : Type 0 where
  pub index : IndexRegion
  pub region : Region
  pub step : IsRegionStep g g' place index region
  pub wrote : WroteTo d index.region region disk disk' (base_cells_of g index xs)

-- what writing to a region leaves, by the answer: a refusal of room leaves it as it was
abbrev pub Written : {D T : Type 0} → Ghosts D → Region → Region → D → D → List CellData → Result T BaseFault → Type 0
Written d old new disk disk' kept (Ok done) = WroteTo d old new disk disk' kept
Written d old new disk disk' kept (Err WriteFault) = HandsTo d old new disk disk' kept
Written d old new disk disk' kept (Err (Busy region cells bytes)) = IsLookedAt old new × (disk' ≡ disk)
Written d old new disk disk' kept (Err (NotReady region)) = IsLookedAt old new × (disk' ≡ disk)
Written d old new disk disk' kept (Err Memory) = IsLookedAt old new × (disk' ≡ disk)

-- what became of the table, by the answer: a refusal of room or of memory leaves it as it was
abbrev pub Bases : {D T : Type 0} → Ghosts D → Group → Group → D → D → ℕ → List BaseRow → Result T BaseFault → Type 0
Bases d g g' disk disk' place xs (Ok done) = WroteBases d g g' disk disk' place xs
Bases d g g' disk disk' place xs (Err WriteFault) = HandsBases d g g' disk disk' place xs
Bases d g g' disk disk' place xs (Err (Busy region cells bytes)) = HasStayed g g' disk disk'
Bases d g g' disk disk' place xs (Err (NotReady region)) = HasStayed g g' disk disk'
Bases d g g' disk disk' place xs (Err Memory) = HasStayed g g' disk disk'
