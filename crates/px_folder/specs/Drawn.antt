-- Numbers that were drawn.
use Rattle.std.specs.Prelude.{◌≤◌, ◌<◌, ℕ}
use Rattle.std.specs.List.{All}
use Rattle.px_outside.specs.Parts.{AreDistinct}
use Rattle.px_tables.specs.declared.index.Index.{Index}
use Rattle.px_tables.specs.declared.table.Table.{Table}
use Rattle.px_schema.specs.declared.standing.Standing.{Standing}
use Rattle.px_recovery.specs.Folder.{region_numbers}

-- a number of a region that was drawn before the next one
pub record IsRegionDrawn (next n : ℕ) : Type 0 where
  pub some : 1 ≤ n
  pub below : n < next

pub record IsDrawnTable (next : ℕ) (t : Table) : Type 0 where
  pub id : t.id.0 < next
  pub regions : All (λ g. IsRegionDrawn next g.number) t.regions

pub record IsDrawnIndex (next : ℕ) (i : Index) : Type 0 where
  pub id : i.id.0 < next
  pub region : IsRegionDrawn next i.region

abbrev pub same_number : ℕ → ℕ
same_number n = n

-- All numbers of what stands were drawn, and no region is named twice.
pub record AreDrawn (s : Standing) : Type 0 where
  pub least : 1 ≤ s.next
  pub tables : All (IsDrawnTable s.next) s.tables
  pub indexes : All (IsDrawnIndex s.next) s.indexes
  pub once : AreDistinct same_number (region_numbers s)
