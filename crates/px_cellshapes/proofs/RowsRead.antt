-- What right cells of rows give.
use Rattle.std.proofs.Common.{ℕ, List, refl}
use Rattle.px_cells.specs.declared.kind.CellKind.TheVariants.{Delete, DeleteFamilyVersion}
use Rattle.px_cells.specs.CellData.{CellData}
use Rattle.px_cells.specs.Contents.{cell_of, value_at}
use Rattle.px_cells.specs.Sight.{IsPlainRegion}
use Rattle.px_indexed.specs.Kept.{AreRowCells}
use Rattle.px_rows.specs.Spelled.{IsPlainAt, row_form}
use Rattle.px_tables.specs.declared.table.Table.{Table}
use Rattle.px_cellshapes.specs.Rows.{AreRightRows, IsRightRowCell}
use Rattle.px_cellshapes.proofs.Each.{each_reads, none_if}
use Rattle.px_cellshapes.proofs.Typed.{key_owner}

module _ (t : Table) (cells : List CellData) (h : AreRightRows t cells) where
  pub rows_plain : IsPlainRegion cells
  rows_plain = record {
    placed = λ c r. (each_reads (IsRightRowCell t) cells h.each c r).placed;
    no_delete = λ c r. (each_reads (IsRightRowCell t) cells h.each c r).no_delete;
  }

  pub rows_plain_at : (k : List ℕ) → IsPlainAt (value_at cells) k
  rows_plain_at k = record {
    no_delete = λ q s. none_if (value_at cells k q s Delete) (λ v e. (h.each (cell_of k q s Delete v) e).no_delete refl);
    no_version = λ s. none_if (value_at cells k 0 s DeleteFamilyVersion) (λ v e. (h.each (cell_of k 0 s DeleteFamilyVersion v) e).no_version refl);
  }

  pub rows_owned : AreRowCells (row_form t) cells
  rows_owned = record {
    each = λ c v. (let right = h.each c v in record { owner = key_owner t c.key right.key; placed = right.placed; kind = right.no_delete });
  }
