-- The cells of one row, and what they tell.
use Rattle.std.proofs.Common.{◌≡◌, ℕ, List, refl, subst, ◌∙◌}
use Rattle.px_cells.specs.declared.kind.CellKind.{CellKind}
use Rattle.px_cells.specs.declared.kind.CellKind.TheVariants.{Delete, DeleteFamilyVersion}
use Rattle.px_cells.specs.CellData.{CellData}
use Rattle.px_cells.specs.Contents.{cell_of, value_at}
use Rattle.px_cells.specs.Order.{GoesWith, IsCellList}
use Rattle.px_cells.specs.Rows.{IsRow}
use Rattle.px_cells.specs.Sight.{IsPlainRegion}
use Rattle.px_cells.proofs.Among.{has_all, reads_from_has}
use Rattle.px_cells.proofs.Contents.{option_same, reads_from_value, value_from_reads}
use Rattle.px_values.specs.declared.row.Value.{Value}
use Rattle.px_tables.specs.declared.table.Table.{Table}
use Rattle.px_rows.specs.Keys.{row_key}
use Rattle.px_rows.specs.Spelled.{IsPlainAt, row_form}
use Rattle.px_rows.proofs.Spelled.{table_laws}
use Rattle.px_rows.specs.inner.Found.{AreOf}

module _ (cells row : List CellData) (key : List ℕ) (is : IsRow cells key row) where
  -- at its key a row has what the whole has
  pub row_values : (q s : ℕ) (d : CellKind) → value_at row key q s d ≡ value_at cells key q s d
  row_values q s d = option_same _ _
      (λ v e. value_from_reads cells key q s d v ((is.exact (cell_of key q s d v)).0 (reads_from_value row key q s d v e)).0)
      (λ v e. value_from_reads row key q s d v ((is.exact (cell_of key q s d v)).1 (reads_from_value cells key q s d v e, refl)))

  pub row_is_own : AreOf key row
  row_is_own = has_all (λ c. c.key ≡ key) row (λ c has. ((is.exact c).0 (reads_from_has row c is.ascending has)).1)

  pub row_is_list : IsPlainRegion cells → IsCellList row
  row_is_list plain = record { ascending = is.ascending; placed = has_all GoesWith row (λ c has. plain.placed c ((is.exact c).0 (reads_from_has row c is.ascending has)).0) }

  pub row_is_plain : IsPlainAt (value_at cells) key → IsPlainAt (value_at row) key
  row_is_plain plain = record { no_delete = λ q s. row_values q s Delete ∙ plain.no_delete q s; no_version = λ s. row_values 0 s DeleteFamilyVersion ∙ plain.no_version s }

  -- what is spelled of the row is what the whole spells
  pub row_spelled : (t : Table) (values : List Value) (p : ℕ) → key ≡ row_key t values → (row_form t).spelled (value_at row) values p ≡ (row_form t).spelled (value_at cells) values p
  row_spelled t values p is =
      (table_laws t).local (value_at cells) (value_at row) values p
      (record { each = λ q u d le. subst (λ (k : List ℕ). value_at row k q u d ≡ value_at cells k q u d) is (row_values q u d) })
