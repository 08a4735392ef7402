-- What right cells of an index's keys give.
use Rattle.std.proofs.Common.{◌≡◌, ℕ, ◌≤◌, true, List, refl, sym, subst}
use Rattle.px_cells.specs.declared.kind.CellKind.{CellKind}
use Rattle.px_cells.specs.declared.kind.CellKind.TheVariants.{DeleteColumn}
use Rattle.px_cells.specs.CellData.{CellData}
use Rattle.px_cells.specs.Order.{Reads}
use Rattle.px_cells.specs.Sight.{IsPlainRegion}
use Rattle.px_cells.proofs.Contents.{reads_from_value}
use Rattle.px_indexed.specs.Kept.{AreIndexCells}
use Rattle.px_indexrow.specs.Form.{index_form, owns, row_of_index}
use Rattle.px_keys.specs.Reading.{IsKey}
use Rattle.px_keys.specs.declared.parts.KeyColumn.{KeyColumn}
use Rattle.px_paths.specs.Paths.{columns_on, index_path}
use Rattle.px_tables.specs.declared.index.Index.{Index}
use Rattle.px_tables.specs.declared.table.Table.{Table}
use Rattle.px_values.specs.Limits.{most_key}
use Rattle.px_values.specs.declared.row.Value.{Value}
use Rattle.px_values.proofs.Equal.{row_order-Decides}
use Rattle.px_cellshapes.specs.Keys.{AreRightKeys, FitsKeyPlace, IsRightIndexCell}
use Rattle.px_cellshapes.proofs.Each.{each_reads}
use Rattle.px_cellshapes.proofs.Paths.{index_columns_same}

-- each key holds the row that is read of it
held : (t : Table) (i : Index) (k : List ℕ) → (r : List Value) × (owns t i r k ≡ true)
unfolding owns
held t i k = (row_of_index t i k, (row_order-Decides (row_of_index t i k) (row_of_index t i k)).1 refl)

stays : (t : Table) (i : Index) (q : ℕ) (d : CellKind) (v : List ℕ) → FitsKeyPlace t i q d v → q ≡ 1 → d ≡ DeleteColumn → ⊥
stays t i q d v f e h = (subst (λ (n : ℕ). FitsKeyPlace t i n d v) e f).stays h

module _ (t : Table) (i : Index) (cells : List CellData) (h : AreRightKeys t i cells) where
  pub keys_plain : IsPlainRegion cells
  keys_plain = record {
    placed = λ c r. (each_reads (IsRightIndexCell t i) cells h.each c r).placed;
    no_delete = λ c r. (each_reads (IsRightIndexCell t i) cells h.each c r).no_delete;
  }

  pub keys_are : (c : CellData) → Reads cells c → IsKey most_key (columns_on (index_path t i)) c.key
  keys_are c r = subst (λ (columns : List KeyColumn). IsKey most_key columns c.key) (sym (index_columns_same t i)) (each_reads (IsRightIndexCell t i) cells h.each c r).key

  pub keys_owned : (last : ℕ) → ((c : CellData) → Reads cells c → c.stamp ≤ last) → AreIndexCells (index_form t i) last cells
  keys_owned last l = record {
    each = λ c v. (let right = h.each c v in record {
      stamp = l c (reads_from_value cells c.key c.qualifier c.stamp c.kind c.value v);
      owner = held t i c.key;
      placed = right.placed;
      kind = right.no_delete;
      status = stays t i c.qualifier c.kind c.value right.fits;
    });
  }
