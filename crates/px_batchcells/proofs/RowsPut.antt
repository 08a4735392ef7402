-- The cells of a row's change are such as an open batch keeps, and each change writes one.
use Rattle.std.proofs.Common.{◌≡◌, ℕ, Bool, true, false, cond, ◌&&◌, Some, None, List, [], refl, sym, ◌∙◌}
use Rattle.std.specs.Prelude.{nat_eq}
use Rattle.std.specs.Cmp.Lexicographic.{pointwise}
use Rattle.std.specs.List.{AllByRecursion}
use Rattle.std.proofs.lemmas.Bool.{eq-eqb}
use Rattle.std.proofs.lemmas.Slice.Eq.{bytes_eq-Decides}
use Rattle.px_cells.specs.declared.kind.CellKind.{CellKind}
use Rattle.px_cells.specs.declared.kind.CellKind.TheVariants.{Put, Delete, DeleteFamilyVersion, DeleteColumn, DeleteFamily}
use Rattle.px_cells.specs.CellData.{CellData}
use Rattle.px_cells.specs.Contents.{value_at}
use Rattle.px_cells.specs.Order.{GoesWith, IsCellList}
use Rattle.px_cells.proofs.Among.{all_has, has_all, reads_from_has}
use Rattle.px_cells.proofs.Contents.{value_from_reads}
use Rattle.px_forms.specs.Indexes.{IndexForm}
use Rattle.px_groupworld.specs.Group.{table_form}
use Rattle.px_openbatches.specs.Made.{IsPutOfRow}
use Rattle.px_rows.specs.Keys.{row_key}
use Rattle.px_rows.specs.Spelled.{change_cells, change_contents, row_form, row_spelling}
use Rattle.px_tablereads.specs.Told.{StandsAt, WritesSome}
use Rattle.px_tables.specs.declared.table.Table.{Table}
use Rattle.px_trail.specs.Trail.{Base}
use Rattle.px_values.specs.declared.change.What.{What}
use Rattle.px_values.specs.declared.change.What.TheVariants.{Set, Gone}
use Rattle.px_values.specs.declared.name.TableId.{TableId}
use Rattle.px_values.specs.declared.row.Value.{Value}

not_delete : (t : Table) (w : What) (q : ℕ) (v : List ℕ) (d : CellKind) → change_cells (row_spelling t) w q d ≡ Some v → d ≡ Delete → ⊥
not_delete t (Set as') q v Delete e z = cc
not_delete t Gone q v Delete e z = cc
not_delete t w q v Put e z = cc
not_delete t w q v DeleteFamilyVersion e z = cc
not_delete t w q v DeleteColumn e z = cc
not_delete t w q v DeleteFamily e z = cc

module _ (b : Base) (id : TableId) (index : ℕ → IndexForm) (t : Table) (r : List Value) (s : ℕ) (w : What) (cells : List CellData) (list : IsCellList cells) (own : AllByRecursion (λ x. x.key ≡ row_key t r) cells) (values : value_at cells ≡ change_contents (row_spelling t) r s w) where
  -- its cells are at the row's key, of kinds that may stand there
  pub puts_keys : AllByRecursion (IsPutOfRow (table_form b id index (row_form t)) r) cells
  puts_keys = has_all (IsPutOfRow (table_form b id index (row_form t)) r) cells (λ x h. record {
    key = all_has (λ x. x.key ≡ row_key t r) cells x own h;
    placed = all_has GoesWith cells x list.placed h;
    kind = λ e.
        (let stands : change_contents (row_spelling t) r s w x.key x.qualifier x.stamp x.kind ≡ Some x.value = (λ i. sym values i x.key x.qualifier x.stamp x.kind) ∙ value_from_reads cells x.key x.qualifier x.stamp x.kind x.value (reads_from_has cells x list.ascending h) in
        at (pointwise nat_eq x.key (row_key t r) && nat_eq s x.stamp) x stands e);
  })
    where
      at : (v : Bool) (x : CellData) → cond v (change_cells (row_spelling t) w x.qualifier x.kind) None ≡ Some x.value → x.kind ≡ Delete → ⊥
      at true x z e = not_delete t w x.qualifier x.value x.kind z e
      at false x z e = cc

  -- and they are those of the change
  pub puts_values : (q u : ℕ) (d : CellKind) → value_at cells ((row_form t).key_of r) q u d ≡ (row_form t).cells_of r s w ((row_form t).key_of r) q u d
  puts_values q u d = λ i. values i ((row_form t).key_of r) q u d

-- the cell of a change at the row's key and the change's stamp
own_cell : (t : Table) (r : List Value) (s : ℕ) (w : What) (q : ℕ) (d : CellKind) → change_contents (row_spelling t) r s w (row_key t r) q s d ≡ change_cells (row_spelling t) w q d
own_cell t r s w q d = λ i. cond ((bytes_eq-Decides (row_key t r) (row_key t r)).1 refl i && eq-eqb s s refl i) (change_cells (row_spelling t) w q d) None

-- a row that is set has its empty column, and one that is removed its DeleteFamily
pub writes_some : (t : Table) → WritesSome (row_form t)
writes_some t = record { each = λ r s w fits. one r s w }
  where
    one : (r : List Value) (s : ℕ) (w : What) → StandsAt (row_form t) ((row_form t).cells_of r s w) r s
    one r s (Set as') = record { qualifier = 1; kind = Put; value = []; is = own_cell t r s (Set as') 1 Put }
    one r s Gone = record { qualifier = 0; kind = DeleteFamily; value = []; is = own_cell t r s Gone 0 DeleteFamily }
