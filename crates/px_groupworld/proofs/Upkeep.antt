-- Compactions of a table's regions, and an index that is born.
use Rattle.std.proofs.Common.{◌≡◌, ℕ, ◌<◌, max, true, false, Some, List, length, get_or, refl, sym, subst, arith}
use Rattle.px_cells.specs.CellData.{CellData}
use Rattle.px_values.specs.declared.name.TableId.{TableId}
use Rattle.px_values.specs.States.{Shape as RowShape}
use Rattle.px_trail.specs.declared.entry.Entry.{Entry}
use Rattle.px_trail.specs.Trail.{Base}
use Rattle.px_world.specs.Events.{Forget}
use Rattle.px_world.specs.IndexCells.{Moves}
use Rattle.px_indexed.specs.Worlds.{Indexed, world_at}
use Rattle.px_indexed.specs.Kept.{IndexKept, IsCompacted, RowsKept}
use Rattle.px_indexed.proofs.OtherSteps.{forgotten_moves, index_forgotten}
use Rattle.px_indexed.proofs.Compacted.{compacted_moves, index_compacted}
use Rattle.px_indexed.proofs.DataSteps.{data_compacted}
use Rattle.px_groupworld.specs.Group.{TableForm, IndexPart, GroupData, GroupKept, no_part, as_index, indexed_at, shape_in, world_in}
use Rattle.px_groupworld.specs.Steps.{Steps, at_index, forgot_data, own_forgot_data}
use Rattle.px_groupworld.proofs.Entries.{rows_of_group}
use Rattle.px_groupworld.proofs.Cells.{one_step}

module _ (f : TableForm) (es : List Entry) (v : GroupData) (k : GroupKept f es v) where
  abbrev b : Base
  b = f.base

  abbrev sh : RowShape
  sh = f.rows.shape

  abbrev tid : TableId
  tid = f.id

  rows : RowsKept sh b es tid.0 v.high
  rows = rows_of_group f es v k

  -- ---- the data region was compacted

  module _ (new : List CellData) (is : IsCompacted v.cells new v.high) where
    at_forgot : (i : ℕ) → i < length v.indexes → indexed_at f (forgot_data new v) i ≡ record (indexed_at f v i) { kept = max (indexed_at f v i).birth v.high }
    at_forgot i l =
        let own = k.own i l in
        let same : max (max (get_or v.indexes i no_part).birth (get_or v.indexes i no_part).horizon) v.high ≡ max (get_or v.indexes i no_part).birth v.high = omega arith in
        λ j. record (indexed_at f v i) { kept = same j }

    pub group_forgot : Steps f (λ i r. Some (Forget false)) es v es (forgot_data new v)
    group_forgot = record {
      kept = record {
        legal = k.legal;
        base = k.base;
        shape = k.shape;
        high = k.high;
        indexes = λ i l. subst (IndexKept sh b es tid.0 v.high) (sym (at_forgot i l)) (index_forgotten sh b es tid v.high rows (indexed_at f v i) (k.indexes i l));
        told = data_compacted b es tid.0 f.rows v.low v.high v.cells new k.told k.low is;
        low = omega arith;
        own = k.own;
        begun = k.begun;
        apart = k.apart;
      };
      does = record {
        count = refl;
        each = λ i l r. subst (λ (x : Indexed). Moves (shape_in f v i r) (Some (Forget false)) (world_in f es v i r) (world_at sh b es tid.0 v.high x r)) (sym (at_forgot i l)) (forgotten_moves sh b es tid v.high rows (indexed_at f v i) (k.indexes i l) r);
      };
    }

  -- ---- an index's own region was

  module _ (i0 : ℕ) (l : i0 < length v.indexes) (new : List CellData) (is : IsCompacted (get_or v.indexes i0 no_part).cells new v.high) where
    abbrev part : IndexPart
    part = record (get_or v.indexes i0 no_part) { cells = new; horizon = v.high }

    small_is : as_index f v.low v.opens i0 part ≡ record (indexed_at f v i0) { cells = new; kept = max (get_or v.indexes i0 no_part).birth v.high; floor = max (get_or v.indexes i0 no_part).birth v.high }
    small_is =
        let low = k.low in
        let same : max (max (get_or v.indexes i0 no_part).birth v.high) v.low ≡ max (get_or v.indexes i0 no_part).birth v.high = omega arith in
        λ j. record (indexed_at f v i0) { cells = new; kept = same j; floor = max (get_or v.indexes i0 no_part).birth v.high }

    pub group_own_forgot : Steps f (λ i r. at_index i0 i (Some (Forget true))) es v es (own_forgot_data i0 new v)
    group_own_forgot = one_step f es v k i0 l part v.opens (λ i n u. refl) (λ r. Some (Forget true))
        (subst (IndexKept sh b es tid.0 v.high) (sym small_is) (index_compacted sh b es tid v.high (indexed_at f v i0) new is (k.indexes i0 l)))
        (λ r. subst (λ (x : Indexed). Moves (shape_in f v i0 r) (Some (Forget true)) (world_in f es v i0 r) (world_at sh b es tid.0 v.high x r)) (sym small_is) (compacted_moves sh b es tid v.high (indexed_at f v i0) new is (k.indexes i0 l) r))
        (omega arith) k.begun k.apart
