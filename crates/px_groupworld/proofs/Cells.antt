-- Cells that are put into one index's region: each step keeps what is true of a table, and is its event for each row there.
use Rattle.std.proofs.Common.{◌≡◌, ℕ, ◌<◌, ◌≤◌, true, Option, Some, None, List, ◌++◌, length, get_or, refl, ap, sym, ◌∙◌, subst, inl, inr, arith}
use Rattle.std.specs.Prelude.{nat_eq}
use Rattle.std.specs.List.{AllByRecursion}
use Rattle.std.proofs.Math.ListN.{set, length-set}
use Rattle.std.proofs.lemmas.List.{get_or-set_same, get_or-set_other}
use Rattle.std.proofs.lemmas.Bool.{cases_eq, cond-true, cond-false, eq-eqb, ne_eqb}
use Rattle.px_cells.specs.CellData.{CellData}
use Rattle.px_cells.specs.Order.{ReadsSame}
use Rattle.px_values.specs.declared.row.Value.{Value}
use Rattle.px_values.specs.declared.change.What.{What}
use Rattle.px_values.specs.declared.name.TableId.{TableId}
use Rattle.px_values.specs.States.{Shape as RowShape}
use Rattle.px_trail.specs.declared.entry.Entry.{Entry}
use Rattle.px_trail.specs.Batches.{change_of, has}
use Rattle.px_trail.specs.Trail.{Base, last_of}
use Rattle.px_world.specs.Events.{Event, Mark, Verify, Fix, Base as BaseVersion, Ready, Comes}
use Rattle.px_world.specs.IndexCells.{Moves}
use Rattle.px_indexed.specs.Worlds.{Indexed, change_event, row_event, world_at}
use Rattle.px_indexed.specs.Kept.{RowsKept, IndexKept}
use Rattle.px_indexed.proofs.Rows.{is_whole_of}
use Rattle.px_indexed.proofs.CellSteps.{marked_moves, index_marked, verified_moves, index_verified, repaired_moves, index_repaired}
use Rattle.px_indexed.proofs.OtherSteps.{based_moves, index_based, ready_moves, index_ready}
use Rattle.px_groupworld.specs.Group.{TableForm, IndexPart, OpenBatch, GroupData, GroupKept, IsOpen, no_part, no_open, waits_in, as_index, indexed_at, shape_in, world_in}
use Rattle.px_groupworld.specs.Steps.{Steps, at_index, cells_data, marked_data, gone_on, ready_data, with_cells}
use Rattle.px_groupworld.specs.Asks.{CanMark, CanVerify, CanFix, CanBase}
use Rattle.px_groupworld.proofs.Opens.{all_at, all_set, apart_set, waits_marked, waits_others, waits_true, is_next}
use Rattle.px_groupworld.proofs.Entries.{rows_of_group}

module _ (f : TableForm) (es : List Entry) (v : GroupData) (k : GroupKept f es v) where
  abbrev b : Base
  b = f.base

  abbrev sh : RowShape
  sh = f.rows.shape

  abbrev tid : TableId
  tid = f.id

  abbrev xs : List IndexPart
  xs = v.indexes

  abbrev at : ℕ → Indexed
  at i = indexed_at f v i

  rows : RowsKept sh b es tid.0 v.high
  rows = rows_of_group f es v k

  -- ---- one index changes, and the open batches that wait for it

  module _ (j : ℕ) (lj : j < length xs) (x : IndexPart) (os : List OpenBatch) (others : (i : ℕ) → (j ≡ i → ⊥) → (u : ℕ) → waits_in os i u ≡ waits_in v.opens i u)
      (ev : List Value → Option (Event (List ℕ) What))
      (mine_kept : IndexKept sh b es tid.0 v.high (as_index f v.low os j x))
      (mine_moves : (r : List Value) → Moves (shape_in f v j r) (ev r) (world_in f es v j r) (world_at sh b es tid.0 v.high (as_index f v.low os j x) r)) where
    abbrev next : GroupData
    next = record v { indexes = set xs j x; opens = os }

    here : indexed_at f next j ≡ as_index f v.low os j x
    here = ap (as_index f v.low os j) (get_or-set_same xs j x no_part lj)

    there : (i : ℕ) → (j ≡ i → ⊥) → indexed_at f next i ≡ at i
    there i n = ap (as_index f v.low os i) (get_or-set_other xs j i x no_part (λ q. n (sym q))) ∙ (λ a. record (at i) { waits = λ u. others i n u a })

    one_kept : (i : ℕ) → i < length xs → IndexKept sh b es tid.0 v.high (indexed_at f next i)
    one_kept i l = elim (cases_eq j i) [
      | inl q ↦ subst (λ (z : ℕ). IndexKept sh b es tid.0 v.high (indexed_at f next z)) q (subst (IndexKept sh b es tid.0 v.high) (sym here) mine_kept)
      | inr q ↦ subst (IndexKept sh b es tid.0 v.high) (sym (there i q)) (k.indexes i l)
    ]

    one_moved : (i : ℕ) → i < length xs → (r : List Value) → Moves (shape_in f v i r) (at_index j i (ev r)) (world_in f es v i r) (world_in f es next i r)
    one_moved i l r = elim (cases_eq j i) [
      | inl q ↦ subst (λ (z : ℕ). Moves (shape_in f v z r) (at_index j z (ev r)) (world_in f es v z r) (world_in f es next z r)) q
          (subst (λ (o : Option (Event (List ℕ) What)). Moves (shape_in f v j r) o (world_in f es v j r) (world_in f es next j r)) (sym (cond-true (nat_eq j j) (ev r) None (eq-eqb j j refl)))
          (subst (λ (y : Indexed). Moves (shape_in f v j r) (ev r) (world_in f es v j r) (world_at sh b es tid.0 v.high y r)) (sym here) (mine_moves r)))
      | inr q ↦ subst (λ (o : Option (Event (List ℕ) What)). Moves (shape_in f v i r) o (world_in f es v i r) (world_in f es next i r)) (sym (cond-false (nat_eq j i) (ev r) None (ne_eqb j i q)))
          (ap (λ (y : Indexed). world_at sh b es tid.0 v.high y r) (there i q))
    ]

    own_one : x.horizon ≤ v.high → (i : ℕ) → i < length xs → (get_or (set xs j x) i no_part).horizon ≤ v.high
    own_one low i l = elim (cases_eq j i) [
      | inl q ↦ subst (λ (z : ℕ). (get_or (set xs j x) z no_part).horizon ≤ v.high) q (subst (λ (y : IndexPart). y.horizon ≤ v.high) (sym (get_or-set_same xs j x no_part lj)) low)
      | inr q ↦ subst (λ (y : IndexPart). y.horizon ≤ v.high) (sym (get_or-set_other xs j i x no_part (λ z. q (sym z)))) (k.own i l)
    ]

    pub one_step : x.horizon ≤ v.high → AllByRecursion (IsOpen (length xs) (last_of b tid.0 es)) os → Rattle.px_groupworld.specs.Group.AreApart os → Steps f (λ i r. at_index j i (ev r)) es v es next
    one_step low begun apart =
        let n = length-set xs j x in
        record {
          kept = record {
            legal = k.legal;
            base = k.base;
            shape = k.shape;
            high = k.high;
            indexes = λ i l. one_kept i (omega arith);
            told = k.told;
            low = k.low;
            own = λ i l. own_one low i (omega arith);
            begun = subst (λ (z : ℕ). AllByRecursion (IsOpen z (last_of b tid.0 es)) os) (sym n) begun;
            apart = apart;
          };
          does = record { count = n; each = one_moved };
        }

  -- ---- the next index is marked

  module _ (m : ℕ) (batch cells : List CellData) (can : CanMark f es v m batch) (put : ReadsSame cells (batch ++ (get_or xs (get_or v.opens m no_open).done no_part).cells)) where
    abbrev o : OpenBatch
    o = get_or v.opens m no_open

    abbrev os1 : List OpenBatch
    os1 = set v.opens m (gone_on o)

    open_is : IsOpen (length xs) (last_of b tid.0 es) o
    open_is = all_at (IsOpen (length xs) (last_of b tid.0 es)) v.opens m k.begun can.among

    inside : o.done < length xs
    inside = let a = open_is.1.0 in let n = can.next in omega arith

    waits_for : waits_in v.opens o.done o.stamp ≡ true
    waits_for = waits_true v.opens m can.among (is_next o can.next)

    pub group_mark : Steps f (λ i r. at_index o.done i (change_event (Mark o.stamp) (change_of can.batch.changes r))) es v es (marked_data m cells v)
    group_mark = one_step o.done inside (with_cells cells (get_or xs o.done no_part)) os1 (waits_others v.opens m k.apart can.among) (λ r. change_event (Mark o.stamp) (change_of can.batch.changes r))
        (index_marked sh b es tid v.high rows (at o.done) (k.indexes o.done inside) batch cells put can.low o.stamp can.batch can.is can.first waits_for can.born (waits_in os1 o.done) (waits_marked v.opens m k.apart can.among) can.reads)
        (marked_moves sh b es tid v.high rows (at o.done) (k.indexes o.done inside) batch cells put can.low o.stamp can.batch can.is can.first waits_for can.born (waits_in os1 o.done) (waits_marked v.opens m k.apart can.among) can.reads)
        (k.own o.done inside)
        (all_set (IsOpen (length xs) (last_of b tid.0 es)) v.opens m (gone_on o) k.begun ((let n = can.next in omega arith), (open_is.1.0, open_is.1.1)))
        (apart_set v.opens m (gone_on o) k.apart can.among refl)

  -- ---- other cells

  module _ (i0 : ℕ) (batch cells : List CellData) (put : ReadsSame cells (batch ++ (get_or xs i0 no_part).cells)) where
    cells_step : (l : i0 < length xs) (ev : List Value → Option (Event (List ℕ) What)) → IndexKept sh b es tid.0 v.high (record (at i0) { cells = cells }) → ((r : List Value) → Moves (shape_in f v i0 r) (ev r) (world_in f es v i0 r) (world_at sh b es tid.0 v.high (record (at i0) { cells = cells }) r)) → Steps f (λ i r. at_index i0 i (ev r)) es v es (cells_data i0 cells v)
    cells_step l ev kept moves = one_step i0 l (with_cells cells (get_or xs i0 no_part)) v.opens (λ i n u. refl) ev kept moves (k.own i0 l) k.begun k.apart

    pub group_verify : (s : ℕ) (rs : List (List Value)) → CanVerify f es v i0 s rs batch → Steps f (λ i r. at_index i0 i (row_event (Verify s) (has rs r))) es v es (cells_data i0 cells v)
    group_verify s rs m =
        let written : (r : List Value) → has rs r ≡ true → has m.batch.written r ≡ true = λ r q. (let c = m.some r q in is_whole_of m.batch r c.0 c.1 m.whole) in
        cells_step m.there (λ r. row_event (Verify s) (has rs r))
        (index_verified sh b es tid v.high rows (at i0) (k.indexes i0 m.there) batch cells put m.low s m.batch m.is rs m.some written m.running m.born m.reads)
        (verified_moves sh b es tid v.high rows (at i0) (k.indexes i0 m.there) batch cells put m.low s m.batch m.is rs m.some written m.running m.born m.reads)

    pub group_fix : (key : List ℕ) (s : ℕ) → CanFix f es v i0 key s batch → Steps f (λ i r. at_index i0 i (row_event (Fix key s) ((f.index (get_or xs i0 no_part).id).owns r key))) es v es (cells_data i0 cells v)
    group_fix key s m =
        cells_step m.there (λ r. row_event (Fix key s) ((f.index (get_or xs i0 no_part).id).owns r key))
        (index_repaired sh b es tid v.high rows (at i0) (k.indexes i0 m.there) batch cells put m.low key s m.may m.reads)
        (repaired_moves sh b es tid v.high rows (at i0) (k.indexes i0 m.there) batch cells put m.low key s m.may m.reads)

    pub group_base : (rs : List (List Value)) → CanBase f es v i0 rs batch → Steps f (λ i r. at_index i0 i (row_event BaseVersion (has rs r))) es v es (cells_data i0 cells v)
    group_base rs m =
        cells_step m.there (λ r. row_event BaseVersion (has rs r))
        (index_based sh b es tid v.high rows (at i0) (k.indexes i0 m.there) rs batch cells put m.low m.may m.reads)
        (based_moves sh b es tid v.high rows (at i0) (k.indexes i0 m.there) rs batch cells put m.low m.may m.reads)

  -- ---- queries may read an index

  pub group_ready : (i0 : ℕ) (l : i0 < length xs) → ((r : List Value) → Comes (shape_in f v i0 r) (world_in f es v i0 r) Ready) → Steps f (λ i r. at_index i0 i (Some Ready)) es v es (ready_data i0 v)
  group_ready i0 l may = one_step i0 l (record (get_or xs i0 no_part) { is_built = true }) v.opens (λ i n u. refl) (λ r. Some Ready)
      (index_ready sh b es tid v.high rows (at i0) (k.indexes i0 l) may)
      (ready_moves sh b es tid v.high rows (at i0) (k.indexes i0 l) may)
      (k.own i0 l) k.begun k.apart
