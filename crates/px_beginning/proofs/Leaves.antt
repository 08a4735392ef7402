-- A group that differs at most in what was promised and looked at in its regions.
use Rattle.std.proofs.Common.{◌≡◌, ℕ, zero, suc, ◌≤◌, Some, List, [], ◌∷◌, map, length, refl, ap, sym, ◌∙◌, subst, arith}
use Rattle.std.specs.Prelude.{slice_get}
use Rattle.std.specs.List.{AllByRecursion}
use Rattle.px_cellshapes.specs.Keys.{AreRightKeys}
use Rattle.px_cellshapes.specs.Rows.{AreRightRows}
use Rattle.px_forms.specs.Indexes.{IndexForm}
use Rattle.px_groupworld.specs.Group.{GroupData, table_form}
use Rattle.px_indexrow.specs.Form.{index_form, IsRightIndex}
use Rattle.px_openbatches.specs.Pending.{HeldBatch, HeldKept}
use Rattle.px_phases.specs.Batch.{AllFit, AreHeldAs, BatchData, is_left_in}
use Rattle.px_phases.specs.Begun.{AreFrom, prepared_batch}
use Rattle.px_phases.specs.Phases.{ArePuts, AreTransitions, HasLongIndexed}
use Rattle.px_region.specs.Promise.{IsAlike}
use Rattle.px_region.specs.Region.{read_of}
use Rattle.px_region.proofs.Alike.{alike_refl}
use Rattle.px_rows.specs.Keys.{IsRightTable, row_key}
use Rattle.px_rows.specs.Spelled.{row_form}
use Rattle.px_tables.specs.declared.index.Index.{Index}
use Rattle.px_tables.specs.declared.table.Table.{Table}
use Rattle.px_tablesteps.specs.Kept.{TableKept}
use Rattle.px_trail.specs.Trail.{Base, horizon_of, last_of, open_points, table_of, index_of}
use Rattle.px_trail.specs.declared.entry.Entry.{Entry}
use Rattle.px_values.specs.declared.change.Change.{Change}
use Rattle.px_phases.specs.declared.transition.Transition.{Transition}
use Rattle.px_group.specs.Group.{AreInPhase, AreRightParts, IsRightBatch, IsRightGroup, IsRightPart, IsShaped, IsShownBy, IsTallied, batch_in, points_in, is_built}
use Rattle.px_group.specs.Room.{HasRooms, closes_for, marks_for, puts_for}
use Rattle.px_group.specs.declared.group.Begun.{Begun}
use Rattle.px_group.specs.declared.group.Group.{Group}
use Rattle.px_group.specs.declared.group.IndexRegion.{IndexRegion}
use Rattle.px_group.specs.declared.group.OpenPoint.{OpenPoint}
use Rattle.px_beginning.specs.Begins.{AreRead, IsBatchOf, IsMadeOf, old_state}
use Rattle.px_beginning.specs.Leaves.{AreAlike, LeavesGroup}
use Rattle.px_beginning.specs.Reads.{index_forms, old_in}
use Rattle.px_values.specs.declared.row.Value.{Value}
use Rattle.px_values.specs.States.{RowState}
use Rattle.px_trail.specs.Batches.{rows_of}
use Rattle.px_values.specs.Limits.{most_key}

-- 1. Lists of indexes

pub alike_same : (xs : List IndexRegion) → AreAlike xs xs
alike_same [] = tt
alike_same (x ∷ xs) = ((refl, alike_refl x.region), alike_same xs)

pub alike_count : (xs ys : List IndexRegion) → AreAlike xs ys → length ys ≡ length xs
alike_count [] [] a = refl
alike_count [] (y ∷ ys) a = absurd a
alike_count (x ∷ xs) [] a = absurd a
alike_count (x ∷ xs) (y ∷ ys) a = (let n = alike_count xs ys a.1 in omega arith)

pub alike_forms : (t : Table) (xs ys : List IndexRegion) → AreAlike xs ys → index_forms t xs ≡ index_forms t ys
alike_forms t [] [] a = refl
alike_forms t [] (y ∷ ys) a = absurd a
alike_forms t (x ∷ xs) [] a = absurd a
alike_forms t (x ∷ xs) (y ∷ ys) a = λ i. index_form t (sym a.0.0 i) ∷ alike_forms t xs ys a.1 i

-- what holds of each index holds of it with its region as it is now
pub alike_all : (P Q : IndexRegion → Type 0) → ((x y : IndexRegion) → y.index ≡ x.index → IsAlike x.region y.region → P x → Q y) → (xs ys : List IndexRegion) → AreAlike xs ys → AllByRecursion P xs → AllByRecursion Q ys
alike_all P Q f [] [] a p = tt
alike_all P Q f [] (y ∷ ys) a p = absurd a
alike_all P Q f (x ∷ xs) [] a p = absurd a
alike_all P Q f (x ∷ xs) (y ∷ ys) a p = (f x y a.0.0 a.0.1 p.0, alike_all P Q f xs ys a.1 p.1)

-- the index at the same place before
pub record Before (xs : List IndexRegion) (i : ℕ) (y : IndexRegion) : Type 0 where
  pub part : IndexRegion
  pub is : slice_get xs i ≡ Some part
  pub index : y.index ≡ part.index
  pub region : IsAlike part.region y.region

pub before : (xs ys : List IndexRegion) → AreAlike xs ys → (i : ℕ) (y : IndexRegion) → slice_get ys i ≡ Some y → Before xs i y
before [] [] a i y e = cc
before [] (z ∷ ys) a i y e = absurd a
before (x ∷ xs) [] a i y e = absurd a
before (x ∷ xs) (z ∷ ys) a zero y e = (let w : z ≡ y = cc in record { part = x; is = refl; index = subst (λ (v : IndexRegion). v.index ≡ x.index) w a.0.0; region = subst (λ (v : IndexRegion). IsAlike x.region v.region) w a.0.1 })
before (x ∷ xs) (z ∷ ys) a (suc i) y e = (let w = before xs ys a.1 i y e in record { part = w.part; is = w.is; index = w.index; region = w.region })

-- and now
pub record Now (ys : List IndexRegion) (i : ℕ) (x : IndexRegion) : Type 0 where
  pub part : IndexRegion
  pub is : slice_get ys i ≡ Some part
  pub index : part.index ≡ x.index

pub now : (xs ys : List IndexRegion) → AreAlike xs ys → (i : ℕ) (x : IndexRegion) → slice_get xs i ≡ Some x → Now ys i x
now [] ys a i x e = cc
now (x ∷ xs) [] a i z e = absurd a
now (x ∷ xs) (y ∷ ys) a zero z e = (let w : x ≡ z = cc in record { part = y; is = refl; index = a.0.0 ∙ ap (λ (v : IndexRegion). v.index) w })
now (x ∷ xs) (y ∷ ys) a (suc i) z e = (let w = now xs ys a.1 i z e in record { part = w.part; is = w.is; index = w.index })

-- 2. The group

right_part : (t t' : Table) → t' ≡ t → (x y : IndexRegion) → y.index ≡ x.index → IsAlike x.region y.region → IsRightPart t x → IsRightPart t' y
right_part t t' same x y e a p = subst (λ (u : Table). IsRightPart u y) (sym same) (record {
  index = subst (λ (i : Index). IsRightIndex t i) (sym e) p.index;
  table = ap (λ (i : Index). i.table) e ∙ p.table;
  number = ap (λ (i : Index). i.region) e ∙ (p.number ∙ sym a.number);
  maintained = λ z. p.maintained (ap (λ (i : Index). i.state) (sym e) ∙ z);
  keys = subst (λ (i : Index). AreRightKeys t i (read_of y.region)) (sym e) (subst (AreRightKeys t x.index) (sym a.store) p.keys);
})

module _ (g g' : Group) (l : LeavesGroup g g') where
  shaped : (m : Begun) → IsShaped g m → IsShaped g' m
  shaped m p = record {
    puts = subst (λ (t : Table). AllByRecursion (AreRightRows t) (puts_for m)) (sym l.table) p.puts;
    marks = λ i y e.
        (let w = before g.indexes.items g'.indexes.items l.indexes i y e in
        subst (λ (t : Table). AreRightParts t y.index (marks_for i m)) (sym l.table) (subst (λ (x : Index). AreRightParts g.table x (marks_for i m)) (sym w.index) (p.marks i w.part w.is)));
    closes = λ i y e.
        (let w = before g.indexes.items g'.indexes.items l.indexes i y e in
        subst (λ (t : Table). AreRightParts t y.index (closes_for i m)) (sym l.table) (subst (λ (x : Index). AreRightParts g.table x (closes_for i m)) (sym w.index) (p.closes i w.part w.is)));
  }

  right_batch : (m : Begun) → IsRightBatch g m → IsRightBatch g' m
  right_batch m p = record {
    count = (let n = alike_count g.indexes.items g'.indexes.items l.indexes in let q = p.count in omega arith);
    marks = p.marks;
    closes = p.closes;
    fit = subst (λ (t : Table). AllFit t m.batch.changes) (sym l.table) p.fit;
    distinct = p.distinct;
    some = p.some;
    few = p.few;
    stage = p.stage;
    rows = p.rows;
    receipt = p.receipt;
    shaped = shaped m p.shaped;
  }

  right_batches : (ms : List Begun) → AllByRecursion (IsRightBatch g) ms → AllByRecursion (IsRightBatch g') ms
  right_batches [] a = tt
  right_batches (m ∷ ms) a = (right_batch m a.0, right_batches ms a.1)

  pub right_after : IsRightGroup g → HasRooms g' → IsRightGroup g'
  right_after r rooms = record {
    table = subst IsRightTable (sym l.table) r.table;
    region = ap (λ (t : Table). t.regions) l.table ∙ (r.region ∙ ap (λ (n : ℕ). record { number = n; least_key = [] } ∷ []) (sym l.rows.number));
    rows = subst (λ (t : Table). AreRightRows t (read_of g'.rows)) (sym l.table) (subst (AreRightRows g.table) (sym l.rows.store) r.rows);
    parts = alike_all (IsRightPart g.table) (IsRightPart g'.table) (right_part g.table g'.table l.table) g.indexes.items g'.indexes.items l.indexes r.parts;
    batches = subst (AllByRecursion (IsRightBatch g')) (sym l.batches) (right_batches g.batches.items r.batches);
    rooms = rooms;
  }

  -- 3. What the trail tells of it, and what it shows

  module _ (b : Base) (es : List Entry) (hs : List HeldBatch) where
    pub tallied_after : IsTallied b es g hs → IsTallied b es g' hs
    tallied_after w =
        let t' : g.table.id.0 ≡ g'.table.id.0 = ap (λ (t : Table). t.id.0) (sym l.table) in
        record {
          standing = record {
            table = ap (λ (n : ℕ). table_of b es n) (sym t') ∙ (w.standing.table ∙ ap (λ (t : Table). Some t) (sym l.table));
            index = λ i y q.
                (let z = before g.indexes.items g'.indexes.items l.indexes i y q in
                subst (λ (x : Index). index_of b es x.id.0 ≡ Some x) (sym z.index) (w.standing.index i z.part z.is));
            all = λ y q own up.
                (let z = w.standing.all y q (own ∙ sym t') up in
                let n = now g.indexes.items g'.indexes.items l.indexes z.0 z.1.0 z.1.1.0 in
                (z.0, (n.part, (n.is, n.index ∙ z.1.1.1))));
          };
          last = ap (λ (n : ℕ). last_of b n es) (sym t') ∙ (w.last ∙ sym l.last);
          horizon = ap (λ (n : ℕ). horizon_of b n es) (sym t') ∙ (w.horizon ∙ sym l.horizon);
          held = subst (λ (n : ℕ). HeldKept b es n hs) t' w.held;
          batches = subst (λ (ms : List Begun). AreHeldAs (map batch_in ms) hs) (sym l.batches) w.batches;
          phases = subst (λ (n : ℕ). AreInPhase es n g'.batches.items hs) t' (subst (λ (ms : List Begun). AreInPhase es g.table.id.0 ms hs) (sym l.batches) w.phases);
          points = λ seat s. ap (λ (n : ℕ). open_points seat n s es) (sym t') ∙ (w.points seat s ∙ ap (λ (ps : List OpenPoint). points_in seat s ps) (sym l.points));
        }

    pub shown_after : (index : ℕ → IndexForm) (v : GroupData) → IsShownBy b index es g v hs → IsShownBy b index es g' v hs
    shown_after index v w = record {
      kept = subst (λ (t : Table). TableKept (table_form b t.id index (row_form t)) es v hs) (sym l.table) w.kept;
      rows = w.rows ∙ sym l.rows.store;
      count = w.count ∙ sym (alike_count g.indexes.items g'.indexes.items l.indexes);
      parts = λ i y q.
          (let z = before g.indexes.items g'.indexes.items l.indexes i y q in
          let p = w.parts i z.part z.is in
          record {
            id = p.id ∙ ap (λ (x : Index). x.id.0) (sym z.index);
            cells = p.cells ∙ sym z.region.store;
            birth = p.birth ∙ ap (λ (x : Index). x.birth) (sym z.index);
            built = p.built ∙ ap (λ (x : Index). is_built x.state) (sym z.index);
          });
      forms = λ i y q.
          (let z = before g.indexes.items g'.indexes.items l.indexes i y q in
          (λ j. index (z.index j).id.0) ∙ (w.forms i z.part z.is ∙ (λ j. index_form (sym l.table j) (sym z.index j))));
    }

  -- 4. The batch that begins

  old_same : old_state g ≡ old_state g'
  old_same = λ i r. old_in (sym l.table i) (sym l.rows.store i) (sym l.batches i) r

  pub read_after : (cs : List Change) (xs : List Transition) → AreRead g cs xs → AreRead g' cs xs
  read_after cs xs p = record {
    are = subst (λ (t : Table). AreTransitions t cs xs) (sym l.table) p.are;
    from = subst (λ (o : List Value → RowState). AreFrom o cs xs) old_same p.from;
  }

  pub made_after : (s : ℕ) (cs : List Change) (xs : List Transition) (bd : BatchData) → IsMadeOf g s cs xs bd → IsMadeOf g' s cs xs bd
  made_after s cs xs bd p = record {
    parts = p.parts;
    puts = subst (λ (t : Table). ArePuts t s cs p.parts) (sym l.table) p.puts;
    is = p.is ∙ (λ i. prepared_batch (forms_same i) s cs xs p.parts (map (is_left_in (map batch_in (sym l.batches i))) (rows_of cs)));
    short = alike_all (λ x. HasLongIndexed g.table x.index cs xs → ⊥) (λ y. HasLongIndexed g'.table y.index cs xs → ⊥)
        (λ x y e a n z. n (subst (λ (t : Table). HasLongIndexed t x.index cs xs) l.table (subst (λ (i : Index). HasLongIndexed g'.table i cs xs) e z)))
        g.indexes.items g'.indexes.items l.indexes p.short;
  }
    where
      forms_same : index_forms g.table g.indexes.items ≡ index_forms g'.table g'.indexes.items
      forms_same = alike_forms g.table g.indexes.items g'.indexes.items l.indexes ∙ ap (λ (t : Table). index_forms t g'.indexes.items) (sym l.table)

  pub batch_after : (s : ℕ) (cs : List Change) (bd : BatchData) → IsBatchOf g s cs bd → IsBatchOf g' s cs bd
  batch_after s cs bd p = record {
    transitions = p.transitions;
    read = read_after cs p.transitions p.read;
    made = made_after s cs p.transitions bd p.made;
    short = subst (λ (t : Table). AllByRecursion (λ c. length (row_key t c.row) ≤ most_key) cs) (sym l.table) p.short;
  }
