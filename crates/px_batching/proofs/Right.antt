-- A table stays right when an open batch of it goes on.
use Rattle.std.proofs.Common.{◌≡◌, ℕ, ◌+◌, ◌⊎◌, inl, inr, List, [], ◌∷◌, ◌++◌, length, slice_get, Option, Some, None, refl, ap, sym, ◌∙◌, subst, arith}
use Rattle.std.specs.List.{AllByRecursion}
use Rattle.std.proofs.Math.ListN.{length-set}
use Rattle.px_outside.specs.declared.disk.Disk.{Ghosts}
use Rattle.px_cells.specs.CellData.{CellData}
use Rattle.px_cells.specs.Order.{ReadsSame}
use Rattle.px_keptcells.specs.Kept.{but, laid}
use Rattle.px_region.specs.Region.{read_of}
use Rattle.px_region.specs.declared.region.Region.{Region}
use Rattle.px_tables.specs.declared.index.Index.{Index}
use Rattle.px_tables.specs.declared.table.Table.{Table}
use Rattle.px_tables.specs.declared.table.TableRegion.{TableRegion}
use Rattle.px_phases.specs.Batch.{AllFit, BatchData}
use Rattle.px_rows.specs.Keys.{IsRightTable}
use Rattle.px_cellshapes.specs.Keys.{AreRightKeys}
use Rattle.px_cellshapes.specs.Rows.{AreRightRows}
use Rattle.px_group.specs.Group.{AreRightParts, FitsPhase, IsRightBatch, IsRightGroup, IsRightPart, IsShaped, region_of}
use Rattle.px_group.specs.Room.{byte_count, closes_for, kept_for, marks_for, puts_for}
use Rattle.px_group.specs.declared.group.Begun.{Begun}
use Rattle.px_group.specs.declared.group.Group.{Group}
use Rattle.px_group.specs.declared.group.IndexRegion.{IndexRegion}
use Rattle.px_group.specs.declared.group.Phase.{Phase}
use Rattle.px_group.specs.declared.group.Phase.TheVariants.{Marking, Writing, Verifying, Closing}
use Rattle.px_batching.specs.Steps.{FinishesCloses, FinishesMarks, IsBatchStep, IsIndexStep, IsQuietStep, UsesRoom, WroteCloses, WroteMarks, WrotePuts}
use Rattle.px_batching.proofs.Kept.{next_before}
use Rattle.px_batching.proofs.Places.{all_at, all_more, all_set, set_cases}
use Rattle.px_batching.proofs.Rooms.{KeepsLess, less_closes, less_marks, rooms_index, rooms_quiet, rooms_rows}
use Rattle.px_batching.proofs.Shapes.{all_but, keys_laid, keys_put, keys_same, rows_laid, rows_put, rows_same}

-- 1. Batches

-- the table and the definitions of its indexes are as they were
pub record SameIndexes (g g' : Group) : Type 0 where
  pub table : g'.table ≡ g.table
  pub count : length g'.indexes.items ≡ length g.indexes.items
  pub each : (j : ℕ) (z : IndexRegion) → slice_get g'.indexes.items j ≡ Some z → (w : IndexRegion) × ((slice_get g.indexes.items j ≡ Some w) × (w.index ≡ z.index))

pub same_index : (g g' : Group) (m i : ℕ) (x x' : Begun) (y : IndexRegion) (new : Region) → IsIndexStep g g' m x x' i y new → SameIndexes g g'
same_index g g' m i x x' y new s = record {
  table = s.step.table;
  count = ap (λ (l : List IndexRegion). length l) s.indexes ∙ length-set g.indexes.items i (record y { region = new });
  each = λ j z at. elim (set_cases g.indexes.items i j (record y { region = new }) z (sym (ap (λ (l : List IndexRegion). slice_get l j) s.indexes) ∙ at)) [
    | inl e ↦ (y, (ap (λ n. slice_get g.indexes.items n) e.0 ∙ s.index, sym (ap (λ (w : IndexRegion). w.index) e.1)))
    | inr e ↦ (z, (e.1, refl))
  ];
}

pub same_quiet : (g g' : Group) → g'.table ≡ g.table → g'.indexes ≡ g.indexes → SameIndexes g g'
same_quiet g g' t s = record {
  table = t;
  count = ap (λ v. length v.items) s;
  each = λ j z at. (z, (sym (ap (λ v. slice_get v.items j) s) ∙ at, refl));
}

pub right_moves : (g g' : Group) → SameIndexes g g' → (x : Begun) → IsRightBatch g x → IsRightBatch g' x
right_moves g g' s x r = record {
  count = (let a = s.count in let b = r.count in omega arith);
  marks = r.marks;
  closes = r.closes;
  fit = subst (λ (t : Table). AllFit t x.batch.changes) (sym s.table) r.fit;
  distinct = r.distinct;
  some = r.some;
  few = r.few;
  stage = r.stage;
  rows = r.rows;
  receipt = r.receipt;
  shaped = record {
    puts = subst (λ (t : Table). AllByRecursion (AreRightRows t) (puts_for x)) (sym s.table) r.shaped.puts;
    marks = λ j z at. (let w = s.each j z at in subst (λ (t : Table). AreRightParts t z.index (marks_for j x)) (sym s.table) (subst (λ (k : Index). AreRightParts g.table k (marks_for j x)) w.1.1 (r.shaped.marks j w.0 w.1.0)));
    closes = λ j z at. (let w = s.each j z at in subst (λ (t : Table). AreRightParts t z.index (closes_for j x)) (sym s.table) (subst (λ (k : Index). AreRightParts g.table k (closes_for j x)) w.1.1 (r.shaped.closes j w.0 w.1.0)));
  };
}

-- it keeps no other cells than it kept
shaped_less : (g : Group) (x x' : Begun) → ((puts_for x' ≡ puts_for x) ⊎ (puts_for x' ≡ [])) → ((j : ℕ) → (marks_for j x' ≡ marks_for j x) ⊎ (marks_for j x' ≡ [])) → ((j : ℕ) → (closes_for j x' ≡ closes_for j x) ⊎ (closes_for j x' ≡ [])) → IsShaped g x → IsShaped g x'
shaped_less g x x' puts marks closes r = record {
  puts = elim puts [
    | inl e ↦ subst (λ (p : List (List CellData)). AllByRecursion (AreRightRows g.table) p) (sym e) r.puts
    | inr e ↦ subst (λ (p : List (List CellData)). AllByRecursion (AreRightRows g.table) p) (sym e) tt
  ];
  marks = λ j z at. elim (marks j) [
    | inl e ↦ subst (λ (p : List (List CellData)). AreRightParts g.table z.index p) (sym e) (r.marks j z at)
    | inr e ↦ subst (λ (p : List (List CellData)). AreRightParts g.table z.index p) (sym e) tt
  ];
  closes = λ j z at. elim (closes j) [
    | inl e ↦ subst (λ (p : List (List CellData)). AreRightParts g.table z.index p) (sym e) (r.closes j z at)
    | inr e ↦ subst (λ (p : List (List CellData)). AreRightParts g.table z.index p) (sym e) tt
  ];
}

-- 2. The table

-- all batches, where one goes on
batches_on : (g g' : Group) (m : ℕ) (x x' : Begun) → SameIndexes g g' → IsBatchStep g g' m x x' → IsRightBatch g' x' → AllByRecursion (IsRightBatch g) g.batches.items → AllByRecursion (IsRightBatch g') g'.batches.items
batches_on g g' m x x' same s now h =
    subst (λ (ms : List Begun). AllByRecursion (IsRightBatch g') ms) (sym s.batches) (all_set (IsRightBatch g') g.batches.items m x' now (all_more (IsRightBatch g) (IsRightBatch g') (right_moves g g' same) g.batches.items h))

-- a region of an index, once cells of its shape are written to it
part_on : (t : Table) (y : IndexRegion) (new : Region) (cells kept : List CellData) → IsRightPart t y → new.number ≡ y.region.number → ReadsSame (read_of new) (cells ++ read_of y.region) → ReadsSame cells kept → AreRightKeys t y.index kept → IsRightPart t (record y { region = new })
part_on t y new cells kept r number reads same shape = record {
  index = r.index;
  table = r.table;
  number = r.number ∙ sym number;
  maintained = r.maintained;
  keys = keys_put t y.index cells (read_of y.region) (read_of new) reads (keys_same t y.index cells kept same shape) r.keys;
}

right_index : (g g' : Group) (m i : ℕ) (x x' : Begun) (y : IndexRegion) (new : Region) (count bytes : ℕ) → IsIndexStep g g' m x x' i y new → UsesRoom y.region new count bytes → KeepsLess i x x' count bytes
    → IsRightPart g.table (record y { region = new }) → IsRightBatch g' x' → IsRightGroup g → IsRightGroup g'
right_index g g' m i x x' y new count bytes s u l part now r = record {
  table = subst (λ (t : Table). IsRightTable t) (sym s.step.table) r.table;
  region = ap (λ (t : Table). t.regions) s.step.table ∙ (r.region ∙ ap (λ (w : Region). region_of w ∷ []) (sym s.rows));
  rows = subst (λ (w : Region). AreRightRows g'.table (read_of w)) (sym s.rows) (subst (λ (t : Table). AreRightRows t (read_of g.rows)) (sym s.step.table) r.rows);
  parts = subst (λ (t : Table). AllByRecursion (IsRightPart t) g'.indexes.items) (sym s.step.table) (subst (λ (l : List IndexRegion). AllByRecursion (IsRightPart g.table) l) (sym s.indexes) (all_set (IsRightPart g.table) g.indexes.items i (record y { region = new }) part r.parts));
  batches = batches_on g g' m x x' (same_index g g' m i x x' y new s) s.step now r.batches;
  rooms = rooms_index g g' m i x x' y new count bytes s u l r.rooms;
}

right_quiet : (g g' : Group) (m : ℕ) (x x' : Begun) → IsQuietStep g g' m x x' → x'.batch ≡ x.batch → x'.count ≡ x.count → IsRightBatch g' x' → IsRightGroup g → IsRightGroup g'
right_quiet g g' m x x' s b c now r = record {
  table = subst (λ (t : Table). IsRightTable t) (sym s.step.table) r.table;
  region = ap (λ (t : Table). t.regions) s.step.table ∙ (r.region ∙ ap (λ (w : Region). region_of w ∷ []) (sym s.rows));
  rows = subst (λ (w : Region). AreRightRows g'.table (read_of w)) (sym s.rows) (subst (λ (t : Table). AreRightRows t (read_of g.rows)) (sym s.step.table) r.rows);
  parts = subst (λ (t : Table). AllByRecursion (IsRightPart t) g'.indexes.items) (sym s.step.table) (subst (λ v. AllByRecursion (IsRightPart g.table) v.items) (sym s.indexes) r.parts);
  batches = batches_on g g' m x x' (same_quiet g g' s.step.table s.indexes) s.step now r.batches;
  rooms = rooms_quiet g g' m x x' s b c r.rooms;
}

-- 3. What is kept in each phase

stage_marks : (p : Phase) (n : ℕ) (b : BatchData) (rest : List (List (List CellData))) → p ≡ Marking → FitsPhase p n b → FitsPhase p n (record b { marks = rest })
stage_marks Marking n b rest e s = s
stage_marks Writing n b rest e s = cc
stage_marks Verifying n b rest e s = cc
stage_marks Closing n b rest e s = cc

stage_closes : (p : Phase) (n : ℕ) (b : BatchData) (rest : List (List (List CellData))) → p ≡ Verifying → FitsPhase p n b → FitsPhase p n (record b { closes = rest })
stage_closes Marking n b rest e s = cc
stage_closes Writing n b rest e s = cc
stage_closes Verifying n b rest e s = s
stage_closes Closing n b rest e s = cc

stage_written : (p : Phase) (n : ℕ) (b : BatchData) → p ≡ Writing → FitsPhase p n b → FitsPhase Verifying n (record b { puts = None })
stage_written Marking n b e s = cc
stage_written Writing n b e s = (refl, s.2)
stage_written Verifying n b e s = cc
stage_written Closing n b e s = cc

stage_marked : (p : Phase) (n : ℕ) (b : BatchData) → p ≡ Marking → b.marks ≡ [] → FitsPhase p n b → FitsPhase Writing n b
stage_marked Marking n b e none s = (s.0, s.1, none)
stage_marked Writing n b e none s = cc
stage_marked Verifying n b e none s = cc
stage_marked Closing n b e none s = cc

stage_verified : (p : Phase) (n : ℕ) (b : BatchData) → p ≡ Verifying → b.closes ≡ [] → FitsPhase p n b → FitsPhase Closing n b
stage_verified Marking n b e none s = cc
stage_verified Writing n b e none s = cc
stage_verified Verifying n b e none s = (s.0, s.1, none)
stage_verified Closing n b e none s = cc

-- 4. The steps

abbrev puts_in : Option (List (List CellData)) → List (List CellData)
puts_in None = []
puts_in (Some parts) = parts

abbrev number_region : ℕ → TableRegion
number_region n = record { number = n; least_key = [] }

pub kept_here : (count i : ℕ) (kept rest : List (List (List CellData))) (parts : List (List CellData)) → kept ≡ parts ∷ rest → i + length kept ≡ count → kept_for count kept i ≡ parts
kept_here count i kept rest parts k next = ap (λ (l : List (List (List CellData))). kept_for count l i) k ∙ next_before count i parts rest (subst (λ (l : List (List (List CellData))). i + length l ≡ count) k next)

module _ {D : Type 0} (d : Ghosts D) (g g' : Group) (disk disk' : D) (m : ℕ) (r : IsRightGroup g) where
  pub right_marks : WroteMarks d g g' disk disk' m → IsRightGroup g'
  right_marks w =
      let h = w.hands in
      let x = h.batch in
      let x' : Begun = record h.batch { batch = record h.batch.batch { marks = h.rest } } in
      let rx : IsRightBatch g x = all_at (IsRightBatch g) g.batches.items m x h.step.step.batch r.batches in
      let ry : IsRightPart g.table h.index = all_at (IsRightPart g.table) g.indexes.items h.place h.index h.step.index r.parts in
      let l : KeepsLess h.place x x' (length (laid h.parts)) (byte_count (laid h.parts)) = less_marks x x' h.place h.parts h.rest refl refl h.kept h.next refl refl in
      let c : IsRightBatch g' x = right_moves g g' (same_index g g' m h.place x x' h.index h.region h.step) x rx in
      let shape : AreRightParts g.table h.index.index h.parts = subst (λ (p : List (List CellData)). AreRightParts g.table h.index.index p) (kept_here x.count h.place x.batch.marks h.rest h.parts h.kept h.next) (rx.shaped.marks h.place h.index h.step.index) in
      let now : IsRightBatch g' x' = record {
        count = c.count;
        marks = (let a = c.marks in let k = ap (λ (v : List (List (List CellData))). length v) h.kept in omega arith);
        closes = c.closes;
        fit = c.fit;
        distinct = c.distinct;
        some = c.some;
        few = c.few;
        stage = stage_marks x.phase x.count x.batch h.rest h.marking c.stage;
        rows = c.rows;
        receipt = c.receipt;
        shaped = shaped_less g' x x' (inl refl) l.marks l.closes c.shaped;
      } in
      right_index g g' m h.place x x' h.index h.region (length (laid h.parts)) (byte_count (laid h.parts)) h.step w.room l
      (part_on g.table h.index h.region h.cells (laid h.parts) ry h.writes.number w.written.reads h.handed.reads (keys_laid g.table h.index.index h.parts shape)) now r

  pub right_closes : WroteCloses d g g' disk disk' m → IsRightGroup g'
  right_closes w =
      let h = w.hands in
      let x = h.batch in
      let x' : Begun = record h.batch { batch = record h.batch.batch { closes = h.rest } } in
      let rx : IsRightBatch g x = all_at (IsRightBatch g) g.batches.items m x h.step.step.batch r.batches in
      let ry : IsRightPart g.table h.index = all_at (IsRightPart g.table) g.indexes.items h.place h.index h.step.index r.parts in
      let l : KeepsLess h.place x x' (length (laid h.parts)) (byte_count (laid h.parts)) = less_closes x x' h.place h.parts h.rest refl refl h.kept h.next refl refl in
      let c : IsRightBatch g' x = right_moves g g' (same_index g g' m h.place x x' h.index h.region h.step) x rx in
      let shape : AreRightParts g.table h.index.index h.parts = subst (λ (p : List (List CellData)). AreRightParts g.table h.index.index p) (kept_here x.count h.place x.batch.closes h.rest h.parts h.kept h.next) (rx.shaped.closes h.place h.index h.step.index) in
      let now : IsRightBatch g' x' = record {
        count = c.count;
        marks = c.marks;
        closes = (let a = c.closes in let k = ap (λ (v : List (List (List CellData))). length v) h.kept in omega arith);
        fit = c.fit;
        distinct = c.distinct;
        some = c.some;
        few = c.few;
        stage = stage_closes x.phase x.count x.batch h.rest h.verifying c.stage;
        rows = c.rows;
        receipt = c.receipt;
        shaped = shaped_less g' x x' (inl refl) l.marks l.closes c.shaped;
      } in
      right_index g g' m h.place x x' h.index h.region (length (laid h.parts)) (byte_count (laid h.parts)) h.step w.room l
      (part_on g.table h.index h.region h.cells (laid (but x.batch.met h.parts)) ry h.writes.number w.written.reads h.handed.reads
      (keys_laid g.table h.index.index (but x.batch.met h.parts) (all_but (AreRightKeys g.table h.index.index) x.batch.met h.parts shape)))
      now r

  pub right_puts : WrotePuts d g g' disk disk' m → IsRightGroup g'
  right_puts w =
      let h = w.hands in
      let x = h.batch in
      let x' : Begun = record h.batch { phase = Verifying; batch = record h.batch.batch { puts = None }; rows = None } in
      let s = h.step in
      let rx : IsRightBatch g x = all_at (IsRightBatch g) g.batches.items m x s.step.batch r.batches in
      let same : SameIndexes g g' = same_quiet g g' s.step.table s.indexes in
      let c : IsRightBatch g' x = right_moves g g' same x rx in
      let shape : AllByRecursion (AreRightRows g.table) h.parts = subst (λ o. AllByRecursion (AreRightRows g.table) (puts_in o)) h.kept rx.shaped.puts in
      let now : IsRightBatch g' x' = record {
        count = c.count;
        marks = c.marks;
        closes = c.closes;
        fit = c.fit;
        distinct = c.distinct;
        some = c.some;
        few = c.few;
        stage = stage_written x.phase x.count x.batch h.writing c.stage;
        rows = λ e. cc;
        receipt = c.receipt;
        shaped = shaped_less g' x x' (inr refl) (λ j. inl refl) (λ j. inl refl) c.shaped;
      } in
      let cells : AreRightRows g.table (read_of h.region) = rows_put g.table h.cells (read_of g.rows) (read_of h.region) w.written.reads (rows_same g.table h.cells (laid h.parts) h.handed.reads (rows_laid g.table h.parts shape)) r.rows in
      record {
        table = subst (λ (t : Table). IsRightTable t) (sym s.step.table) r.table;
        region = ap (λ (t : Table). t.regions) s.step.table ∙ (r.region ∙ ap (λ (n : ℕ). number_region n ∷ []) (sym (ap (λ (w : Region). w.number) s.rows ∙ h.writes.number)));
        rows = subst (λ (w : Region). AreRightRows g'.table (read_of w)) (sym s.rows) (subst (λ (t : Table). AreRightRows t (read_of h.region)) (sym s.step.table) cells);
        parts = subst (λ (t : Table). AllByRecursion (IsRightPart t) g'.indexes.items) (sym s.step.table) (subst (λ v. AllByRecursion (IsRightPart g.table) v.items) (sym s.indexes) r.parts);
        batches = batches_on g g' m x x' same s.step now r.batches;
        rooms = rooms_rows g g' m x x' h.region h.parts s w.room h.kept refl refl r.rooms;
      }

module _ (g g' : Group) (m : ℕ) (r : IsRightGroup g) where
  pub right_marked : FinishesMarks g g' m → IsRightGroup g'
  right_marked h =
      let x = h.batch in
      let c : IsRightBatch g' x = right_moves g g' (same_quiet g g' h.step.step.table h.step.indexes) x (all_at (IsRightBatch g) g.batches.items m x h.step.step.batch r.batches) in
      right_quiet g g' m x (record x { phase = Writing }) h.step refl refl
      record { count = c.count; marks = c.marks; closes = c.closes; fit = c.fit; distinct = c.distinct; some = c.some; few = c.few; stage = stage_marked x.phase x.count x.batch h.marking h.none c.stage; rows = c.rows; receipt = c.receipt; shaped = shaped_less g' x (record x { phase = Writing }) (inl refl) (λ j. inl refl) (λ j. inl refl) c.shaped }
      r

  pub right_verified : FinishesCloses g g' m → IsRightGroup g'
  right_verified h =
      let x = h.batch in
      let c : IsRightBatch g' x = right_moves g g' (same_quiet g g' h.step.step.table h.step.indexes) x (all_at (IsRightBatch g) g.batches.items m x h.step.step.batch r.batches) in
      right_quiet g g' m x (record x { phase = Closing }) h.step refl refl
      record { count = c.count; marks = c.marks; closes = c.closes; fit = c.fit; distinct = c.distinct; some = c.some; few = c.few; stage = stage_verified x.phase x.count x.batch h.verifying h.none c.stage; rows = c.rows; receipt = c.receipt; shaped = shaped_less g' x (record x { phase = Closing }) (inl refl) (λ j. inl refl) (λ j. inl refl) c.shaped }
      r
