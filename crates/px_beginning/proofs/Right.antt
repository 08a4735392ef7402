-- The group is right after a batch is let in.
use Rattle.std.proofs.Common.{◌≡◌, ◌≢◌, ℕ, zero, suc, ◌<◌, ◌≤◌, true, Some, List, [], ◌∷◌, ◌++◌, map, length, get_or, inl, inr, refl, ap, sym, ◌∙◌, subst, arith}
use Rattle.std.specs.Prelude.{is_some, slice_get}
use Rattle.std.specs.Global.{Vec}
use Rattle.std.specs.List.{AllByRecursion}
use Rattle.std.proofs.lemmas.List.{get_or-map, length-map}
use Rattle.px_cells.specs.CellData.{CellData}
use Rattle.px_cells.specs.Contents.{value_at}
use Rattle.px_cellshapes.specs.Keys.{AreRightKeys, IsRightIndexCell}
use Rattle.px_indexrow.specs.Lists.{closes_of, marks_of}
use Rattle.px_keys.specs.Spelling.{Fits}
use Rattle.px_values.specs.States.{RowState}
use Rattle.px_values.specs.declared.change.What.{What}
use Rattle.px_values.specs.declared.row.Value.{Value}
use Rattle.px_cellshapes.specs.Rows.{AreRightRows}
use Rattle.px_forms.specs.Indexes.{IndexForm}
use Rattle.px_indexrow.specs.Form.{FitsRowState, IsLongInIndex, IsRightIndex, index_form}
use Rattle.px_phases.proofs.FirstRows.{new_fits}
use Rattle.px_phases.specs.Batch.{AllFit, BatchData}
use Rattle.px_phases.specs.Begun.{no_form}
use Rattle.px_phases.specs.Phases.{ArePuts, AreTransitions, HasLongIndexed, close_parts, mark_parts}
use Rattle.px_phases.specs.declared.transition.Transition.{Transition}
use Rattle.px_region.specs.Region.{read_of}
use Rattle.px_region.specs.declared.region.Region.{Region}
use Rattle.px_rows.specs.Keys.{IsRightTable, row_columns, row_key}
use Rattle.px_rows.specs.Spelled.{FitsTable, change_contents, row_spelling}
use Rattle.px_tables.specs.declared.index.Index.{Index}
use Rattle.px_tables.specs.declared.table.Table.{Table}
use Rattle.px_trail.specs.Batches.{is_distinct, rows_of}
use Rattle.px_values.specs.Limits.{most_key}
use Rattle.px_values.specs.declared.change.Change.{Change}
use Rattle.px_group.specs.Group.{AreRightParts, FitsPhase, IsRightBatch, IsRightGroup, IsRightPart, IsShaped, most_rows, region_of}
use Rattle.px_group.specs.Room.{HasRooms, closes_for, kept_for, marks_for, puts_for}
use Rattle.px_group.specs.declared.group.Begun.{Begun}
use Rattle.px_group.specs.declared.group.Group.{Group}
use Rattle.px_group.specs.declared.group.IndexRegion.{IndexRegion}
use Rattle.px_group.specs.declared.group.Phase.{Phase}
use Rattle.px_group.specs.declared.group.Phase.TheVariants.{Marking, Writing, Verifying, Closing}
use Rattle.px_beginning.proofs.Begun.{form_is, part_right}
use Rattle.px_beginning.proofs.Promised.{kept_inside, rooms_admitted}
use Rattle.px_beginning.specs.Admits.{Admits, HasRoomsWith, met_by}
use Rattle.px_beginning.specs.Begins.{IsBatchOf}
use Rattle.px_beginning.specs.Reads.{form_at, index_forms}
use Rattle.px_beginning.specs.Rooms.{fresh_batch}

-- 1. The shapes of the cells

abbrev pub Listed : Type 0
Listed = (t : Table) (i : Index) (cells : List CellData) → AllByRecursion (IsRightIndexCell t i) cells → AreRightKeys t i cells

abbrev pub MarksRight : Type 0
MarksRight = (t : Table) (i : Index) (r : List Value) (s : ℕ) (old new : RowState) → IsRightTable t → IsRightIndex t i → Fits (row_columns t) r → FitsRowState t old → FitsRowState t new → (IsLongInIndex t i r old → ⊥) → (IsLongInIndex t i r new → ⊥) → AllByRecursion (IsRightIndexCell t i) (marks_of (index_form t i) r s old new)

abbrev pub ClosesRight : Type 0
ClosesRight = (t : Table) (i : Index) (r : List Value) (s : ℕ) (old new : RowState) → IsRightTable t → IsRightIndex t i → Fits (row_columns t) r → FitsRowState t old → FitsRowState t new → (IsLongInIndex t i r old → ⊥) → (IsLongInIndex t i r new → ⊥) → AllByRecursion (IsRightIndexCell t i) (closes_of (index_form t i) r s old new)

abbrev pub PutsRight : Type 0
PutsRight = (t : Table) (r : List Value) (s : ℕ) (w : What) (cells : List CellData) → FitsTable t r w → length (row_key t r) ≤ most_key → value_at cells ≡ change_contents (row_spelling t) r s w → AreRightRows t cells

module _ (listed : Listed) (marks_right : MarksRight) (closes_right : ClosesRight) (put : PutsRight) where
  marks_shaped : (t : Table) (x : Index) (s : ℕ) (cs : List Change) (xs : List Transition) → IsRightTable t → IsRightIndex t x → AreTransitions t cs xs → (HasLongIndexed t x cs xs → ⊥) → AreRightParts t x (mark_parts (index_form t x) s cs xs)
  marks_shaped t x s [] xs rt ri a n = tt
  marks_shaped t x s (c ∷ cs) [] rt ri a n = tt
  marks_shaped t x s (c ∷ cs) (y ∷ xs) rt ri a n = (
    listed t x (marks_of (index_form t x) c.row s y.old y.new) (marks_right t x c.row s y.old y.new rt ri a.0.fits.0 a.0.old (new_fits t c y rt a.0) (λ z. n (inl (inr z))) (λ z. n (inl (inl z)))),
    marks_shaped t x s cs xs rt ri a.1 (λ z. n (inr z)),
  )

  closes_shaped : (t : Table) (x : Index) (s : ℕ) (cs : List Change) (xs : List Transition) → IsRightTable t → IsRightIndex t x → AreTransitions t cs xs → (HasLongIndexed t x cs xs → ⊥) → AreRightParts t x (close_parts (index_form t x) s cs xs)
  closes_shaped t x s [] xs rt ri a n = tt
  closes_shaped t x s (c ∷ cs) [] rt ri a n = tt
  closes_shaped t x s (c ∷ cs) (y ∷ xs) rt ri a n = (
    listed t x (closes_of (index_form t x) c.row s y.old y.new) (closes_right t x c.row s y.old y.new rt ri a.0.fits.0 a.0.old (new_fits t c y rt a.0) (λ z. n (inl (inr z))) (λ z. n (inl (inl z)))),
    closes_shaped t x s cs xs rt ri a.1 (λ z. n (inr z)),
  )

  puts_shaped : (t : Table) (s : ℕ) (cs : List Change) (parts : List (List CellData)) → AllFit t cs → AllByRecursion (λ c. length (row_key t c.row) ≤ most_key) cs → ArePuts t s cs parts → AllByRecursion (AreRightRows t) parts
  puts_shaped t s [] [] f l p = tt
  puts_shaped t s [] (q ∷ parts) f l p = absurd p
  puts_shaped t s (c ∷ cs) [] f l p = absurd p
  puts_shaped t s (c ∷ cs) (q ∷ parts) f l p = (put t c.row s c.what q f.0 l.0 p.0.values, puts_shaped t s cs parts f.1 l.1 p.1)

inside : (is : List IndexRegion) (i : ℕ) (x : IndexRegion) → slice_get is i ≡ Some x → i < length is
inside [] i x e = cc
inside (y ∷ is) zero x e = omega arith
inside (y ∷ is) (suc i) x e = (let l = inside is i x e in omega arith)

-- 2. The group

module _ (listed : Listed) (marks_right : MarksRight) (closes_right : ClosesRight) (put : PutsRight) (g : Group) (s : ℕ) (cs : List Change) (bd : BatchData) (p : IsBatchOf g s cs bd) (g' : Group) (a : Admits g bd g') (right : IsRightGroup g) (fit : AllFit g.table cs) (distinct : is_distinct (rows_of cs) ≡ true) (some : cs ≢ []) (few : length cs ≤ most_rows) where
  abbrev n : ℕ
  n = length g.indexes.items

  abbrev fs : List IndexForm
  fs = index_forms g.table g.indexes.items

  pub marks_count : length bd.marks ≡ n
  marks_count = ap (λ (b : BatchData). length b.marks) p.made.is ∙ (length-map fs (λ f. mark_parts f s cs p.transitions) ∙ length-map g.indexes.items (form_at g.table))

  pub closes_count : length bd.closes ≡ n
  closes_count = ap (λ (b : BatchData). length b.closes) p.made.is ∙ (length-map fs (λ f. close_parts f s cs p.transitions) ∙ length-map g.indexes.items (form_at g.table))

  changes_are : bd.changes ≡ cs
  changes_are = ap (λ (b : BatchData). b.changes) p.made.is

  form_here : (i : ℕ) (x : IndexRegion) → slice_get g.indexes.items i ≡ Some x → i < length fs
  form_here i x e = (let l = inside g.indexes.items i x e in let m = length-map g.indexes.items (form_at g.table) in omega arith)

  marks_at : (i : ℕ) (x : IndexRegion) → slice_get g.indexes.items i ≡ Some x → kept_for n bd.marks i ≡ mark_parts (form_at g.table x) s cs p.transitions
  marks_at i x e =
      kept_inside n bd.marks marks_count i
      ∙ ((λ j. get_or ((p.made.is j).marks) i [])
      ∙ (get_or-map (λ f. mark_parts f s cs p.transitions) fs i no_form [] (form_here i x e) ∙ ap (λ (f : IndexForm). mark_parts f s cs p.transitions) (form_is g.table g.indexes.items i x e)))

  closes_at : (i : ℕ) (x : IndexRegion) → slice_get g.indexes.items i ≡ Some x → kept_for n bd.closes i ≡ close_parts (form_at g.table x) s cs p.transitions
  closes_at i x e =
      kept_inside n bd.closes closes_count i
      ∙ ((λ j. get_or ((p.made.is j).closes) i [])
      ∙ (get_or-map (λ f. close_parts f s cs p.transitions) fs i no_form [] (form_here i x e) ∙ ap (λ (f : IndexForm). close_parts f s cs p.transitions) (form_is g.table g.indexes.items i x e)))

  shaped : IsShaped g (fresh_batch n bd)
  shaped = record {
    puts = subst (λ (b : BatchData). AllByRecursion (AreRightRows g.table) (puts_for (fresh_batch n b))) (sym p.made.is) (puts_shaped listed marks_right closes_right put g.table s cs p.made.parts fit p.short p.made.puts);
    marks = λ i x e. subst (AreRightParts g.table x.index) (sym (marks_at i x e))
        (marks_shaped listed marks_right closes_right put g.table x.index s cs p.transitions right.table (part_right (IsRightPart g.table) g.indexes.items i x right.parts e).index p.read.are (part_right (λ y. HasLongIndexed g.table y.index cs p.transitions → ⊥) g.indexes.items i x p.made.short e));
    closes = λ i x e. subst (AreRightParts g.table x.index) (sym (closes_at i x e))
        (closes_shaped listed marks_right closes_right put g.table x.index s cs p.transitions right.table (part_right (IsRightPart g.table) g.indexes.items i x right.parts e).index p.read.are (part_right (λ y. HasLongIndexed g.table y.index cs p.transitions → ⊥) g.indexes.items i x p.made.short e));
  }

  shaped_now : (m : Begun) → IsShaped g m → IsShaped g' m
  shaped_now m q = record {
    puts = subst (λ (t : Table). AllByRecursion (AreRightRows t) (puts_for m)) (sym a.table) q.puts;
    marks = λ i x e. subst (λ (t : Table). AreRightParts t x.index (marks_for i m)) (sym a.table) (q.marks i x (ap (λ (l : Vec IndexRegion). slice_get l.items i) (sym a.indexes) ∙ e));
    closes = λ i x e. subst (λ (t : Table). AreRightParts t x.index (closes_for i m)) (sym a.table) (q.closes i x (ap (λ (l : Vec IndexRegion). slice_get l.items i) (sym a.indexes) ∙ e));
  }

  count_now : length g'.indexes.items ≡ n
  count_now = ap (λ (l : Vec IndexRegion). length l.items) a.indexes

  fresh_right : IsRightBatch g' (fresh_batch n bd)
  fresh_right = record {
    count = (let e = count_now in omega arith);
    marks = (let e = marks_count in omega arith);
    closes = (let e = closes_count in omega arith);
    fit = subst (λ (t : Table). AllFit t bd.changes) (sym a.table) (subst (AllFit g.table) (sym changes_are) fit);
    distinct = subst (λ (l : List Change). is_distinct (rows_of l) ≡ true) (sym changes_are) distinct;
    some = λ z. some (sym changes_are ∙ z);
    few = subst (λ (l : List Change). length l ≤ most_rows) (sym changes_are) few;
    stage = (ap (λ (b : BatchData). is_some b.puts) p.made.is, closes_count);
    rows = λ z. refl;
    receipt = refl;
    shaped = shaped_now (fresh_batch n bd) shaped;
  }

  old_right : (m : Begun) → IsRightBatch g m → IsRightBatch g' (met_by bd.changes m)
  old_right m q = record {
    count = (let e = count_now in let l = q.count in omega arith);
    marks = q.marks;
    closes = q.closes;
    fit = subst (λ (t : Table). AllFit t m.batch.changes) (sym a.table) q.fit;
    distinct = q.distinct;
    some = q.some;
    few = q.few;
    stage = stage_same m.phase q.stage;
    rows = q.rows;
    receipt = q.receipt;
    shaped = (let z = shaped_now m q.shaped in record { puts = z.puts; marks = z.marks; closes = z.closes });
  }
    where
      stage_same : (ph : Phase) → FitsPhase ph m.count m.batch → FitsPhase ph m.count (met_by bd.changes m).batch
      stage_same Marking w = w
      stage_same Writing w = w
      stage_same Verifying w = w
      stage_same Closing w = w

  all_right : (ms : List Begun) → AllByRecursion (IsRightBatch g) ms → AllByRecursion (IsRightBatch g') (map (met_by bd.changes) ms ++ fresh_batch n bd ∷ [])
  all_right [] q = (fresh_right, tt)
  all_right (m ∷ ms) q = (old_right m q.0, all_right ms q.1)

  pub right_admitted : HasRooms g' → IsRightGroup g'
  right_admitted rooms = record {
    table = subst IsRightTable (sym a.table) right.table;
    region = ap (λ (t : Table). t.regions) a.table ∙ (right.region ∙ ap (λ (r : Region). region_of r ∷ []) (sym a.rows));
    rows = subst (λ (t : Table). AreRightRows t (read_of g'.rows)) (sym a.table) (subst (λ (r : Region). AreRightRows g.table (read_of r)) (sym a.rows) right.rows);
    parts = subst (λ (t : Table). AllByRecursion (IsRightPart t) g'.indexes.items) (sym a.table) (subst (λ (l : Vec IndexRegion). AllByRecursion (IsRightPart g.table) l.items) (sym a.indexes) right.parts);
    batches = subst (AllByRecursion (IsRightBatch g')) (sym a.batches) (all_right g.batches.items right.batches);
    rooms = rooms;
  }

  pub admitted : HasRooms g → HasRoomsWith g (fresh_batch n bd) → IsRightGroup g'
  admitted h w = right_admitted (rooms_admitted g bd g' a h w)
