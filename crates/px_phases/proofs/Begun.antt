-- A batch that begins keeps the cells that its table's begin asks for.
use Rattle.std.proofs.Common.{◌≡◌, ℕ, zero, suc, ◌+◌, ◌<◌, Bool, true, false, cond, ◌&&◌, ◌||◌, Some, None, List, [], ◌∷◌, ◌++◌, map, filter, length, get_or, refl, ap, sym, ◌∙◌, subst, inl, inr, arith}
use Rattle.std.specs.Prelude.{is_some, if◌then◌else◌}
use Rattle.std.specs.List.{AllByRecursion}
use Rattle.std.specs.Ordering.{is_eq}
use Rattle.std.proofs.lemmas.Bool.{cases_Bool, false≢true}
use Rattle.std.proofs.lemmas.List.{length-map}
use Rattle.px_cells.specs.CellData.{CellData}
use Rattle.px_cells.specs.declared.kind.CellKind.{CellKind}
use Rattle.px_cells.specs.Order.{GoesWith}
use Rattle.px_cells.specs.declared.kind.CellKind.TheVariants.{Put, Delete, DeleteFamilyVersion, DeleteColumn, DeleteFamily}
use Rattle.px_cells.proofs.Among.{all_has, has_all, reads_from_has}
use Rattle.px_cells.proofs.Contents.{value_from_reads}
use Rattle.px_batchcells.proofs.RowsMade.{closes_made, marks_made}
use Rattle.px_forms.specs.Indexes.{IndexForm, IsIndexForm, IsPlaced}
use Rattle.px_groupworld.specs.Group.{table_form}
use Rattle.px_indexrow.specs.Lists.{closes_of, marks_of}
use Rattle.px_openbatches.specs.Made.{IsComputed, IsIndexRow, IsPutOfRow}
use Rattle.px_openbatches.specs.Pending.{HeldBatch, flagged, fresh_held, is_pending_in}
use Rattle.px_rows.specs.Keys.{row_key}
use Rattle.px_rows.specs.Spelled.{change_cells, change_contents, row_form, row_spelling}
use Rattle.px_tables.specs.declared.table.Table.{Table}
use Rattle.px_trail.specs.Batches.{change_of, has, is_distinct, rows_of}
use Rattle.px_trail.specs.Trail.{Base, table_shape}
use Rattle.px_values.proofs.Equal.{row_order-Decides}
use Rattle.px_values.specs.Order.{row_order}
use Rattle.px_values.specs.States.{RowState, apply}
use Rattle.px_values.specs.declared.change.Change.{Change}
use Rattle.px_values.specs.declared.change.What.{What}
use Rattle.px_values.specs.declared.change.What.TheVariants.{Set, Gone}
use Rattle.px_values.specs.declared.name.TableId.{TableId}
use Rattle.px_values.specs.declared.row.Value.{Value}
use Rattle.px_phases.specs.declared.transition.Transition.{Transition}
use Rattle.px_phases.specs.Batch.{IsHeldAs}
use Rattle.px_phases.specs.Begun.{AreFrom, made_rows, no_form, prepared_batch}
use Rattle.px_phases.specs.Phases.{ArePuts, AreTransitions, IsPut, IsTransition, close_parts, mark_parts}
use Rattle.px_phases.proofs.Held.{first_new, or_right}

-- 1. Lists of the rows' cells

pub rows_are : (fs : List IndexForm) (s : ℕ) (t : Table) (cs : List Change) (xs : List Transition) (parts : List (List CellData)) → AreTransitions t cs xs → ArePuts t s cs parts → map (λ x. x.row) (made_rows fs s cs xs parts) ≡ rows_of cs
rows_are fs s t [] [] [] a p = refl
rows_are fs s t [] [] (q ∷ parts) a p = absurd p
rows_are fs s t [] (x ∷ xs) parts a p = absurd a
rows_are fs s t (c ∷ cs) [] parts a p = absurd a
rows_are fs s t (c ∷ cs) (x ∷ xs) [] a p = absurd p
rows_are fs s t (c ∷ cs) (x ∷ xs) (q ∷ parts) a p = ap (λ (l : List (List Value)). c.row ∷ l) (rows_are fs s t cs xs parts a.1 p.1)

mapped : {A B : Type 0} (g : A → B) (fs : List A) (i : ℕ) (d : A) (e : B) → i < length fs → get_or (map g fs) i e ≡ g (get_or fs i d)
mapped g [] i d e l = absurd (omega arith)
mapped g (f ∷ fs) zero d e l = refl
mapped g (f ∷ fs) (suc i) d e l = mapped g fs i d e (omega arith)

pub marks_are : (fs : List IndexForm) (s : ℕ) (t : Table) (cs : List Change) (xs : List Transition) (parts : List (List CellData)) → AreTransitions t cs xs → ArePuts t s cs parts → (i : ℕ) → i < length fs → mark_parts (get_or fs i no_form) s cs xs ≡ map (λ x. get_or x.marks i []) (made_rows fs s cs xs parts)
marks_are fs s t [] [] [] a p i l = refl
marks_are fs s t [] [] (q ∷ parts) a p i l = absurd p
marks_are fs s t [] (x ∷ xs) parts a p i l = absurd a
marks_are fs s t (c ∷ cs) [] parts a p i l = absurd a
marks_are fs s t (c ∷ cs) (x ∷ xs) [] a p i l = absurd p
marks_are fs s t (c ∷ cs) (x ∷ xs) (q ∷ parts) a p i l = λ j. sym (mapped (λ f. marks_of f c.row s x.old x.new) fs i no_form [] l) j ∷ marks_are fs s t cs xs parts a.1 p.1 i l j

pub closes_are : (fs : List IndexForm) (s : ℕ) (t : Table) (cs : List Change) (xs : List Transition) (parts : List (List CellData)) → AreTransitions t cs xs → ArePuts t s cs parts → (i : ℕ) → i < length fs → close_parts (get_or fs i no_form) s cs xs ≡ map (λ x. get_or x.closes i []) (made_rows fs s cs xs parts)
closes_are fs s t [] [] [] a p i l = refl
closes_are fs s t [] [] (q ∷ parts) a p i l = absurd p
closes_are fs s t [] (x ∷ xs) parts a p i l = absurd a
closes_are fs s t (c ∷ cs) [] parts a p i l = absurd a
closes_are fs s t (c ∷ cs) (x ∷ xs) [] a p i l = absurd p
closes_are fs s t (c ∷ cs) (x ∷ xs) (q ∷ parts) a p i l = λ j. sym (mapped (λ f. closes_of f c.row s x.old x.new) fs i no_form [] l) j ∷ closes_are fs s t cs xs parts a.1 p.1 i l j

pub puts_are : (fs : List IndexForm) (s : ℕ) (t : Table) (cs : List Change) (xs : List Transition) (parts : List (List CellData)) → AreTransitions t cs xs → ArePuts t s cs parts → parts ≡ map (λ x. x.puts) (made_rows fs s cs xs parts)
puts_are fs s t [] [] [] a p = refl
puts_are fs s t [] [] (q ∷ parts) a p = absurd p
puts_are fs s t [] (x ∷ xs) parts a p = absurd a
puts_are fs s t (c ∷ cs) [] parts a p = absurd a
puts_are fs s t (c ∷ cs) (x ∷ xs) [] a p = absurd p
puts_are fs s t (c ∷ cs) (x ∷ xs) (q ∷ parts) a p = ap (λ (l : List (List CellData)). q ∷ l) (puts_are fs s t cs xs parts a.1 p.1)

-- 2. A put is of its row

not_delete : (t : Table) (w : What) (q : ℕ) (v : List ℕ) (d : CellKind) → change_cells (row_spelling t) w q d ≡ Some v → d ≡ Delete → ⊥
not_delete t (Set as') q v Delete e z = cc
not_delete t Gone q v Delete e z = cc
not_delete t w q v Put e z = cc
not_delete t w q v DeleteFamilyVersion e z = cc
not_delete t w q v DeleteColumn e z = cc
not_delete t w q v DeleteFamily e z = cc

puts_of : (b : Base) (id : TableId) (index : ℕ → IndexForm) (t : Table) (s : ℕ) (c : Change) (cells : List CellData) → IsPut t s c cells → AllByRecursion (IsPutOfRow (table_form b id index (row_form t)) c.row) cells
puts_of b id index t s c cells p = has_all (IsPutOfRow (table_form b id index (row_form t)) c.row) cells (λ x h. record {
  key = all_has (λ x. x.key ≡ row_key t c.row) cells x p.own h;
  placed = all_has GoesWith cells x p.list.placed h;
  kind = λ e.
      (let stands : change_contents (row_spelling t) c.row s c.what x.key x.qualifier x.stamp x.kind ≡ Some x.value = (λ i. sym p.values i x.key x.qualifier x.stamp x.kind) ∙ value_from_reads cells x.key x.qualifier x.stamp x.kind x.value (reads_from_has cells x p.list.ascending h) in
      at (Rattle.std.specs.Cmp.Lexicographic.pointwise Rattle.std.specs.Prelude.nat_eq x.key (row_key t c.row) && Rattle.std.specs.Prelude.nat_eq s x.stamp) x stands e);
})
  where
    at : (v : Bool) (x : CellData) → cond v (change_cells (row_spelling t) c.what x.qualifier x.kind) None ≡ Some x.value → x.kind ≡ Delete → ⊥
    at true x z e = not_delete t c.what x.qualifier x.value x.kind z e
    at false x z e = cc

-- 3. What begin computes

module _ (b : Base) (id : TableId) (index : ℕ → IndexForm) (t : Table) (fs : List IndexForm) (form : ℕ → IndexForm) (same : (i : ℕ) → i < length fs → form i ≡ get_or fs i no_form) (laws : (i : ℕ) → i < length fs → IsIndexForm (get_or fs i no_form)) (placed : (i : ℕ) → i < length fs → IsPlaced (get_or fs i no_form))
    (s : ℕ) (all : List Change) (old : List Value → RowState) where
  one : (c : Change) (x : Transition) (part : List CellData) → IsTransition t c x → IsPut t s c part → change_of all c.row ≡ Some c.what → old c.row ≡ x.old
      → IsComputed (table_form b id index (row_form t)) form (length fs) s all old (record { row = c.row; marks = map (λ f. marks_of f c.row s x.old x.new) fs; closes = map (λ f. closes_of f c.row s x.old x.new) fs; puts = part })
  one c x part w p is from = record {
    what = c.what;
    is = is;
    marks = λ i l.
        (let new : x.new ≡ apply (table_shape t) c.row (old c.row) c.what = w.new ∙ ap (λ (o : RowState). apply (table_shape t) c.row o c.what) (sym from) in
        let cells : marks_of (form i) c.row s (old c.row) (apply (table_shape t) c.row (old c.row) c.what) ≡ get_or (map (λ f. marks_of f c.row s x.old x.new) fs) i [] =
        (λ j. marks_of (same i l j) c.row s (from j) (sym new j)) ∙ sym (mapped (λ f. marks_of f c.row s x.old x.new) fs i no_form [] l) in
        subst (IsIndexRow (form i) c.row s _) cells (marks_made (table_shape t) (form i) (subst IsIndexForm (sym (same i l)) (laws i l)) (subst IsPlaced (sym (same i l)) (placed i l)) c.row s (old c.row) (apply (table_shape t) c.row (old c.row) c.what)));
    closes = λ i l.
        (let new : x.new ≡ apply (table_shape t) c.row (old c.row) c.what = w.new ∙ ap (λ (o : RowState). apply (table_shape t) c.row o c.what) (sym from) in
        let cells : closes_of (form i) c.row s (old c.row) (apply (table_shape t) c.row (old c.row) c.what) ≡ get_or (map (λ f. closes_of f c.row s x.old x.new) fs) i [] =
        (λ j. closes_of (same i l j) c.row s (from j) (sym new j)) ∙ sym (mapped (λ f. closes_of f c.row s x.old x.new) fs i no_form [] l) in
        subst (IsIndexRow (form i) c.row s _) cells (closes_made (table_shape t) (form i) (subst IsIndexForm (sym (same i l)) (laws i l)) (subst IsPlaced (sym (same i l)) (placed i l)) c.row s (old c.row) (apply (table_shape t) c.row (old c.row) c.what)));
    keys = puts_of b id index t s c part p;
    puts = λ q u d. (λ i. p.values i (row_key t c.row) q u d);
  }

  each : (cs : List Change) (xs : List Transition) (parts : List (List CellData)) → AreTransitions t cs xs → ArePuts t s cs parts → AreFrom old cs xs → AllByRecursion (λ c. change_of all c.row ≡ Some c.what) cs
      → AllByRecursion (IsComputed (table_form b id index (row_form t)) form (length fs) s all old) (made_rows fs s cs xs parts)
  each [] [] [] a p f n = tt
  each [] [] (q ∷ parts) a p f n = absurd p
  each [] (x ∷ xs) parts a p f n = absurd a
  each (c ∷ cs) [] parts a p f n = absurd a
  each (c ∷ cs) (x ∷ xs) [] a p f n = absurd p
  each (c ∷ cs) (x ∷ xs) (q ∷ parts) a p f n = (one c x q a.0 p.0 n.0 f.0, each cs xs parts a.1 p.1 f.1 n.1)

shift : (front : List Change) (c : Change) (back : List Change) → (front ++ c ∷ []) ++ back ≡ front ++ c ∷ back
shift [] c back = refl
shift (x ∷ front) c back = ap (λ (l : List Change). x ∷ l) (shift front c back)

inside : (front : List Change) (c : Change) (back : List Change) → has (rows_of (front ++ c ∷ back)) c.row ≡ true
unfolding has
inside [] c back = ap (λ (v : Bool). v || has (rows_of back) c.row) ((row_order-Decides c.row c.row).1 refl)
inside (x ∷ front) c back = or_right (is_eq (row_order x.row c.row)) (has (rows_of (front ++ c ∷ back)) c.row) (inside front c back)

the_one : (front : List Change) (c : Change) (back : List Change) → is_distinct (rows_of (front ++ c ∷ back)) ≡ true → change_of (front ++ c ∷ back) c.row ≡ Some c.what
unfolding change_of
the_one [] c back d = ap (λ (v : Bool). if v then Some c.what else change_of back c.row) ((row_order-Decides c.row c.row).1 refl)
the_one (x ∷ front) c back d =
    (let n = first_new x.row (rows_of (front ++ c ∷ back)) d in
    elim (cases_Bool (is_eq (row_order x.row c.row))) [
      | inl e ↦ absurd (false≢true (sym n.0 ∙ subst (λ (r : List Value). has (rows_of (front ++ c ∷ back)) r ≡ true) (sym ((row_order-Decides x.row c.row).0 e)) (inside front c back)))
      | inr e ↦ ap (λ (v : Bool). if v then Some x.what else change_of (front ++ c ∷ back) c.row) e ∙ the_one front c back n.1
    ])

-- each change is the one of its row, where no row is named twice
named : (front back : List Change) → is_distinct (rows_of (front ++ back)) ≡ true → AllByRecursion (λ c. change_of (front ++ back) c.row ≡ Some c.what) back
named front [] d = tt
named front (c ∷ back) d = (the_one front c back d, subst (λ (l : List Change). AllByRecursion (λ x. change_of l x.row ≡ Some x.what) back) (shift front c back) (named (front ++ c ∷ []) back (subst (λ (l : List Change). is_distinct (rows_of l) ≡ true) (sym (shift front c back)) d)))

pub computed : (b : Base) (id : TableId) (index : ℕ → IndexForm) (t : Table) (fs : List IndexForm) (form : ℕ → IndexForm) → ((i : ℕ) → i < length fs → form i ≡ get_or fs i no_form) → ((i : ℕ) → i < length fs → IsIndexForm (get_or fs i no_form)) → ((i : ℕ) → i < length fs → IsPlaced (get_or fs i no_form))
    → (s : ℕ) (cs : List Change) (xs : List Transition) (parts : List (List CellData)) (old : List Value → RowState) → is_distinct (rows_of cs) ≡ true → AreTransitions t cs xs → ArePuts t s cs parts → AreFrom old cs xs
    → AllByRecursion (IsComputed (table_form b id index (row_form t)) form (length fs) s cs old) (made_rows fs s cs xs parts)
computed b id index t fs form same laws placed s cs xs parts old d a p f = each b id index t fs form same laws placed s cs old cs xs parts a p f (named [] cs d)

-- 4. The batch that begins

nothing : (r : List Value) → has [] r ≡ false
unfolding has
nothing r = refl

pending_flags : (p : List Value → Bool) (rows : List (List Value)) → flagged (map p rows) rows ≡ filter p rows
unfolding flagged
pending_flags p [] = refl
pending_flags p (r ∷ rows) = ap (λ (l : List (List Value)). cond (p r) (r ∷ l) l) (pending_flags p rows)

pub begun_held : (t : Table) (fs : List IndexForm) (s : ℕ) (cs : List Change) (xs : List Transition) (parts : List (List CellData)) (flags : List Bool) (hs : List HeldBatch) → is_distinct (rows_of cs) ≡ true → AreTransitions t cs xs → ArePuts t s cs parts → flags ≡ map (is_pending_in hs) (rows_of cs)
    → IsHeldAs (prepared_batch fs s cs xs parts flags) (fresh_held s cs (length fs) (made_rows fs s cs xs parts) hs)
begun_held t fs s cs xs parts flags hs d a p e = record {
  stamp = refl;
  changes = refl;
  rows = rows_are fs s t cs xs parts a p;
  distinct = d;
  flags = ap length e ∙ length-map (rows_of cs) (is_pending_in hs);
  met = λ r. ap (λ (l : List (List Value)). has l r) (sym (pending_flags (is_pending_in hs) (rows_of cs)) ∙ ap (λ (v : List Bool). flagged v (rows_of cs)) (sym e));
  written = λ r. nothing r;
  to_mark = (let n = length-map fs (λ f. mark_parts f s cs xs) in omega arith);
  to_verify = (let n = length-map fs (λ f. close_parts f s cs xs) in omega arith);
  marks = λ k l. (let m : k < length fs = (let n = length-map fs (λ f. mark_parts f s cs xs) in omega arith) in mapped (λ f. mark_parts f s cs xs) fs k no_form [] m ∙ (marks_are fs s t cs xs parts a p k m ∙ ap (λ (n : ℕ). map (λ x. get_or x.marks n []) (made_rows fs s cs xs parts)) (let z : k ≡ 0 + k = omega arith in z)));
  closes = λ k l. (let m : k < length fs = (let n = length-map fs (λ f. close_parts f s cs xs) in omega arith) in mapped (λ f. close_parts f s cs xs) fs k no_form [] m ∙ (closes_are fs s t cs xs parts a p k m ∙ ap (λ (n : ℕ). map (λ x. get_or x.closes n []) (made_rows fs s cs xs parts)) (let z : k ≡ 0 + k = omega arith in z)));
  puts = λ q w. (let z : parts ≡ q = cc in sym z ∙ puts_are fs s t cs xs parts a p);
}
