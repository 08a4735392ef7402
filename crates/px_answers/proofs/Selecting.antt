-- What was gathered by a scan, sorted, cut and shown, is the answer of a SELECT.
use Rattle.std.proofs.Common.{◌≡◌, ◌↔◌, ◌<◌, ◌≤◌, inl, inr, ℕ, Bool, true, false, List, [], ◌∷◌, ◌++◌, map, Option, Some, None, refl, sym, ap, subst, ◌∙◌, take, slice_index_or}
use Rattle.std.specs.List.{AllByRecursion, Contains}
use Rattle.px_values.specs.States.{Shape}
use Rattle.px_values.specs.declared.row.Value.{Value}
use Rattle.px_values.specs.declared.row.Value.TheVariants.{Null}
use Rattle.px_tables.specs.declared.found.Found.{Found}
use Rattle.px_tables.specs.declared.index.Index.{Index}
use Rattle.px_tables.specs.declared.table.KeyPlace.{KeyPlace}
use Rattle.px_tables.specs.declared.table.Table.{Table}
use Rattle.px_tables.specs.declared.table.TableColumn.{TableColumn}
use Rattle.px_keys.specs.Spelling.{Fits}
use Rattle.std.specs.List.Sorted.{IsStrictlySortedBy}
use Rattle.px_values.specs.Order.{row_order}
use Rattle.px_expr.specs.Holds.{truth_of}
use Rattle.px_expr.specs.declared.bound.Bound.{Bound}
use Rattle.px_expr.specs.declared.bound.Truth.{Truth}
use Rattle.px_expr.specs.declared.bound.Truth.TheVariants as truths
use Rattle.px_bind.specs.declared.request.Query.{Query}
use Rattle.px_paths.specs.Paths.{FitsRow, columns_on, key_part, table_path, values_on}
use Rattle.px_paths.specs.declared.path.PathColumn.{PathColumn}
use Rattle.px_conjuncts.specs.Conjuncts.{all_true, conjuncts_of_filter}
use Rattle.px_conjuncts.proofs.Conditions.{condition_is}
use Rattle.px_conjuncts.proofs.Rests.{each_true, none_true}
use Rattle.px_trail.specs.declared.entry.Entry.{Entry}
use Rattle.px_trail.specs.Answers.{Given, IsExact}
use Rattle.px_trail.specs.Batches.{IsDecided}
use Rattle.px_trail.specs.Legal.{IsLegal}
use Rattle.px_trail.specs.States.{AreRowsAt, IsOneOf, key_in, state_of}
use Rattle.px_trail.specs.Trail.{Base, catalogue_of, last_of, shape_of, table_shape}
use Rattle.px_trail.proofs.Standing.{shape-stays}
use Rattle.px_trail.proofs.States.{decided-stays, state-stays}
use Rattle.px_calls.specs.declared.query.By.{By}
use Rattle.px_calls.specs.declared.query.By.TheVariants as bys
use Rattle.px_calls.specs.declared.query.Path.{Path}
use Rattle.px_calls.specs.declared.query.Point.{Point}
use Rattle.px_calls.specs.Causes.{stamp_at}
use Rattle.px_calls.specs.Looks.{columns_by, index_path_in}
use Rattle.px_calls.specs.Requires.{CanReadBy, IsReadable, index_of_found}
use Rattle.px_gather.specs.Answers.{IsAnswerBy, IsCurrentOf, IsExactOf}
use Rattle.px_gather.specs.Query.{IsPathFor, asked}
use Rattle.px_plan.specs.Answers.{AreKeyed, IsAnswer}
use Rattle.px_plan.specs.Asked.{asked_of}
use Rattle.px_plan.specs.PathColumns.{path_of}
use Rattle.px_plan.specs.Plans.{IsSelected}
use Rattle.px_plan.specs.declared.plan.Asked.{Asked}
use Rattle.px_plan.proofs.IndexRows.{and_left, and_right, row_has_key}
use Rattle.px_plan.proofs.OneAnswer.{here, split, there, nothing_in}
use Rattle.px_plan.proofs.SomeAnswer.{some_answer}
use Rattle.px_planned.specs.Queries.{is_true, meets_all, query_of}
use Rattle.px_planned.specs.declared.planned.Planned.{Planned}
use Rattle.px_scan.specs.declared.answer.Placed.{Placed}
use Rattle.px_scan.specs.Turns.{given_of}
use Rattle.px_sorted.specs.Sorting.{answer_of, row_shown}
use Rattle.px_sorted.specs.declared.answer.Shown.{Shown}
use Rattle.px_answers.specs.Selects.{IsCurrentSelect, IsExactSelect, IsSelectBy, selects}
use Rattle.px_answers.proofs.Exactly.{answer-is}
use Rattle.px_answers.proofs.Final.{given_last, last_from, last_order, last_whole, last_within}
use Rattle.px_answers.proofs.Named.{shown-is, sortable}

-- 1. Conditions

true_is : (t : Truth) → is_true t ≡ true → t ≡ truths.True
true_is truths.True h = refl
true_is truths.False h = absurd (let z : ◌≡◌ {A = Bool} false true = h in cc)
true_is truths.Unknown h = absurd (let z : ◌≡◌ {A = Bool} false true = h in cc)

met : (bs : List Bound) (row : List Value) → meets_all bs row ≡ true → all_true row bs
met [] row h = none_true row
met (b ∷ bs) row h = (each_true row b bs).1 (true_is (truth_of row b) (and_left (is_true (truth_of row b)) (meets_all bs row) h), met bs row (and_right (is_true (truth_of row b)) (meets_all bs row) h))

meets : (bs : List Bound) (row : List Value) → all_true row bs → meets_all bs row ≡ true
meets [] row h = refl
meets (b ∷ bs) row h = let e = (each_true row b bs).0 h in let first : is_true (truth_of row b) ≡ true = ap is_true e.0 in rw first (meets bs row e.1)

selected_is : (filter : Option Bound) (row : List Value) → IsSelected filter row ↔ all_true row (conjuncts_of_filter filter)
selected_is None row = (λ h. none_true row, λ h. tt)
selected_is (Some b) row = condition_is b row

selected_met : (a : Asked) (q : Query) → a ≡ asked_of q → (row : List Value) → (meets_all a.conjuncts row ≡ true) ↔ IsSelected q.filter row
selected_met a q e row =
    let c : a.conjuncts ≡ conjuncts_of_filter q.filter = ap (λ (w : Asked). w.conjuncts) e in (
      λ h. (selected_is q.filter row).1 (met (conjuncts_of_filter q.filter) row (subst (λ (bs : List Bound). meets_all bs row ≡ true) c h)),
      λ h. subst (λ (bs : List Bound). meets_all bs row ≡ true) (sym c) (meets (conjuncts_of_filter q.filter) row ((selected_is q.filter row).0 h)),
    )

-- 2. The rows of a table at a point

one_contains : (rows : List (List Value)) (row : List Value) → IsOneOf rows row → Contains rows row
unfolding IsOneOf
one_contains [] row h = absurd h
one_contains (r ∷ rows) row (inl e) = subst (λ (w : List Value). Contains (r ∷ rows) w) e (here r rows)
one_contains (r ∷ rows) row (inr h) = there r row rows (one_contains rows row h)

contained : (P : List Value → Type 0) (rows : List (List Value)) (row : List Value) → AllByRecursion P rows → Contains rows row → P row
contained P [] row h c = absurd (nothing_in row c)
contained P (r ∷ rows) row h c = elim (split r row rows c) [ inl e ↦ subst P e h.0 | inr d ↦ contained P rows row h.1 d ]

key_values : (columns : List TableColumn) (key : List KeyPlace) (row : List Value) → map (λ c. slice_index_or row c Null) (map (λ p. p.column) key) ≡ values_on (map (key_part columns) key) row
key_values columns [] row = refl
key_values columns (p ∷ key) row = ap (λ vs. slice_index_or row p.column Null ∷ vs) (key_values columns key row)

-- the row is the one at the point
abbrev At : Base → List Entry → ℕ → ℕ → List Value → Type 0
At b es t p row = state_of b es t (key_in (shape_of b es t) row) p ≡ Some row

one_of : (a c : List Value) (o : Option (List Value)) → o ≡ Some a → o ≡ Some c → a ≡ c
one_of a c o e f = let z : ◌≡◌ {A = Option (List Value)} (Some a) (Some c) = sym e ∙ f in cc

are_keyed : (b : Base) (es : List Entry) (t p : ℕ) (x : Table) (rows : List (List Value)) → shape_of b es t ≡ table_shape x → AreRowsAt b es t p rows → AreKeyed x rows
are_keyed b es t p x rows shape are a c in_a in_c e =
    let key : (row : List Value) → key_in (shape_of b es t) row ≡ values_on (table_path x) row = λ row. ap (λ (s : Shape). key_in s row) shape ∙ key_values x.columns x.key row in
    let same : key_in (shape_of b es t) a ≡ key_in (shape_of b es t) c = key a ∙ (e ∙ sym (key c)) in
    let one : At b es t p a = contained (At b es t p) rows a are.each in_a in
    let other : At b es t p c = contained (At b es t p) rows c are.each in_c in
    one_of a c (state_of b es t (key_in (shape_of b es t) a) p) one (ap (λ (k : List Value). state_of b es t k p) same ∙ other)

-- 3. The path

-- the keys are those of the table or of one of its indexes
record IsPathBy (found : Found) (by : By) : Type 0 where
  pub index : Option Index
  pub is : columns_by found by ≡ path_of found.table index

index_path_is : (p : Point) (n : ℕ) (o : Option Index) → index_of_found p.found n ≡ o → IsReadable p o → (index : Option Index) × (index_path_in p.found (index_of_found p.found n) ≡ path_of p.found.table index)
index_path_is p n None e h = absurd h
index_path_is p n (Some x) e h = (Some x, ap (index_path_in p.found) e)

path_is : (p : Point) (by : By) → CanReadBy p by → IsPathBy p.found by
path_is p bys.Table h = record { index = None; is = refl }
path_is p (bys.Index i) h = let z = index_path_is p i.0 (index_of_found p.found i.0) refl h in record { index = z.0; is = z.1 }

-- 4. Exact answers

module _ (b : Base) (es : List Entry) (x : Table) (found : Found) (by : By) (point : ℕ) (path : IsPathBy found by)
    (shape : shape_of b es x.id.0 ≡ table_shape found.table)
    (fits : (row : List Value) → At b es x.id.0 point row → FitsRow found.table row) where
  abbrev with : Asked → Planned
  with a = record { table = x; asked = a }

  of_query : (q : Query) (rows : List (List Value)) (xs : List Given) → AreRowsAt b es x.id.0 point rows → IsExact b es (selects (with (asked_of q)) found by) point xs → IsAnswer rows q (columns_by found by) (map (λ g. row_shown q.shown g.row) xs)
  of_query q rows xs are h =
      let s = some_answer found.table path.index q rows (are_keyed b es x.id.0 point found.table rows shape are) in
      answer-is (asked (query_of (with (asked_of q))) found by) q (columns_by found by) (At b es x.id.0 point) rows xs (sortable (with (asked_of q)) found by)
      (record { held = h.held; ordered = h.ordered; within = h.within; whole = h.whole })
      refl
      (selected_met (asked_of q) q refl)
      (λ row. ((λ at. one_contains rows row (are.all (key_in (shape_of b es x.id.0) row) row at)), (λ c. contained (At b es x.id.0 point) rows row are.each c)))
      (λ row at. subst (λ (w : List PathColumn). Fits (columns_on w) (values_on w row)) (sym path.is) (row_has_key found.table path.index row (fits row at)))
      s.0 (subst (λ (w : List PathColumn). IsAnswer rows q w s.0) (sym path.is) s.1)

  of_asked : (a : Asked) (q : Query) → a ≡ asked_of q → (rows : List (List Value)) (xs : List Given) → AreRowsAt b es x.id.0 point rows → IsExact b es (selects (with a) found by) point xs → IsAnswer rows q (columns_by found by) (map (λ g. row_shown a.shown g.row) xs)
  of_asked a q e rows xs are = subst (λ (w : Asked). IsExact b es (selects (with w) found by) point xs → IsAnswer rows q (columns_by found by) (map (λ g. row_shown w.shown g.row) xs)) (sym e) (of_query q rows xs are)

module _ (b : Base) (es : List Entry) (p : Planned) (found : Found) (by : By) (rows : List Placed) where
  abbrev last : List Given → List Given
  last xs = given_last p.asked.order p.asked.limit xs

  exact : (point : ℕ) → IsPathBy found by → (h : IsExactOf b es (query_of p) found by point (given_of rows)) → IsExact b es (selects p found by) point (last h.given)
  exact point path h =
      let s = sortable p found by in
      let a = asked (query_of p) found by in
      record {
        held = λ x k. h.exact.held x (last_from p.asked.order p.asked.limit x h.given k);
        ordered = last_order a p.asked.order p.asked.limit s h.given h.exact.ordered;
        within = last_within p.asked.order p.asked.limit h.given;
        whole = λ row at m. last_whole a p.asked.order p.asked.limit s h.given row h.exact.ordered (h.exact.whole row at m);
      }

  exact_select : (point : ℕ) → IsPathBy found by → IsExactOf b es (query_of p) found by point (given_of rows) → IsExactSelect b es p found by point (answer_of p.asked rows)
  exact_select point path h =
      let shown = shown-is p rows h.given h.same in
      record {
        given = last h.given;
        shown = shown;
        decided = h.decided;
        exact = exact point path h;
        answer = λ q e all are. subst (λ (rs : List (List Value)). IsAnswer all q (columns_by found by) rs) (sym shown.rows) (of_asked b es p.table found by point path h.shape h.fits p.asked q e all (last h.given) are (exact point path h));
      }

  current_select : (first end : ℕ) → IsCurrentOf b es (query_of p) found by first end (given_of rows) → IsCurrentSelect b es p found by first end (answer_of p.asked rows)
  current_select first end h =
      let s = sortable p found by in
      let a = asked (query_of p) found by in
      record {
        given = last h.given;
        shown = shown-is p rows h.given h.same;
        current = record {
          held = λ x k. h.current.held x (last_from p.asked.order p.asked.limit x h.given k);
          ordered = last_order a p.asked.order p.asked.limit s h.given h.current.ordered;
          within = last_within p.asked.order p.asked.limit h.given;
          whole = λ row stood m. last_whole a p.asked.order p.asked.limit s h.given row h.current.ordered (h.current.whole row stood m);
        };
      }

pub select-is : (b : Base) (es : List Entry) (p : Planned) (scn : Option ℕ) (point : Point) (path : Path) (first end : ℕ) (rows : List Placed) → IsPathFor (query_of p) point path → IsAnswerBy b es (query_of p) scn point.found path.by first end (given_of rows)
    → IsSelectBy b es p scn point.found path.by first end (answer_of p.asked rows)
select-is b es p None point path first end rows chosen h = current_select b es p point.found path.by rows first end h
select-is b es p (Some scn) point path first end rows chosen h = (exact_select b es p point.found path.by rows (stamp_at (Some scn) p.table.id.0 b (take first es)) (path_is point path.by chosen.can) h.0, h.1)

-- 5. In a longer trail

each_other : (P Q : List Value → Type 0) (rows : List (List Value)) → ((row : List Value) → P row → Q row) → AllByRecursion P rows → AllByRecursion Q rows
each_other P Q [] f h = tt
each_other P Q (r ∷ rows) f h = (f r h.0, each_other P Q rows f h.1)

module _ (b : Base) (es more : List Entry) (t point : ℕ) (legal : IsLegal b (es ++ more)) (decided : IsDecided es t point) (low : point ≤ last_of b t es) (drawn : t < (catalogue_of b es).next) where
  same_shape : shape_of b (es ++ more) t ≡ shape_of b es t
  same_shape = shape-stays b t es more legal drawn

  same_state : (key : List Value) → state_of b (es ++ more) t key point ≡ state_of b es t key point
  same_state key = state-stays b t key point es more legal decided low drawn

  same_at : (row : List Value) → state_of b (es ++ more) t (key_in (shape_of b (es ++ more) t) row) point ≡ state_of b es t (key_in (shape_of b es t) row) point
  same_at row = ap (λ (s : Shape). state_of b (es ++ more) t (key_in s row) point) same_shape ∙ same_state (key_in (shape_of b es t) row)

  rows_before : (rows : List (List Value)) → AreRowsAt b (es ++ more) t point rows → AreRowsAt b es t point rows
  rows_before rows h = record {
    ordered = subst (λ (s : Shape). IsStrictlySortedBy row_order (map (key_in s) rows)) same_shape h.ordered;
    each = each_other (At b (es ++ more) t point) (At b es t point) rows (λ row at. sym (same_at row) ∙ at) h.each;
    all = λ key row at. h.all key row (same_state key ∙ at);
  }

pub select-stays : (b : Base) (es more : List Entry) (p : Planned) (found : Found) (by : By) (point : ℕ) (s : Shown) → IsLegal b (es ++ more) → point ≤ last_of b p.table.id.0 es → p.table.id.0 < (catalogue_of b es).next → IsExactSelect b es p found by point s → IsExactSelect b (es ++ more) p found by point s
select-stays b es more p found by point s legal low drawn h =
    let same = same_at b es more p.table.id.0 point legal h.decided low drawn in
    record {
      given = h.given;
      shown = h.shown;
      decided = decided-stays b p.table.id.0 point es more legal h.decided low;
      exact = record {
        held = λ x k. (let z = h.exact.held x k in (same x.row ∙ z.0, z.1));
        ordered = h.exact.ordered;
        within = h.exact.within;
        whole = λ row at m. h.exact.whole row (sym (same row) ∙ at) m;
      };
      answer = λ q e rows are. h.answer q e rows (rows_before b es more p.table.id.0 point legal h.decided low drawn rows are);
    }
