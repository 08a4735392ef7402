-- What each step of a table does to the world of a row and an index.
use Rattle.std.proofs.Common.{◌≡◌, ℕ, ◌<◌, ◌≤◌, Bool, true, false, cond, not, ◌&&◌, ◌⊎◌, Option, Some, None, List, [], ◌∷◌, ◌++◌, refl, ap, sym, ◌∙◌, subst, inl, inr, arith, if◌then◌else◌}
use Rattle.std.specs.Prelude.{nat_lt, is_some}
use Rattle.std.proofs.lemmas.Bool.{cases_Bool, cases_eq, cond-true, cond-false, ne_eqb, eq-eqb, both_ways, false≢true}
use Rattle.px_cells.specs.declared.kind.CellKind.TheVariants.{Put, DeleteFamilyVersion, DeleteColumn, DeleteFamily}
use Rattle.px_values.specs.declared.row.Value.{Value}
use Rattle.px_values.specs.declared.change.Change.{Change}
use Rattle.px_values.specs.declared.change.What.{What}
use Rattle.px_values.specs.declared.name.TableId.{TableId}
use Rattle.px_trail.specs.declared.entry.Act.TheVariants.{Begun, Wrote, Ended, Phase}
use Rattle.px_trail.specs.declared.entry.Entry.{Entry}
use Rattle.px_cells.specs.CellData.{CellData}
use Rattle.px_cells.specs.Order.{ReadsSame}
use Rattle.px_values.specs.States.{RowState, Shape as RowShape, apply}
use Rattle.px_trail.specs.Trail.{Base, IsBase, last_of}
use Rattle.px_trail.specs.Batches.{Batch, batch_of, change_of, has}
use Rattle.px_trail.specs.Legal.{IsWritable}
use Rattle.px_world.specs.Shape.{WorldShape}
use Rattle.px_world.specs.World.{Fate, Unbegun, Undecided, Written, Absent, World, is_begun, is_undecided, st, horizon}
use Rattle.px_world.specs.Events.{Mark, Write, Verify, End, Fix, IsBlank, set_stamp, due, stands}
use Rattle.px_world.proofs.Steps.{set_stamp-same, set_stamp-other}
use Rattle.px_cells.specs.Contents.{value_at}
use Rattle.px_world.specs.IndexCells.{IndexCells, over, mark_cells, close_cells, fix_cells, Moves}
use Rattle.px_forms.specs.Indexes.{status_in, IsIndexForm, shape_at, view_at, cells_if}
use Rattle.px_history.specs.History.{History, begin_change, write_change, end_change}
use Rattle.px_indexed.specs.Worlds.{Times, world_of_history, marked_by, times_of, world_at, begin_event, change_event, row_event, history_at, Indexed}
use Rattle.px_history.specs.Rows.{row_as, row_in, fate_by, ended_by, begun_as, Tied}
use Rattle.px_indexed.specs.Kept.{AreIndexCells}
use Rattle.px_forms.proofs.Views.{lawful_at, view_put}
use Rattle.px_world.proofs.IndexCells.{mark_is, verify_is, fix_is}
use Rattle.px_history.proofs.Ties.{above, step_is, wrote_step_is, undecided, earlier, phase_step_is, ended_step_is, fate_done}
use Rattle.px_history.proofs.Changes.{from-snoc}
use Rattle.px_indexed.proofs.Rows.{IsEnding, can_end}
use Rattle.px_indexed.proofs.Regions.{none_above}

pub world_cong : {K S X : Type 0} {h h' : History S} {m m' : ℕ → Bool} {v v' : IndexCells K X} (x : Times) → h ≡ h' → m ≡ m' → v ≡ v' → world_of_history h m v x ≡ world_of_history h' m' v' x
world_cong x p q e = λ i. world_of_history (p i) (q i) (e i) x

module _ (sh : RowShape) (b : Base) (es : List Entry) (tid : TableId) (raised : ℕ) (x : Indexed) (r : List Value) (sound : IsBase b tid.0 r) where
  abbrev t : ℕ
  t = tid.0

  abbrev n : WorldShape (List ℕ) RowState (List ℕ) What
  n = shape_at sh x.form r

  abbrev h : History RowState
  h = history_at sh b es t r

  abbrev w : World (List ℕ) RowState (List ℕ)
  w = world_at sh b es t raised x r

  -- nothing stands above the last stamp
  if_false : {A : Type 0} (v : Bool) (a c : A) → a ≡ c → cond v a c ≡ c
  if_false true a c e = e
  if_false false a c e = refl

  and_none : (v : Bool) (o : Option (List ℕ)) → o ≡ None → (v && is_some o) ≡ false
  and_none true o e = ap is_some e
  and_none false o e = refl

  pub blank_above : (last : ℕ) → AreIndexCells x.form last x.cells → (k : List ℕ) (s : ℕ) → last < s → IsBlank w k s
  blank_above last below k s l = record {
    status = if_false (x.form.owns r k) (status_in (value_at x.cells k 1 s Put)) Absent (ap status_in (none_above x.form last x.cells below k 1 s Put l));
    put = λ c. if_false (x.form.owns r k && nat_lt c x.form.columns) (value_at x.cells k (x.form.place c) s Put) None (none_above x.form last x.cells below k (x.form.place c) s Put l);
    del = λ c. and_none (x.form.owns r k && nat_lt c x.form.columns) (value_at x.cells k (x.form.place c) s DeleteColumn) (none_above x.form last x.cells below k (x.form.place c) s DeleteColumn l);
    fam = and_none (x.form.owns r k) (value_at x.cells k 0 s DeleteFamily) (none_above x.form last x.cells below k 0 s DeleteFamily l);
    ver = and_none (x.form.owns r k) (value_at x.cells k 0 s DeleteFamilyVersion) (none_above x.form last x.cells below k 0 s DeleteFamilyVersion l);
  }

  -- ---- begin

  module _ (tie : Tied sh b es t r h) (below : AreIndexCells x.form (last_of b t es) x.cells) (birth : x.birth ≤ last_of b t es) (low : raised ≤ last_of b t es) (e : Entry) (s : ℕ) (cs : List Change) (is : e.act ≡ Begun tid s cs) (new : last_of b t es < s) where
    abbrev begun_es : List Entry
    begun_es = es ++ e ∷ []

    abbrev begun_index : Indexed
    begun_index = record x { waits = set_stamp s true x.waits }

    history_is : history_at sh b begun_es t r ≡ begun_as sh r s (change_of cs r) h
    history_is = from-snoc sh b es e t r ∙ step_is sh b tid r sound es h tie e s cs is new

    not_begun : is_begun (h.fate s) ≡ false
    not_begun = ap is_begun (above sh b tid r sound es h tie s new)

    listed_more : (u : ℕ) → (s ≡ u → ⊥) → set_stamp s true x.waits u ≡ x.waits u
    listed_more u k = set_stamp-other s true x.waits u k

    listed_one : set_stamp s true x.waits s ≡ true
    listed_one = set_stamp-same s true x.waits

    marks_same : (u : ℕ) → marked_by h (set_stamp s true x.waits) u ≡ marked_by h x.waits u
    marks_same u = elim (cases_eq s u) [
      | inl q ↦ subst (λ (v : ℕ). marked_by h (set_stamp s true x.waits) v ≡ marked_by h x.waits v) q (ap (λ v. v && not (set_stamp s true x.waits s)) not_begun ∙ sym (ap (λ v. v && not (x.waits s)) not_begun))
      | inr q ↦ ap (λ v. is_begun (h.fate u) && not v) (listed_more u q)
    ]

    marks_begun : (g : History RowState) → g.fate ≡ set_stamp s Undecided h.fate → (u : ℕ) → marked_by g (set_stamp s true x.waits) u ≡ set_stamp s false (marked_by h x.waits) u
    marks_begun g p u = elim (cases_eq s u) [
      | inl q ↦ subst (λ (v : ℕ). marked_by g (set_stamp s true x.waits) v ≡ set_stamp s false (marked_by h x.waits) v) q
          (ap (λ (f : ℕ → Fate). is_begun (f s) && not (set_stamp s true x.waits s)) p ∙ (ap (λ (v : Fate). is_begun v && not (set_stamp s true x.waits s)) (set_stamp-same s Undecided h.fate) ∙ (ap not listed_one ∙ sym (set_stamp-same s false (marked_by h x.waits)))))
      | inr q ↦ ap (λ (f : ℕ → Fate). is_begun (f u) && not (set_stamp s true x.waits u)) p ∙ (ap (λ (v : Fate). is_begun v && not (set_stamp s true x.waits u)) (set_stamp-other s Undecided h.fate u q) ∙ (ap (λ v. is_begun (h.fate u) && not v) (listed_more u q) ∙ sym (set_stamp-other s false (marked_by h x.waits) u q)))
    ]

    pub begin_moves : Moves n (begin_event s (change_of cs r)) w (world_at sh b begun_es t raised begun_index r)
    begin_moves = by (change_of cs r) history_is
      where
        by : (o : Option What) → history_at sh b begun_es t r ≡ begun_as sh r s o h → Moves n (begin_event s o) w (world_at sh b begun_es t raised begun_index r)
        by None p = world_cong (times_of x raised) p ((λ i. marked_by (p i) (set_stamp s true x.waits)) ∙ (λ i u. marks_same u i)) refl
        by (Some c) p = (
          (
            refl,
            record {
              changes = λ u l. above sh b tid r sound es h tie u (omega arith);
              cells = λ k u l. blank_above (last_of b t es) below k u (omega arith);
              birth = omega arith;
              raised = omega arith;
            },
          ),
          world_cong (times_of x raised) p ((λ i. marked_by (p i) (set_stamp s true x.waits)) ∙ (λ i u. marks_begun (begin_change (apply sh r) s c h) refl u i)) refl,
        )

  -- ---- what a batch tells of the row

  module _ (tie : Tied sh b es t r h) (s : ℕ) (y : Batch) (is : batch_of t s es ≡ Some y) (later : b.last t < s) where
    unchanged : b.changed t r s ≡ false
    unchanged = elim (cases_Bool (b.changed t r s)) [ inl k ↦ absurd (let i = sound.within s k in omega arith) | inr k ↦ k ]

    row_is : (o : Option What) → change_of y.changes r ≡ o → row_in (batch_of t s es) r ≡ row_as o (has y.written r) y.ended
    row_is o q = ap (λ (z : Option Batch). row_in z r) is ∙ ap (λ z. row_as z (has y.written r) y.ended) q

    pub fate_is : (o : Option What) → change_of y.changes r ≡ o → h.fate s ≡ fate_by (row_as o (has y.written r) y.ended)
    fate_is o q = tie.fates s ∙ (cond-false _ _ _ unchanged ∙ ap fate_by (row_is o q))

    ended_is : (o : Option What) → change_of y.changes r ≡ o → h.is_ended s ≡ ended_by (row_as o (has y.written r) y.ended)
    ended_is o q = tie.ends s ∙ (cond-false _ _ _ unchanged ∙ ap ended_by (row_is o q))

    -- ---- mark

    module _ (unwritten : has y.written r ≡ false) (waits : x.waits s ≡ true) (born : x.birth < s)
        (batch new : List CellData) (waits' : ℕ → Bool) (put : ReadsSame new (batch ++ x.cells))
        (reads : view_at x.form r batch ≡ cells_if (is_some (change_of y.changes r)) (mark_cells n s (h.old s) (h.new s)))
        (unlisted : (u : ℕ) → waits' u ≡ set_stamp s false x.waits u) where
      abbrev marked_index : Indexed
      marked_index = record x { cells = new; waits = waits' }

      view_is : (v : Bool) → is_some (change_of y.changes r) ≡ v → view_at x.form r new ≡ over (cells_if v (mark_cells n s (h.old s) (h.new s))) (view_at x.form r x.cells)
      view_is v q = view_put x.form r batch x.cells new put ∙ ap (λ a. over a (view_at x.form r x.cells)) (reads ∙ ap (λ u. cells_if u (mark_cells n s (h.old s) (h.new s))) q)

      marks_none : h.fate s ≡ Unbegun → (u : ℕ) → marked_by h waits' u ≡ marked_by h x.waits u
      marks_none f u = elim (cases_eq s u) [
        | inl q ↦ subst (λ (v : ℕ). marked_by h waits' v ≡ marked_by h x.waits v) q (ap (λ (g : Fate). is_begun g && not (waits' s)) f ∙ sym (ap (λ (g : Fate). is_begun g && not (x.waits s)) f))
        | inr q ↦ ap (λ v. is_begun (h.fate u) && not v) (unlisted u ∙ set_stamp-other s false x.waits u q)
      ]

      marks_one : h.fate s ≡ Undecided → (u : ℕ) → marked_by h waits' u ≡ set_stamp s true (marked_by h x.waits) u
      marks_one f u = elim (cases_eq s u) [
        | inl q ↦ subst (λ (v : ℕ). marked_by h waits' v ≡ set_stamp s true (marked_by h x.waits) v) q
            (ap (λ (g : Fate). is_begun g && not (waits' s)) f ∙ (ap not (unlisted s ∙ set_stamp-same s false x.waits) ∙ sym (set_stamp-same s true (marked_by h x.waits))))
        | inr q ↦ ap (λ v. is_begun (h.fate u) && not v) (unlisted u ∙ set_stamp-other s false x.waits u q) ∙ sym (set_stamp-other s true (marked_by h x.waits) u q)
      ]

      unmarked_here : marked_by h x.waits s ≡ false
      unmarked_here = ap (λ v. is_begun (h.fate s) && not v) waits ∙ and_no (is_begun (h.fate s))
        where
          and_no : (v : Bool) → (v && false) ≡ false
          and_no true = refl
          and_no false = refl

      pub mark_moves : Moves n (change_event (Mark s) (change_of y.changes r)) w (world_at sh b es t raised marked_index r)
      mark_moves = by (change_of y.changes r) refl
        where
          by : (o : Option What) → change_of y.changes r ≡ o → Moves n (change_event (Mark s) o) w (world_at sh b es t raised marked_index r)
          by None q = world_cong (times_of x raised) refl (λ i u. marks_none (fate_is None q) u i) (view_is false (ap is_some q))
          by (Some c) q =
              (let f : h.fate s ≡ Undecided = fate_is (Some c) q ∙ ap (λ v. cond v Written Undecided) unwritten in (
                (refl, (f, (unmarked_here, born))),
                world_cong (times_of x raised) refl (λ i u. marks_one f u i) (view_is true (ap is_some q)) ∙ sym (mark_is n w s),
              ))

    -- ---- verify

    module _ (rows : List (List Value)) (some : has rows r ≡ true → (c : What) × (change_of y.changes r ≡ Some c)) (whole : has rows r ≡ true → has y.written r ≡ true) (running : y.ended ≡ false) (born : x.birth < s)
        (batch new : List CellData) (put : ReadsSame new (batch ++ x.cells))
        (reads : view_at x.form r batch ≡ cells_if (has rows r) (close_cells n s (h.old s) (h.new s))) where
      abbrev verified_index : Indexed
      verified_index = record x { cells = new }

      pub verify_moves : Moves n (row_event (Verify s) (has rows r)) w (world_at sh b es t raised verified_index r)
      verify_moves = by (has rows r) refl
        where
          view_now : (v : Bool) → has rows r ≡ v → view_at x.form r new ≡ over (cells_if v (close_cells n s (h.old s) (h.new s))) (view_at x.form r x.cells)
          view_now v q = view_put x.form r batch x.cells new put ∙ ap (λ a. over a (view_at x.form r x.cells)) (reads ∙ ap (λ u. cells_if u (close_cells n s (h.old s) (h.new s))) q)

          by : (v : Bool) → has rows r ≡ v → Moves n (row_event (Verify s) v) w (world_at sh b es t raised verified_index r)
          by false q = world_cong (times_of x raised) refl refl (view_now false q)
          by true q =
              (let c = some q in (
                (refl, (fate_is (Some c.0) c.1 ∙ ap (λ v. cond v Written Undecided) (whole q), (ended_is (Some c.0) c.1 ∙ running, born))),
                world_cong (times_of x raised) refl refl (view_now true q) ∙ sym (verify_is n w s),
              ))

    -- ---- end

    module _ (e : Entry) (entry : e.act ≡ Ended tid s) (f : IsEnding es e.seat t s) (same : f.batch ≡ y) where
      pub end_moves : Moves n (change_event (End s) (change_of y.changes r)) w (world_at sh b (es ++ e ∷ []) t raised x r)
      end_moves = by (change_of y.changes r) refl
        where
          now : history_at sh b (es ++ e ∷ []) t r ≡ (if is_begun (h.fate s) then end_change s h else h)
          now = from-snoc sh b es e t r ∙ ended_step_is sh b tid r sound es h tie e s entry (can_end es e.seat t s f)

          by : (o : Option What) → change_of y.changes r ≡ o → Moves n (change_event (End s) o) w (world_at sh b (es ++ e ∷ []) t raised x r)
          by None q =
              (let p : history_at sh b (es ++ e ∷ []) t r ≡ h = now ∙ ap (λ (g : Fate). if is_begun g then end_change s h else h) (fate_is None q) in
              world_cong (times_of x raised) p (λ i. marked_by (p i) x.waits) refl)
          by (Some c) q =
              (let done : h.fate s ≡ Written = fate_done sh b tid r sound es h tie e s entry (can_end es e.seat t s f) c (ap (λ (z : Batch). change_of z.changes r) same ∙ q) in
              let p : history_at sh b (es ++ e ∷ []) t r ≡ end_change s h = now ∙ ap (λ (g : Fate). if is_begun g then end_change s h else h) done in (
                (refl, done),
                world_cong (times_of x raised) p (λ i. marked_by (p i) x.waits) refl,
              ))

  -- ---- write

  module _ (tie : Tied sh b es t r h) (e : Entry) (s : ℕ) (rows : List (List Value)) (is : e.act ≡ Wrote tid s rows) (f : IsWritable es e.seat t s rows)
      (marked : x.birth < s → x.waits s ≡ false) (apart : x.birth ≡ s → ⊥) where
    now_wrote : history_at sh b (es ++ e ∷ []) t r ≡ (if has rows r then write_change s h else h)
    now_wrote = from-snoc sh b es e t r ∙ wrote_step_is sh b tid r sound es h tie e s rows is f

    pub write_moves : Moves n (row_event (Write s) (has rows r)) w (world_at sh b (es ++ e ∷ []) t raised x r)
    write_moves = by (has rows r) refl
      where
        marks : h.fate s ≡ Undecided → (u : ℕ) → marked_by (write_change s h) x.waits u ≡ marked_by h x.waits u
        marks k u = elim (cases_eq s u) [
          | inl q ↦ subst (λ (v : ℕ). marked_by (write_change s h) x.waits v ≡ marked_by h x.waits v) q (ap (λ (g : Fate). is_begun g && not (x.waits s)) (set_stamp-same s Written h.fate) ∙ sym (ap (λ (g : Fate). is_begun g && not (x.waits s)) k))
          | inr q ↦ ap (λ (g : Fate). is_begun g && not (x.waits u)) (set_stamp-other s Written h.fate u q)
        ]

        is_done : h.fate s ≡ Undecided → (w.is_marked s ≡ true) ⊎ (s < w.birth)
        is_done k = elim (Rattle.std.proofs.lemmas.Bool.cases_lt x.birth s) [
          | inl l ↦ inl (ap (λ (g : Fate). is_begun g && not (x.waits s)) k ∙ ap not (marked l))
          | inr l ↦ inr (elim (cases_eq x.birth s) [ inl q ↦ absurd (apart q) | inr q ↦ omega arith ])
        ]

        by : (v : Bool) → has rows r ≡ v → Moves n (row_event (Write s) v) w (world_at sh b (es ++ e ∷ []) t raised x r)
        by false q =
            (let p : history_at sh b (es ++ e ∷ []) t r ≡ h = now_wrote ∙ ap (λ (v : Bool). if v then write_change s h else h) q in
            world_cong (times_of x raised) p (λ i. marked_by (p i) x.waits) refl)
        by true q =
            (let k : h.fate s ≡ Undecided = undecided sh b tid r sound es h tie e s rows is f q in
            let p : history_at sh b (es ++ e ∷ []) t r ≡ write_change s h = now_wrote ∙ ap (λ (v : Bool). if v then write_change s h else h) q in (
              (refl, (k, (is_done k, λ u l. earlier sh b tid r sound es h tie e s rows is f q u l))),
              world_cong (times_of x raised) p ((λ i. marked_by (p i) x.waits) ∙ (λ i u. marks k u i)) refl,
            ))

  -- ---- a phase is done

  pub phase_moves : Tied sh b es t r h → (e : Entry) (s phase : ℕ) → e.act ≡ Phase tid s phase → Moves n None w (world_at sh b (es ++ e ∷ []) t raised x r)
  phase_moves tie e s phase is =
      (let p : history_at sh b (es ++ e ∷ []) t r ≡ h = from-snoc sh b es e t r ∙ phase_step_is sh b tid r sound es h tie e s phase is in
      world_cong (times_of x raised) p (λ i. marked_by (p i) x.waits) refl)

  -- ---- fix

  module _ (g : IsIndexForm x.form) (k : List ℕ) (s : ℕ) (batch new : List CellData) (put : ReadsSame new (batch ++ x.cells))
      (may : x.form.owns r k ≡ true → stands w k s × (is_undecided (h.fate s) ≡ false))
      (reads : view_at x.form r batch ≡ cells_if (x.form.owns r k) (fix_cells n (horizon w) (st w (horizon w)) k s (due n w k s))) where
    abbrev fixed_index : Indexed
    fixed_index = record x { cells = new }

    pub fix_moves : Moves n (row_event (Fix k s) (x.form.owns r k)) w (world_at sh b es t raised fixed_index r)
    fix_moves = by (x.form.owns r k) refl
      where
        view_now : (v : Bool) → x.form.owns r k ≡ v → view_at x.form r new ≡ over (cells_if v (fix_cells n (horizon w) (st w (horizon w)) k s (due n w k s))) (view_at x.form r x.cells)
        view_now v q = view_put x.form r batch x.cells new put ∙ ap (λ a. over a (view_at x.form r x.cells)) (reads ∙ ap (λ u. cells_if u (fix_cells n (horizon w) (st w (horizon w)) k s (due n w k s))) q)

        by : (v : Bool) → x.form.owns r k ≡ v → Moves n (row_event (Fix k s) v) w (world_at sh b es t raised fixed_index r)
        by false q = world_cong (times_of x raised) refl refl (view_now false q)
        by true q = (
          (refl, may q),
          world_cong (times_of x raised) refl refl (view_now true q) ∙ sym (fix_is n (lawful_at sh x.form r g) w k s),
        )
