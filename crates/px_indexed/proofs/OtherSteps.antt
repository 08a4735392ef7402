-- The table's horizon rises; an index is born, given its base and made active; a data region was compacted.
use Rattle.std.proofs.Common.{◌≡◌, ℕ, suc, ◌<◌, ◌≤◌, max, Bool, true, false, cond, Option, Some, None, List, [], ◌++◌, refl, ap, sym, ◌∙◌, subst, inl, inr, arith}
use Rattle.std.proofs.lemmas.Bool.{cases_lt, false≢true, both_ways}
use Rattle.px_values.specs.declared.row.Value.{Value}
use Rattle.px_values.specs.declared.change.What.{What}
use Rattle.px_values.specs.declared.name.TableId.{TableId}
use Rattle.px_trail.specs.declared.entry.Entry.{Entry}
use Rattle.px_cells.specs.CellData.{CellData}
use Rattle.px_cells.specs.Order.{ReadsSame}
use Rattle.px_trail.specs.Trail.{Base, last_of}
use Rattle.px_trail.specs.Batches.{Batch, batch_of, change_of, has}
use Rattle.px_world.specs.World.{Fate, Unbegun, Undecided, Written, Lost, is_begun, is_expected, is_undecided, st}
use Rattle.px_world.specs.Events.{Raise, Forget, Birth, Base as BaseVersion, Ready, happens, Comes}
use Rattle.px_world.specs.Facts.{Kept, ChangesKept}
use Rattle.px_world.proofs.Beginnings.{born}
use Rattle.px_world.specs.IndexCells.{IndexCells, over, base_cells, Moves}
use Rattle.px_indexed.specs.Worlds.{world_of_history, marked_by, times_of, world_at, row_event, history_at, Indexed}
use Rattle.px_history.specs.Rows.{row_as, row_in, fate_by, ended_by}
use Rattle.px_forms.specs.Indexes.{IndexForm, IsIndexForm, shape_at, view_at, cells_if}
use Rattle.px_indexed.specs.Kept.{AreIndexCells, IndexKept, RowsKept}
use Rattle.px_world.proofs.IndexCells.{moves_kept, base_is}
use Rattle.px_history.proofs.Ties.{above}
use Rattle.px_forms.proofs.Views.{lawful_at, view_put, view_empty}
use Rattle.px_indexed.proofs.IndexSteps.{world_cong}
use Rattle.px_values.specs.States.{Shape as RowShape}
use Rattle.px_indexed.proofs.Rows.{is_whole_of}
use Rattle.px_indexed.proofs.Regions.{cells_put}

module _ (sh : RowShape) (b : Base) (es : List Entry) (tid : TableId) (raised : ℕ) (k : RowsKept sh b es tid.0 raised) where
  abbrev t : ℕ
  t = tid.0

  -- a change whose batch has ended is decided, and counts as ended
  pub settled : (r : List Value) (s : ℕ) → ((y : Batch) → batch_of t s es ≡ Some y → y.ended ≡ true) → (is_undecided ((history_at sh b es t r).fate s) ≡ false) × ((history_at sh b es t r).fate s ≡ Written → (history_at sh b es t r).is_ended s ≡ true)
  settled r s closed = (
    ap is_undecided ((k.tied r).fates s) ∙ fate_not (b.changed t r s) (batch_of t s es) refl,
    λ w. (k.tied r).ends s ∙ ended_if (b.changed t r s) (batch_of t s es) refl (sym ((k.tied r).fates s) ∙ w),
  )
    where
      fate_not : (v : Bool) (o : Option Batch) → batch_of t s es ≡ o → is_undecided (cond v Written (fate_by (row_in o r))) ≡ false
      fate_not true o q = refl
      fate_not false None q = refl
      fate_not false (Some y) q = of_change (change_of y.changes r) refl
        where
          of_change : (c : Option What) → change_of y.changes r ≡ c → is_undecided (fate_by (row_as c (has y.written r) y.ended)) ≡ false
          of_change None e = refl
          of_change (Some w) e = (let h = is_whole_of y r w e (k.done s y q (closed y q)) in ap (λ v. is_undecided (cond v Written Undecided)) h)

      ended_if : (v : Bool) (o : Option Batch) → batch_of t s es ≡ o → cond v Written (fate_by (row_in o r)) ≡ Written → cond v true (ended_by (row_in o r)) ≡ true
      ended_if true o q w = refl
      ended_if false None q w = (let z : Unbegun ≡ Written = w in cc)
      ended_if false (Some y) q w = of_change (change_of y.changes r) w
        where
          of_change : (c : Option What) → fate_by (row_as c (has y.written r) y.ended) ≡ Written → ended_by (row_as c (has y.written r) y.ended) ≡ true
          of_change None w = (let z : Unbegun ≡ Written = w in cc)
          of_change (Some c) w = closed y q

  -- ---- raise

  module _ (h : ℕ) (up : raised < h) (low : h ≤ last_of b t es) (ended : (s : ℕ) (y : Batch) → batch_of t s es ≡ Some y → s ≤ h → y.ended ≡ true) where
    module _ (x : Indexed) (g : IndexKept sh b es t raised x) where
      pub raised_moves : (r : List Value) → Moves (shape_at sh x.form r) (Some (Raise h)) (world_at sh b es t raised x r) (world_at sh b es t h x r)
      raised_moves r = ((refl, (up, λ s l. settled r s (λ y q. ended s y q l))), refl)

      pub index_raised : IndexKept sh b es t h x
      index_raised = record {
        form = g.form;
        birth = g.birth;
        cells = g.cells;
        marked = g.marked;
        apart = g.apart;
        kept = λ r. moves_kept (shape_at sh x.form r) (lawful_at sh x.form r g.form) (Some (Raise h)) (world_at sh b es t raised x r) (world_at sh b es t h x r) (raised_moves r) (g.kept r);
      }

  -- ---- a data region of the table was compacted

  module _ (x : Indexed) (g : IndexKept sh b es t raised x) where
    abbrev forgotten : Indexed
    forgotten = record x { kept = max x.birth raised }

    pub forgotten_moves : (r : List Value) → Moves (shape_at sh x.form r) (Some (Forget false)) (world_at sh b es t raised x r) (world_at sh b es t raised forgotten r)
    forgotten_moves r = ((refl, tt), refl)

    pub index_forgotten : IndexKept sh b es t raised forgotten
    index_forgotten = record {
      form = g.form;
      birth = g.birth;
      cells = g.cells;
      marked = g.marked;
      apart = g.apart;
      kept = λ r. moves_kept (shape_at sh x.form r) (lawful_at sh x.form r g.form) (Some (Forget false)) (world_at sh b es t raised x r) (world_at sh b es t raised forgotten r) (forgotten_moves r) (g.kept r);
    }

    -- ---- base versions, and active

    module _ (rows : List (List Value)) (batch new : List CellData) (put : ReadsSame new (batch ++ x.cells)) (low : AreIndexCells x.form (last_of b t es) batch)
        (may : (r : List Value) → has rows r ≡ true → Comes (shape_at sh x.form r) (world_at sh b es t raised x r) BaseVersion)
        (reads : (r : List Value) → view_at x.form r batch ≡ cells_if (has rows r) (base_cells (shape_at sh x.form r) x.birth (st (world_at sh b es t raised x r) x.birth))) where
      abbrev based : Indexed
      based = record x { cells = new }

      pub based_moves : (r : List Value) → Moves (shape_at sh x.form r) (row_event BaseVersion (has rows r)) (world_at sh b es t raised x r) (world_at sh b es t raised based r)
      based_moves r = by (has rows r) refl
        where
          view_now : (v : Bool) → has rows r ≡ v → view_at x.form r new ≡ over (cells_if v (base_cells (shape_at sh x.form r) x.birth (st (world_at sh b es t raised x r) x.birth))) (view_at x.form r x.cells)
          view_now v q = view_put x.form r batch x.cells new put ∙ ap (λ a. over a (view_at x.form r x.cells)) (reads r ∙ ap (λ u. cells_if u (base_cells (shape_at sh x.form r) x.birth (st (world_at sh b es t raised x r) x.birth))) q)

          by : (v : Bool) → has rows r ≡ v → Moves (shape_at sh x.form r) (row_event BaseVersion v) (world_at sh b es t raised x r) (world_at sh b es t raised based r)
          by false q = world_cong (times_of x raised) refl refl (view_now false q)
          by true q = ((refl, may r q), world_cong (times_of x raised) refl refl (view_now true q) ∙ sym (base_is (shape_at sh x.form r) (world_at sh b es t raised x r)))

      pub index_based : IndexKept sh b es t raised based
      index_based = record {
        form = g.form;
        birth = g.birth;
        cells = cells_put x.form (last_of b t es) batch x.cells new put low g.cells;
        marked = g.marked;
        apart = g.apart;
        kept = λ r. moves_kept (shape_at sh x.form r) (lawful_at sh x.form r g.form) (row_event BaseVersion (has rows r)) (world_at sh b es t raised x r) (world_at sh b es t raised based r) (based_moves r) (g.kept r);
      }

    module _ (may : (r : List Value) → Comes (shape_at sh x.form r) (world_at sh b es t raised x r) Ready) where
      abbrev active : Indexed
      active = record x { is_built = true }

      pub ready_moves : (r : List Value) → Moves (shape_at sh x.form r) (Some Ready) (world_at sh b es t raised x r) (world_at sh b es t raised active r)
      ready_moves r = ((refl, may r), refl)

      pub index_ready : IndexKept sh b es t raised active
      index_ready = record {
        form = g.form;
        birth = g.birth;
        cells = g.cells;
        marked = g.marked;
        apart = g.apart;
        kept = λ r. moves_kept (shape_at sh x.form r) (lawful_at sh x.form r g.form) (Some Ready) (world_at sh b es t raised x r) (world_at sh b es t raised active r) (ready_moves r) (g.kept r);
      }

  -- ---- an index is born. No index stood there before: any cells may be taken for the world before the birth

  module _ (form : IndexForm) (is_form : IsIndexForm form) (birth : ℕ) (new : last_of b t es < birth) (waits : ℕ → Bool) where
    abbrev young : Indexed
    young = record { form = form; cells = []; waits = waits; birth = birth; kept = birth; floor = birth; is_built = false }

    expected_begun : (f : Fate) → is_expected f ≡ true → is_begun f ≡ true
    expected_begun Unbegun e = e
    expected_begun Undecided e = refl
    expected_begun Written e = refl
    expected_begun Lost e = absurd (false≢true e)

    changes_kept : (r : List Value) → ChangesKept (world_at sh b es t raised young r)
    changes_kept r = record {
      raised_decided = λ s l. (settled r s (λ y q. k.ended s y q l)).0;
      raised_ended = λ s w e. elim (cases_lt raised s) [ inl l ↦ l | inr l ↦ absurd (both_ways _ e ((settled r s (λ y q. k.ended s y q (omega arith))).1 w)) ];
      in_order = (k.tied r).in_order;
      chained = λ p e. (k.tied r).chained p (expected_begun ((history_at sh b es t r).fate (suc p)) e);
    }

    pub born_is : (r : List Value) (v : IndexCells (List ℕ) (List ℕ)) (x : Indexed) → x.waits ≡ waits → happens (shape_at sh form r) (world_of_history (history_at sh b es t r) (marked_by (history_at sh b es t r) x.waits) v (times_of x raised)) (Birth birth) ≡ world_at sh b es t raised young r
    born_is r v x q = world_cong (times_of young raised) refl (ap (marked_by (history_at sh b es t r)) q) (sym (view_empty form r))

    above_all : (r : List Value) (s : ℕ) → birth ≤ s → (history_at sh b es t r).fate s ≡ Unbegun
    above_all r s l = above sh b tid r (k.base r) es (history_at sh b es t r) (k.tied r) s (omega arith)

    pub born_kept : (r : List Value) → Kept (shape_at sh form r) (world_at sh b es t raised young r)
    born_kept r = subst (Kept (shape_at sh form r)) (born_is r (view_at form r []) young refl) (born (shape_at sh form r) (world_at sh b es t raised young r) birth (changes_kept r) (above_all r))
