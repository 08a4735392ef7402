-- A batch that begins, in the words of the trail.
use Rattle.std.proofs.Common.{◌≡◌, ℕ, zero, suc, ◌<◌, ◌≤◌, Bool, true, Some, None, List, [], ◌∷◌, ◌++◌, map, length, get_or, max, refl, ap, sym, ◌∙◌, subst, arith}
use Rattle.std.specs.Prelude.{if◌then◌else◌, slice_get}
use Rattle.std.specs.Global.{Vec}
use Rattle.std.specs.List.{AllByRecursion}
use Rattle.std.proofs.lemmas.List.{length-map}
use Rattle.px_cells.specs.Contents.{value_at}
use Rattle.px_forms.specs.Indexes.{IndexForm, IsIndexForm, IsPlaced}
use Rattle.px_groupworld.proofs.Entries.{rows_of_group}
use Rattle.px_groupworld.specs.Asks.{FitAll}
use Rattle.px_groupworld.specs.Group.{GroupData, IsTableBase, TableForm, table_form}
use Rattle.px_groupworld.specs.Steps.{begun_data}
use Rattle.px_history.proofs.Changes.{number_same}
use Rattle.px_history.proofs.Ties.{batch_here, batch_there}
use Rattle.px_indexed.proofs.Rows.{rows_kept}
use Rattle.px_indexed.specs.Kept.{RowsKept}
use Rattle.px_indexed.specs.Worlds.{begin_event, history_at}
use Rattle.px_indexrow.proofs.KeysHeld.{form_laws, form_placed}
use Rattle.px_indexrow.specs.Form.{index_form}
use Rattle.px_openbatches.proofs.Helds.{held_after_begun}
use Rattle.px_openbatches.specs.Made.{IsComputed}
use Rattle.px_openbatches.specs.Opens.{form_in}
use Rattle.px_openbatches.specs.Pending.{HeldBatch, HeldKept, after_pending, fresh_held, held_begun, is_pending_in, with_met}
use Rattle.px_region.specs.Region.{read_of}
use Rattle.px_rows.specs.Spelled.{row_form}
use Rattle.px_tables.specs.declared.table.Table.{Table}
use Rattle.px_tablesteps.proofs.Steps.{table_begun}
use Rattle.px_tablesteps.specs.Kept.{TableKept, TableSteps}
use Rattle.px_trail.proofs.Batches.{batch-none}
use Rattle.px_trail.proofs.Growth.{catalogue-snoc, horizon-snoc, last-snoc, points-snoc}
use Rattle.px_trail.specs.Batches.{Batch, BatchPhase, batch_of, change_of, is_distinct, phase_of, rows_of}
use Rattle.px_trail.specs.Batches as trail
use Rattle.px_trail.specs.Legal.{Follows, IsLegal, MayCome}
use Rattle.px_trail.specs.States.{greatest_stamp}
use Rattle.px_trail.specs.Trail.{Base, catalogue_of, catalogue_step, horizon_of, horizon_step, last_of, last_step, open_points, points_step, table_shape}
use Rattle.px_trail.specs.declared.entry.Act.{Act}
use Rattle.px_trail.specs.declared.entry.Act.TheVariants.{Begun as BegunAct}
use Rattle.px_trail.specs.declared.entry.Entry.{Entry}
use Rattle.px_values.specs.States.{RowState}
use Rattle.px_values.specs.declared.change.Change.{Change}
use Rattle.px_values.specs.declared.row.Value.{Value}
use Rattle.px_group.specs.Group.{AreInPhase, AreStanding, IsInPhase, IsRightGroup, IsRightPart, IsShownBy, IsTallied, batch_in, batches_of, form_of, points_in}
use Rattle.px_group.specs.declared.group.Begun.{Begun}
use Rattle.px_group.specs.declared.group.Group.{Group}
use Rattle.px_group.specs.declared.group.IndexRegion.{IndexRegion}
use Rattle.px_group.specs.declared.group.OpenPoint.{OpenPoint}
use Rattle.px_phases.proofs.Begun.{begun_held, computed, rows_are}
use Rattle.px_phases.proofs.Held.{met_held}
use Rattle.px_phases.proofs.Left.{change_fits, rows_same, states_same}
use Rattle.px_phases.specs.Batch.{AllFit, AreHeldAs, BatchData, IsHeldAs, is_left_in}
use Rattle.px_phases.specs.Begun.{AreFrom, no_form, prepared_batch}
use Rattle.px_beginning.specs.Admits.{Admits, met_by}
use Rattle.px_beginning.specs.Begins.{IsBatchOf, held_with_begun, old_state, rows_made}
use Rattle.px_beginning.specs.Reads.{form_at, index_forms}
use Rattle.px_beginning.specs.Rooms.{fresh_batch}

-- 1. The forms of the indexes

pub form_is : (t : Table) (is : List IndexRegion) (i : ℕ) (x : IndexRegion) → slice_get is i ≡ Some x → get_or (index_forms t is) i no_form ≡ form_at t x
form_is t [] i x e = cc
form_is t (y ∷ is) zero x e = (let z : y ≡ x = cc in ap (form_at t) z)
form_is t (y ∷ is) (suc i) x e = form_is t is i x e

pub part_right : (P : IndexRegion → Type 0) (is : List IndexRegion) (i : ℕ) (x : IndexRegion) → AllByRecursion P is → slice_get is i ≡ Some x → P x
part_right P [] i x a e = cc
part_right P (y ∷ is) zero x a e = (let z : y ≡ x = cc in subst P z a.0)
part_right P (y ∷ is) (suc i) x a e = part_right P is i x a.1 e

element : (is : List IndexRegion) (i : ℕ) → i < length is → (x : IndexRegion) × (slice_get is i ≡ Some x)
element [] i l = absurd (omega arith)
element (y ∷ is) zero l = (y, refl)
element (y ∷ is) (suc i) l = element is i (omega arith)

-- 2. The entry

module _ (b : Base) (es : List Entry) (g : Group) (hs : List HeldBatch) (e : Entry) (s : ℕ) (cs : List Change) (may : MayCome b es e) (is : e.act ≡ BegunAct g.table.id s cs) where
  abbrev t : ℕ
  t = g.table.id.0

  abbrev after : List Entry
  after = es ++ e ∷ []

  follows : Follows b es e.seat e.calls (BegunAct g.table.id s cs)
  follows = subst (λ (a : Act). Follows b es e.seat e.calls a) is may.follows

  pub later : last_of b t es < s
  unfolding Follows
  later = follows.0

  pub distinct : is_distinct (rows_of cs) ≡ true
  unfolding Follows
  distinct = follows.1

  same_catalogue : catalogue_of b after ≡ catalogue_of b es
  unfolding catalogue_step
  same_catalogue = catalogue-snoc b es e ∙ ap (λ (a : Act). catalogue_step (catalogue_of b es) a) is

  same_horizon : horizon_of b t after ≡ horizon_of b t es
  same_horizon = horizon-snoc b t es e ∙ ap (λ (a : Act). horizon_step t (horizon_of b t es) a) is

  same_points : (seat p : ℕ) → open_points seat t p after ≡ open_points seat t p es
  unfolding points_step
  same_points seat p = points-snoc seat t p es e ∙ ap (λ (a : Act). points_step seat t p (open_points seat t p es) e.seat a) is

  last_now : last_of b t after ≡ s
  last_now =
      last-snoc b t es e
      ∙ (ap (λ (a : Act). last_step t (last_of b t es) a) is
      ∙ (ap (λ (v : Bool). if v then max (last_of b t es) s else last_of b t es) (number_same t) ∙ (let l = later in omega arith)))

  -- the batches of the trail
  module _ (base : IsTableBase b t) (legal : IsLegal b es) where
    rows : RowsKept (table_shape g.table) b es t (horizon_of b t es)
    rows = rows_kept (table_shape g.table) b g.table.id base.rows base.low es legal

    here : batch_of t s after ≡ Some (trail.begun_batch e.seat cs)
    here = batch_here (table_shape g.table) b g.table.id [] (rows.base []) es (history_at (table_shape g.table) b es t []) (rows.tied []) e s cs is later

    there : (u : ℕ) → (s ≡ u → ⊥) → batch_of t u after ≡ batch_of t u es
    there = batch_there (table_shape g.table) b g.table.id [] (rows.base []) es (history_at (table_shape g.table) b es t []) (rows.tied []) e s cs is later

    apart : (u : ℕ) (x : Batch) → batch_of t u es ≡ Some x → s ≡ u → ⊥
    apart u x q z = (let n : None ≡ Some x = sym (batch-none b t s es later) ∙ (ap (λ (v : ℕ). batch_of t v es) z ∙ q) in cc)

    in_phase : (m : Begun) (h : HeldBatch) → IsInPhase es t m h → IsInPhase after t (met_by cs m) (with_met cs h)
    in_phase m h p = record { batch = p.batch; is = there h.stamp (apart h.stamp p.batch p.is) ∙ p.is; phase = p.phase; count = p.count }

    phases : (n : ℕ) (bd : BatchData) (fh : HeldBatch) → fh.stamp ≡ s → fh.count ≡ n → (ms : List Begun) (hs : List HeldBatch) → AreHeldAs (map batch_in ms) hs → AreInPhase es t ms hs
        → AreInPhase after t (map (met_by cs) ms ++ fresh_batch n bd ∷ []) (map (with_met cs) hs ++ fh ∷ [])
    phases n bd fh at count [] [] a p = (record { batch = trail.begun_batch e.seat cs; is = ap (λ (v : ℕ). batch_of t v after) at ∙ here; phase = refl; count = count }, tt)
    phases n bd fh at count [] (h ∷ hs) a p = absurd a
    phases n bd fh at count (m ∷ ms) [] a p = absurd a
    phases n bd fh at count (m ∷ ms) (h ∷ hs) a p = (in_phase m h p.0, phases n bd fh at count ms hs a.1 p.1)

all_held : (cs : List Change) (n : ℕ) (bd : BatchData) (fh : HeldBatch) → IsHeldAs bd fh → (ms : List Begun) (hs : List HeldBatch) → AreHeldAs (map batch_in ms) hs → AreHeldAs (map batch_in (map (met_by cs) ms ++ fresh_batch n bd ∷ [])) (map (with_met cs) hs ++ fh ∷ [])
all_held cs n bd fh new [] [] a = (new, tt)
all_held cs n bd fh new [] (h ∷ hs) a = absurd a
all_held cs n bd fh new (m ∷ ms) [] a = absurd a
all_held cs n bd fh new (m ∷ ms) (h ∷ hs) a = (met_held m.batch h a.0 cs, all_held cs n bd fh new ms hs a.1)

-- 3. What the trail tells afterwards

-- the batch is the one that begins, and knows the rows on which others are pending
held_new : (g : Group) (s : ℕ) (cs : List Change) (bd : BatchData) (p : IsBatchOf g s cs bd) (hs : List HeldBatch) → is_distinct (rows_of cs) ≡ true → AreHeldAs (batches_of g) hs → IsHeldAs bd (fresh_held s cs (length g.indexes.items) (rows_made g s cs bd p) hs)
held_new g s cs bd p hs d a =
    let fs = index_forms g.table g.indexes.items in
    let flags : map (is_left_in (batches_of g)) (rows_of cs) ≡ map (is_pending_in hs) (rows_of cs) = λ i. map (λ r. rows_same r (batches_of g) hs a i) (rows_of cs) in
    let n : length (index_forms g.table g.indexes.items) ≡ length g.indexes.items = length-map g.indexes.items (form_at g.table) in
    subst (λ (x : BatchData). IsHeldAs x (fresh_held s cs (length g.indexes.items) (rows_made g s cs bd p) hs)) (sym p.made.is)
    (subst (λ (c : ℕ). IsHeldAs (prepared_batch fs s cs p.transitions p.made.parts (map (is_left_in (batches_of g)) (rows_of cs))) (fresh_held s cs c (rows_made g s cs bd p) hs)) n
    (begun_held g.table fs s cs p.transitions p.made.parts (map (is_left_in (batches_of g)) (rows_of cs)) hs d p.read.are p.made.puts flags))

module _ (b : Base) (es : List Entry) (g : Group) (hs : List HeldBatch) (e : Entry) (s : ℕ) (cs : List Change) (may : MayCome b es e) (is : e.act ≡ BegunAct g.table.id s cs) (bd : BatchData) (p : IsBatchOf g s cs bd) (g' : Group) (a : Admits g bd g') where
  stamp_is : bd.stamp ≡ s
  stamp_is = ap (λ (x : BatchData). x.stamp) p.made.is

  changes_are : bd.changes ≡ cs
  changes_are = ap (λ (x : BatchData). x.changes) p.made.is

  batches_are : g'.batches.items ≡ map (met_by cs) g.batches.items ++ fresh_batch (length g.indexes.items) bd ∷ []
  batches_are = a.batches ∙ ap (λ (x : List Change). map (met_by x) g.batches.items ++ fresh_batch (length g.indexes.items) bd ∷ []) changes_are

  stands : AreStanding b es g → AreStanding b (es ++ e ∷ []) g'
  stands w =
      let same = same_catalogue b es g hs e s cs may is in
      record {
        table = (λ i. (same i).tables (a.table i).id.0) ∙ (w.table ∙ ap Some (sym a.table));
        index = λ i x q. (λ j. (same j).indexes x.index.id.0) ∙ w.index i x (ap (λ (l : Vec IndexRegion). slice_get l.items i) (sym a.indexes) ∙ q);
        all = λ y q own up.
            (let z = w.all y ((λ j. (sym same j).indexes y.id.0) ∙ q) (own ∙ ap (λ (t : Table). t.id.0) a.table) up in
            (z.0, (z.1.0, (ap (λ (l : Vec IndexRegion). slice_get l.items z.0) a.indexes ∙ z.1.1.0, z.1.1.1))));
      }

  pub tallied : IsTableBase b g.table.id.0 → IsLegal b es → IsTallied b es g hs → IsTallied b (es ++ e ∷ []) g' (held_with_begun g s cs bd p hs)
  tallied base legal w =
      let fh : HeldBatch = fresh_held s cs (length g.indexes.items) (rows_made g s cs bd p) hs in
      let t' : g.table.id.0 ≡ g'.table.id.0 = ap (λ (t : Table). t.id.0) (sym a.table) in
      record {
        standing = stands w.standing;
        last = ap (λ (n : ℕ). last_of b n (es ++ e ∷ [])) (sym t') ∙ (last_now b es g hs e s cs may is ∙ (sym stamp_is ∙ sym a.last));
        horizon = ap (λ (n : ℕ). horizon_of b n (es ++ e ∷ [])) (sym t') ∙ (same_horizon b es g hs e s cs may is ∙ (w.horizon ∙ sym a.horizon));
        held = subst (λ (n : ℕ). HeldKept b (es ++ e ∷ []) n (held_with_begun g s cs bd p hs)) t'
            (held_after_begun (table_shape g.table) b es g.table.id (horizon_of b g.table.id.0 es) (rows b es g hs e s cs may is base legal) hs w.held e s cs is (later b es g hs e s cs may is) (length g.indexes.items) (rows_made g s cs bd p));
        batches = subst (λ (l : List Begun). AreHeldAs (map batch_in l) (held_with_begun g s cs bd p hs)) (sym batches_are) (all_held cs (length g.indexes.items) bd fh (held_new g s cs bd p hs (distinct b es g hs e s cs may is) w.batches) g.batches.items hs w.batches);
        phases = subst (λ (n : ℕ). AreInPhase (es ++ e ∷ []) n g'.batches.items (held_with_begun g s cs bd p hs)) t'
            (subst (λ (l : List Begun). AreInPhase (es ++ e ∷ []) g.table.id.0 l (held_with_begun g s cs bd p hs)) (sym batches_are) (phases b es g hs e s cs may is base legal (length g.indexes.items) bd fh refl refl g.batches.items hs w.batches w.phases));
        points = λ seat q. ap (λ (n : ℕ). open_points seat n q (es ++ e ∷ [])) (sym t') ∙ (same_points b es g hs e s cs may is seat q ∙ (w.points seat q ∙ ap (λ (l : Vec OpenPoint). points_in seat q l.items) (sym a.points)));
      }

  -- 4. What it shows afterwards

  module _ (index : ℕ → IndexForm) (v : GroupData) (right : IsRightGroup g) (fit : AllFit g.table cs) (early : s ≤ greatest_stamp) (w : IsTallied b es g hs) (shown : IsShownBy b index es g v hs) where
    abbrev f : TableForm
    f = form_of b index g

    fits : FitAll f cs
    fits r what q = change_fits g.table cs r what fit q

    newest : last_of b g.table.id.0 es ≤ greatest_stamp
    newest = (let l = later b es g hs e s cs may is in omega arith)

    within : v.low ≤ greatest_stamp
    within =
        let k = shown.kept.group in
        let low = (rows_of_group f es v k).low in
        let high = k.low in
        let n = newest in
        omega arith

    count : length (index_forms g.table g.indexes.items) ≡ length v.indexes
    count = length-map g.indexes.items (form_at g.table) ∙ sym shown.count

    same_form : (i : ℕ) → i < length (index_forms g.table g.indexes.items) → form_in f v.indexes i ≡ get_or (index_forms g.table g.indexes.items) i no_form
    same_form i l =
        let x = element g.indexes.items i (let n = length-map g.indexes.items (form_at g.table) in omega arith) in
        ap index (shown.parts i x.0 x.1).id ∙ (shown.forms i x.0 x.1 ∙ sym (form_is g.table g.indexes.items i x.0 x.1))

    laws : (i : ℕ) → i < length (index_forms g.table g.indexes.items) → IsIndexForm (get_or (index_forms g.table g.indexes.items) i no_form)
    laws i l =
        let x = element g.indexes.items i (let n = length-map g.indexes.items (form_at g.table) in omega arith) in
        subst IsIndexForm (sym (form_is g.table g.indexes.items i x.0 x.1)) (form_laws g.table x.0.index)

    placed : (i : ℕ) → i < length (index_forms g.table g.indexes.items) → IsPlaced (get_or (index_forms g.table g.indexes.items) i no_form)
    placed i l =
        let x = element g.indexes.items i (let n = length-map g.indexes.items (form_at g.table) in omega arith) in
        subst IsPlaced (sym (form_is g.table g.indexes.items i x.0 x.1)) (form_placed g.table x.0.index (part_right (IsRightPart g.table) g.indexes.items i x.0 right.parts x.1).index)

    abbrev old : List Value → RowState
    old r = after_pending (table_shape g.table) r ((row_form g.table).spelled (value_at v.cells) r greatest_stamp) hs

    old_is : (r : List Value) → old_state g r ≡ old r
    old_is r = states_same (table_shape g.table) r ((row_form g.table).spelled (value_at (read_of g.rows)) r greatest_stamp) (batches_of g) hs w.batches
        ∙ (λ i. after_pending (table_shape g.table) r ((row_form g.table).spelled (value_at (sym shown.rows i)) r greatest_stamp) hs)

    from : AreFrom old cs p.transitions
    from = subst (λ (o : List Value → RowState). AreFrom o cs p.transitions) (λ i r. old_is r i) p.read.from

    made : AllByRecursion (IsComputed f (form_in f v.indexes) (length v.indexes) s cs old) (rows_made g s cs bd p)
    made = subst (λ (n : ℕ). AllByRecursion (IsComputed f (form_in f v.indexes) n s cs old) (rows_made g s cs bd p)) count
        (computed b g.table.id index g.table (index_forms g.table g.indexes.items) (form_in f v.indexes) same_form laws placed s cs p.transitions p.made.parts old (distinct b es g hs e s cs may is) p.read.are p.made.puts from)

    pub steps : TableSteps f (λ i r. begin_event s (change_of cs r)) es v (es ++ e ∷ []) (begun_data s v) (held_with_begun g s cs bd p hs)
    steps = subst (λ (n : ℕ). TableSteps f (λ i r. begin_event s (change_of cs r)) es v (es ++ e ∷ []) (begun_data s v) (held_begun s cs n (rows_made g s cs bd p) hs)) shown.count
        (table_begun f es v hs shown.kept e may s cs is fits greatest_stamp newest within (rows_made g s cs bd p) (rows_are (index_forms g.table g.indexes.items) s g.table cs p.transitions p.made.parts p.read.are p.made.puts) made)

    pub shows : IsShownBy b index (es ++ e ∷ []) g' (begun_data s v) (held_with_begun g s cs bd p hs)
    shows = record {
      kept = subst (λ (t : Table). TableKept (table_form b t.id index (row_form t)) (es ++ e ∷ []) (begun_data s v) (held_with_begun g s cs bd p hs)) (sym a.table) steps.kept;
      rows = shown.rows ∙ ap read_of (sym a.rows);
      count = shown.count ∙ ap (λ (l : Vec IndexRegion). length l.items) (sym a.indexes);
      parts = λ i x q. shown.parts i x (ap (λ (l : Vec IndexRegion). slice_get l.items i) (sym a.indexes) ∙ q);
      forms = λ i x q. shown.forms i x (ap (λ (l : Vec IndexRegion). slice_get l.items i) (sym a.indexes) ∙ q) ∙ ap (λ (t : Table). index_form t x.index) (sym a.table);
    }
