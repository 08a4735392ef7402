-- Entries of the trail: each keeps what is true of a table, and is its event for each row at each index.
use Rattle.std.proofs.Common.{◌≡◌, ◌≢◌, ℕ, ◌<◌, ◌≤◌, true, false, not, ◌==◌, if◌then◌else◌, Option, Some, None, List, [], ◌∷◌, ◌++◌, length, get_or, filter, refl, ap, sym, ◌∙◌, subst, inl, inr, arith}
use Rattle.std.specs.Prelude.{nat_eq}
use Rattle.std.specs.List.{AllByRecursion}
use Rattle.std.proofs.lemmas.Bool.{cond-true, eq-eqb}
use Rattle.std.proofs.lemmas.List.{append-nil}
use Rattle.px_cells.specs.CellData.{CellData}
use Rattle.px_cells.specs.Order.{ReadsSame}
use Rattle.px_values.specs.declared.row.Value.{Value}
use Rattle.px_values.specs.declared.change.Change.{Change}
use Rattle.px_values.specs.declared.change.What.{What}
use Rattle.px_values.specs.declared.name.TableId.{TableId}
use Rattle.px_values.specs.States.{RowState, Shape as RowShape}
use Rattle.px_trail.specs.declared.entry.Act.{Act}
use Rattle.px_trail.specs.declared.entry.Act.TheVariants.{Begun, Wrote, Ended, Phase, Raised}
use Rattle.px_trail.specs.declared.entry.Entry.{Entry}
use Rattle.px_trail.specs.Batches.{Batch, IsBatchIn, Verifying, batch_of, change_of, has}
use Rattle.px_trail.specs.Legal.{Follows, IsEndable, IsPhased, IsWritable, MayCome, MayRaise}
use Rattle.px_trail.specs.States.{begun, begun_by}
use Rattle.px_trail.specs.Trail.{Base, horizon_of, horizon_step, last_of, shape_of, shape_step}
use Rattle.px_trail.proofs.Growth.{batch_of-snoc, begun-snoc, horizon-snoc, legal-snoc, shape-snoc}
use Rattle.px_history.specs.History.{History, end_change, written_state}
use Rattle.px_history.specs.Rows.{begun_as, Tied}
use Rattle.px_history.proofs.Changes.{from-snoc}
use Rattle.px_history.proofs.Ties.{step_is, counts_next, states_next, phase_step_is, ended_step_is, begun_all, begins_ended}
use Rattle.px_world.specs.World.{World, is_begun, is_written as is_written_fate}
use Rattle.px_world.specs.Events.{Write, End, Raise, set_stamp}
use Rattle.px_world.specs.IndexCells.{Moves}
use Rattle.px_indexed.specs.Worlds.{Indexed, history_at, begin_event, change_event, row_event, world_at}
use Rattle.px_indexed.specs.Kept.{RowsKept, IndexKept, DataKept, ReadsWrites}
use Rattle.px_indexed.proofs.Rows.{rows_kept, IsEnding, ending, can_end, IsPhase, phasing}
use Rattle.px_indexed.proofs.EntrySteps.{last_begun, begun_moves, index_begun, last_wrote, wrote_moves, index_wrote, last_ended, ended_moves, index_ended, last_phase, phased_moves, index_phase}
use Rattle.px_indexed.proofs.OtherSteps.{raised_moves, index_raised}
use Rattle.px_indexed.proofs.DataSteps.{data_wrote}
use Rattle.px_indexed.proofs.Idle.{IsIdle, IsStill, raised_still, index_idle, world_idle, history_idle, last_grows, begins_idle}
use Rattle.px_groupworld.specs.Group.{TableForm, OpenBatch, GroupData, GroupKept, IsOpen, AreApart, no_open, indexed_at, shape_in, world_in}
use Rattle.px_groupworld.specs.Steps.{Steps, no_events, begun_data, wrote_data, ended_data, raised_data}
use Rattle.px_groupworld.specs.Asks.{FitAll, HasMarked}
use Rattle.px_groupworld.proofs.Opens.{all_more, all_filter, all_end, apart_end, apart_filter, waits_begun, waits_none, waits_gone}

-- the rows, as the legal trail tells them
pub rows_of_group : (f : TableForm) (es : List Entry) (v : GroupData) → GroupKept f es v → RowsKept f.rows.shape f.base es f.id.0 v.high
rows_of_group f es v k = subst (RowsKept f.rows.shape f.base es f.id.0) k.high (rows_kept f.rows.shape f.base f.id k.base.rows k.base.low es k.legal)

-- the cells of the rows after an entry that writes none
pub data_same : (f : TableForm) (low : ℕ) (es es' : List Entry) (cells : List CellData) → DataKept f.base es f.id.0 f.rows low cells → ((r : List Value) → Tied f.rows.shape f.base es f.id.0 r (history_at f.rows.shape f.base es f.id.0 r)) → ((r : List Value) → Tied f.rows.shape f.base es' f.id.0 r (history_at f.rows.shape f.base es' f.id.0 r)) → ((r : List Value) (s : ℕ) → is_written_fate ((history_at f.rows.shape f.base es' f.id.0 r).fate s) ≡ is_written_fate ((history_at f.rows.shape f.base es f.id.0 r).fate s)) → ((r : List Value) (p : ℕ) → written_state (history_at f.rows.shape f.base es' f.id.0 r) p ≡ written_state (history_at f.rows.shape f.base es f.id.0 r) p) → ((r : List Value) → AllByRecursion (λ d. f.rows.Fits r d.what) (begun f.id.0 r es')) → DataKept f.base es' f.id.0 f.rows low cells
data_same f low es es' cells g tie tie' fates states fits = record {
  fits = fits;
  form = g.form;
  cells = g.cells;
  stamps = λ r q u d v h. elim (g.stamps r q u d v h) [ inl m ↦ inl m | inr m ↦ inr (fates r u ∙ m) ];
  spells = λ r p l. g.spells r p l ∙ (sym ((tie r).states p) ∙ (sym (states r p) ∙ (tie' r).states p));
  whole = g.whole;
}

-- the open batches where the last stamp only grows
pub opens_on : (n l l' : ℕ) (os : List OpenBatch) → l ≤ l' → AllByRecursion (IsOpen n l) os → AllByRecursion (IsOpen n l') os
opens_on n l l' os up a = all_more (IsOpen n l) (IsOpen n l') os (λ o z. (z.0, (z.1.0, (let i = z.1.1 in omega arith)))) a

module _ (f : TableForm) (es : List Entry) (v : GroupData) (k : GroupKept f es v) (e : Entry) (may : MayCome f.base es e) where
  abbrev b : Base
  b = f.base

  abbrev sh : RowShape
  sh = f.rows.shape

  abbrev tid : TableId
  tid = f.id

  abbrev es' : List Entry
  es' = es ++ e ∷ []

  abbrev hist : List Entry → List Value → History RowState
  hist l r = history_at sh b l tid.0 r

  rows : RowsKept sh b es tid.0 v.high
  rows = rows_of_group f es v k

  legal' : Rattle.px_trail.specs.Legal.IsLegal b es'
  legal' = legal-snoc b es e k.legal may

  -- the rows after the entry, where it raises no horizon
  module _ (high : (h : ℕ) → horizon_step tid.0 h e.act ≡ h) (shape : (s : RowShape) → shape_step tid.0 s e.act ≡ s) where
    same_high : horizon_of b tid.0 es' ≡ v.high
    same_high = horizon-snoc b tid.0 es e ∙ (high (horizon_of b tid.0 es) ∙ k.high)

    same_shape : shape_of b es' tid.0 ≡ f.rows.shape
    same_shape = shape-snoc b es e tid.0 ∙ (shape (shape_of b es tid.0) ∙ k.shape)

    rows' : RowsKept sh b es' tid.0 v.high
    rows' = subst (RowsKept sh b es' tid.0) same_high (rows_kept sh b tid k.base.rows k.base.low es' legal')

    -- a step that changes the open batches alone
    opens_step : (os : List OpenBatch) → ((i : ℕ) → i < length v.indexes → IndexKept sh b es' tid.0 v.high (indexed_at f (record v { opens = os }) i)) → DataKept b es' tid.0 f.rows v.low v.cells → AllByRecursion (IsOpen (length v.indexes) (last_of b tid.0 es')) os → AreApart os → GroupKept f es' (record v { opens = os })
    opens_step os indexes told begun apart = record {
      legal = legal';
      base = k.base;
      shape = same_shape;
      high = same_high;
      indexes = indexes;
      told = told;
      low = k.low;
      own = k.own;
      begun = begun;
      apart = apart;
    }

  -- ---- a batch begins

  module _ (s : ℕ) (cs : List Change) (is : e.act ≡ Begun tid s cs) (fits : FitAll f cs) where
    new : last_of b tid.0 es < s
    unfolding Follows
    new = (subst (λ (a : Act). Follows b es e.seat e.calls a) is may.follows).0

    begun_history : (r : List Value) → hist es' r ≡ begun_as sh r s (change_of cs r) (hist es r)
    begun_history r = from-snoc sh b es e tid.0 r ∙ step_is sh b tid r (k.base.rows r) es (hist es r) (rows.tied r) e s cs is new

    begun_fates : (r : List Value) (o : Option What) → change_of cs r ≡ o → (u : ℕ) → is_written_fate ((hist es' r).fate u) ≡ is_written_fate ((hist es r).fate u)
    begun_fates r None q u = ap (λ (h : History RowState). is_written_fate (h.fate u)) (begun_history r ∙ ap (λ o. begun_as sh r s o (hist es r)) q)
    begun_fates r (Some w) q u = ap (λ (h : History RowState). is_written_fate (h.fate u)) (begun_history r ∙ ap (λ o. begun_as sh r s o (hist es r)) q) ∙ counts_next sh b tid r (k.base.rows r) es (hist es r) (rows.tied r) e s cs is new w q u

    begun_states : (r : List Value) (o : Option What) → change_of cs r ≡ o → (p : ℕ) → written_state (hist es' r) p ≡ written_state (hist es r) p
    begun_states r None q p = ap (λ (h : History RowState). written_state h p) (begun_history r ∙ ap (λ o. begun_as sh r s o (hist es r)) q)
    begun_states r (Some w) q p = ap (λ (h : History RowState). written_state h p) (begun_history r ∙ ap (λ o. begun_as sh r s o (hist es r)) q) ∙ states_next sh b tid r (k.base.rows r) es (hist es r) (rows.tied r) e s cs is new w q p

    abbrev fresh : OpenBatch
    fresh = record { stamp = s; done = 0; count = length v.indexes }

    at_begun : (i : ℕ) → i < length v.indexes → indexed_at f (begun_data s v) i ≡ record (indexed_at f v i) { waits = set_stamp s true (indexed_at f v i).waits }
    at_begun i l = λ j. record (indexed_at f v i) { waits = λ u. waits_begun v.opens s (length v.indexes) i l u j }

    begun_high : (h : ℕ) → horizon_step tid.0 h e.act ≡ h
    begun_high h = ap (horizon_step tid.0 h) is

    begun_shape : (s : RowShape) → shape_step tid.0 s e.act ≡ s
    unfolding shape_step
    begun_shape s = ap (shape_step tid.0 s) is

    pub group_begun : Steps f (λ i r. begin_event s (change_of cs r)) es v es' (begun_data s v)
    group_begun = record {
      kept = opens_step begun_high begun_shape (v.opens ++ fresh ∷ [])
          (λ i l. subst (IndexKept sh b es' tid.0 v.high) (sym (at_begun i l)) (index_begun sh b es tid v.high rows e s cs is new (indexed_at f v i) (k.indexes i l)))
          (data_same f v.low es es' v.cells k.told rows.tied (rows' begun_high begun_shape).tied (λ r u. begun_fates r (change_of cs r) refl u) (λ r q. begun_states r (change_of cs r) refl q) (λ r. begun_all sh b tid r (k.base.rows r) es (hist es r) (rows.tied r) e s cs is new (λ d. f.rows.Fits r d.what) (k.told.fits r) (λ w q. fits r w q)))
          (let n = last_begun sh b es tid v.high rows e s cs is new in let above = new in all_end (IsOpen (length v.indexes) (last_of b tid.0 es')) v.opens fresh (opens_on (length v.indexes) (last_of b tid.0 es) (last_of b tid.0 es') v.opens (omega arith) k.begun) (omega arith, (omega arith, omega arith)))
          (apart_end v.opens fresh k.apart (all_more (IsOpen (length v.indexes) (last_of b tid.0 es)) (λ o. o.stamp ≢ s) v.opens (λ o z q. (let i = z.1.1 in let above = new in omega arith)) k.begun));
      does = record {
        count = refl;
        each = λ i l r. subst (λ (x : Indexed). Moves (shape_in f v i r) (begin_event s (change_of cs r)) (world_in f es v i r) (world_at sh b es' tid.0 v.high x r)) (sym (at_begun i l)) (begun_moves sh b es tid v.high rows e s cs is new (indexed_at f v i) (k.indexes i l) r);
      };
    }

  -- ---- rows are written

  module _ (s : ℕ) (rs : List (List Value)) (is : e.act ≡ Wrote tid s rs) where
    writable : IsWritable es e.seat tid.0 s rs
    unfolding Follows
    writable = subst (λ (a : Act). Follows b es e.seat e.calls a) is may.follows

    wrote_high : (h : ℕ) → horizon_step tid.0 h e.act ≡ h
    wrote_high h = ap (horizon_step tid.0 h) is

    wrote_shape : (s : RowShape) → shape_step tid.0 s e.act ≡ s
    unfolding shape_step
    wrote_shape s = ap (shape_step tid.0 s) is

    pub group_wrote : (y : Batch) → batch_of tid.0 s es ≡ Some y → (batch now : List CellData) → ReadsWrites f.rows y s rs batch → ReadsSame now (batch ++ v.cells) → Steps f (λ i r. row_event (Write s) (has rs r)) es v es' (wrote_data now v)
    group_wrote y q batch now reads put =
        let w = writable in
        let same : y ≡ w.batch = Rattle.px_indexed.proofs.Rows.same_some (sym q ∙ w.is) in
        let reads' : ReadsWrites f.rows w.batch s rs batch = subst (λ (z : Batch). ReadsWrites f.rows z s rs batch) same reads in
        record {
          kept = record {
            legal = legal';
            base = k.base;
            shape = same_shape wrote_high wrote_shape;
            high = same_high wrote_high wrote_shape;
            indexes = λ i l. index_wrote sh b es tid v.high rows e s rs is w (indexed_at f v i) (k.indexes i l);
            told = data_wrote f.rows b es tid v.high rows v.low k.low v.cells k.told e s rs is w batch now put reads';
            low = k.low;
            own = k.own;
            begun = (let n = last_wrote sh b es tid v.high rows e s rs is w in opens_on (length v.indexes) (last_of b tid.0 es) (last_of b tid.0 es') v.opens (omega arith) k.begun);
            apart = k.apart;
          };
          does = record { count = refl; each = λ i l r. wrote_moves sh b es tid v.high rows e s rs is w (indexed_at f v i) (k.indexes i l) r };
        }

  -- ---- entries that leave the history of each row

  same_told : ((r : List Value) → hist es' r ≡ hist es r) → ((r : List Value) → begun tid.0 r es' ≡ begun tid.0 r es) → RowsKept sh b es' tid.0 v.high → DataKept b es' tid.0 f.rows v.low v.cells
  same_told same begins next = data_same f v.low es es' v.cells k.told rows.tied next.tied (λ r u. ap (λ (h : History RowState). is_written_fate (h.fate u)) (same r)) (λ r p. ap (λ (h : History RowState). written_state h p) (same r)) (λ r. subst (AllByRecursion (λ d. f.rows.Fits r d.what)) (sym (begins r)) (k.told.fits r))

  -- ---- a phase is done

  module _ (s n : ℕ) (is : e.act ≡ Phase tid s n) where
    phased : IsPhased es e.seat tid.0 s n
    unfolding Follows
    phased = subst (λ (a : Act). Follows b es e.seat e.calls a) is may.follows

    phase_is : IsPhase es tid.0 s n
    phase_is = phasing es e.seat tid.0 s n phased

    phase_high : (h : ℕ) → horizon_step tid.0 h e.act ≡ h
    phase_high h = ap (horizon_step tid.0 h) is

    phase_shape : (s : RowShape) → shape_step tid.0 s e.act ≡ s
    unfolding shape_step
    phase_shape s = ap (shape_step tid.0 s) is

    phase_history : (r : List Value) → hist es' r ≡ hist es r
    phase_history r = from-snoc sh b es e tid.0 r ∙ phase_step_is sh b tid r (k.base.rows r) es (hist es r) (rows.tied r) e s n is

    phase_begins : (r : List Value) → begun tid.0 r es' ≡ begun tid.0 r es
    unfolding begun_by
    phase_begins r = begun-snoc tid.0 r es e ∙ (ap (λ (a : Act). begun tid.0 r es ++ begun_by tid.0 r a) is ∙ append-nil (begun tid.0 r es))

    group_phase : ((i : ℕ) → i < length v.indexes → (indexed_at f v i).birth < s → (indexed_at f v i).waits s ≡ false) → Steps f no_events es v es' v
    group_phase done = record {
      kept = opens_step phase_high phase_shape v.opens
          (λ i l. index_phase sh b es tid v.high rows e s n is phase_is (indexed_at f v i) (k.indexes i l) (done i l))
          (same_told phase_history phase_begins (rows' phase_high phase_shape))
          (let m = last_phase sh b es tid v.high rows e s n is phase_is in opens_on (length v.indexes) (last_of b tid.0 es) (last_of b tid.0 es') v.opens (omega arith) k.begun)
          k.apart;
      does = record { count = refl; each = λ i l r. phased_moves sh b es tid v.high rows e s n is phase_is (indexed_at f v i) (k.indexes i l) (done i l) r };
    }

  -- the batch has marked all its indexes
  pub group_marked : (m : ℕ) → HasMarked v m → e.act ≡ Phase tid (get_or v.opens m no_open).stamp 1 → Steps f no_events es v es' v
  group_marked m g is = group_phase (get_or v.opens m no_open).stamp 1 is (λ i l z. waits_none v.opens m k.apart g.among g.all i)

  -- it has verified what it could
  pub group_verified_all : (s : ℕ) → e.act ≡ Phase tid s 3 → Steps f no_events es v es' v
  group_verified_all s is = group_phase s 3 is (λ i l z.
      (let i0 : IsBatchIn es e.seat tid.0 s Verifying = elim (phased s 3 is) [ inl a ↦ absurd (let c = a.0 in omega arith) | inr a ↦ a.1 ] in
      (k.indexes i l).marked s i0.batch i0.is (λ q. (let c = (Rattle.px_trail.proofs.Batches.in_verifying i0.batch i0.phase).1 in omega arith)) z))

  -- ---- a batch ends

  module _ (m : ℕ) (g : HasMarked v m) (is : e.act ≡ Ended tid (get_or v.opens m no_open).stamp) where
    abbrev ends : ℕ
    ends = (get_or v.opens m no_open).stamp

    endable : IsEndable es e.seat tid.0 ends
    unfolding Follows
    endable = subst (λ (a : Act). Follows b es e.seat e.calls a) is may.follows

    can : IsEnding es e.seat tid.0 ends
    can = ending b es e.seat tid.0 ends k.legal endable

    end_high : (h : ℕ) → horizon_step tid.0 h e.act ≡ h
    end_high h = ap (horizon_step tid.0 h) is

    end_shape : (s : RowShape) → shape_step tid.0 s e.act ≡ s
    unfolding shape_step
    end_shape s = ap (shape_step tid.0 s) is

    at_left : (i : ℕ) → indexed_at f (ended_data ends v) i ≡ indexed_at f v i
    at_left i = λ z. record (indexed_at f v i) { waits = λ u. waits_gone v.opens m k.apart g.among g.all i u z }

    history_ended : (r : List Value) → hist es' r ≡ (if is_begun ((hist es r).fate ends) then end_change ends (hist es r) else hist es r)
    history_ended r = from-snoc sh b es e tid.0 r ∙ ended_step_is sh b tid r (k.base.rows r) es (hist es r) (rows.tied r) e ends is (can_end es e.seat tid.0 ends can)

    ended_fates : (r : List Value) (u : ℕ) → is_written_fate ((hist es' r).fate u) ≡ is_written_fate ((hist es r).fate u)
    ended_fates r u = ap (λ (h : History RowState). is_written_fate (h.fate u)) (history_ended r) ∙ elim (is_begun ((hist es r).fate ends)) as (λ z. is_written_fate ((if z then end_change ends (hist es r) else hist es r).fate u) ≡ is_written_fate ((hist es r).fate u)) [ true ↦ refl | false ↦ refl ]

    ended_states : (r : List Value) (n : ℕ) → written_state (hist es' r) n ≡ written_state (hist es r) n
    ended_states r n = ap (λ (h : History RowState). written_state h n) (history_ended r) ∙ elim (is_begun ((hist es r).fate ends)) as (λ z. written_state (if z then end_change ends (hist es r) else hist es r) n ≡ written_state (hist es r) n) [ true ↦ refl | false ↦ refl ]

    pub group_ended : (y : Batch) → batch_of tid.0 ends es ≡ Some y → Steps f (λ i r. change_event (End ends) (change_of y.changes r)) es v es' (ended_data ends v)
    group_ended y q =
        let same : can.batch ≡ y = Rattle.px_indexed.proofs.Rows.same_some (sym can.is ∙ q) in
        let n = last_ended sh b es tid v.high rows e ends is can in
        subst (λ (z : Batch). Steps f (λ i r. change_event (End ends) (change_of z.changes r)) es v es' (ended_data ends v)) same (record {
          kept = opens_step end_high end_shape (filter (λ o. not (nat_eq o.stamp ends)) v.opens)
              (λ i l. subst (IndexKept sh b es' tid.0 v.high) (sym (at_left i)) (index_ended sh b es tid v.high rows e ends is can (indexed_at f v i) (k.indexes i l)))
              (data_same f v.low es es' v.cells k.told rows.tied (rows' end_high end_shape).tied ended_fates ended_states (λ r. subst (AllByRecursion (λ d. f.rows.Fits r d.what)) (sym (begins_ended sh b tid r (k.base.rows r) es (hist es r) (rows.tied r) e ends is (can_end es e.seat tid.0 ends can))) (k.told.fits r)))
              (all_filter (IsOpen (length v.indexes) (last_of b tid.0 es')) (λ o. not (nat_eq o.stamp ends)) v.opens (opens_on (length v.indexes) (last_of b tid.0 es) (last_of b tid.0 es') v.opens (omega arith) k.begun))
              (apart_filter (λ o. not (nat_eq o.stamp ends)) v.opens k.apart);
          does = record {
            count = refl;
            each = λ i l r. subst (λ (x : Indexed). Moves (shape_in f v i r) (change_event (End ends) (change_of can.batch.changes r)) (world_in f es v i r) (world_at sh b es' tid.0 v.high x r)) (sym (at_left i)) (ended_moves sh b es tid v.high rows e ends is can (indexed_at f v i) (k.indexes i l) r);
          };
        })

  -- ---- an entry that tells nothing of the table

  pub group_idle : IsIdle tid e → Steps f no_events es v es' v
  group_idle idle = record {
    kept = opens_step idle.horizon idle.still.shape v.opens
        (λ i l. index_idle sh b es tid v.high e idle.still (indexed_at f v i) (k.indexes i l))
        (same_told (history_idle sh b es tid v.high e idle.still) (begins_idle sh b es tid v.high e idle.still) (rows' idle.horizon idle.still.shape))
        (let m = last_grows sh b es tid v.high e idle.still in opens_on (length v.indexes) (last_of b tid.0 es) (last_of b tid.0 es') v.opens (omega arith) k.begun)
        k.apart;
    does = record { count = refl; each = λ i l r. world_idle sh b es tid v.high e idle.still (indexed_at f v i) r };
  }

  -- ---- the table's horizon rises

  module _ (h : ℕ) (is : e.act ≡ Raised tid h) where
    raise : MayRaise b es tid.0 h
    unfolding Follows
    raise = subst (λ (a : Act). Follows b es e.seat e.calls a) is may.follows

    still : IsStill tid e
    still = raised_still tid e h is

    raised_high : horizon_of b tid.0 es' ≡ h
    raised_high = horizon-snoc b tid.0 es e ∙ (ap (horizon_step tid.0 (horizon_of b tid.0 es)) is ∙ cond-true (tid.0 == tid.0) h (horizon_of b tid.0 es) (eq-eqb tid.0 tid.0 refl))

    rows_now : RowsKept sh b es' tid.0 h
    rows_now = subst (RowsKept sh b es' tid.0) raised_high (rows_kept sh b tid k.base.rows k.base.low es' legal')

    all_ended : (s : ℕ) (y : Batch) → batch_of tid.0 s es ≡ Some y → s ≤ h → y.ended ≡ true
    all_ended s y q l = rows_now.ended s y (batch_of-snoc tid.0 s es e ∙ (still.batches s (batch_of tid.0 s es) ∙ q)) l

    up : v.high < h
    up = let r = raise.rises in let q = k.high in omega arith

    pub group_raised : Steps f (λ i r. Some (Raise h)) es v es' (raised_data h v)
    group_raised =
        let u = up in
        record {
          kept = record {
            legal = legal';
            base = k.base;
            shape = shape-snoc b es e tid.0 ∙ (still.shape (shape_of b es tid.0) ∙ k.shape);
            high = raised_high;
            indexes = λ i l. index_idle sh b es tid h e still (indexed_at f v i) (index_raised sh b es tid v.high rows h u raise.last all_ended (indexed_at f v i) (k.indexes i l));
            told = same_told (history_idle sh b es tid v.high e still) (begins_idle sh b es tid v.high e still) (record { base = rows_now.base; tied = rows_now.tied; low = (let a = rows_now.low in omega arith); later = rows_now.later; ended = λ s y q l. rows_now.ended s y q (omega arith); done = rows_now.done; quiet = rows_now.quiet });
            low = (let a = k.low in omega arith);
            own = λ i l. (let a = k.own i l in omega arith);
            begun = opens_on (length v.indexes) (last_of b tid.0 es) (last_of b tid.0 es') v.opens (last_grows sh b es tid v.high e still) k.begun;
            apart = k.apart;
          };
          does = record {
            count = refl;
            each = λ i l r. subst (λ (w : World (List ℕ) RowState (List ℕ)). Moves (shape_in f v i r) (Some (Raise h)) (world_in f es v i r) w) (sym (world_idle sh b es tid h e still (indexed_at f v i) r)) (raised_moves sh b es tid v.high rows h u raise.last all_ended (indexed_at f v i) (k.indexes i l) r);
          };
        }
