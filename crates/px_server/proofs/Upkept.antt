-- A horizon rises, where it may, and a compaction is begun: what is true of a server, what stays of orders and doubts, and what its call answers.
use Rattle.std.proofs.Common.{◌≡◌, ◌<◌, ◌≤◌, ◌+◌, ◌⊎◌, inl, inr, ℕ, Bool, true, Option, None, Some, List, length, get_or, sym, ap, subst, ◌∙◌, arith}
use Rattle.std.specs.Prelude.{IsTrue}
use Rattle.std.specs.List.{slice_set}
use Rattle.px_outside.specs.declared.clock.Clock.{Ghosts as ClockGhosts}
use Rattle.px_outside.specs.declared.disk.Disk.{Ghosts}
use Rattle.px_trail.specs.Recorded.{Recorded}
use Rattle.px_trail.specs.Trail.{Base}
use Rattle.px_trail.specs.declared.entry.Entry.{Entry}
use Rattle.px_calls.specs.Calls.{DidWork}
use Rattle.px_calls.specs.Doubtful.{IndexVersion}
use Rattle.px_calls.specs.Known.{Known}
use Rattle.px_calls.specs.Requires.{HasOpen}
use Rattle.px_calls.specs.declared.query.Point.{Point}
use Rattle.px_calls.specs.declared.status.Ordered.{Ordered}
use Rattle.px_calls.specs.declared.status.Ordered.TheVariants as jobs
use Rattle.px_calls.specs.declared.status.Work.TheVariants.{Did}
use Rattle.px_schema.specs.declared.standing.Standing.{Standing}
use Rattle.px_catalog.specs.declared.catalog.Catalog.{Catalog}
use Rattle.px_group.specs.Group.{IsRightGroup}
use Rattle.px_group.specs.declared.group.Group.{Group}
use Rattle.px_server.specs.Kept.{HasTallied, IsKept}
use Rattle.px_server.specs.Others.{Beginning}
use Rattle.px_server.specs.Shown.{Shown, shown_of}
use Rattle.px_server.specs.Sights.{have_doubt, table_has_doubt}
use Rattle.px_server.specs.Stamps.{IsByClock}
use Rattle.px_server.specs.Upkeep.{AreCompacting, AreFree, AreOrdered, HasRaised, HasRisen, IsCompacting, IsDoneBy, IsDueIn, IsOrderedBy, IsOrderedTable, IsUnraised, IsWantedTable, StaysCompacting, SteppedTable}
use Rattle.px_server.specs.declared.upkeep.Chore.TheVariants as chore
use Rattle.px_server.specs.declared.upkeep.Due.{Due}
use Rattle.px_server.specs.declared.upkeep.Due.TheVariants as due
use Rattle.px_server.proofs.Lists.{all_at}
use Rattle.px_server.proofs.Orders.{all_put, all_risen, one_risen, set_length, set_there, set_twice}
use Rattle.px_server.proofs.Raised.{open_above, raised_kept, unraised}
use Rattle.px_server.proofs.Sighted.{put_tables, raised_table, stepped_table}
use Rattle.px_server.proofs.Stamping.{raised_by_clock, same_by_clock}
use Rattle.px_server.proofs.Stepped.{did_raise, did_work, put_back, stepped}

-- a table's regions stay where its horizon rises
pub unraised_due : (lookback seat calls : ℕ) (g mid : Group) (trail trail' : Recorded) → HasRaised lookback seat calls g mid trail trail' ⊎ IsUnraised g mid trail trail' → (region : Due) → IsDueIn g region → IsDueIn mid region
unraised_due lookback seat calls g mid trail trail' (inl r) due.Rows h = h
unraised_due lookback seat calls g mid trail trail' (inl r) (due.Index place) h = subst (λ (x : Group). IsDueIn x (due.Index place)) (sym r.group) h
unraised_due lookback seat calls g mid trail trail' (inr u) region h = subst (λ (x : Group). IsDueIn x region) (sym u.0) h

-- what a seat knows that is alone
abbrev pub knows : ℕ → Base → (ℕ → ℕ → Bool) → List Entry → Known
knows seat b damaged es = record { seat = seat; base = b; damaged = damaged; alone = true; seen = es }

module _ {D : Type 0} (d : Ghosts D) (tells_left : (x : D) (moment file : ℕ) (bytes : List ℕ) → d.left x moment file bytes → IsTrue d.tells)
    (up_to_now : (x : D) (moment file : ℕ) (bytes : List ℕ) → d.left x moment file bytes → moment ≤ d.calls x) (b : Base) (sound premise : Type 0) (began : Beginning)
    (disk : D) (catalog : Catalog) (standing : Standing) (groups : List Group) (trail : Recorded) (late : Option Entry) (closed : Option ℕ) (k : IsKept d b sound premise began disk catalog standing groups trail late closed)
    (running : closed ≡ None) (place : ℕ) (g mid : Group) (l : place < length groups) (is : get_or groups place g ≡ g) (lookback seat calls : ℕ) (at : calls ≡ d.calls disk) (trail' : Recorded)
    (raises : HasRaised lookback seat calls g mid trail trail' ⊎ IsUnraised g mid trail trail') where
  abbrev es : List Entry
  es = trail.entries

  -- ---- the horizon

  pub mid_kept : IsKept d b sound premise began disk catalog standing (slice_set groups place mid) trail' late closed
  mid_kept = elim raises [
    | inl r ↦ raised_kept d tells_left up_to_now b sound premise began disk catalog standing groups trail late closed k running place g mid l is lookback seat calls at trail' r
    | inr u ↦
        subst (λ (t : Recorded). IsKept d b sound premise began disk catalog standing (slice_set groups place mid) t late closed) (sym u.1)
        (subst (λ (x : Group). IsKept d b sound premise began disk catalog standing (slice_set groups place x) trail late closed) (sym u.0)
        (subst (λ (gs : List Group). IsKept d b sound premise began disk catalog standing gs trail late closed) (sym (put_back groups place g is)) k))
  ]

  pub mid_clock : {C : Type 0} (c : ClockGhosts C) (times : ℕ → ℕ) (asked : ℕ) (clock : C) → IsByClock c times b asked lookback clock es → IsByClock c times b asked lookback clock trail'.entries
  mid_clock c times asked clock by = elim raises [
    | inl r ↦
        (let last = (all_at (HasTallied b es) groups place g l is (k.each.tallied running)).tallied.last in
        let back = r.allowed.back in
        raised_by_clock c times b asked lookback clock es by trail'.entries seat calls g.table.id r.horizon r.entries (omega (arith, last, back)))
    | inr u ↦ same_by_clock c times b asked lookback clock es by trail'.entries (ap (λ (t : Recorded). t.entries) u.1)
  ]

  pub mid_did : (damaged : ℕ → ℕ → Bool) → DidWork (knows seat b damaged es) (knows seat b damaged trail'.entries) Did
  mid_did damaged = elim raises [
    | inl r ↦ did_raise (knows seat b damaged es) k.told.legal trail'.entries calls g.table.id r.horizon r.entries mid_kept.told.legal
    | inr u ↦ subst (λ (t : Recorded). DidWork (knows seat b damaged es) (knows seat b damaged t.entries) Did) (sym u.1) (did_work (knows seat b damaged es) k.told.legal (k.told.closing ∙ running) Did)
  ]

  pub mid_doubt : (damaged : ℕ → ℕ → Bool) (p : Point) → HasOpen (knows seat b damaged es) p → (v : IndexVersion) → table_has_doubt p v mid ≡ table_has_doubt p v g
  mid_doubt damaged p open_ v = elim raises [
    | inl r ↦ raised_table p v g mid r.horizon r.group r.above (open_above d tells_left up_to_now b sound premise began disk catalog standing groups trail late closed k running place g mid l is lookback seat calls at trail' r damaged seat p open_)
    | inr u ↦ ap (table_has_doubt p v) u.0
  ]

  pub mid_ordered : IsOrderedTable g → IsOrderedTable mid
  mid_ordered was = elim raises [
    | inl r ↦ subst IsOrderedTable (sym r.group) (record { rows = was.rows; indexes = was.indexes })
    | inr u ↦ subst IsOrderedTable (sym u.0) was
  ]

  pub mid_wanted : IsWantedTable g → IsWantedTable mid
  mid_wanted was = elim raises [
    | inl r ↦ subst IsWantedTable (sym r.group) (record { rows = was.rows; indexes = was.indexes })
    | inr u ↦ subst IsWantedTable (sym u.0) was
  ]

  -- where it had risen, it doesn't rise
  mid_compacting : IsCompacting lookback g → IsCompacting lookback mid
  mid_compacting was = elim raises [
    | inl r ↦ absurd (unraised lookback seat calls g mid trail trail' was.risen r)
    | inr u ↦ subst (IsCompacting lookback) (sym u.0) was
  ]

  pub mid_looked : mid.rows.looked ≡ g.rows.looked
  mid_looked = elim raises [
    | inl r ↦ ap (λ (x : Group). x.rows.looked) r.group
    | inr u ↦ ap (λ (x : Group). x.rows.looked) u.0
  ]

  pub mid_doubts : (damaged : ℕ → ℕ → Bool) (p : Point) → HasOpen (knows seat b damaged es) p → (v : IndexVersion) → have_doubt (slice_set groups place mid) p v ≡ have_doubt groups p v
  mid_doubts damaged p open_ v = put_tables p v groups place g mid l is (mid_doubt damaged p open_ v)

  -- of all tables: the next one has risen
  raising_on : HasRisen lookback mid → AreCompacting lookback (Some place) groups → AreCompacting lookback (Some (place + 1)) (slice_set groups place mid)
  raising_on risen to = one_risen lookback place groups mid l (λ all. mid_wanted (all_at IsWantedTable groups place g l is all)) risen to

  ordered_mid : AreOrdered groups → AreOrdered (slice_set groups place mid)
  ordered_mid was = all_put IsOrderedTable groups place mid was (mid_ordered (all_at IsOrderedTable groups place g l is was))

  pub raised_ordered : HasRisen lookback mid → (made failed : ℕ) (job : Ordered) → IsOrderedBy (shown_of seat es late closed groups lookback (Some place) made failed) job → IsOrderedBy (shown_of seat trail'.entries late closed (slice_set groups place mid) lookback (Some (place + 1)) made failed) job
  raised_ordered risen made failed jobs.FlushAll was = ordered_mid was
  raised_ordered risen made failed jobs.CompactAll was = (ordered_mid was.0, raising_on risen was.1)

  -- ---- a compaction that is begun behind it, with no call

  module _ (g' : Group) (steps : SteppedTable d mid g' disk disk) where
    pub begun_kept : IsKept d b sound premise began disk catalog standing (slice_set groups place g') trail' late closed
    begun_kept = subst (λ (gs : List Group). IsKept d b sound premise began disk catalog standing gs trail' late closed) (set_twice groups place mid g')
        (let long = set_length groups place mid in
        stepped d tells_left up_to_now b sound premise began disk catalog standing (slice_set groups place mid) trail' late closed mid_kept running place mid g' (omega (arith, l, long)) (set_there groups place mid mid l) disk steps)

    mid_right : IsRightGroup mid
    mid_right = (let long = set_length groups place mid in all_at IsRightGroup (slice_set groups place mid) place mid (omega (arith, l, long)) (set_there groups place mid mid l) (mid_kept.each.right running))

    pub begun_doubts : (damaged : ℕ → ℕ → Bool) (p : Point) → HasOpen (knows seat b damaged es) p → (v : IndexVersion) → have_doubt (slice_set groups place g') p v ≡ have_doubt groups p v
    begun_doubts damaged p open_ v = put_tables p v groups place g g' l is (stepped_table p v d mid g' disk disk mid_right steps ∙ mid_doubt damaged p open_ v)

    module _ (ordered : IsOrderedTable mid → IsOrderedTable g') (to_forget : StaysCompacting mid g') where
      ordered_begun : AreOrdered groups → AreOrdered (slice_set groups place g')
      ordered_begun was = all_put IsOrderedTable groups place g' was (ordered (mid_ordered (all_at IsOrderedTable groups place g l is was)))

      compacting_begun : AreCompacting lookback None groups → AreCompacting lookback None (slice_set groups place g')
      compacting_begun was = all_put (IsCompacting lookback) groups place g' was (to_forget lookback (mid_compacting (all_at (IsCompacting lookback) groups place g l is was)))

      pub begun_ordered : (made failed : ℕ) (job : Ordered) → IsOrderedBy (shown_of seat es late closed groups lookback None made failed) job → IsOrderedBy (shown_of seat trail'.entries late closed (slice_set groups place g') lookback None made failed) job
      begun_ordered made failed jobs.FlushAll was = ordered_begun was
      begun_ordered made failed jobs.CompactAll was = (ordered_begun was.0, compacting_begun was.1)

-- ---- nothing is left to do

pub idle_done : (s : Shown) → AreFree chore.Due s.groups → AreFree chore.Wanted s.groups → s.raising ≡ None → (job : Ordered) → IsDoneBy s job
idle_done s due wanted raised jobs.FlushAll = due
idle_done s due wanted raised jobs.CompactAll = (due, record { raised = raised; none = wanted })

-- ---- calls of the disk that touch no table

pub same_ordered : (s s' : Shown) → s' ≡ record s { calls = s'.calls; faults = s'.faults } → (job : Ordered) → IsOrderedBy s job → IsOrderedBy s' job
same_ordered s s' same jobs.FlushAll was = subst (λ (w : Shown). IsOrderedBy w jobs.FlushAll) (sym same) was
same_ordered s s' same jobs.CompactAll was = subst (λ (w : Shown). IsOrderedBy w jobs.CompactAll) (sym same) was

-- ---- all horizons have risen

pub behind_ordered : (seat : ℕ) (es : List Entry) (late : Option Entry) (closed : Option ℕ) (groups : List Group) (lookback place made failed : ℕ) → length groups ≤ place → (job : Ordered) → IsOrderedBy (shown_of seat es late closed groups lookback (Some place) made failed) job → IsOrderedBy (shown_of seat es late closed groups lookback None made failed) job
behind_ordered seat entries late closed groups lookback place made failed over jobs.FlushAll was = was
behind_ordered seat entries late closed groups lookback place made failed over jobs.CompactAll was = (was.0, all_risen lookback place groups over was.1)

-- ---- a step of a region

module _ {D : Type 0} (d : Ghosts D) (groups : List Group) (place : ℕ) (g g' : Group) (l : place < length groups) (is : get_or groups place g ≡ g) (ordered : IsOrderedTable g → IsOrderedTable g') (to_forget : StaysCompacting g g') (seat : ℕ) (es es' : List Entry) (late : Option Entry) (closed : Option ℕ) (lookback : ℕ) where
  ordered_step : AreOrdered groups → AreOrdered (slice_set groups place g')
  ordered_step was = all_put IsOrderedTable groups place g' was (ordered (all_at IsOrderedTable groups place g l is was))

  pub stepped_ordered : (made failed made' failed' : ℕ) (job : Ordered) → IsOrderedBy (shown_of seat es late closed groups lookback None made failed) job → IsOrderedBy (shown_of seat es' late closed (slice_set groups place g') lookback None made' failed') job
  stepped_ordered made failed made' failed' jobs.FlushAll was = ordered_step was
  stepped_ordered made failed made' failed' jobs.CompactAll was = (ordered_step was.0, all_put (IsCompacting lookback) groups place g' was.1 (to_forget lookback (all_at (IsCompacting lookback) groups place g l is was.1)))
