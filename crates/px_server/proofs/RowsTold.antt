-- The rows of a batch are written, and an entry tells it: the server then, and what its call answers.
use Rattle.std.proofs.Common.{◌≡◌, ◌≢◌, ◌<◌, ◌≤◌, ◌+◌, ◌==◌, ◌&&◌, if◌then◌else◌, ℕ, Bool, true, false, Option, None, Some, List, [], ◌∷◌, ◌++◌, length, get_or, slice_get, map, set, refl, sym, ap, subst, ◌∙◌, arith}
use Rattle.std.specs.Prelude.{IsTrue, sum_by}
use Rattle.std.specs.List.{slice_set}
use Rattle.std.proofs.lemmas.List.Sums.{sum_by-set}
use Rattle.px_outside.specs.OnDisk.{Rose}
use Rattle.px_outside.specs.declared.disk.Disk.{Ghosts}
use Rattle.px_values.specs.declared.name.TableId.{TableId}
use Rattle.px_values.specs.declared.row.Value.{Value}
use Rattle.px_tables.specs.declared.table.Table.{Table}
use Rattle.px_trail.specs.declared.entry.Act.TheVariants.{Shut, Wrote}
use Rattle.px_trail.specs.declared.entry.Entry.{Entry}
use Rattle.px_trail.specs.Batches.{Batch, IsBatchIn, Verifying as InVerifying, Writing as InWriting, batch_of, batch_step, rows_of}
use Rattle.px_trail.specs.Legal.{Follows, IsLegal, IsWritable, MayCome}
use Rattle.px_trail.specs.Recorded.{Recorded}
use Rattle.px_trail.specs.Trail.{Base, catalogue_step, closing_call, open_points, points_step}
use Rattle.px_trail.proofs.Batches.{in_writing}
use Rattle.px_trail.proofs.Growth.{batch_of-snoc, points-snoc}
use Rattle.px_openbatches.specs.Pending.{HeldBatch, held_wrote}
use Rattle.px_openbatches.proofs.Helds.{same_batch}
use Rattle.px_schema.specs.declared.standing.Standing.{Standing}
use Rattle.px_catalog.specs.declared.catalog.Catalog.{Catalog}
use Rattle.px_group.specs.Group.{IsRightGroup, IsTallied, points_in}
use Rattle.px_group.specs.declared.group.Begun.{Begun}
use Rattle.px_group.specs.declared.group.Group.{Group}
use Rattle.px_group.specs.declared.group.Phase.{Phase}
use Rattle.px_group.specs.declared.group.Phase.TheVariants.{Verifying, Writing}
use Rattle.px_batching.specs.Known.{own_of}
use Rattle.px_batching.specs.Steps.{HandsPuts, IsBatchStep, IsBlocked, IsOfSeat, IsUnblocked, StandsInPhase, TakesRows, WaitsFor, WrotePuts}
use Rattle.px_batching.proofs.May.{in_phase, stamp_is, waits, writable}
use Rattle.px_batching.proofs.Places.{same_at, set_here, within}
use Rattle.px_batching.proofs.Right.{right_puts}
use Rattle.px_batching.proofs.Tallied.{tallied_wrote}
use Rattle.px_batching.proofs.Traced.{traced_puts}
use Rattle.px_noting.specs.Apart.{IsApartFrom}
use Rattle.px_reading.proofs.Looked.{got}
use Rattle.px_recovery.proofs.Server.{newest_early}
use Rattle.px_calls.specs.Calls.{DidWrite}
use Rattle.px_calls.specs.Causes.{Refuses, rows_cause}
use Rattle.px_calls.specs.Known.{Known}
use Rattle.px_calls.specs.declared.fault.StepFault.TheVariants.{NotYet, WriteFault}
use Rattle.px_calls.specs.declared.ticket.Ticket.{Ticket}
use Rattle.px_calls.specs.declared.ticket.Writes.TheVariants.{AllWritten}
use Rattle.px_server.specs.Kept.{HasPoints, HasTallied, IsKept, IsShutAt, number_in, owed, owed_by, steps_of}
use Rattle.px_server.specs.Others.{Beginning}
use Rattle.px_server.proofs.Elsewhere.{IsOfTable}
use Rattle.px_server.proofs.Handed.{rows_late, rows_told}
use Rattle.px_server.proofs.Lists.{all_at}
use Rattle.px_server.proofs.OpenBatches.{stamp_in, stamps_set}
use Rattle.px_server.proofs.Seen.{one_more, stays}
use Rattle.px_server.proofs.Ticketed.{batch_is, own_table, right_there, tallied_there, there}
use Rattle.px_server.proofs.Wrote.{wrote_goes, wrote_shows, wrote_to}

-- what a group owes, where one batch of it goes on
pub owed_on : (g g' : Group) (m : ℕ) (x x' : Begun) → IsBatchStep g g' m x x' → owed g' + owed_by x ≡ owed g + owed_by x'
owed_on g g' m x x' s = (let
    one = sum_by-set owed_by g.batches.items m x' x (within g.batches.items m x s.batch)
    in let
    was : owed_by (get_or g.batches.items m x) ≡ owed_by x = ap owed_by (got g.batches.items m x x s.batch)
    in let
    now : sum_by owed_by g'.batches.items ≡ sum_by owed_by (set g.batches.items m x') = ap (λ xs. sum_by owed_by xs) s.batches
    in let
    points : length g'.points.items ≡ length g.points.items = ap (λ p. length p.items) s.points
    in omega (arith, one, was, now, points))

-- the batch of the trail is this seat's
pub seat_of_batch : (es : List Entry) (t s seat : ℕ) (x : Batch) → batch_of t s es ≡ Some x → x.seat ≡ seat → IsOfSeat es t s seat
seat_of_batch es t s seat x is mine y there = ap (λ (z : Batch). z.seat) (same_batch (sym there ∙ is)) ∙ mine

-- a batch stays its seat's
step_seat : (v : Bool) (x z y : Batch) → z.seat ≡ x.seat → (if v then Some z else Some x) ≡ Some y → y.seat ≡ x.seat
step_seat true x z y same is = (let e : z ≡ y = cc in ap (λ (q : Batch). q.seat) (sym e) ∙ same)
step_seat false x z y same is = (let e : x ≡ y = cc in ap (λ (q : Batch). q.seat) (sym e))

seat_then : (es : List Entry) (t : TableId) (s seat calls : ℕ) (rows : List (List Value)) → IsBatchIn es seat t.0 s InWriting → IsOfSeat (es ++ record { seat = seat; calls = calls; act = Wrote t s rows } ∷ []) t.0 s seat
unfolding batch_step
seat_then es t s seat calls rows mine y there =
    step_seat ((t.0 == t.0) && (s == s)) mine.batch (record mine.batch { written = mine.batch.written ++ rows }) y refl
    (sym (batch_of-snoc t.0 s es (record { seat = seat; calls = calls; act = Wrote t s rows }) ∙ ap (λ (o : Option Batch). batch_step t.0 s o seat (Wrote t s rows)) mine.is) ∙ there)
    ∙ mine.mine

module _ {D : Type 0} (d : Ghosts D) (tells_left : (x : D) (moment file : ℕ) (bytes : List ℕ) → d.left x moment file bytes → IsTrue d.tells)
    (up_to_now : (x : D) (moment file : ℕ) (bytes : List ℕ) → d.left x moment file bytes → moment ≤ d.calls x) (b : Base) (sound premise : Type 0) (began : Beginning)
    (disk : D) (catalog : Catalog) (standing : Standing) (groups : List Group) (trail : Recorded) (late : Option Entry) (closed : Option ℕ) (k : IsKept d b sound premise began disk catalog standing groups trail late closed)
    (running : closed ≡ None) (place : ℕ) (g g' : Group) (l : place < length groups) (is : get_or groups place g ≡ g) (disk' : D) (m : ℕ) (phase : Phase) (o : HandsPuts d g g' disk disk' m phase) (free : IsUnblocked g m)
    (t : TableId) (s seat calls : ℕ) (own : g.table.id ≡ t) (stamp : o.batch.batch.stamp ≡ s) (mine : IsBatchIn trail.entries seat t.0 s InWriting) (rows : List (List Value)) (rows_are : rows ≡ rows_of o.batch.batch.changes) (at : calls ≡ d.calls disk') where
  abbrev es : List Entry
  es = trail.entries

  abbrev e : Entry
  e = record { seat = seat; calls = calls; act = Wrote t s rows }

  pub right_here : IsRightGroup g
  right_here = all_at IsRightGroup groups place g l is (k.each.right running)

  tallied_here : HasTallied b es g
  tallied_here = all_at (HasTallied b es) groups place g l is (k.each.tallied running)

  abbrev x : Begun
  x = o.batch

  own_seat : IsOfSeat es g.table.id.0 x.batch.stamp seat
  own_seat = subst (λ (u : TableId). IsOfSeat es u.0 x.batch.stamp seat) (sym own) (subst (λ (n : ℕ). IsOfSeat es t.0 n seat) (sym stamp) (seat_of_batch es t.0 s seat mine.batch mine.is mine.mine))

  -- the rows may be written
  pub may_write : IsWritable es seat t.0 s rows
  may_write =
      subst (λ (u : TableId). IsWritable es seat u.0 s rows) own
      (subst (λ (n : ℕ). IsWritable es seat g.table.id.0 n rows) stamp
      (subst (λ (r : List (List Value)). IsWritable es seat g.table.id.0 x.batch.stamp r) (sym rows_are)
      (writable b es g tallied_here.held tallied_here.tallied m right_here (record { batch = x; is = o.step.step.batch; phase_is = o.writing }) k.told.legal free seat own_seat)))

  may : MayCome b es e
  unfolding Follows
  may = record {
    follows = may_write;
    shut = λ not. k.told.closing ∙ running;
    calls = (let n = newest_early (d.calls disk) 0 es (omega arith) k.server.early in let c = o.writes.counts.later in omega (arith, n, c, at));
  }

  act : e.act ≡ Wrote g.table.id x.batch.stamp (rows_of x.batch.changes)
  act = λ i. Wrote (sym own i) (sym stamp i) (rows_are i)

  apart : (id : TableId) → id.0 ≢ number_in g → IsApartFrom id e.act
  apart id other same = other (sym same ∙ ap (λ (u : TableId). u.0) (sym own))

  of : IsOfTable b es (number_in g) e
  unfolding catalogue_step
  of = record { may = may; still = λ c. refl; apart = apart; unshut = refl; own = tt }

  points_then : HasPoints (es ++ e ∷ []) g'
  unfolding points_step
  points_then q u = (let
      was : HasPoints es g = all_at (HasPoints es) groups place g l is k.each.points
      in let
      same : (id : TableId) → open_points q id.0 u (es ++ e ∷ []) ≡ open_points q id.0 u es = λ id. points-snoc q id.0 u es e
      in same g'.table.id ∙ (ap (λ (y : Table). open_points q y.id.0 u es) o.step.step.table ∙ (was q u ∙ ap (λ p. points_in q u p.items) (sym o.step.step.points))))

  -- a call failed: the entry is late
  pub write_late : (shut : Entry) (call : ℕ) → IsShutAt shut call → call ≡ d.calls disk' → Rose d disk disk' → phase ≡ Writing → (trail' : Recorded) → trail'.entries ≡ es ++ shut ∷ [] → trail'.room + 1 ≡ trail.room
      → IsKept d b sound premise began disk' catalog standing (slice_set groups place g') trail' (Some e) (Some call)
  write_late shut call shut-is shut_at rose still trail' entries room =
      rows_late d tells_left up_to_now b sound premise began disk catalog standing groups trail late closed k running place g g' l is disk' o.region o.cells (wrote_to d g g' disk disk' m phase o) o.writes
      shut call shut-is shut_at rose (λ traced. traced_puts d g g' disk disk' m es traced phase o) (ap (map stamp_in) o.step.step.batches ∙ stamps_set g.batches.items m x _ o.step.step.batch refl) e refl at of (wrote_goes d b es g g' disk disk' m phase o e may act) trail' entries
      (let
      one = owed_on g g' m x _ o.step.step
      in let
      was : owed_by x ≡ 3 = ap steps_of o.writing
      in let
      now : steps_of phase ≡ 3 = ap steps_of still
      in omega (arith, one, was, now, room))

module _ {D : Type 0} (d : Ghosts D) (tells_left : (x : D) (moment file : ℕ) (bytes : List ℕ) → d.left x moment file bytes → IsTrue d.tells)
    (up_to_now : (x : D) (moment file : ℕ) (bytes : List ℕ) → d.left x moment file bytes → moment ≤ d.calls x) (b : Base) (sound premise : Type 0) (began : Beginning)
    (disk : D) (catalog : Catalog) (standing : Standing) (groups : List Group) (trail : Recorded) (late : Option Entry) (closed : Option ℕ) (k : IsKept d b sound premise began disk catalog standing groups trail late closed)
    (running : closed ≡ None) (place : ℕ) (g g' : Group) (l : place < length groups) (is : get_or groups place g ≡ g) (disk' : D) (m : ℕ) (w : WrotePuts d g g' disk disk' m) (free : IsUnblocked g m)
    (t : TableId) (s seat calls : ℕ) (own : g.table.id ≡ t) (stamp : w.hands.batch.batch.stamp ≡ s) (mine : IsBatchIn trail.entries seat t.0 s InWriting) (rows : List (List Value)) (rows_are : rows ≡ rows_of w.hands.batch.batch.changes) (at : calls ≡ d.calls disk') where
  abbrev es2 : List Entry
  es2 = trail.entries

  abbrev e2 : Entry
  e2 = record { seat = seat; calls = calls; act = Wrote t s rows }

  abbrev may2 : MayCome b es2 e2
  may2 = may d tells_left up_to_now b sound premise began disk catalog standing groups trail late closed k running place g g' l is disk' m Verifying w.hands free t s seat calls own stamp mine rows rows_are at

  abbrev act2 : e2.act ≡ Wrote g.table.id w.hands.batch.batch.stamp (rows_of w.hands.batch.batch.changes)
  act2 = act d tells_left up_to_now b sound premise began disk catalog standing groups trail late closed k running place g g' l is disk' m Verifying w.hands free t s seat calls own stamp mine rows rows_are at

  right2 : IsRightGroup g
  right2 = all_at IsRightGroup groups place g l is (k.each.right running)

  tallied_then : (hs : List HeldBatch) → IsTallied b es2 g hs → IsTallied b (es2 ++ e2 ∷ []) g' (held_wrote (own_of m hs).stamp (rows_of w.hands.batch.batch.changes) hs)
  tallied_then hs a = tallied_wrote b es2 e2 g g' hs right2 a m d disk disk' w (act2 ∙ ap (λ (n : ℕ). Wrote g.table.id n (rows_of w.hands.batch.batch.changes)) (sym (stamp_is b es2 g hs a m w.hands.batch w.hands.step.step.batch)))

  -- all calls succeeded
  pub write_told : (trail' : Recorded) → trail'.entries ≡ es2 ++ e2 ∷ [] → trail'.room + 1 ≡ trail.room → IsKept d b sound premise began disk' catalog standing (slice_set groups place g') trail' late closed
  write_told trail' entries room =
      rows_told d tells_left up_to_now b sound premise began disk catalog standing groups trail late closed k running place g g' l is disk' w.hands.region w.hands.cells (wrote_to d g g' disk disk' m Verifying w.hands) w.hands.writes
      w.written w.hands.writes.horizon (right_puts d g g' disk disk' m right2 w) e2 refl at (of d tells_left up_to_now b sound premise began disk catalog standing groups trail late closed k running place g g' l is disk' m Verifying w.hands free t s seat calls own stamp mine rows rows_are at) refl
      (λ hs. held_wrote (own_of m hs).stamp (rows_of w.hands.batch.batch.changes) hs) tallied_then
      (points_then d tells_left up_to_now b sound premise began disk catalog standing groups trail late closed k running place g g' l is disk' m Verifying w.hands free t s seat calls own stamp mine rows rows_are at)
      (wrote_shows d b es2 g g' disk disk' m right2 w e2 may2 act2) trail' entries
      (let
      one = owed_on g g' m w.hands.batch _ w.hands.step.step
      in let
      was : owed_by w.hands.batch ≡ 3 = ap steps_of w.hands.writing
      in omega (arith, one, was, room))

  -- the batch is to verify then
  pub verifies_then : IsBatchIn (es2 ++ e2 ∷ []) seat t.0 s InVerifying
  verifies_then = (let
      a = all_at (HasTallied b es2) groups place g l is (k.each.tallied running)
      in let
      after = tallied_then a.held a.tallied
      in let
      x' : Begun = record w.hands.batch { phase = Verifying; batch = record w.hands.batch.batch { puts = None }; rows = None }
      in let
      there : slice_get g'.batches.items m ≡ Some x' = ap (λ (ms : List Begun). slice_get ms m) w.hands.step.step.batches ∙ set_here g.batches.items m w.hands.batch x' w.hands.step.step.batch
      in let
      is_in = in_phase b (es2 ++ e2 ∷ []) g' (held_wrote (own_of m a.held).stamp (rows_of w.hands.batch.batch.changes) a.held) after m Verifying (record { batch = x'; is = there; phase_is = refl }) seat
      (subst (λ (u : TableId). IsOfSeat (es2 ++ e2 ∷ []) u.0 w.hands.batch.batch.stamp seat) (sym (ap (λ (y : Table). y.id) w.hands.step.step.table ∙ own)) (subst (λ (n : ℕ). IsOfSeat (es2 ++ e2 ∷ []) t.0 n seat) (sym stamp) (seat_then es2 t s seat calls rows mine)))
      in subst (λ (u : TableId). IsBatchIn (es2 ++ e2 ∷ []) seat u.0 s InVerifying) (ap (λ (y : Table). y.id) w.hands.step.step.table ∙ own) (subst (λ (n : ℕ). IsBatchIn (es2 ++ e2 ∷ []) seat g'.table.id.0 n InVerifying) stamp is_in))

-- ---- what the call answers

module _ (k : Known) (legal : IsLegal k.base k.seen) (t : Ticket) where
  pub did_write : (es' : List Entry) (calls : ℕ) (rows : List (List Value)) → es' ≡ k.seen ++ record { seat = k.seat; calls = calls; act = Wrote t.table t.stamp rows } ∷ [] → IsLegal k.base es' → IsBatchIn es' k.seat t.table.0 t.stamp InVerifying → DidWrite k (record k { seen = es' }) t AllWritten
  did_write es' calls rows after legal' next = record { rows = rows; adds = one_more k es' calls (Wrote t.table t.stamp rows) legal after legal'; next = next }

  pub not_yet : closing_call k.seen ≡ None → (earlier : ℕ) → WaitsFor k.seen t.table.0 t.stamp earlier → Refuses (rows_cause t.table.0 t.stamp) k k (NotYet earlier)
  not_yet open_ earlier w = (
    record { smaller = w.smaller; own = w.own; own_is = w.own_is; batch = w.batch; is = w.is; row = w.row; to_write = w.to_write; pending = w.pending },
    stays k legal,
    open_,
  )

  pub write_failed : (es' : List Entry) (calls call : ℕ) → es' ≡ k.seen ++ record { seat = k.seat; calls = calls; act = Shut call } ∷ [] → IsLegal k.base es' → Refuses (rows_cause t.table.0 t.stamp) k (record k { seen = es' }) WriteFault
  write_failed es' calls call after legal' = (tt, (call, one_more k es' calls (Shut call) legal after legal'))

-- ---- the ticket's batch, where the server has it

module _ {D : Type 0} (d : Ghosts D) (tells_left : (x : D) (moment file : ℕ) (bytes : List ℕ) → d.left x moment file bytes → IsTrue d.tells)
    (up_to_now : (x : D) (moment file : ℕ) (bytes : List ℕ) → d.left x moment file bytes → moment ≤ d.calls x) (b : Base) (sound premise : Type 0) (began : Beginning) (disk : D) (catalog : Catalog) (standing : Standing) (groups : List Group) (trail : Recorded) (late : Option Entry) (closed : Option ℕ)
    (k : IsKept d b sound premise began disk catalog standing groups trail late closed) (t : Ticket) (seat : ℕ) (mine : IsBatchIn trail.entries seat t.table.0 t.stamp InWriting) (running : closed ≡ None) (place : ℕ) (found : place < length standing.tables)
    (numbered : (none : Table) → (get_or standing.tables place none).id ≡ t.table) (g : Group) (read : g ≡ get_or groups place g) (m : ℕ) (l : m < length g.batches.items) (stamp : (x : Begun) → slice_get g.batches.items m ≡ Some x → x.batch.stamp ≡ t.stamp) where
  open_ : mine.batch.ended ≡ false
  open_ = (in_writing mine.batch mine.phase).0

  pub writing_there : StandsInPhase g m Writing
  writing_there = batch_is d b sound premise began disk catalog standing groups trail late closed k t seat Writing mine open_ running place found numbered g read m l stamp

  -- where it is blocked it waits for the other
  pub blocked_waits : (earlier : ℕ) → IsBlocked g m earlier → WaitsFor trail.entries t.table.0 t.stamp earlier
  blocked_waits earlier blocked = (let
      a = tallied_there d b sound premise began disk catalog standing groups trail late closed k t seat Writing mine open_ running place found numbered g read
      in let
      w = waits b trail.entries g a.held a.tallied m (right_there d b sound premise began disk catalog standing groups trail late closed k t seat Writing mine open_ running place found numbered g read) writing_there earlier blocked
      in subst (λ (u : TableId). WaitsFor trail.entries u.0 t.stamp earlier) (own_table d b sound premise began disk catalog standing groups trail late closed k t seat Writing mine open_ running place found numbered g read)
      (subst (λ (n : ℕ). WaitsFor trail.entries g.table.id.0 n earlier) (stamp writing_there.batch writing_there.is) w))

  inside : place < length groups
  inside = there d b sound premise began disk catalog standing groups trail late closed k t seat Writing mine open_ running place found numbered g read

  own_is : g.table.id ≡ t.table
  own_is = own_table d b sound premise began disk catalog standing groups trail late closed k t seat Writing mine open_ running place found numbered g read

  rows_same : (rows : List (List Value)) → TakesRows g m rows → (x : Begun) → slice_get g.batches.items m ≡ Some x → rows ≡ rows_of x.batch.changes
  rows_same rows r x at = r.rows_are ∙ ap (λ (z : Begun). rows_of z.batch.changes) (same_at g.batches.items m r.batch x r.is at)

  abbrev entry : ℕ → List (List Value) → Entry
  entry calls rows = record { seat = seat; calls = calls; act = Wrote t.table t.stamp rows }

  module _ (g' : Group) (disk' : D) (free : IsUnblocked g m) (rows : List (List Value)) (takes : TakesRows g m rows) (calls : ℕ) (at : calls ≡ d.calls disk') where
    -- its rows are written
    pub wrote_kept : WrotePuts d g g' disk disk' m → (trail' : Recorded) → trail'.entries ≡ trail.entries ++ entry calls rows ∷ [] → trail'.room + 1 ≡ trail.room → IsKept d b sound premise began disk' catalog standing (slice_set groups place g') trail' late closed
    wrote_kept w trail' entries room =
        write_told d tells_left up_to_now b sound premise began disk catalog standing groups trail late closed k running place g g' inside (sym read) disk' m w free t.table t.stamp seat calls own_is (stamp w.hands.batch w.hands.step.step.batch) mine
        rows (rows_same rows takes w.hands.batch w.hands.step.step.batch) at trail' entries room

    pub wrote_in : WrotePuts d g g' disk disk' m → IsBatchIn (trail.entries ++ entry calls rows ∷ []) seat t.table.0 t.stamp InVerifying
    wrote_in w =
        verifies_then d tells_left up_to_now b sound premise began disk catalog standing groups trail late closed k running place g g' inside (sym read) disk' m w free t.table t.stamp seat calls own_is (stamp w.hands.batch w.hands.step.step.batch) mine
        rows (rows_same rows takes w.hands.batch w.hands.step.step.batch) at

    -- or a call failed
    pub unwritten_kept : HandsPuts d g g' disk disk' m Writing → Rose d disk disk' → (trail' : Recorded) → trail'.entries ≡ trail.entries ++ record { seat = seat; calls = calls; act = Shut calls } ∷ [] → trail'.room + 1 ≡ trail.room
        → IsKept d b sound premise began disk' catalog standing (slice_set groups place g') trail' (Some (entry calls rows)) (Some calls)
    unwritten_kept o rose trail' entries room =
        write_late d tells_left up_to_now b sound premise began disk catalog standing groups trail late closed k running place g g' inside (sym read) disk' m Writing o free t.table t.stamp seat calls own_is (stamp o.batch o.step.step.batch) mine
        rows (rows_same rows takes o.batch o.step.step.batch) at (record { seat = seat; calls = calls; act = Shut calls }) calls refl at rose refl trail' entries room
