-- What is told of the trail alone doesn't depend on whether others act.
use Rattle.std.proofs.Common.{ℕ, ◌≡◌, ◌∙◌, ◌++◌, Bool, true, false, Option, None, Some, Result, Ok, Err, List, [], Vec, refl, sym, ap, subst, inl, inr}
use Rattle.std.specs.Global.{Global}
use Rattle.px_lex.specs.Script.{SeenPiece}
use Rattle.px_item.specs.declared.answered.Settings.{Settings}
use Rattle.std.proofs.lemmas.List.{append-nil}
use Rattle.px_values.specs.declared.change.Change.{Change}
use Rattle.px_values.specs.declared.limit.Limit.{Limit}
use Rattle.px_values.specs.declared.limit.Limit.TheVariants as bound
use Rattle.px_values.specs.declared.name.IndexId.{IndexId}
use Rattle.px_values.specs.declared.name.TableId.{TableId}
use Rattle.px_tables.specs.declared.index.NewIndex.{NewIndex}
use Rattle.px_tables.specs.declared.table.NewTable.{NewTable}
use Rattle.px_trail.specs.declared.entry.Act.{Act}
use Rattle.px_trail.specs.declared.entry.Entry.{Entry}
use Rattle.px_trail.specs.Trail.{acts_by}
use Rattle.px_trail.specs.Batches.{Batch}
use Rattle.px_calls.specs.declared.definition.Definition.{Definition}
use Rattle.px_calls.specs.declared.definition.Definition.TheVariants as d
use Rattle.px_calls.specs.declared.definition.Made.{Made}
use Rattle.px_calls.specs.declared.fault.StepFault.{StepFault}
use Rattle.px_calls.specs.declared.fault.StepFault.TheVariants as step
use Rattle.px_calls.specs.declared.ticket.Receipt.{Receipt}
use Rattle.px_calls.specs.Calls.{IsFinished}
use Rattle.px_calls.specs.Causes.{batch_limit, definition_cause, new_index_cause, new_table_cause, rebuilding_cause}
use Rattle.px_calls.specs.Known.{Known, outline}
use Rattle.px_batch.specs.Turns as batch
use Rattle.px_batch.specs.declared.batch.BatchFault.{BatchFault}
use Rattle.px_batch.specs.declared.batch.BatchFault.TheVariants as unmade
use Rattle.px_defining.specs.Turns as define
use Rattle.px_defining.specs.declared.define.DefineFault.{DefineFault}
use Rattle.px_defining.specs.declared.define.DefineFault.TheVariants as undone
use Rattle.px_upkeep.specs.Turns as building
use Rattle.px_upkeep.specs.declared.build.BuildFault.{BuildFault}
use Rattle.px_gather.specs.Query.{Query}
use Rattle.px_planned.specs.Queries.{query_of}
use Rattle.px_planned.specs.declared.planned.Planned.{Planned}
use Rattle.px_scan.specs.Faults.{IsJoined, QueryEndSince, QueryFaultIs, QueryFaultSince}
use Rattle.px_scan.specs.declared.answer.QueryFault.{QueryFault}
use Rattle.px_scan.specs.declared.answer.QueryFault.TheVariants as unread
use Rattle.px_select.specs.Selecting.{IsSelectOutcome}
use Rattle.px_select.specs.declared.run.Selected.{Selected}
use Rattle.px_deleting.specs.Deleting as deleting
use Rattle.px_deleting.specs.declared.deleted.Removed.{Removed}
use Rattle.px_deleting.proofs.Past.{Later, all-later, found-later, since-later}
use Rattle.px_commanding.specs.Commits as commits
use Rattle.px_commanding.specs.Counts as counts
use Rattle.px_commanding.specs.declared.count.CountFault.{CountFault}
use Rattle.px_commanding.specs.declared.count.CountFault.TheVariants as uncounted
use Rattle.px_commanding.specs.Orders as orders
use Rattle.px_commanding.specs.declared.order.OrderFault.{OrderFault}
use Rattle.px_commanding.specs.declared.order.OrderFault.TheVariants as undone_by
use Rattle.px_held.specs.HeldData.{HeldData}
use Rattle.px_calls.specs.declared.status.Status.{Status}
use Rattle.px_item.specs.Builds.{IsBuiltBehind}
use Rattle.px_item.specs.Right.{AsksToCommit, plain}

limit_plain : (sound : Type 0) (t : ℕ) (cs : List Change) (which : Limit) (k : Known) → batch_limit sound t cs which k → batch_limit sound t cs which (plain k)
limit_plain sound t cs bound.Key k h = h
limit_plain sound t cs bound.Cells k h = h
limit_plain sound t cs bound.Bytes k h = h
limit_plain sound t cs bound.Stamps k h = h
limit_plain sound t cs bound.Trail k h = h
limit_plain sound t cs bound.Log k h = h
limit_plain sound t cs bound.Region k h = h
limit_plain sound t cs which k h = h

pub batch_plain : (sound : Type 0) (t : TableId) (cs : List Change) (f : BatchFault) (k : Known) → batch.BatchFaultIs sound t cs f k → batch.BatchFaultIs sound t cs f (plain k)
batch_plain sound t cs unmade.NoTable k h = h
batch_plain sound t cs (unmade.Limit which count) k h = (h.0, h.1, limit_plain sound t.0 cs which k h.2)
batch_plain sound t cs unmade.ReadFault k h = h
batch_plain sound t cs unmade.WriteFault k h = h
batch_plain sound t cs (unmade.Damaged file place) k h = h
batch_plain sound t cs (unmade.Closed call) k h = h
batch_plain sound t cs unmade.Memory k h = h

pub batch_since_plain : (n : ℕ) (f : BatchFault) (k : Known) → batch.BatchFaultSince n f k → batch.BatchFaultSince n f (plain k)
batch_since_plain n unmade.ReadFault k h = h
batch_since_plain n unmade.WriteFault k h = h
batch_since_plain n f k h = h

finished_plain : (u : Option ℕ) (b : Batch) (k : Known) → IsFinished u b k → IsFinished u b (plain k)
finished_plain None b k h = h
finished_plain (Some call) b k h = h

pub ended_plain : (sound : Type 0) (t : TableId) (cs : List Change) (own : List Act) (k : Known) (r : Receipt) → batch.HasEndedBatch sound t cs own k r → batch.HasEndedBatch sound t cs own (plain k) r
ended_plain sound t cs own k r h =
    let i = h.receipt in
    record {
      one = h.one;
      receipt = record { table = i.table; stamp = i.stamp; at = i.at; batch = i.batch; is = i.is; rows = i.rows; once = i.once; concurrent = i.concurrent; finished = finished_plain r.unfinished i.batch k i.finished };
      kept = h.kept;
    }

table_plain : (what : NewTable) (f : StepFault) (k : Known) → new_table_cause what f k → new_table_cause what f (plain k)
table_plain what step.NameExists k h = h
table_plain what (step.Limit bound.Tables count) k h = h
table_plain what (step.Limit bound.Ids count) k h = h
table_plain what (step.Limit which count) k h = h
table_plain what (step.NotReady region) k h = h
table_plain what f k h = h

index_plain : (what : NewIndex) (f : StepFault) (k : Known) → new_index_cause what f k → new_index_cause what f (plain k)
index_plain what step.NameExists k h = h
index_plain what step.NoTable k h = h
index_plain what (step.Limit bound.Indexes count) k h = h
index_plain what (step.Limit bound.Stamps count) k h = h
index_plain what (step.Limit bound.Ids count) k h = h
index_plain what (step.Limit which count) k h = h
index_plain what (step.NotReady region) k h = h
index_plain what f k h = h

again_plain : (t i : ℕ) (f : StepFault) (k : Known) → rebuilding_cause t i f k → rebuilding_cause t i f (plain k)
again_plain t i step.NoTable k h = h
again_plain t i step.NoIndex k h = h
again_plain t i (step.Limit bound.Stamps count) k h = h
again_plain t i (step.Limit bound.Ids count) k h = h
again_plain t i (step.Limit which count) k h = h
again_plain t i (step.InUse count) k h = h
again_plain t i (step.NotReady region) k h = h
again_plain t i f k h = h

cause_plain : (x : Definition) (f : StepFault) (k : Known) → definition_cause x f k → definition_cause x f (plain k)
cause_plain (d.Table what) f k h = table_plain what f k h
cause_plain (d.Index what) f k h = index_plain what f k h
cause_plain (d.Active t i) step.NoTable k h = h
cause_plain (d.Active t i) step.NoIndex k h = h
cause_plain (d.Active t i) (step.NotReady region) k h = h
cause_plain (d.Active t i) f k h = h
cause_plain (d.Disabled t i) step.NoTable k h = h
cause_plain (d.Disabled t i) step.NoIndex k h = h
cause_plain (d.Disabled t i) (step.InUse count) k h = h
cause_plain (d.Disabled t i) (step.NotReady region) k h = h
cause_plain (d.Disabled t i) f k h = h
cause_plain (d.Rebuilding t i) f k h = again_plain t.0 i.0 f k h
cause_plain (d.DropTable t) step.NoTable k h = h
cause_plain (d.DropTable t) (step.InUse count) k h = h
cause_plain (d.DropTable t) (step.NotReady region) k h = h
cause_plain (d.DropTable t) f k h = h
cause_plain (d.DropIndex t i) step.NoTable k h = h
cause_plain (d.DropIndex t i) step.NoIndex k h = h
cause_plain (d.DropIndex t i) (step.InUse count) k h = h
cause_plain (d.DropIndex t i) (step.NotReady region) k h = h
cause_plain (d.DropIndex t i) f k h = h

pub define_plain : (sound : Type 0) (x : Definition) (f : DefineFault) (k : Known) → define.DefinitionFaultIs sound x f k → define.DefinitionFaultIs sound x f (plain k)
define_plain sound x undone.NameExists k h = cause_plain x step.NameExists k h
define_plain sound x undone.NoTable k h = cause_plain x step.NoTable k h
define_plain sound x undone.NoIndex k h = cause_plain x step.NoIndex k h
define_plain sound x (undone.Limit which count) k h = cause_plain x (step.Limit which count) k h
define_plain sound x undone.ReadFault k h = h
define_plain sound x undone.WriteFault k h = h
define_plain sound x (undone.Damaged file place) k h = h
define_plain sound x (undone.Closed call) k h = h
define_plain sound x undone.Memory k h = h

pub define_since_plain : (n : ℕ) (f : DefineFault) (k : Known) → define.DefinitionFaultSince n f k → define.DefinitionFaultSince n f (plain k)
define_since_plain n undone.ReadFault k h = h
define_since_plain n undone.WriteFault k h = h
define_since_plain n f k h = h

pub defined_plain : (x : Definition) (own : List Act) (k : Known) (m : Made) → define.HasDefined x own k m → define.HasDefined x own (plain k) m
defined_plain x own k m h = record { one = h.one; made = h.made; at = h.at }

pub past_plain : (was k : Known) → building.IsPast was k → building.IsPast was (plain k)
past_plain was k h = record { more = h.more; seen = h.seen; seat = h.seat; base = h.base; damaged = h.damaged }

abbrev pub built_plain : (sound : Type 0) (n : ℕ) (t : TableId) (i : IndexId) (own : List Act) (k : Known) (m : Made) → building.IsBuildOutcome sound n t i own k (Ok m) → building.IsBuildOutcome sound n t i own (plain k) (Ok m)
built_plain sound n t i own k m h =
    let w = h.0 in
    (record { was = w.was; past = past_plain w.was k w.past; from = w.from; index = w.index; is = w.is; owner = w.owner; state = w.state; birth = w.birth; number = w.number; at = w.at }, h.1)

pub unbuilt_plain : (sound : Type 0) (n : ℕ) (t : TableId) (i : IndexId) (own : List Act) (k : Known) (f : BuildFault) → building.IsBuildOutcome sound n t i own k (Err f) → building.IsBuildOutcome sound n t i own (plain k) (Err f)
unbuilt_plain sound n t i own k f h = (record { was = h.0.was; past = past_plain h.0.was k h.0.past; from = h.0.from; cause = h.0.cause; since = h.0.since }, h.1)

pub behind_plain : (n : ℕ) (e : Definition) (m : Made) (own rest : List Act) (k : Known) → IsBuiltBehind n e m own rest k → IsBuiltBehind n e m own rest (plain k)
behind_plain n e m own rest k h = record { one = h.one; made = h.made; from = h.from; within = h.within }

joined_plain : (n : ℕ) (q : Query) (scn : Option ℕ) (k : Known) → IsJoined n q scn k → IsJoined n q scn (plain k)
joined_plain n q scn k j = record { point = j.point; from = j.from; is_point = j.is_point; joins = j.joins }

query_plain : (sound : Type 0) (q : Query) (scn : Option ℕ) (f : QueryFault) (k : Known) → QueryFaultIs sound q scn f k → QueryFaultIs sound q scn f (plain k)
query_plain sound q None unread.NoTable k h = h
query_plain sound q (Some n) unread.NoTable k h = h
query_plain sound q None (unread.BelowHorizon b) k h = absurd h
query_plain sound q (Some n) (unread.BelowHorizon b) k h = h
query_plain sound q None unread.IndexJoin k h = joined_plain 0 q None k h
query_plain sound q (Some n) unread.IndexJoin k h = joined_plain 0 q (Some n) k h
query_plain sound q None unread.ReadFault k h = h
query_plain sound q (Some n) unread.ReadFault k h = h
query_plain sound q None unread.WriteFault k h = h
query_plain sound q (Some n) unread.WriteFault k h = h
query_plain sound q None (unread.Damaged file place) k h = h
query_plain sound q (Some n) (unread.Damaged file place) k h = h
query_plain sound q None (unread.Closed call) k h = h
query_plain sound q (Some n) (unread.Closed call) k h = h
query_plain sound q None unread.Memory k h = h
query_plain sound q (Some n) unread.Memory k h = h

pub query_since_plain : (n : ℕ) (f : QueryFault) (k : Known) → QueryFaultSince n f k → QueryFaultSince n f (plain k)
query_since_plain n unread.ReadFault k h = h
query_since_plain n unread.WriteFault k h = h
query_since_plain n f k h = h

pub query_end_plain : (n : ℕ) (q : Query) (scn : Option ℕ) (f : QueryFault) (k : Known) → QueryEndSince n q scn f k → QueryEndSince n q scn f (plain k)
query_end_plain n q scn unread.IndexJoin k h = joined_plain n q scn k h
query_end_plain n q scn unread.ReadFault k h = h
query_end_plain n q scn unread.WriteFault k h = h
query_end_plain n q scn f k h = h

pub outcome_plain : (sound : Type 0) (p : Planned) (scn : Option ℕ) (own : List Act) (k : Known) (r : Result Selected QueryFault) → IsSelectOutcome sound p scn own k r → IsSelectOutcome sound p scn own (plain k) r
outcome_plain sound p scn own k (Ok a) h = (record { point = h.0.point; is_point = h.0.is_point; at = h.0.at; path = h.0.path; chosen = h.0.chosen; taken = h.0.taken; answer = h.0.answer }, h.1, h.2, h.3)
outcome_plain sound p scn own k (Err f) h = (query_plain sound (query_of p) scn f k h.0, h.1)

later_plain : (k : Known) → Later k (plain k)
later_plain k = record { more = []; seen = sym (append-nil k.seen); base = refl; seat = refl }

pub found_plain : (sound : Type 0) (p : Planned) (k : Known) (first : ℕ) (acts : List Act) (cs : List Change) → deleting.HasFoundRows sound p k first acts cs → deleting.HasFoundRows sound p (plain k) first acts cs
found_plain sound p k first acts cs h = found-later sound p k (plain k) first acts cs (later_plain k) h

since_plain : (sound : Type 0) (p : Planned) (k : Known) (first : ℕ) (acts : List Act) (cs : List Change) (f : deleting.HasFoundRows sound p k first acts cs) → (found-later sound p k (plain k) first acts cs (later_plain k) f).was.more ≡ f.was.more
unfolding later_plain
since_plain sound p k first acts cs f = since-later sound p k (plain k) first acts cs (later_plain k) f ∙ append-nil f.was.more

did_plain : (sound : Type 0) (p : Planned) (k : Known) (first : ℕ) (found : List Act) (cs : List Change) (acts : List Act) (f : deleting.HasFoundRows sound p k first found cs) → outline (acts_by k.seat f.was.more) ≡ acts
    → outline (acts_by k.seat (found-later sound p k (plain k) first found cs (later_plain k) f).was.more) ≡ acts
did_plain sound p k first found cs acts f h = ap (λ (l : List Entry). outline (acts_by k.seat l)) (since_plain sound p k first found cs f) ∙ h

pub removed_plain : (sound : Type 0) (p : Planned) (own : List Act) (k : Known) (rs : List Receipt) (m : Removed) → deleting.HasRemoved sound p own k rs m → deleting.HasRemoved sound p own (plain k) rs m
removed_plain sound p own k rs m h =
    let now = later_plain k in
    record {
      changes = h.changes;
      parts = h.parts;
      finding = h.finding;
      making = h.making;
      found = found-later sound p k (plain k) m.first h.finding h.changes now h.found;
      made = all-later sound k (plain k) p.table.id h.parts rs h.making now h.made;
      split = h.split;
      rows = h.rows;
      own_is = h.own_is;
      found_first = did_plain sound p k m.first h.finding h.changes h.making h.found h.found_first;
    }

pub stopped_plain : (sound : Type 0) (p : Planned) (own : List Act) (k : Known) (rs told : List Receipt) (f : BatchFault) → told ≡ rs → deleting.HasStopped sound p own k rs f → deleting.HasStopped sound p own (plain k) told f
stopped_plain sound p own k rs told f e h =
    let now = later_plain k in
    record {
      changes = h.changes;
      parts = h.parts;
      rest = h.rest;
      first = h.first;
      finding = h.finding;
      making = h.making;
      stopping = h.stopping;
      found = found-later sound p k (plain k) h.first h.finding h.changes now h.found;
      made = subst (λ (l : List Receipt). deleting.AreMade sound (plain k) p.table.id h.parts l h.making) (sym e) (all-later sound k (plain k) p.table.id h.parts rs h.making now h.made);
      split = h.split;
      some = h.some;
      outcome = (batch_plain sound p.table.id (Rattle.std.specs.Prelude.take 1000 h.rest) f k h.outcome.0, h.outcome.1);
      own_is = h.own_is;
      found_first = did_plain sound p k h.first h.finding h.changes (h.making ++ h.stopping) h.found h.found_first;
    }

pub stopped_first : (sound : Type 0) (p : Planned) (own : List Act) (k : Known) (rs told : List Receipt) (f : BatchFault) (e : told ≡ rs) (h : deleting.HasStopped sound p own k rs f) → (stopped_plain sound p own k rs told f e h).first ≡ h.first
unfolding stopped_plain
stopped_first sound p own k rs told f e h = refl

commit_plain : (sound : Type 0) (h : HeldData) (f : BatchFault) (k : Known) → commits.CommitFaultIs sound h f k → commits.CommitFaultIs sound h f (plain k)
commit_plain sound h unmade.NoTable k i = i
commit_plain sound h (unmade.Limit which count) k i = (i.0, i.1, limit_plain sound h.table.0 h.changes which k i.2)
commit_plain sound h unmade.ReadFault k i = i
commit_plain sound h unmade.WriteFault k i = i
commit_plain sound h (unmade.Damaged file place) k i = i
commit_plain sound h (unmade.Closed call) k i = i
commit_plain sound h unmade.Memory k i = i

pub committed_plain : (sound : Type 0) (h : HeldData) (own : List Act) (k : Known) (r : Result (Vec Receipt Global) BatchFault) → commits.IsCommitOutcome sound h own k r → commits.IsCommitOutcome sound h own (plain k) r
committed_plain sound h own k (Ok rs) o = (o.0, o.1, ended_plain sound h.table h.changes own k o.0 o.2)
committed_plain sound h own k (Err f) o = (commit_plain sound h f k o.0, o.1)

pub asks_plain : (k : Known) (first : ℕ) (st : Settings) (p : SeenPiece) (h : HeldData) (again : Bool) → AsksToCommit k first st p h again → AsksToCommit (plain k) first st p h again
asks_plain k first st p h true (inl a) = inl a
asks_plain k first st p h true (inr m) = inr (record { statement = m.statement; found = m.found; read = m.read; free = m.free; holds = m.holds; bound = m.bound; right = m.right; other = m.other })
asks_plain k first st p h false a = a

was_found_plain : (n : ℕ) (name : List ℕ) (t : TableId) (k : Known) → counts.WasTableFound n name t k → counts.WasTableFound n name t (plain k)
was_found_plain n name t k w = record { place = w.place; from = w.from; within = w.within; found = w.found; is = w.is; named = w.named; number = w.number }

uncounted_plain : (sound : Type 0) (n : ℕ) (name : List ℕ) (f : CountFault) (k : Known) → counts.CountFaultIs sound n name f k → counts.CountFaultIs sound n name f (plain k)
uncounted_plain sound n name uncounted.NoTable k (inl i) = inl i
uncounted_plain sound n name uncounted.NoTable k (inr i) = inr (i.0, was_found_plain n name i.0 k i.1, i.2)
uncounted_plain sound n name uncounted.ReadFault k i = i
uncounted_plain sound n name (uncounted.Damaged file place) k i = i
uncounted_plain sound n name (uncounted.Closed call) k i = i
uncounted_plain sound n name uncounted.Memory k i = i

pub counted_plain : (sound : Type 0) (n : ℕ) (name : List ℕ) (k : Known) (r : Result Status CountFault) → counts.IsCountOutcome sound n name k r → counts.IsCountOutcome sound n name (plain k) r
counted_plain sound n name k (Ok x) o = (o.0, was_found_plain n name o.0 k o.1, record { last = o.2.last; horizon = o.2.horizon; each = o.2.each; rising = o.2.rising; all = o.2.all })
counted_plain sound n name k (Err f) o = uncounted_plain sound n name f k o

pub count_since_plain : (n : ℕ) (f : CountFault) (k : Known) → counts.CountFaultSince n f k → counts.CountFaultSince n f (plain k)
count_since_plain n uncounted.ReadFault k h = h
count_since_plain n f k h = h

pub undone_plain : (sound : Type 0) (f : OrderFault) (k : Known) → orders.OrderFaultIs sound f k → orders.OrderFaultIs sound f (plain k)
undone_plain sound undone_by.ReadFault k h = h
undone_plain sound undone_by.WriteFault k h = h
undone_plain sound (undone_by.Damaged file place) k h = h
undone_plain sound (undone_by.Closed call) k h = h
undone_plain sound undone_by.Memory k h = h

pub order_since_plain : (n : ℕ) (f : OrderFault) (k : Known) → orders.OrderFaultSince n f k → orders.OrderFaultSince n f (plain k)
order_since_plain n undone_by.ReadFault k h = h
order_since_plain n undone_by.WriteFault k h = h
order_since_plain n f k h = h
