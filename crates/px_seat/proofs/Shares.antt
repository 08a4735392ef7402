-- Each call of a single owner, and the same call of a seat at the lock.
use Rattle.std.proofs.Common.{ℕ, ◌≡◌, true, false, Option, None, Some, List, inl, inr}
use Rattle.px_values.specs.declared.change.Change.{Change}
use Rattle.px_values.specs.declared.limit.Limit.{Limit as Bound}
use Rattle.px_values.specs.declared.limit.Limit.TheVariants as bound
use Rattle.px_values.specs.declared.name.IndexId.{IndexId}
use Rattle.px_values.specs.declared.name.TableId.{TableId}
use Rattle.px_tables.specs.declared.found.Found.{Found}
use Rattle.px_tables.specs.declared.index.NewIndex.{NewIndex}
use Rattle.px_tables.specs.declared.table.NewTable.{NewTable}
use Rattle.px_trail.specs.Batches.{Batch, BatchPhase, Marking, Writing, Verifying, Closing}
use Rattle.px_trail.specs.declared.entry.Act.TheVariants.{Based, Begun, Fixed, Opened, Phase, Raised, Wrote}
use Rattle.px_calls.specs.declared.definition.Definition.{Definition}
use Rattle.px_calls.specs.declared.definition.Definition.TheVariants as d
use Rattle.px_calls.specs.declared.definition.Made.{Made}
use Rattle.px_calls.specs.declared.fault.StepFault.TheVariants.{Limit, NotYet, ReadFault, WriteFault, Memory}
use Rattle.px_calls.specs.declared.query.BaseRow.{BaseRow}
use Rattle.px_calls.specs.declared.query.Chunk.{Chunk}
use Rattle.px_calls.specs.declared.query.Doubt.{Doubt}
use Rattle.px_calls.specs.declared.query.Fixing.{Fixing}
use Rattle.px_calls.specs.declared.query.Fixing.TheVariants as fixing
use Rattle.px_calls.specs.declared.query.Held.{Held}
use Rattle.px_calls.specs.declared.query.Path.{Path}
use Rattle.px_calls.specs.declared.query.Point.{Point}
use Rattle.px_calls.specs.declared.status.Status.{Status}
use Rattle.px_calls.specs.declared.status.Work.{Work}
use Rattle.px_calls.specs.declared.status.Work.TheVariants as work
use Rattle.px_calls.specs.declared.ticket.Marks.{Marks}
use Rattle.px_calls.specs.declared.ticket.Marks.TheVariants as marks
use Rattle.px_calls.specs.declared.ticket.Receipt.{Receipt}
use Rattle.px_calls.specs.declared.ticket.Ticket.{Ticket}
use Rattle.px_calls.specs.declared.ticket.Verifies.{Verifies}
use Rattle.px_calls.specs.declared.ticket.Verifies.TheVariants as verifies
use Rattle.px_calls.specs.declared.ticket.Writes.{Writes}
use Rattle.px_calls.specs.declared.ticket.Writes.TheVariants as writes
use Rattle.px_calls.specs.Known.{Known, TimePasses}
use Rattle.px_calls.specs.Requires.{CanAbandon, CanEnd, base_owners}
use Rattle.px_calls.specs.Causes.{base_cause, batch_limit, begin_cause, define_cause, find_cause, fix_cause, new_index_cause, new_table_cause, open_cause, order_cause, read_cause, rebuilding_cause, rows_cause, status_cause, upkeep_cause, write_cause}
use Rattle.px_calls.specs.Calls.{Consulted, DidBase, DidBegin, DidConsult, DidCount, DidDefine, DidFind, DidFix, DidLook, DidMark, DidOpen, DidVerify, DidWork, DidWrite, IsFinished, IsReceipt, WroteRows, act_of}
use Rattle.px_calls.proofs.Runs.{passes-shut, passes-ticket}
use Rattle.px_seat.specs.Grown.{Grew, shared}
use Rattle.px_seat.proofs.Grows.{adds-grew, finds-grew, adds-shared, finds-shared, IsShared}

-- 1. What was so before others' entries is so after them

pub passes-can_end : (k a : Known) (t : Ticket) → TimePasses k a → CanEnd k t → CanEnd a t
passes-can_end k a t h (inl i) = inl (passes-ticket k a t Closing h i)
passes-can_end k a t h (inr i) = inr (passes-shut k a h i.0, passes-ticket k a t Verifying h i.1)

pub passes-can_abandon : (k a : Known) (t : Ticket) → TimePasses k a → CanAbandon k t → CanAbandon a t
passes-can_abandon k a t h (s, inl i) = (passes-shut k a h s, inl (passes-ticket k a t Marking h i))
passes-can_abandon k a t h (s, inr i) = (passes-shut k a h s, inr (passes-ticket k a t Writing h i))

-- 2. Causes

pub find_shared : (name : List ℕ) → IsShared (find_cause name)
find_shared name Memory k h = h
find_shared name f k h = h

table_shared : (what : NewTable) (which : Bound) (count : ℕ) (k : Known) → new_table_cause what (Limit which count) k → new_table_cause what (Limit which count) (shared k)
table_shared what bound.Tables count k h = h
table_shared what which count k h = h

index_shared : (what : NewIndex) (which : Bound) (count : ℕ) (k : Known) → new_index_cause what (Limit which count) k → new_index_cause what (Limit which count) (shared k)
index_shared what bound.Indexes count k h = h
index_shared what bound.Stamps count k h = h
index_shared what bound.Ids count k h = h
index_shared what which count k h = h

again_shared : (t i : ℕ) (which : Bound) (count : ℕ) (k : Known) → rebuilding_cause t i (Limit which count) k → rebuilding_cause t i (Limit which count) (shared k)
again_shared t i bound.Stamps count k h = h
again_shared t i bound.Ids count k h = h
again_shared t i which count k h = h

pub define_shared : (x : Definition) → IsShared (define_cause x)
define_shared (d.Table what) (Limit which count) k h = table_shared what which count k h
define_shared (d.Table what) f k h = h
define_shared (d.Index what) (Limit which count) k h = index_shared what which count k h
define_shared (d.Index what) f k h = h
define_shared (d.Active t i) Memory k h = h
define_shared (d.Active t i) f k h = h
define_shared (d.Disabled t i) Memory k h = h
define_shared (d.Disabled t i) f k h = h
define_shared (d.Rebuilding t i) (Limit which count) k h = again_shared t.0 i.0 which count k h
define_shared (d.Rebuilding t i) f k h = h
define_shared (d.DropTable t) Memory k h = h
define_shared (d.DropTable t) f k h = h
define_shared (d.DropIndex t i) Memory k h = h
define_shared (d.DropIndex t i) f k h = h

limit_shared : (sound : Type 0) (t : ℕ) (cs : List Change) (which : Bound) (k : Known) → batch_limit sound t cs which k → batch_limit sound t cs which (shared k)
limit_shared sound t cs bound.Key k h = h
limit_shared sound t cs bound.Cells k h = h
limit_shared sound t cs bound.Bytes k h = h
limit_shared sound t cs which k h = h

pub begin_shared : (sound : Type 0) (t : ℕ) (cs : List Change) → IsShared (begin_cause sound t cs)
begin_shared sound t cs (Limit which count) k h = (h.0, h.1, limit_shared sound t cs which k h.2)
begin_shared sound t cs f k h = h

pub write_shared : IsShared write_cause
write_shared WriteFault k h = h
write_shared f k h = h

pub rows_shared : (t s : ℕ) → IsShared (rows_cause t s)
rows_shared t s (NotYet e) k h = record { smaller = h.smaller; own = h.own; own_is = h.own_is; batch = h.batch; is = h.is; row = h.row; to_write = h.to_write; pending = h.pending }
rows_shared t s f k h = h

pub open_shared : (t : ℕ) (scn : Option ℕ) → IsShared (open_cause t scn)
open_shared t None Memory k h = h
open_shared t None f k h = h
open_shared t (Some scn) (NotYet s) k h = (h.0, h.1, record { below = h.2.below; batch = h.2.batch; is = h.2.is; left = h.2.left })
open_shared t (Some scn) f k h = h

pub read_shared : (sound : Type 0) → IsShared (read_cause sound)
read_shared sound ReadFault k h = h
read_shared sound f k h = h

pub fix_shared : (sound : Type 0) → IsShared (fix_cause sound)
fix_shared sound ReadFault k h = h
fix_shared sound f k h = h

pub base_shared : IsShared base_cause
base_shared WriteFault k h = h
base_shared f k h = h

pub upkeep_shared : (sound : Type 0) → IsShared (upkeep_cause sound)
upkeep_shared sound ReadFault k h = h
upkeep_shared sound f k h = h

pub order_shared : IsShared order_cause
order_shared ReadFault k h = h
order_shared f k h = h

pub status_shared : (sound : Type 0) (t : ℕ) → IsShared (status_cause sound t)
status_shared sound t ReadFault k h = h
status_shared sound t f k h = h

-- 3. Answers

pub find-shared : (k a c : Known) (name : List ℕ) (f : Found) → k.alone ≡ false → TimePasses k a → DidFind a c name f → DidFind k (shared c) name f
find-shared k a c name f apart h j = record { finds = finds-shared k a c apart h j.finds; name_is = j.name_is; found = j.found }

pub define-shared : (k a c : Known) (x : Definition) (m : Made) → k.alone ≡ false → TimePasses k a → DidDefine a c x m → DidDefine k (shared c) x m
define-shared k a c x m apart h j = record { adds = adds-shared k a c (act_of x m) apart h j.adds; made = j.made; at = j.at }

pub begin-shared : (sound : Type 0) (k a c : Known) (t : TableId) (cs : List Change) (x : Ticket) → k.alone ≡ false → TimePasses k a → DidBegin sound a c t cs x → DidBegin sound k (shared c) t cs x
begin-shared sound k a c t cs x apart h j = record {
  table = j.table;
  adds = adds-shared k a c (Begun t x.stamp cs) apart h j.adds;
  stamp = j.stamp;
  trail = j.trail;
  short = j.short;
  few = j.few;
  light = j.light;
}

pub mark-grew : (k k' : Known) (t : Ticket) (m : Marks) → k.alone ≡ true → DidMark k k' t m → Grew k k'
mark-grew k k' t marks.More alone h = finds-grew k k' alone h
mark-grew k k' t marks.AllMarked alone h = adds-grew k k' (Phase t.table t.stamp 1) alone h

pub mark-shared : (k a c : Known) (t : Ticket) (m : Marks) → k.alone ≡ false → TimePasses k a → DidMark a c t m → DidMark k (shared c) t m
mark-shared k a c t marks.More apart h j = finds-shared k a c apart h j
mark-shared k a c t marks.AllMarked apart h j = adds-shared k a c (Phase t.table t.stamp 1) apart h j

pub write-grew : (k k' : Known) (t : Ticket) (w : Writes) → k.alone ≡ true → DidWrite k k' t w → Grew k k'
write-grew k k' t writes.More alone h = adds-grew k k' (Wrote t.table t.stamp h.rows) alone h.adds
write-grew k k' t writes.AllWritten alone h = adds-grew k k' (Wrote t.table t.stamp h.rows) alone h.adds

wrote-shared : (k a c : Known) (t : Ticket) (p : BatchPhase) → k.alone ≡ false → TimePasses k a → WroteRows a c t p → WroteRows k (shared c) t p
wrote-shared k a c t p apart h j = record { rows = j.rows; adds = adds-shared k a c (Wrote t.table t.stamp j.rows) apart h j.adds; next = j.next }

pub write-shared : (k a c : Known) (t : Ticket) (w : Writes) → k.alone ≡ false → TimePasses k a → DidWrite a c t w → DidWrite k (shared c) t w
write-shared k a c t writes.More apart h j = wrote-shared k a c t Writing apart h j
write-shared k a c t writes.AllWritten apart h j = wrote-shared k a c t Verifying apart h j

pub verify-grew : (k k' : Known) (t : Ticket) (v : Verifies) → k.alone ≡ true → DidVerify k k' t v → Grew k k'
verify-grew k k' t verifies.More alone h = finds-grew k k' alone h
verify-grew k k' t verifies.Done alone h = adds-grew k k' (Phase t.table t.stamp 3) alone h

pub verify-shared : (k a c : Known) (t : Ticket) (v : Verifies) → k.alone ≡ false → TimePasses k a → DidVerify a c t v → DidVerify k (shared c) t v
verify-shared k a c t verifies.More apart h j = finds-shared k a c apart h j
verify-shared k a c t verifies.Done apart h j = adds-shared k a c (Phase t.table t.stamp 3) apart h j

finished-shared : (o : Option ℕ) (b : Batch) (k : Known) → IsFinished o b k → IsFinished o b (shared k)
finished-shared None b k h = h
finished-shared (Some call) b k h = h

pub receipt-shared : (k : Known) (t : Ticket) (r : Receipt) → IsReceipt k t r → IsReceipt (shared k) t r
receipt-shared k t r h = record {
  table = h.table;
  stamp = h.stamp;
  at = h.at;
  batch = h.batch;
  is = h.is;
  rows = h.rows;
  once = h.once;
  concurrent = h.concurrent;
  finished = finished-shared r.unfinished h.batch k h.finished;
}

pub open-shared : (k a c : Known) (t : TableId) (scn : Option ℕ) (p : Point) → k.alone ≡ false → TimePasses k a → DidOpen a c t scn p → DidOpen k (shared c) t scn p
open-shared k a c t scn p apart h j = record {
  table = j.table;
  is_scn = j.is_scn;
  stamp = j.stamp;
  adds = adds-shared k a c (Opened t p.stamp p.scn) apart h j.adds;
  found = j.found;
  found_table = j.found_table;
}

pub look-shared : (sound : Type 0) (k a c : Known) (p : Point) (path : Path) (after : Option (List ℕ)) (x : Chunk) → k.alone ≡ false → TimePasses k a → DidLook sound a c p path after x → DidLook sound k (shared c) p path after x
look-shared sound k a c p path after x apart h j = record { finds = finds-shared k a c apart h j.finds; shows = j.shows; rows = j.rows; at = j.at }

held-shared : (k : Known) (p : Point) (d : Doubt) (o : Option Held) → Consulted k p d o → Consulted (shared k) p d o
held-shared k p d None h = h
held-shared k p d (Some x) h = record { row = h.row; key = h.key; only = h.only; at = h.at }

pub consult-shared : (sound : Type 0) (k a c : Known) (p : Point) (d d' : Doubt) (o : Option Held) → k.alone ≡ false → TimePasses k a → DidConsult sound a c p d d' o → DidConsult sound k (shared c) p d d' o
consult-shared sound k a c p d d' o apart h j = record {
  finds = finds-shared k a c apart h j.finds;
  index = j.index;
  key = j.key;
  stamp = j.stamp;
  verdict = j.verdict;
  leave = j.leave;
  held = λ is_sound. held-shared c p d o (j.held is_sound);
}

pub fix-grew : (k k' : Known) (d : Doubt) (x : Fixing) → k.alone ≡ true → DidFix k k' d x → Grew k k'
fix-grew k k' d fixing.Fixed alone h = adds-grew k k' (Fixed d.index d.key) alone h.0
fix-grew k k' d fixing.Gone alone h = finds-grew k k' alone h
fix-grew k k' d fixing.InFlight alone h = finds-grew k k' alone h.0

pub fix-shared : (k a c : Known) (d : Doubt) (x : Fixing) → k.alone ≡ false → TimePasses k a → DidFix a c d x → DidFix k (shared c) d x
fix-shared k a c d fixing.Fixed apart h j = (adds-shared k a c (Fixed d.index d.key) apart h j.0, j.1)
fix-shared k a c d fixing.Gone apart h j = finds-shared k a c apart h j
fix-shared k a c d fixing.InFlight apart h j = (finds-shared k a c apart h j.0, j.1)

pub base-shared : (k a c : Known) (p : Point) (i : IndexId) (xs : List BaseRow) (at : ℕ) → k.alone ≡ false → TimePasses k a → DidBase a c p i xs at → DidBase k (shared c) p i xs at
base-shared k a c p i xs at apart h j = record { table = j.table; table_is = j.table_is; adds = adds-shared k a c (Based i (base_owners j.table xs)) apart h j.adds; at_is = j.at_is }

pub work-grew : (k k' : Known) (w : Work) → k.alone ≡ true → DidWork k k' w → Grew k k'
work-grew k k' work.Did alone (inl h) = finds-grew k k' alone h
work-grew k k' work.Did alone (inr h) = adds-grew k k' (Raised h.0 h.1) alone h.2
work-grew k k' work.Idle alone h = finds-grew k k' alone h

pub work-shared : (k a c : Known) (w : Work) → k.alone ≡ false → TimePasses k a → DidWork a c w → DidWork k (shared c) w
work-shared k a c work.Did apart h (inl j) = inl (finds-shared k a c apart h j)
work-shared k a c work.Did apart h (inr j) = inr (j.0, j.1, adds-shared k a c (Raised j.0 j.1) apart h j.2)
work-shared k a c work.Idle apart h j = finds-shared k a c apart h j

pub count-shared : (k a c : Known) (t : TableId) (s : Status) → k.alone ≡ false → TimePasses k a → DidCount a c t s → DidCount k (shared c) t s
count-shared k a c t s apart h j = record { finds = finds-shared k a c apart h j.finds; last = j.last; horizon = j.horizon; each = j.each; rising = j.rising; all = j.all }
