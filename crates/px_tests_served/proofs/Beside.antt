-- What the entries of one batch leave of another's ticket.
use Rattle.std.proofs.Common.{ℕ, ◌≡◌, ◌≢◌, ◌==◌, ◌&&◌, if◌then◌else◌, Bool, true, false, List, refl, sym, subst, arith}
use Rattle.std.proofs.lemmas.Bool.Decides.{nat_tests}
use Rattle.px_values.specs.declared.change.Change.{Change}
use Rattle.px_values.specs.declared.name.TableId.{TableId}
use Rattle.px_values.specs.declared.row.Value.{Value}
use Rattle.px_trail.specs.declared.entry.Act.TheVariants.{Begun, Ended, Phase, Wrote}
use Rattle.px_trail.specs.Batches.{Verifying, batch_step}
use Rattle.px_calls.specs.declared.ticket.Marks.{Marks}
use Rattle.px_calls.specs.declared.ticket.Marks.TheVariants.{AllMarked}
use Rattle.px_calls.specs.declared.ticket.Ticket.{Ticket}
use Rattle.px_calls.specs.declared.ticket.Verifies.{Verifies}
use Rattle.px_calls.specs.declared.ticket.Verifies.TheVariants.{Done}
use Rattle.px_calls.specs.declared.ticket.Writes.{Writes}
use Rattle.px_calls.specs.declared.ticket.Writes.TheVariants.{AllWritten}
use Rattle.px_calls.specs.Known.{Known, Sees, Adds}
use Rattle.px_calls.specs.Calls.{DidBegin, DidMark, DidVerify, DidWrite, WroteRows}
use Rattle.px_calls.proofs.Runs.{adds-ticket, sees-ticket}
use Rattle.px_tests_served.specs.Beside.{LeavesAll, LeavesOthers}

if_no : {A : Type 0} (v : Bool) (a b : A) → v ≡ false → (if v then a else b) ≡ b
if_no true a b h = cc
if_no false a b h = refl

-- a test of table and stamp fails where the stamps differ
apart-test : (t t' s s' : ℕ) → s ≢ s' → ((t' == t) && (s' == s)) ≡ false
apart-test t t' s s' apart = grind (arith, nat_tests)

pub sees-all : (k k' : Known) → Sees k k' → LeavesAll k k'
sees-all k k' h = λ x phase was. sees-ticket k k' x phase h was

-- a batch that begins
pub begun-beside : (k k' : Known) (t : TableId) (s : ℕ) (cs : List Change) → Adds k k' (Begun t s cs) → LeavesAll k k'
unfolding batch_step
begun-beside k k' t s cs h = λ x phase was. adds-ticket k k' x phase (Begun t s cs) h (λ b seat. refl) was

pub begun-then : (sound : Type 0) (k k1 k2 : Known) (table : TableId) (cs : List Change) (t : Ticket) → Sees k k1 → DidBegin sound k1 k2 table cs t → LeavesAll k k2
begun-then sound k k1 k2 table cs t sees did = λ x phase was. begun-beside k1 k2 table t.stamp cs did.adds x phase (sees-ticket k k1 x phase sees was)

-- one that is marked or verified
pub phase-beside : (k k' : Known) (t : TableId) (s n : ℕ) → Adds k k' (Phase t s n) → LeavesOthers k k' s
unfolding batch_step
phase-beside k k' t s n h = λ x phase apart was. adds-ticket k k' x phase (Phase t s n) h (λ b seat. if_no _ _ _ (apart-test x.table.0 t.0 x.stamp s apart)) was

-- one of which rows are written
pub wrote-beside : (k k' : Known) (t : TableId) (s : ℕ) (rows : List (List Value)) → Adds k k' (Wrote t s rows) → LeavesOthers k k' s
unfolding batch_step
wrote-beside k k' t s rows h = λ x phase apart was. adds-ticket k k' x phase (Wrote t s rows) h (λ b seat. if_no _ _ _ (apart-test x.table.0 t.0 x.stamp s apart)) was

-- one that ends
pub ended-beside : (k k' : Known) (t : TableId) (s : ℕ) → Adds k k' (Ended t s) → LeavesOthers k k' s
unfolding batch_step
ended-beside k k' t s h = λ x phase apart was. adds-ticket k k' x phase (Ended t s) h (λ b seat. if_no _ _ _ (apart-test x.table.0 t.0 x.stamp s apart)) was

-- the same of the calls that answer so
pub marked-beside : (k k' : Known) (t t' : Ticket) (m : Marks) → t' ≡ t → m ≡ AllMarked → DidMark k k' t m → LeavesOthers k k' t'.stamp
marked-beside k k' t t' m same all did =
    let adds : Adds k k' (Phase t.table t.stamp 1) = subst (λ (x : Marks). DidMark k k' t x) all did in
    subst (λ (x : Ticket). LeavesOthers k k' x.stamp) (sym same) (phase-beside k k' t.table t.stamp 1 adds)

pub written-beside : (k k' : Known) (t t' : Ticket) (w : Writes) → t' ≡ t → w ≡ AllWritten → DidWrite k k' t w → LeavesOthers k k' t'.stamp
written-beside k k' t t' w same all did =
    let wrote : WroteRows k k' t Verifying = subst (λ (x : Writes). DidWrite k k' t x) all did in
    subst (λ (x : Ticket). LeavesOthers k k' x.stamp) (sym same) (wrote-beside k k' t.table t.stamp wrote.rows wrote.adds)

pub verified-beside : (k k' : Known) (t t' : Ticket) (v : Verifies) → t' ≡ t → v ≡ Done → DidVerify k k' t v → LeavesOthers k k' t'.stamp
verified-beside k k' t t' v same all did =
    let adds : Adds k k' (Phase t.table t.stamp 3) = subst (λ (x : Verifies). DidVerify k k' t x) all did in
    subst (λ (x : Ticket). LeavesOthers k k' x.stamp) (sym same) (phase-beside k k' t.table t.stamp 3 adds)
