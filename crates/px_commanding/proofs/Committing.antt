-- A commit goes on.
use Rattle.std.proofs.Common.{ℕ, ◌≡◌, ◌≢◌, ◌≤◌, ◌<◌, Some, Result, Ok, Err, List, [], ◌∷◌, ◌++◌, length, Vec, refl, sym, ◌∙◌, ap, subst, ◌⊎◌, inl, inr}
use Rattle.std.specs.Global.{Global}
use Rattle.std.specs.List.{AllByRecursion}
use Rattle.px_values.specs.declared.change.Change.{Change}
use Rattle.px_values.specs.declared.name.TableId.{TableId}
use Rattle.px_tables.specs.declared.found.Found.{Found}
use Rattle.px_tables.specs.declared.table.Table.{Table}
use Rattle.px_trail.specs.declared.entry.Act.{Act}
use Rattle.px_trail.specs.Trail.{catalogue_of, table_of}
use Rattle.px_held.specs.HeldData.{HeldData}
use Rattle.px_calls.specs.declared.fault.StepFault.{StepFault}
use Rattle.px_calls.specs.declared.fault.StepFault.TheVariants as step
use Rattle.px_calls.specs.declared.ticket.Receipt.{Receipt}
use Rattle.px_calls.specs.Calls.{DidFind, IsFound}
use Rattle.px_calls.specs.Causes.{Refuses, find_cause}
use Rattle.px_calls.specs.Known.{Known, Sees, TimePasses, outline}
use Rattle.px_calls.specs.Requires.{AreFitting, IsChangeOf}
use Rattle.px_calls.proofs.Runs.{ran-sees}
use Rattle.px_batch.specs.Turns as batch
use Rattle.px_batch.specs.declared.batch.BatchFault.{BatchFault}
use Rattle.px_batch.specs.declared.batch.BatchFault.TheVariants as fault
use Rattle.px_batch.specs.declared.batch.BatchState.{BatchState}
use Rattle.px_batch.specs.declared.batch.BatchState.TheVariants.{Beginning}
use Rattle.px_batch.specs.declared.batch.BatchTurn.TheVariants as bt
use Rattle.px_batch.specs.declared.run.BatchRun.{BatchRun}
use Rattle.px_batch.proofs.Turning.{fits-kept as batch-kept, grown}
use Rattle.px_commanding.specs.declared.commit.CommitRun.{CommitRun}
use Rattle.px_commanding.specs.declared.commit.CommitRun.TheVariants as run
use Rattle.px_commanding.specs.declared.commit.CommitTurn.TheVariants as turn
use Rattle.px_commanding.specs.Commits.{CommitFaultIs, CommitTurns, FitsCommit, HasRoomForOne, IsBegun, IsEnded, IsGone, unfound}

pub fits-kept : (sound : Type 0) (h : HeldData) (r : CommitRun) (k k' : Known) → TimePasses k k' → FitsCommit sound h r k → FitsCommit sound h r k'
fits-kept sound h run.Finding k k' p f = tt
fits-kept sound h (run.Changing r room) k k' p f = (f.0, f.1, batch-kept sound r.table r.changes r.state k k' p f.2, f.3, f.4)

some_same : (x y : Table) → Some x ≡ Some y → x ≡ y
some_same x y h = cc

-- what is held fits the table that was found
all-fitting : (k : Known) (f : Found) (t : TableId) (cs : List Change) → IsFound k.base k.seen f → f.table.id ≡ t → AllByRecursion (IsChangeOf f.table) cs → AreFitting k t.0 cs
all-fitting k f t cs found same fits =
    let F : TableId → Type 0 = λ u. (u.0 < (catalogue_of k.base k.seen).next) × ((x : Table) → table_of k.base k.seen u.0 ≡ Some x → AllByRecursion (IsChangeOf x) cs) in
    let all = subst F same (found.drawn, λ x is. subst (λ (z : Table). AllByRecursion (IsChangeOf z) cs) (some_same f.table x (sym found.table ∙ is)) fits) in
    record { drawn = all.0; each = all.1 }

module _ (sound : Type 0) (h : HeldData) where
  -- 1. The table is found

  pub found-begun : (k k' : Known) (f : Found) (r : CommitRun) → DidFind k k' h.name f → IsBegun h f.table (Ok r) → CommitTurns sound h run.Finding k k' (turn.Stepped r)
  found-begun k k' f run.Finding did b = absurd b
  found-begun k k' f (run.Changing r room) did b =
      let ran = ran-sees k k' did.finds.sees in
      let F : TableId × List Change × BatchState → Type 0 = λ q. batch.FitsBatch sound q.0 q.1 q.2 k' × batch.IsBatchGoing q.2 × ([] ≡ batch.begun_by_batch q.0 q.1 q.2) × ((n : ℕ) → n ≤ length k'.seen → batch.IsBatchSince n q.2 k') in
      let new = subst F (λ i. (sym b.1 i, sym b.2 i, sym b.3 i)) (all-fitting k' f h.table h.changes did.found b.0 b.4, tt, refl, λ n low. low) in
      record { acts = []; ran = ran; told = ((b.1, b.2, new.0, new.1, b.5), new.2); since = λ n low. new.3 n (grown k k' [] n ran low) }

  pub found-refused : (k k' : Known) (f : Found) (e : BatchFault) → DidFind k k' h.name f → IsBegun h f.table (Err e) → CommitTurns sound h run.Finding k k' (turn.Over (Err e))
  found-refused k k' f fault.NoTable did b = record { acts = []; ran = ran-sees k k' did.finds.sees; told = (inr (inr (f, did.found, did.name_is, b)), inl refl); since = λ n low. tt }
  found-refused k k' f fault.Memory did b = record { acts = []; ran = ran-sees k k' did.finds.sees; told = (tt, inl refl); since = λ n low. tt }
  found-refused k k' f (fault.Limit which count) did b = absurd b
  found-refused k k' f fault.ReadFault did b = absurd b
  found-refused k k' f fault.WriteFault did b = absurd b
  found-refused k k' f (fault.Damaged file place) did b = absurd b
  found-refused k k' f (fault.Closed call) did b = absurd b

  -- 2. It is not

  quietly : (k k' : Known) (e : BatchFault) → CommitFaultIs sound h e k' → ((n : ℕ) → batch.BatchFaultSince n e k') → Sees k k' → CommitTurns sound h run.Finding k k' (turn.Over (Err e))
  quietly k k' e is since sees = record { acts = []; ran = ran-sees k k' sees; told = (is, inl refl); since = λ n low. since n }

  pub not-found : (k k' : Known) (f : StepFault) → Refuses (find_cause h.name) k k' f → CommitTurns sound h run.Finding k k' (turn.Over (Err (unfound f)))
  not-found k k' step.NoTable r = quietly k k' fault.NoTable (inl r.0) (λ n. tt) r.1
  not-found k k' (step.Closed call) r = quietly k k' (fault.Closed call) r.0 (λ n. tt) r.1
  not-found k k' step.Memory r = quietly k k' fault.Memory tt (λ n. tt) r.1
  not-found k k' step.ReadFault r = absurd r.0
  not-found k k' step.WriteFault r = absurd r.0
  not-found k k' step.NameExists r = absurd r.0
  not-found k k' step.NoIndex r = absurd r.0
  not-found k k' (step.Limit which count) r = absurd r.0
  not-found k k' (step.Busy region cells bytes) r = absurd r.0
  not-found k k' (step.NotReady region) r = absurd r.0
  not-found k k' (step.InUse count) r = absurd r.0
  not-found k k' (step.NotYet stamp) r = absurd r.0
  not-found k k' (step.BelowHorizon horizon) r = absurd r.0
  not-found k k' (step.Damaged file place) r = absurd r.0

  -- 3. The batch goes on, and is over

  stays : (old new : BatchRun) (room : Vec Receipt Global) (k k' : Known) (acts : List Act) → FitsCommit sound h (run.Changing old room) k → new.table ≡ old.table → new.changes ≡ old.changes → batch.FitsBatch sound old.table old.changes new.state k' → batch.IsBatchGoing new.state
      → batch.begun_by_batch old.table old.changes old.state ++ outline acts ≡ batch.begun_by_batch old.table old.changes new.state
      → FitsCommit sound h (run.Changing new room) k' × (batch.begun_by_batch old.table old.changes old.state ++ outline acts ≡ batch.begun_by_batch new.table new.changes new.state)
  stays old new room k k' acts f table changes fits going sum =
      let F : TableId × List Change → Type 0 = λ q. batch.FitsBatch sound q.0 q.1 new.state k' × (batch.begun_by_batch old.table old.changes old.state ++ outline acts ≡ batch.begun_by_batch q.0 q.1 new.state) in
      let now = subst F (λ i. (sym table i, sym changes i)) (fits, sum) in
      ((table ∙ f.0, changes ∙ f.1, now.0, going, f.4), now.1)

  pub goes-on : (old new : BatchRun) (room : Vec Receipt Global) (k k' : Known) → FitsCommit sound h (run.Changing old room) k → new.table ≡ old.table → new.changes ≡ old.changes → batch.BatchTurns sound old.table old.changes old.state k new.state k' bt.Stepped
      → CommitTurns sound h (run.Changing old room) k k' (turn.Stepped (run.Changing new room))
  goes-on old new room k k' f table changes t = record { acts = t.acts; ran = t.ran; told = stays old new room k k' t.acts f table changes t.fits t.told.0 t.told.1; since = λ n low. t.since n low }

  pub waits : (old new : BatchRun) (room : Vec Receipt Global) (k k' : Known) (stamp : ℕ) → FitsCommit sound h (run.Changing old room) k → new.table ≡ old.table → new.changes ≡ old.changes → batch.BatchTurns sound old.table old.changes old.state k new.state k' (bt.Waiting stamp)
      → CommitTurns sound h (run.Changing old room) k k' (turn.Waiting (run.Changing new room))
  waits old new room k k' stamp f table changes t = record { acts = t.acts; ran = t.ran; told = stays old new room k k' t.acts f table changes t.fits t.told.0 t.told.1; since = λ n low. t.since n low }

  fault-is : (e : BatchFault) (k : Known) → batch.BatchFaultIs sound h.table h.changes e k → CommitFaultIs sound h e k
  fault-is fault.NoTable k is = inr (inl is)
  fault-is (fault.Limit which count) k is = is
  fault-is fault.ReadFault k is = is
  fault-is fault.WriteFault k is = is
  fault-is (fault.Damaged file place) k is = is
  fault-is (fault.Closed call) k is = is
  fault-is fault.Memory k is = is

  pub is-over : (old new : BatchRun) (room : Vec Receipt Global) (k k' : Known) (r : Result Receipt BatchFault) (out : Result (Vec Receipt Global) BatchFault) → FitsCommit sound h (run.Changing old room) k → batch.BatchTurns sound old.table old.changes old.state k new.state k' (bt.Over r)
      → IsEnded r out → CommitTurns sound h (run.Changing old room) k k' (turn.Over out)
  is-over old new room k k' (Ok r) (Ok rs) f t e =
      let F : TableId × List Change → Type 0 = λ q. batch.HasEndedBatch sound q.0 q.1 (batch.begun_by_batch old.table old.changes old.state ++ outline t.acts) k' r in
      record { acts = t.acts; ran = t.ran; told = (r, e, subst F (λ i. (f.0 i, f.1 i)) t.told.1); since = λ n low. tt }
  is-over old new room k k' (Ok r) (Err g) f t e = absurd e
  is-over old new room k k' (Err x) (Ok rs) f t e = absurd e
  is-over old new room k k' (Err x) (Err g) f t e =
      let F : TableId × List Change → Type 0 = λ q. batch.BatchFaultIs sound q.0 q.1 x k' × batch.HasLeft q.0 q.1 x (batch.begun_by_batch old.table old.changes old.state ++ outline t.acts) k' in
      let left = subst F (λ i. (f.0 i, f.1 i)) t.told.1 in
      let over : CommitTurns sound h (run.Changing old room) k k' (turn.Over (Err x)) = record { acts = t.acts; ran = t.ran; told = (fault-is x k' left.0, left.1); since = λ n low. t.since n low } in
      subst (λ (y : BatchFault). CommitTurns sound h (run.Changing old room) k k' (turn.Over (Err y))) (sym e) over
