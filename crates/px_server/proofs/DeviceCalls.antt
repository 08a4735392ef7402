-- The counts of the disk, as the server shows them.
use Rattle.std.proofs.Common.{◌≡◌, ◌<◌, ◌≤◌, ◌⊎◌, List, inl, inr, ℕ, Option, None, Some, Result, Ok, Err, IfErr, refl, sym, subst, ◌∙◌, arith}
use Rattle.px_outside.specs.Disk.{last_count}
use Rattle.px_outside.specs.OnDisk.{Passes, Rose}
use Rattle.px_outside.specs.declared.disk.Disk.{Ghosts}
use Rattle.px_outside.specs.declared.disk.Failed.{Failed}
use Rattle.px_values.specs.declared.change.Change.{Change}
use Rattle.px_values.specs.declared.name.IndexId.{IndexId}
use Rattle.px_values.specs.declared.name.TableId.{TableId}
use Rattle.px_tables.specs.declared.table.NewTable.{NewTable}
use Rattle.px_trail.specs.declared.entry.Entry.{Entry}
use Rattle.px_calls.specs.declared.fault.StepFault.{StepFault}
use Rattle.px_calls.specs.declared.fault.StepFault.TheVariants.{ReadFault, WriteFault}
use Rattle.px_calls.specs.declared.query.Fixing.{Fixing}
use Rattle.px_calls.specs.declared.query.Fixing.TheVariants as fixing
use Rattle.px_calls.specs.declared.ticket.Marks.{Marks}
use Rattle.px_calls.specs.declared.ticket.Marks.TheVariants as marks
use Rattle.px_calls.specs.declared.ticket.Verifies.{Verifies}
use Rattle.px_calls.specs.declared.ticket.Verifies.TheVariants as verifies
use Rattle.px_schema.specs.declared.standing.Standing.{Standing}
use Rattle.px_catalog.specs.declared.fault.CatalogFault.{CatalogFault}
use Rattle.px_catalog.specs.declared.fault.CatalogFault.TheVariants as catalog
use Rattle.px_group.specs.declared.group.Group.{Group}
use Rattle.px_calls.specs.declared.query.BaseRow.{BaseRow}
use Rattle.px_basing.specs.Basing.{Bases}
use Rattle.px_basing.specs.declared.fault.BaseFault.{BaseFault}
use Rattle.px_basing.specs.declared.fault.BaseFault.TheVariants as base
use Rattle.px_batching.specs.Steps.{Marked, Verified}
use Rattle.px_beginning.specs.declared.preparing.Prepared.{Prepared}
use Rattle.px_region.specs.OnlyRead.{HasOnlyRead}
use Rattle.px_region.specs.declared.fault.LookFault.{LookFault}
use Rattle.px_region.specs.declared.fault.LookFault.TheVariants as look
use Rattle.px_repairs.specs.Repairs.{Fixes, HasOnlyLooked}
use Rattle.px_repairs.specs.declared.repairing.RepairFault.{RepairFault}
use Rattle.px_repairs.specs.declared.repairing.RepairFault.TheVariants as repair
use Rattle.px_server.specs.Bases.{AnswersBase}
use Rattle.px_server.specs.Beginning.{IsUnbegun, unready_cause, untaken_cause}
use Rattle.px_server.specs.DeviceCalls.{Blames, HasFailedIn, MakesAtMost, MakesNoCall}
use Rattle.px_server.specs.Points.{IsNoPointOf}
use Rattle.px_server.specs.Repairs.{Answers, AddsNoEntry}
use Rattle.px_server.specs.Shown.{Shown}
use Rattle.px_server.specs.Upkeep.{SteppedTable, StepsTable}
use Rattle.px_server.specs.inner.Entering.{IsUnwritten}
use Rattle.px_server.specs.inner.Making.{IsUnmade}
use Rattle.px_server.specs.inner.Missing.{unread_fault}
use Rattle.px_server.specs.inner.Quiet.{IsUnquiet}

module _ {v v' w : Shown} (same : v ≡ w) where
  pub none_by : v'.calls ≡ v.calls → v'.faults ≡ v.faults → MakesNoCall w v'
  none_by calls faults = subst (λ (u : Shown). MakesNoCall u v') same (record { calls = calls; faults = faults })

  pub few_by : {most : ℕ} → v'.calls ≡ v.calls → v'.faults ≡ v.faults → MakesAtMost most w v'
  few_by {most} calls faults = subst (λ (u : Shown). MakesAtMost most u v') same (record { later = omega (arith, calls); at_most = omega (arith, calls); faults_later = omega (arith, faults) })

-- two steps, of which only the second makes calls
pub then_by : {u v w : Shown} {most : ℕ} → v ≡ u → MakesAtMost most v w → MakesAtMost most u w
then_by {u} {v} {w} {most} same made = subst (λ (x : Shown). MakesAtMost most x w) same made

module _ {D : Type 0} (d : Ghosts D) (old new : D) where
  pub made_by : {most : ℕ} {v v' w : Shown} → Passes d old new most → most ≤ 4 → v ≡ w → v.calls ≡ d.calls old → v.faults ≡ d.faults old → v'.calls ≡ d.calls new → v'.faults ≡ d.faults new → MakesAtMost 4 w v'
  made_by {most} {v} {v'} {w} passes few same calls faults calls' faults' = subst (λ (u : Shown). MakesAtMost 4 u v') same
      (record {
        later = (let l = passes.later in omega (arith, l, calls, calls'));
        at_most = (let l = passes.at_most in omega (arith, l, few, calls, calls'));
        faults_later = (let l = passes.faults_later in omega (arith, l, faults, faults'));
      })

  pub rose_by : {v w : Shown} → Rose d old new → v ≡ w → v.faults ≡ d.faults old → (w.faults < d.faults new) ⊎ ((last_count ≤ d.calls new) ⊎ (last_count ≤ d.faults new))
  rose_by {v} {w} (inl up) same faults = inl (subst (λ (u : Shown). u.faults < d.faults new) same (omega (arith, up, faults)))
  rose_by {v} {w} (inr last) same faults = inr last

-- ---- what the calls of the layers below make

module _ {D : Type 0} (d : Ghosts D) (disk disk' : D) where
  pub stood : disk' ≡ disk → Passes d disk disk' 4
  stood same = subst (λ (x : D). Passes d disk x 4) (sym same) (record { later = omega arith; at_most = omega arith; faults_later = omega arith; begun = refl })

  pub marked_passes : (g g' : Group) (m : ℕ) (r : Result Marks Failed) → Marked d g g' disk disk' m r → Passes d disk disk' 4
  marked_passes g g' m (Ok marks.More) w = w.0.hands.writes.counts
  marked_passes g g' m (Ok marks.AllMarked) w = elim w.before [
    | inl still ↦ stood still.1
    | inr wrote ↦ wrote.hands.writes.counts
  ]
  marked_passes g g' m (Err e) w = w.writes.counts

  pub verified_passes : (g g' : Group) (m : ℕ) (r : Result Verifies Failed) → Verified d g g' disk disk' m r → Passes d disk disk' 4
  verified_passes g g' m (Ok verifies.More) w = w.0.hands.writes.counts
  verified_passes g g' m (Ok verifies.Done) w = elim w.before [
    | inl still ↦ stood still.1
    | inr wrote ↦ wrote.hands.writes.counts
  ]
  verified_passes g g' m (Err e) w = w.writes.counts

  pub based_passes : {T : Type 0} (g g' : Group) (place : ℕ) (xs : List BaseRow) (r : Result T BaseFault) → Bases d g g' disk disk' place xs r → Passes d disk disk' 4
  based_passes g g' place xs (Ok done) w = w.wrote.hands.writes.counts
  based_passes g g' place xs (Err base.WriteFault) w = w.hands.writes.counts
  based_passes g g' place xs (Err (base.Busy region cells bytes)) w = stood w.untouched
  based_passes g g' place xs (Err (base.NotReady region)) w = stood w.untouched
  based_passes g g' place xs (Err base.Memory) w = stood w.untouched

  looked_passes : (g g' : Group) → HasOnlyLooked d g g' disk disk' → Passes d disk disk' 4
  looked_passes g g' w = (let c = w.reads.calls in let f = w.reads.faults in record { later = omega (arith, c); at_most = omega (arith, c); faults_later = omega (arith, f); begun = w.reads.first })

  -- reads, and then so many calls
  read_passes : (mid : D) → HasOnlyRead d disk mid → Passes d mid disk' 4 → Passes d disk disk' 4
  read_passes mid reads w = (let c = reads.calls in let f = reads.faults in let a = w.later in let b = w.at_most in let e = w.faults_later in record { later = omega (arith, a, c); at_most = omega (arith, b, c); faults_later = omega (arith, e, f); begun = w.begun ∙ reads.first })

  pub fixed_passes : (g g' : Group) (place : ℕ) (k : List ℕ) (s : ℕ) (r : Result Fixing RepairFault) → Fixes d g g' disk disk' place k s r → Passes d disk disk' 4
  fixed_passes g g' place k s (Ok fixing.Fixed) w = read_passes w.read w.reads w.wrote.wrote.hands.writes.counts
  fixed_passes g g' place k s (Ok fixing.Gone) w = looked_passes g g' w.0
  fixed_passes g g' place k s (Ok fixing.InFlight) w = looked_passes g g' w.0
  fixed_passes g g' place k s (Err repair.WriteFault) w = read_passes w.read w.reads w.hands.hands.writes.counts
  fixed_passes g g' place k s (Err (repair.Busy cells bytes)) w = looked_passes g g' w
  fixed_passes g g' place k s (Err repair.NotReady) w = looked_passes g g' w
  fixed_passes g g' place k s (Err repair.Memory) w = looked_passes g g' w
  fixed_passes g g' place k s (Err repair.ReadFault) w = looked_passes g g' w
  fixed_passes g g' place k s (Err (repair.Damaged file damaged)) w = looked_passes g g' w

  pub steps_passes : (g g' : Group) → StepsTable d g g' disk disk' → Passes d disk disk' 4
  steps_passes g g' (inl rows) = rows.steps.counts
  steps_passes g g' (inr index) = index.steps.counts

  pub stepped_passes : (g g' : Group) → SteppedTable d g g' disk disk' → Passes d disk disk' 4
  stepped_passes g g' (inl rows) = rows.rows.steps.counts
  stepped_passes g g' (inr index) = index.index.steps.counts

-- ---- what is blamed

-- a definition that wasn't written
pub unwritten_blames : (old new : Shown) (fault : CatalogFault) (e : Entry) (es es' : List Entry) (late late' : Option Entry) (closed closed' : Option ℕ) (f : StepFault)
    → IsUnwritten fault e es es' late late' closed closed' f → (fault ≡ catalog.WriteFault → HasFailedIn old new) → Blames old new f
unwritten_blames old new catalog.Full e es es' late late' closed closed' f u rose = subst (Blames old new) (sym (u.full refl)) tt
unwritten_blames old new catalog.Memory e es es' late late' closed closed' f u rose = subst (Blames old new) (sym (u.memory refl)) tt
unwritten_blames old new catalog.WriteFault e es es' late late' closed closed' f u rose = subst (Blames old new) (sym (u.failed refl)) (rose refl)

-- a table or an index that isn't changed, or a batch that isn't begun
pub unmade_blames : (old new : Shown) (s : Standing) (closed : Option ℕ) (what : NewTable) (f : StepFault) → IsUnmade s closed what f → Blames old new f
unmade_blames old new s closed what ReadFault why = absurd why
unmade_blames old new s closed what WriteFault why = absurd why
unmade_blames old new s closed what f why = tt

pub unquiet_blames : (old new : Shown) (s : Standing) (groups : List Group) (closed : Option ℕ) (t : TableId) (i : IndexId) (f : StepFault) → IsUnquiet s groups closed t i f → Blames old new f
unquiet_blames old new s groups closed t i ReadFault why = absurd why
unquiet_blames old new s groups closed t i WriteFault why = absurd why
unquiet_blames old new s groups closed t i f why = tt

unready_blames : (old new : Shown) (g : Group) (cs : List Change) (f : StepFault) → (f ≡ ReadFault → HasFailedIn old new) → unready_cause g cs f → Blames old new f
unready_blames old new g cs ReadFault failed why = failed refl
unready_blames old new g cs WriteFault failed why = absurd why
unready_blames old new g cs f failed why = tt

untaken_blames : (old new : Shown) (g : Group) (p : Prepared) (es : List Entry) (cs : List Change) (f : StepFault) → untaken_cause g p es cs f → Blames old new f
untaken_blames old new g p es cs ReadFault why = absurd why
untaken_blames old new g p es cs WriteFault why = absurd why
untaken_blames old new g p es cs f why = tt

pub unbegun_blames : (old new : Shown) (g : Group) (es : List Entry) (cs : List Change) (clock : ℕ) (f : StepFault) → (f ≡ ReadFault → HasFailedIn old new) → IsUnbegun g es cs clock f → Blames old new f
unbegun_blames old new g es cs clock f failed (inl why) = unready_blames old new g cs f failed why
unbegun_blames old new g es cs clock f failed (inr why) = untaken_blames old new why.read why.ready.prepared es cs f why.cause

pub no_point_blames : (old new : Shown) (g : Group) (scn : Option ℕ) (f : StepFault) → IsNoPointOf g scn f → Blames old new f
no_point_blames old new g None ReadFault why = absurd why
no_point_blames old new g (Some scn) ReadFault why = absurd why
no_point_blames old new g None WriteFault why = absurd why
no_point_blames old new g (Some scn) WriteFault why = absurd why
no_point_blames old new g scn f why = tt

-- a repair or base versions that weren't written
pub answered_blames : (old new : Shown) (n : ℕ) (fixed : Result Fixing RepairFault) (r : Result Fixing StepFault) → AddsNoEntry fixed → Answers n fixed r → IfErr r (Blames old new)
answered_blames old new n (Ok x) r nothing is = subst (λ (y : Result Fixing StepFault). IfErr y (Blames old new)) (sym is) tt
answered_blames old new n (Err (repair.Busy cells bytes)) r nothing is = subst (λ (y : Result Fixing StepFault). IfErr y (Blames old new)) (sym is) tt
answered_blames old new n (Err repair.NotReady) r nothing is = subst (λ (y : Result Fixing StepFault). IfErr y (Blames old new)) (sym is) tt
answered_blames old new n (Err repair.WriteFault) r nothing is = absurd nothing
answered_blames old new n (Err repair.ReadFault) r nothing is = absurd nothing
answered_blames old new n (Err (repair.Damaged file place)) r nothing is = subst (λ (y : Result Fixing StepFault). IfErr y (Blames old new)) (sym is) tt
answered_blames old new n (Err repair.Memory) r nothing is = subst (λ (y : Result Fixing StepFault). IfErr y (Blames old new)) (sym is) tt

-- why nothing was read
pub unread_blames : (old new : Shown) (fault : LookFault) → (fault ≡ look.ReadFault → HasFailedIn old new) → Blames old new (unread_fault fault)
unread_blames old new look.ReadFault failed = failed refl
unread_blames old new (look.Damaged file place) failed = tt
unread_blames old new look.Memory failed = tt

pub unbased_blames : (old new : Shown) (fault : BaseFault) (f : StepFault) → AnswersBase fault f → (fault ≡ base.WriteFault → ⊥) → Blames old new f
unbased_blames old new (base.Busy region cells bytes) f is other = subst (Blames old new) (sym is) tt
unbased_blames old new (base.NotReady region) f is other = subst (Blames old new) (sym is) tt
unbased_blames old new base.WriteFault f is other = absurd (other refl)
unbased_blames old new base.Memory f is other = subst (Blames old new) (sym is) tt

-- a step without a call makes few
pub quiet_by : {v w : Shown} → MakesNoCall v w → MakesAtMost 4 v w
quiet_by {v} {w} quiet = record { later = (let c = quiet.calls in omega (arith, c)); at_most = (let c = quiet.calls in omega (arith, c)); faults_later = (let c = quiet.faults in omega (arith, c)) }
