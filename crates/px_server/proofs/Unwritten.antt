-- A definition of an index that wasn't written: what stays true of the server, and what is told.
use Rattle.std.proofs.Common.{◌≡◌, ◌≢◌, ◌<◌, ◌≤◌, ◌⊎◌, inl, inr, ℕ, Option, None, Some, List, [], ◌∷◌, ◌++◌, get_or, length, refl, sym, subst, ◌∙◌, arith}
use Rattle.std.specs.List.{slice_set}
use Rattle.px_outside.specs.OnDisk.{Rose}
use Rattle.px_outside.specs.declared.disk.Disk.{Ghosts}
use Rattle.px_trail.specs.Legal.{IsLegal}
use Rattle.px_trail.specs.Recorded.{Recorded}
use Rattle.px_trail.specs.Trail.{Base, closing_call}
use Rattle.px_trail.specs.declared.entry.Act.TheVariants.{Shut}
use Rattle.px_trail.specs.declared.entry.Entry.{Entry}
use Rattle.px_calls.specs.Causes.{Refuses, define_cause}
use Rattle.px_calls.specs.Known.{Known}
use Rattle.px_calls.specs.declared.definition.Definition.{Definition}
use Rattle.px_calls.specs.declared.fault.StepFault.{StepFault}
use Rattle.px_calls.specs.declared.fault.StepFault.TheVariants.{NotReady, WriteFault as Failed, Memory as MemoryFault}
use Rattle.px_schema.specs.declared.standing.Standing.{Standing}
use Rattle.px_catalog.specs.declared.catalog.Catalog.{Catalog}
use Rattle.px_catalog.specs.declared.fault.CatalogFault.{CatalogFault}
use Rattle.px_catalog.specs.declared.fault.CatalogFault.TheVariants.{Full, Memory, WriteFault}
use Rattle.px_group.specs.declared.group.Group.{Group}
use Rattle.px_defined.specs.Defined.{IsSameTable}
use Rattle.px_server.specs.Kept.{HasFailed, HasTrailRoom, IsKept, IsShutAt}
use Rattle.px_server.specs.Others.{Beginning}
use Rattle.px_server.proofs.Blamed.{failed_rose}
use Rattle.px_server.proofs.Looked.{looked_kept}
use Rattle.px_server.proofs.Reserved.{roomy, same_looked}
use Rattle.px_server.proofs.Seen.{one_more, stays}

module _ {D : Type 0} (d : Ghosts D) (b : Base) (sound premise : Type 0) (began : Beginning) (disk : D) (catalog : Catalog) (standing : Standing) (groups : List Group) (trail : Recorded) (late : Option Entry) (closed : Option ℕ) (k : IsKept d b sound premise began disk catalog standing groups trail late closed) where
  -- room is taken in a group and in the trail
  pub reserved : (place : ℕ) (g g' : Group) → place < length groups → get_or groups place g ≡ g → IsSameTable g g' → (trail' : Recorded) → trail'.entries ≡ trail.entries → trail.room ≤ trail'.room → IsKept d b sound premise began disk catalog standing (slice_set groups place g') trail' late closed
  reserved place g g' l g_is same trail' entries room =
      roomy d b sound premise began disk catalog standing (slice_set groups place g') trail late closed (looked_kept d b sound premise began disk catalog standing groups trail late closed k place g g' l g_is (same_looked g g' same)) trail' entries room

  module _ (running : closed ≡ None) (disk' : D) (catalog' : Catalog) (u : Entry)
      (failed_kept : (shut : Entry) (call : ℕ) → IsShutAt shut call → call ≡ d.calls disk' → HasFailed d disk' → (c : Catalog) (t : Recorded) → t.entries ≡ trail.entries ++ shut ∷ [] → HasTrailRoom (Some call) groups t
      → IsKept d b sound premise began disk' c standing groups t (Some u) (Some call))
      (trail' : Recorded) (late' : Option Entry) (closed' : Option ℕ) (seat : ℕ) (room : trail.room ≤ trail'.room) where
    untouched_kept : (disk' ≡ disk) × (catalog' ≡ catalog) → (trail'.entries ≡ trail.entries) × (late' ≡ late) × (closed' ≡ closed) → IsKept d b sound premise began disk' catalog' standing groups trail' late' closed'
    untouched_kept is kept =
        subst (λ (x : D). IsKept d b sound premise began x catalog' standing groups trail' late' closed') (sym is.0)
        (subst (λ (x : Catalog). IsKept d b sound premise began disk x standing groups trail' late' closed') (sym is.1)
        (subst (λ (x : Option Entry). IsKept d b sound premise began disk catalog standing groups trail' x closed') (sym kept.1)
        (subst (λ (x : Option ℕ). IsKept d b sound premise began disk catalog standing groups trail' late x) (sym kept.2)
        (roomy d b sound premise began disk catalog standing groups trail late closed k trail' kept.0 room))))

    shut_kept : HasFailed d disk' → (trail'.entries ≡ trail.entries ++ record { seat = seat; calls = d.calls disk'; act = Shut (d.calls disk') } ∷ []) × (late' ≡ Some u) × (closed' ≡ Some (d.calls disk'))
        → IsKept d b sound premise began disk' catalog' standing groups trail' late' closed'
    shut_kept failed is = (let
        shut : Entry = record { seat = seat; calls = d.calls disk'; act = Shut (d.calls disk') }
        in let
        before = subst (λ (x : Option ℕ). HasTrailRoom x groups trail) running k.room
        in
        subst (λ (x : Option Entry). IsKept d b sound premise began disk' catalog' standing groups trail' x closed') (sym is.1)
        (subst (λ (x : Option ℕ). IsKept d b sound premise began disk' catalog' standing groups trail' (Some u) x) (sym is.2)
        (failed_kept shut (d.calls disk') refl refl failed catalog' trail' is.0 (omega (arith, room, before)))))

    pub unwritten_kept : (fault : CatalogFault) → ((fault ≡ Full) ⊎ (fault ≡ Memory) → (disk' ≡ disk) × (catalog' ≡ catalog)) → (fault ≡ WriteFault → Rose d disk disk')
        → (fault ≢ WriteFault → (trail'.entries ≡ trail.entries) × (late' ≡ late) × (closed' ≡ closed))
        → (fault ≡ WriteFault → (trail'.entries ≡ trail.entries ++ record { seat = seat; calls = d.calls disk'; act = Shut (d.calls disk') } ∷ []) × (late' ≡ Some u) × (closed' ≡ Some (d.calls disk')))
        → IsKept d b sound premise began disk' catalog' standing groups trail' late' closed'
    unwritten_kept Full untouched rose kept shut = untouched_kept (untouched (inl refl)) (kept (λ is. absurd cc))
    unwritten_kept Memory untouched rose kept shut = untouched_kept (untouched (inr refl)) (kept (λ is. absurd cc))
    unwritten_kept WriteFault untouched rose kept shut = shut_kept (failed_rose d disk disk' (rose refl)) (shut refl)

-- ---- and what is told of it

module _ (k : Known) (legal : IsLegal k.base k.seen) (closed : Option ℕ) (closing : closing_call k.seen ≡ closed) (running : closed ≡ None) (x : Definition) where
  -- want of memory, where nothing was added
  pub no_memory : Refuses (define_cause x) k k MemoryFault
  no_memory = (tt, stays k legal, closing ∙ running)

  module _ (cause : define_cause x (NotReady 0) k) (f : StepFault) (es : List Entry) (calls : ℕ) (legal' : IsLegal k.base es) where
    pub full : Refuses (define_cause x) k k (NotReady 0)
    full = (cause, stays k legal, closing ∙ running)

    same_known : es ≡ k.seen → Refuses (define_cause x) k k f → Refuses (define_cause x) k (record k { seen = es }) f
    same_known is r = subst (λ (ys : List Entry). Refuses (define_cause x) k (record k { seen = ys }) f) (sym is) r

    pub unwritten_refused : (fault : CatalogFault) → (fault ≡ Full → f ≡ NotReady 0) → (fault ≡ Memory → f ≡ MemoryFault) → (fault ≡ WriteFault → f ≡ Failed) → (fault ≢ WriteFault → es ≡ k.seen)
        → (fault ≡ WriteFault → es ≡ k.seen ++ record { seat = k.seat; calls = calls; act = Shut calls } ∷ []) → Refuses (define_cause x) k (record k { seen = es }) f
    unwritten_refused Full is_full is_memory is_failed kept shut = same_known (kept (λ is. absurd cc)) (subst (λ (g : StepFault). Refuses (define_cause x) k k g) (sym (is_full refl)) full)
    unwritten_refused Memory is_full is_memory is_failed kept shut = same_known (kept (λ is. absurd cc)) (subst (λ (g : StepFault). Refuses (define_cause x) k k g) (sym (is_memory refl)) no_memory)
    unwritten_refused WriteFault is_full is_memory is_failed kept shut =
        subst (λ (g : StepFault). Refuses (define_cause x) k (record k { seen = es }) g) (sym (is_failed refl)) (tt, (calls, one_more k es calls (Shut calls) legal (shut refl) legal'))
