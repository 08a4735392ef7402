-- What the trail tells of a definition once the catalogue answered.
use Rattle.std.specs.Prelude.{◌≡◌, ◌≢◌, ◌++◌, ◌∷◌, [], ℕ, List, Option, Some}
use Rattle.px_trail.specs.declared.entry.Act.TheVariants.{Shut}
use Rattle.px_trail.specs.declared.entry.Entry.{Entry}
use Rattle.px_calls.specs.declared.fault.StepFault.{StepFault}
use Rattle.px_calls.specs.declared.fault.StepFault.TheVariants.{Memory as MemoryFault, NotReady, WriteFault as Failed}
use Rattle.px_catalog.specs.declared.fault.CatalogFault.{CatalogFault}
use Rattle.px_catalog.specs.declared.fault.CatalogFault.TheVariants.{Full, Memory, WriteFault}

-- its entry is added, and nothing else
pub record HasEntered (e : Entry) (es es' : List Entry) (late late' : Option Entry) (closed closed' : Option ℕ) : Type 0 where
  pub entries : es' ≡ es ++ e ∷ []
  pub late_is : late' ≡ late
  pub closed_is : closed' ≡ closed

-- a failed write closes the server, and the entry is late; of another fault nothing is left
pub record IsUnwritten (fault : CatalogFault) (e : Entry) (es es' : List Entry) (late late' : Option Entry) (closed closed' : Option ℕ) (f : StepFault) : Type 0 where
  pub full : fault ≡ Full → f ≡ NotReady 0
  pub memory : fault ≡ Memory → f ≡ MemoryFault
  pub failed : fault ≡ WriteFault → f ≡ Failed
  pub kept : fault ≢ WriteFault → (es' ≡ es) × (late' ≡ late) × (closed' ≡ closed)
  pub shut : fault ≡ WriteFault → (es' ≡ es ++ record { seat = e.seat; calls = e.calls; act = Shut e.calls } ∷ []) × (late' ≡ Some e) × (closed' ≡ Some e.calls)
