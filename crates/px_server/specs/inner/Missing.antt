-- What is told of a step that only read, and of a read that failed.
use Rattle.std.specs.Prelude.{◌≡◌, ◌<◌, ◌⊎◌, ◌++◌, ◌∷◌, [], ℕ, List}
use Rattle.px_trail.specs.Legal.{greatest_number}
use Rattle.px_trail.specs.Trail.{missed_call}
use Rattle.px_trail.specs.declared.entry.Act.TheVariants.{Missed}
use Rattle.px_trail.specs.declared.entry.Entry.{Entry}
use Rattle.px_calls.specs.declared.fault.StepFault.{StepFault}
use Rattle.px_calls.specs.declared.fault.StepFault.TheVariants as steps
use Rattle.px_region.specs.declared.fault.LookFault.{LookFault}
use Rattle.px_region.specs.declared.fault.LookFault.TheVariants.{ReadFault, Damaged, Memory}

-- why nothing was read
abbrev pub unread_fault : LookFault → StepFault
unread_fault ReadFault = steps.ReadFault
unread_fault (Damaged file place) = steps.Damaged file place
unread_fault Memory = steps.Memory

-- the entry of the call that failed in a read
abbrev pub missed_entry : ℕ → ℕ → Entry
missed_entry seat calls = record { seat = seat; calls = calls; act = Missed calls }

-- no call of its number or above was told as a failed read before
abbrev pub IsUnmissed : List Entry → ℕ → Type 0
IsUnmissed es calls = (missed_call es < calls) ⊎ ((missed_call es ≡ greatest_number) × (calls ≡ greatest_number))

-- its entry is added and it is told, or neither is, for want of memory
abbrev pub Misses : ℕ → ℕ → List Entry → List Entry → StepFault → Type 0
Misses seat calls es es' told = ((told ≡ steps.ReadFault) × (es' ≡ es ++ missed_entry seat calls ∷ []) × IsUnmissed es calls) ⊎ ((told ≡ steps.Memory) × (es' ≡ es))

-- what is told of a step's fault: another one as it is, with no entry
abbrev pub TellsFault : ℕ → ℕ → List Entry → List Entry → StepFault → StepFault → Type 0
TellsFault seat calls es es' steps.ReadFault told = Misses seat calls es es' told
TellsFault seat calls es es' f told = (told ≡ f) × (es' ≡ es)
