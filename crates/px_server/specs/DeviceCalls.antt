-- How many calls of the disk a step makes, and when it tells that one of them failed.
use Rattle.std.specs.Prelude.{◌≡◌, ◌≤◌, ◌+◌, ℕ}
use Rattle.px_outside.specs.Disk.{RoseBy}
use Rattle.px_calls.specs.declared.fault.StepFault.{StepFault}
use Rattle.px_calls.specs.declared.fault.StepFault.TheVariants.{ReadFault, WriteFault}
use Rattle.px_server.specs.Shown.{Shown}

abbrev pub shown_calls : Shown → ℕ
shown_calls s = s.calls

abbrev pub shown_faults : Shown → ℕ
shown_faults s = s.faults

-- at most so many calls were made: reads, writes, cuts and syncs alike
pub record MakesAtMost (most : ℕ) (old new : Shown) : Type 0 where
  pub later : old.calls ≤ new.calls
  pub at_most : new.calls ≤ old.calls + most
  pub faults_later : old.faults ≤ new.faults

-- none was made
pub record MakesNoCall (old new : Shown) : Type 0 where
  pub calls : new.calls ≡ old.calls
  pub faults : new.faults ≡ old.faults

-- a call has failed, or a count of the disk stands at its last value
abbrev pub HasFailedIn : (old new : Shown) → Type 0
HasFailedIn = RoseBy shown_calls shown_faults

-- a fault of the disk is told only where that is so
abbrev pub Blames : (old new : Shown) → StepFault → Type 0
Blames old new ReadFault = HasFailedIn old new
Blames old new WriteFault = HasFailedIn old new
Blames old new f = Unit {0}
