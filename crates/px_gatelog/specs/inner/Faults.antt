-- Faults as those of the call above.
use Rattle.px_outside.specs.declared.source.InputFault.{InputFault}
use Rattle.px_outside.specs.declared.source.InputFault.TheVariants.{ReadFault as NotRead, Memory as NoMemoryToRead}
use Rattle.px_gatelog.specs.declared.fault.ReplayFault.{ReplayFault}
use Rattle.px_gatelog.specs.declared.fault.ReplayFault.TheVariants.{Damaged as WrongAt, Memory as NoMemory}
use Rattle.px_gatelog.specs.declared.fault.StartFault.{StartFault}
use Rattle.px_gatelog.specs.declared.fault.StartFault.TheVariants.{ReadFault, Damaged, Memory}

-- that of the bytes of the files
abbrev pub of_replay : ReplayFault → StartFault
of_replay (WrongAt file place) = Damaged file place
of_replay NoMemory = Memory

-- that of the reading of a file
abbrev pub of_input : InputFault → StartFault
of_input NotRead = ReadFault
of_input NoMemoryToRead = Memory
