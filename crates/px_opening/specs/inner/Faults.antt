-- Faults as those of the call above.
use Rattle.px_gatelog.specs.declared.fault.StartFault.{StartFault}
use Rattle.px_gatelog.specs.declared.fault.StartFault.TheVariants as start
use Rattle.px_opening.specs.declared.fault.OpenFault.{OpenFault}
use Rattle.px_opening.specs.declared.fault.OpenFault.TheVariants.{Damaged, Memory, ReadFault, WriteFault}

abbrev pub of_start : StartFault → OpenFault
of_start start.ReadFault = ReadFault
of_start start.WriteFault = WriteFault
of_start (start.Damaged file place) = Damaged file place
of_start start.Memory = Memory
