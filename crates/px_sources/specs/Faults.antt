-- What a fault of a file is to one who is given cells.
use Rattle.px_file.specs.declared.fault.FileFault.{FileFault}
use Rattle.px_file.specs.declared.fault.FileFault.TheVariants as file
use Rattle.px_sources.specs.declared.fault.GiveFault.{GiveFault}
use Rattle.px_sources.specs.declared.fault.GiveFault.TheVariants.{ReadFault, Damaged, Memory}

abbrev pub fault_of : FileFault → GiveFault
fault_of file.ReadFault = ReadFault
fault_of (file.Damaged at place) = Damaged at place
fault_of file.Memory = Memory
