-- What a fault of giving is to one who reads files.
use Rattle.px_file.specs.declared.fault.FileFault.{FileFault}
use Rattle.px_file.specs.declared.fault.FileFault.TheVariants as file
use Rattle.px_sources.specs.declared.fault.GiveFault.{GiveFault}
use Rattle.px_sources.specs.declared.fault.GiveFault.TheVariants.{ReadFault, Damaged, Memory}

abbrev pub fault_of : GiveFault → FileFault
fault_of ReadFault = file.ReadFault
fault_of (Damaged at place) = file.Damaged at place
fault_of Memory = file.Memory
