-- What a fault of a file is to one who opens a region.
use Rattle.px_file.specs.declared.fault.FileFault.{FileFault}
use Rattle.px_file.specs.declared.fault.FileFault.TheVariants as file
use Rattle.px_gatelog.specs.declared.fault.StartFault.{StartFault}
use Rattle.px_gatelog.specs.declared.fault.StartFault.TheVariants.{ReadFault, Damaged, Memory}

abbrev pub start_fault : FileFault → StartFault
start_fault file.ReadFault = ReadFault
start_fault (file.Damaged at place) = Damaged at place
start_fault file.Memory = Memory
