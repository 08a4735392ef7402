-- What the faults of what a flush calls are to it.
use Rattle.px_file.specs.declared.fault.MakeFault.{MakeFault}
use Rattle.px_file.specs.declared.fault.MakeFault.TheVariants as make
use Rattle.px_gatelog.specs.declared.fault.AppendFault.{AppendFault}
use Rattle.px_gatelog.specs.declared.fault.AppendFault.TheVariants as append
use Rattle.px_gatelog.specs.declared.fault.StartFault.{StartFault}
use Rattle.px_gatelog.specs.declared.fault.StartFault.TheVariants as start
use Rattle.px_flushing.specs.declared.fault.FlushFault.{FlushFault}
use Rattle.px_flushing.specs.declared.fault.FlushFault.TheVariants.{ReadFault, WriteFault, Memory, Full, Damaged}

abbrev pub read_fault : StartFault → FlushFault
read_fault start.ReadFault = ReadFault
read_fault start.WriteFault = WriteFault
read_fault (start.Damaged file place) = Damaged
read_fault start.Memory = Memory

abbrev pub make_fault : MakeFault → FlushFault
make_fault make.WriteFault = WriteFault
make_fault make.Memory = Memory
make_fault make.Full = Full

abbrev pub append_fault : AppendFault → FlushFault
append_fault append.WriteFault = WriteFault
append_fault append.Full = Full
