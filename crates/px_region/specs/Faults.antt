-- What a fault of a flush is to a job.
use Rattle.px_flushing.specs.declared.fault.FlushFault.{FlushFault}
use Rattle.px_flushing.specs.declared.fault.FlushFault.TheVariants as flush
use Rattle.px_region.specs.declared.fault.JobFault.{JobFault}
use Rattle.px_region.specs.declared.fault.JobFault.TheVariants.{Memory, WriteFault}

abbrev pub job_fault : FlushFault → JobFault
job_fault flush.ReadFault = WriteFault
job_fault flush.WriteFault = WriteFault
job_fault flush.Memory = Memory
job_fault flush.Full = Memory
job_fault flush.NotReady = Memory
job_fault flush.Damaged = Memory
