-- The faults of parts as those of a verification.
use Rattle.px_defining.specs.declared.define.DefineFault.{DefineFault}
use Rattle.px_defining.specs.declared.define.DefineFault.TheVariants as define
use Rattle.px_upkeep.specs.declared.build.BuildFault.{BuildFault}
use Rattle.px_upkeep.specs.declared.build.BuildFault.TheVariants as build
use Rattle.px_verify.specs.declared.answer.ReportFault.{ReportFault}
use Rattle.px_verify.specs.declared.answer.ReportFault.TheVariants as report
use Rattle.px_verifying.specs.declared.answer.VerifyFault.{VerifyFault}
use Rattle.px_verifying.specs.declared.answer.VerifyFault.TheVariants as fault

abbrev pub report_fault : ReportFault → VerifyFault
report_fault report.NoTable = fault.NoTable
report_fault report.NoIndex = fault.NoIndex
report_fault (report.BelowHorizon horizon) = fault.BelowHorizon horizon
report_fault report.ReadFault = fault.ReadFault
report_fault (report.Damaged file place) = fault.Damaged file place
report_fault (report.Closed call) = fault.Closed call
report_fault report.Memory = fault.Memory

abbrev pub definition_fault : DefineFault → VerifyFault
definition_fault define.NoTable = fault.NoTable
definition_fault define.NoIndex = fault.NoIndex
definition_fault (define.Limit which count) = fault.Limit which count
definition_fault define.ReadFault = fault.ReadFault
definition_fault define.WriteFault = fault.WriteFault
definition_fault (define.Damaged file place) = fault.Damaged file place
definition_fault (define.Closed call) = fault.Closed call
definition_fault f = fault.Memory

abbrev pub build_fault : BuildFault → VerifyFault
build_fault build.NoTable = fault.NoTable
build_fault build.NoIndex = fault.NoIndex
build_fault (build.Limit which count) = fault.Limit which count
build_fault (build.BelowHorizon horizon) = fault.BelowHorizon horizon
build_fault build.ReadFault = fault.ReadFault
build_fault build.WriteFault = fault.WriteFault
build_fault (build.Damaged file place) = fault.Damaged file place
build_fault (build.Closed call) = fault.Closed call
build_fault build.Memory = fault.Memory
