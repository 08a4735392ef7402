-- Faults as those of the call above.
use Rattle.px_gatelog.specs.declared.fault.AppendFault.{AppendFault}
use Rattle.px_gatelog.specs.declared.fault.AppendFault.TheVariants.{Full as NoRoom, WriteFault as NotWritten}
use Rattle.px_catalog.specs.declared.fault.CatalogFault.{CatalogFault}
use Rattle.px_catalog.specs.declared.fault.CatalogFault.TheVariants.{Full, WriteFault}

-- that of the log
abbrev pub of_append : AppendFault → CatalogFault
of_append NoRoom = Full
of_append NotWritten = WriteFault
