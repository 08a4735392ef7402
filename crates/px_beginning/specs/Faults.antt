-- Why a batch doesn't begin: keys that are too long, and what is told of the disk.
use Rattle.std.specs.Prelude.{◌<◌, ◌⊎◌, List, [], ◌∷◌, length}
use Rattle.px_group.specs.declared.group.IndexRegion.{IndexRegion}
use Rattle.px_phases.specs.Phases.{HasLongIndexed}
use Rattle.px_phases.specs.declared.transition.Transition.{Transition}
use Rattle.px_region.specs.declared.fault.LookFault.{LookFault}
use Rattle.px_region.specs.declared.fault.LookFault.TheVariants as look
use Rattle.px_rows.specs.Keys.{row_key}
use Rattle.px_tables.specs.declared.table.Table.{Table}
use Rattle.px_values.specs.Limits.{most_key}
use Rattle.px_values.specs.declared.change.Change.{Change}
use Rattle.px_beginning.specs.declared.fault.BeginFault.{BeginFault}
use Rattle.px_beginning.specs.declared.fault.BeginFault.TheVariants.{Limit, NotReady, Busy, ReadFault, Damaged, Memory}

-- a changed row has a key of more than 1,024 bytes
abbrev pub HasLongRow : Table → List Change → Type 0
HasLongRow t [] = ⊥
HasLongRow t (c ∷ cs) = (most_key < length (row_key t c.row)) ⊎ HasLongRow t cs

-- the key of a changed row in an index is too long, before its change or after it
abbrev pub HasLongIn : Table → List IndexRegion → List Change → List Transition → Type 0
HasLongIn t [] cs xs = ⊥
HasLongIn t (i ∷ is) cs xs = HasLongIndexed t i.index cs xs ⊎ HasLongIn t is cs xs

-- why a row wasn't read
abbrev pub begin_fault_of : LookFault → BeginFault
begin_fault_of look.ReadFault = ReadFault
begin_fault_of (look.Damaged file place) = Damaged file place
begin_fault_of look.Memory = Memory

-- it tells nothing of the disk
abbrev pub TellsNoRead : BeginFault → Type 0
TellsNoRead (Limit limit) = Unit {0}
TellsNoRead (NotReady region) = Unit {0}
TellsNoRead (Busy region cells bytes) = Unit {0}
TellsNoRead ReadFault = ⊥
TellsNoRead (Damaged file place) = ⊥
TellsNoRead Memory = Unit {0}
