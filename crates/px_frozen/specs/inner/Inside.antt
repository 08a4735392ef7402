-- The fields of what a flush writes.
use Rattle.px_cellbytes.specs.Reading.{IsWritten}
use Rattle.px_frozen.specs.FrozenData.{FrozenData}
use Rattle.px_frozen.specs.declared.frozen.Frozen.TheInside.{Inside}

abbrev pub frozen_of : Inside → FrozenData
frozen_of f = record { cells = f.cells; upto = f.upto; count = f.count; bytes = f.bytes }

-- the cells can be written
abbrev pub CanBeWritten : Inside → Type 0
CanBeWritten f = IsWritten f.cells
