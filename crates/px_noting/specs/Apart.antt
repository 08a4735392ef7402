-- Entries that leave a table as it is.
use Rattle.std.specs.Prelude.{◌≢◌}
use Rattle.px_values.specs.declared.name.TableId.{TableId}
use Rattle.px_trail.specs.declared.entry.Act.{Act}
use Rattle.px_trail.specs.declared.entry.Act.TheVariants.{Made, IndexMade, IndexState, Dropped, Begun, Phase, Wrote, Ended, Opened, Released, Raised}

-- the act is of another table, or a repair, or of base versions or device calls
abbrev pub IsApartFrom : TableId → Act → Type 0
IsApartFrom tid (Made t what) = t.0 ≢ tid.0
IsApartFrom tid (IndexMade t i s what) = t.0 ≢ tid.0
IsApartFrom tid (IndexState t i state s) = t.0 ≢ tid.0
IsApartFrom tid (Dropped t i) = t.0 ≢ tid.0
IsApartFrom tid (Begun t s cs) = t.0 ≢ tid.0
IsApartFrom tid (Phase t s p) = t.0 ≢ tid.0
IsApartFrom tid (Wrote t s rows) = t.0 ≢ tid.0
IsApartFrom tid (Ended t s) = t.0 ≢ tid.0
IsApartFrom tid (Opened t s scn) = t.0 ≢ tid.0
IsApartFrom tid (Released t s) = t.0 ≢ tid.0
IsApartFrom tid (Raised t h) = t.0 ≢ tid.0
IsApartFrom tid act = Unit {0}
