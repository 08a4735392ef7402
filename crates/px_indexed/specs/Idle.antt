-- Acts that tell nothing of a table's batches and horizon.
use Rattle.std.specs.Prelude.{◌≢◌}
use Rattle.px_values.specs.declared.name.TableId.{TableId}
use Rattle.px_trail.specs.declared.entry.Act.{Act}
use Rattle.px_trail.specs.declared.entry.Act.TheVariants.{Begun, Wrote, Ended, Phase, Raised, Made}

-- The act tells nothing of the table's batches and horizon: it is of another table, or of indexes, points, repairs, base
-- versions and device calls. It may draw a stamp.
abbrev pub IsElsewhere : TableId → Act → Type 0
IsElsewhere tid (Begun t s cs) = t.0 ≢ tid.0
IsElsewhere tid (Wrote t s rows) = t.0 ≢ tid.0
IsElsewhere tid (Ended t s) = t.0 ≢ tid.0
IsElsewhere tid (Phase t s p) = t.0 ≢ tid.0
IsElsewhere tid (Raised t h) = t.0 ≢ tid.0
IsElsewhere tid (Made t what) = t.0 ≢ tid.0
IsElsewhere tid act = Unit {0}
