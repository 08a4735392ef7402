-- What contracts see of a server.
use Rattle.std.specs.Prelude.{◌≡◌, ◌+◌, ℕ, Bool, true, List, Option, map, min, sum_by}
use Rattle.px_group.specs.declared.group.Group.{Group}
use Rattle.px_group.specs.declared.group.IndexRegion.{IndexRegion}
use Rattle.px_region.specs.Region.{logged_of}
use Rattle.px_trail.specs.declared.entry.Entry.{Entry}
use Rattle.px_trail.specs.Answers.{IsAmong}
use Rattle.px_trail.specs.Trail.{Base}
use Rattle.px_calls.specs.Known.{Known}

-- the table of this number, and how many cells stand in its log and in those of its indexes above the flushed numbers
pub record LoggedCells : Type 0 where
  pub table : ℕ
  pub cells : ℕ

-- the seat that acts next, the trail's entries, what the failed step would have added that closed the server, the device call that closed it, the
-- cells in the logs of each table, and each table that stands with its regions; how long versions are kept, and the place of the next table whose horizon
-- is to rise, where that was ordered; how many calls of the disk were made, and how many of them have failed
pub record Shown : Type 0 where
  pub seat : ℕ
  pub entries : List Entry
  pub late : Option Entry
  pub closed : Option ℕ
  pub logged : List LoggedCells
  pub groups : List Group
  pub lookback : ℕ
  pub raising : Option ℕ
  pub calls : ℕ
  pub faults : ℕ

abbrev pub logged_at : IndexRegion → ℕ
logged_at x = logged_of x.region

-- each cell counts that was written, whether it is read or not
abbrev pub logged_by : Group → ℕ
logged_by g = logged_of g.rows + sum_by logged_at g.indexes.items

abbrev pub logged_in : Group → LoggedCells
logged_in g = record { table = g.table.id.0; cells = logged_by g }

-- what a server with these parts shows
abbrev pub shown_of : ℕ → List Entry → Option Entry → Option ℕ → List Group → ℕ → Option ℕ → ℕ → ℕ → Shown
shown_of seat entries late closed groups lookback raising calls faults = record { seat = seat; entries = entries; late = late; closed = closed; logged = map logged_in groups; groups = groups; lookback = lookback; raising = raising; calls = calls; faults = faults }

-- the table's logs have n cells, or more than a number of 64 bits tells, and n is the greatest of those
abbrev pub HasLogged : List LoggedCells → ℕ → ℕ → Type 0
HasLogged logged t n = (cells : ℕ) × IsAmong (record { table = t; cells = cells }) logged × (n ≡ min cells 18446744073709551615)

-- what its seat knows: nobody else acts
abbrev pub known_by : Base → (ℕ → ℕ → Bool) → Shown → Known
known_by b damaged s = record { seat = s.seat; base = b; damaged = damaged; alone = true; seen = s.entries }
