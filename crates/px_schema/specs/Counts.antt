-- How many tables and indexes stand, and which numbers are left.
use Rattle.std.specs.Prelude.{◌≡◌, ◌<◌, ◌≤◌, ◌+◌, ◌==◌, ◌⊎◌, ◌∷◌, [], ℕ, if◌then◌else◌, length, filter, map, List, Option, Some, None}
use Rattle.px_tables.specs.declared.index.Index.{Index}
use Rattle.px_tables.specs.declared.table.Table.{Table}
use Rattle.px_values.specs.Limits.{most_of}
use Rattle.px_values.specs.declared.limit.Limit.TheVariants.{Ids, Indexes, Tables}
use Rattle.px_schema.specs.declared.item.CatalogItem.{CatalogItem}
use Rattle.px_schema.specs.declared.item.CatalogItem.TheVariants.{IndexGone, IndexIs, TableGone, TableIs}
use Rattle.px_schema.specs.declared.standing.Standing.{Standing}
use Rattle.px_schema.specs.Format.{number_of_table}
use Rattle.px_schema.specs.Places.{first_at}
use Rattle.px_schema.specs.Stands.{newly_drawn}

-- 1. Room

-- the indexes of the table of this number
abbrev pub indexes_of : ℕ → List Index → List Index
indexes_of n indexes = filter (λ i. i.table.0 == n) indexes

-- one more table doesn't pass the limit
abbrev pub HasRoomForTable : Standing → Type 0
HasRoomForTable s = length s.tables < most_of Tables

-- nor does one more index of the table
abbrev pub HasRoomForIndex : Standing → ℕ → Type 0
HasRoomForIndex s n = length (indexes_of n s.indexes) < most_of Indexes

-- nor does any of so many numbers, from the next one on
abbrev pub HasNumbers : Standing → ℕ → Type 0
HasNumbers s count = s.next + count ≤ most_of Ids + 1

-- 2. What stands within the limits

-- of tables, of the indexes of each table, and of numbers
pub record IsWithinCounts (s : Standing) : Type 0 where
  pub tables : length s.tables ≤ most_of Tables
  pub indexes : (n : ℕ) → length (indexes_of n s.indexes) ≤ most_of Indexes
  pub ids : s.next ≤ most_of Ids + 1

-- a table of this number stands
abbrev pub HasTable : List Table → ℕ → Type 0
HasTable tables n = first_at (map number_of_table tables) n < length tables

-- the table of the first index of this number
abbrev pub table_of_index : List Index → ℕ → Option ℕ
table_of_index [] n = None
table_of_index (x ∷ xs) n = if x.id.0 == n then Some x.table.0 else table_of_index xs n

-- There is room for a definition: it is one more, or takes the place of one that stands, and so many numbers are left as it draws.
abbrev pub HasRoom : Standing → CatalogItem → Type 0
HasRoom s (TableIs t) = (HasTable s.tables t.id.0 ⊎ HasRoomForTable s) × HasNumbers s (length (newly_drawn s (TableIs t)))
HasRoom s (IndexIs i) = ((table_of_index s.indexes i.id.0 ≡ Some i.table.0) ⊎ HasRoomForIndex s i.table.0) × HasNumbers s (length (newly_drawn s (IndexIs i)))
HasRoom s (TableGone n) = Unit {0}
HasRoom s (IndexGone n) = Unit {0}
