-- When what a server keeps of definitions is what the trail tells.
use Rattle.std.specs.Prelude.{◌≡◌, ◌≢◌, ◌<◌, ℕ, List, [], ◌∷◌, map}
use Rattle.std.specs.List.{AllByRecursion}
use Rattle.px_tables.specs.declared.index.Index.{Index}
use Rattle.px_tables.specs.declared.table.Table.{Table}
use Rattle.px_trail.specs.Trail.{Catalogue}
use Rattle.px_schema.specs.Stands.{IsBelowNext}
use Rattle.px_schema.specs.declared.standing.Standing.{Standing}
use Rattle.px_recovery.specs.Stands.{opened_state}
use Rattle.px_recovery.specs.Tables.{index_in, number_of_index, table_in}

-- no table and no index has the name
pub record IsUnused (s : Standing) (name : List ℕ) : Type 0 where
  pub tables : AllByRecursion (λ t. t.name ≢ name) s.tables
  pub indexes : AllByRecursion (λ i. i.name ≢ name) s.indexes

abbrev pub number_of_table : Table → ℕ
number_of_table t = t.id.0

-- each has a greater number than those before it
abbrev pub AreRisingBy : {A : Type 0} → (A → ℕ) → List A → Type 0
AreRisingBy num [] = Unit {0}
AreRisingBy num (x ∷ xs) = AllByRecursion (λ y. num x < num y) xs × AreRisingBy num xs

-- the tables and indexes stand in the order of their numbers, which are below the next one
pub record IsInOrder (s : Standing) : Type 0 where
  pub tables : AreRisingBy number_of_table s.tables
  pub indexes : AreRisingBy number_of_index s.indexes
  pub below : IsBelowNext s

-- The same next number, the same tables and the same indexes, each by its number
pub record Agrees (s : Standing) (c : Catalogue) : Type 0 where
  pub order : IsInOrder s
  pub next : s.next ≡ c.next
  pub tables : (t : ℕ) → table_in s.tables t ≡ c.tables t
  pub indexes : (i : ℕ) → index_in s.indexes i ≡ c.indexes i

-- an index in a run that opens the folder
abbrev pub as_opened : Index → Index
as_opened i = record i { state = opened_state i.state }

abbrev pub opened_standing : Standing → Standing
opened_standing s = record s { indexes = map as_opened s.indexes }
