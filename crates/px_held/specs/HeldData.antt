-- The changes of one table that are held.
use Rattle.std.specs.Prelude.{ℕ, ◌≡◌, ◌≢◌, ◌≤◌, true, List, [], ◌∷◌, length, Option, None, Some}
use Rattle.px_values.specs.declared.change.Change.{Change}
use Rattle.px_values.specs.declared.name.TableId.{TableId}
use Rattle.px_tables.specs.declared.table.Table.{Table}
use Rattle.px_trail.specs.Batches.{is_distinct, rows_of}
use Rattle.px_trail.specs.Trail.{table_shape}
use Rattle.px_held.specs.Held.{with_change, with_changes}

-- the table's number and its name, and the changes
pub record HeldData : Type 0 where
  pub table : TableId
  pub name : List ℕ
  pub changes : List Change

-- the changes are so many, and of so different rows, as those of a batch have to be
pub record IsBatch (cs : List Change) : Type 0 where
  pub some : cs ≢ []
  pub rows : length cs ≤ 1000
  pub distinct : is_distinct (rows_of cs) ≡ true

-- this change of the table alone is held
pub record HoldsOne (t : Table) (c : Change) (h : HeldData) : Type 0 where
  pub table : h.table ≡ t.id
  pub name : h.name ≡ t.name
  pub changes : h.changes ≡ c ∷ []

-- one change more of the table
abbrev pub with_more : Table → HeldData → Change → HeldData
with_more t h c = record { table = h.table; name = h.name; changes = with_change (table_shape t) h.changes c }

-- the changes that are held, where some are
abbrev pub changes_in : Option HeldData → List Change
changes_in None = []
changes_in (Some h) = h.changes

abbrev pub held_as : TableId → List ℕ → List Change → HeldData
held_as t name cs = record { table = t; name = name; changes = cs }

-- what is held of a table with these changes, which are held one after the other behind what was held of it
abbrev pub held_with : Table → Option HeldData → List Change → Option HeldData
held_with t None [] = None
held_with t None (c ∷ cs) = Some (held_as t.id t.name (with_changes (table_shape t) [] (c ∷ cs)))
held_with t (Some h) cs = Some (held_as h.table h.name (with_changes (table_shape t) h.changes cs))
