-- What is asked before a table is made.
use Rattle.std.specs.Prelude.{◌≡◌, ◌<◌, ◌+◌, ℕ, length, Option, Some, None}
use Rattle.std.specs.List.{AllByRecursion}
use Rattle.px_values.specs.Limits.{most_of}
use Rattle.px_values.specs.declared.limit.Limit.TheVariants as bound
use Rattle.px_tables.specs.declared.table.NewTable.{NewTable}
use Rattle.px_tables.specs.declared.table.Table.{Table}
use Rattle.px_trail.specs.Trail.{made_table}
use Rattle.px_schema.specs.Counts.{HasNumbers, HasRoomForTable}
use Rattle.px_schema.specs.Parts.{name_piece}
use Rattle.px_schema.specs.Stands.{stands_after}
use Rattle.px_schema.specs.declared.item.CatalogItem.TheVariants.{TableIs}
use Rattle.px_schema.specs.declared.standing.Standing.{Standing}
use Rattle.px_group.specs.declared.group.Group.{Group}
use Rattle.px_defined.specs.Defined.{IsNewGroup}
use Rattle.px_calls.specs.declared.fault.StepFault.{StepFault}
use Rattle.px_calls.specs.declared.fault.StepFault.TheVariants.{Closed, Limit, Memory, NameExists}
use Rattle.px_standing.specs.Agrees.{IsUnused}

-- nothing stands against the table, and its names can be spelled
pub record MayMake (s : Standing) (closed : Option ℕ) (what : NewTable) : Type 0 where
  pub running : closed ≡ None
  pub free : IsUnused s what.name
  pub room : HasRoomForTable s
  pub numbers : HasNumbers s (length what.least_keys + 1)
  pub called : name_piece.right what.name
  pub columns : AllByRecursion (λ c. name_piece.right c.name) what.columns
  pub few : length what.key < 256

-- why it isn't made
abbrev pub IsUnmade : Standing → Option ℕ → NewTable → StepFault → Type 0
IsUnmade s closed what (Closed call) = closed ≡ Some call
IsUnmade s closed what NameExists = (closed ≡ None) × (IsUnused s what.name → ⊥)
IsUnmade s closed what (Limit bound.Tables count) = (closed ≡ None) × (count ≡ most_of bound.Tables) × (HasRoomForTable s → ⊥)
IsUnmade s closed what (Limit bound.Ids count) = (closed ≡ None) × (count ≡ most_of bound.Ids) × (HasNumbers s (length what.least_keys + 1) → ⊥)
IsUnmade s closed what Memory = closed ≡ None
IsUnmade s closed what f = ⊥

-- the table with the next numbers
abbrev pub table_made : Standing → NewTable → Table
table_made s what = made_table s.next (record { 0 = s.next + length what.least_keys }) what

-- its record, its group, what stands then, and its definition once more
pub record AreParts (s : Standing) (what : NewTable) (item : Table) (group : Group) (now : Standing) (copy : NewTable) : Type 0 where
  pub item_is : item ≡ table_made s what
  pub group_is : IsNewGroup (table_made s what) group
  pub standing_is : now ≡ stands_after s (TableIs (table_made s what))
  pub copy_is : copy ≡ what
