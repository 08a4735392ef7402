-- Changes of a row, merged into one.
use Rattle.std.specs.Prelude.{ℕ, ◌≡◌, ◌++◌, ◌∷◌, [], ◌==◌, not, if◌then◌else◌, Bool, List, map, filter, Some, None}
use Rattle.std.specs.List.{list_any, range_with_len}
use Rattle.px_values.specs.declared.change.Assignment.{Assignment}
use Rattle.px_values.specs.declared.change.What.{What}
use Rattle.px_values.specs.declared.change.What.TheVariants.{Set, Gone}
use Rattle.px_values.specs.declared.row.Value.{Value}
use Rattle.px_values.specs.declared.row.Value.TheVariants.{Null}
use Rattle.px_values.specs.States.{RowState, Shape, assigned, fresh_row}
use Rattle.px_tables.specs.declared.table.KeyPlace.{KeyPlace}

-- one of the assignments is of this column
abbrev pub assigns_column : List Assignment → ℕ → Bool
assigns_column assignments column = list_any (λ a. a.column == column) assignments

-- the assignments whose column isn't named later
abbrev pub unnamed : (earlier later : List Assignment) → List Assignment
unnamed earlier later = filter (λ a. not (assigns_column later a.column)) earlier

-- all assignments: of a column that both name the later one
abbrev pub joined_assignments : (earlier later : List Assignment) → List Assignment
joined_assignments earlier later = unnamed earlier later ++ later

abbrev pub is_of_key : List ℕ → ℕ → Bool
is_of_key key column = list_any (λ c. c == column) key

abbrev pub null : ℕ → Assignment
null column = record { column = column; value = Null }

-- one of these is the column's place in the key
abbrev pub is_in_key : List KeyPlace → ℕ → Bool
is_in_key key column = list_any (λ p. p.column == column) key

abbrev pub null_outside : List KeyPlace → ℕ → List Assignment
null_outside key column = if is_in_key key column then [] else null column ∷ []

-- NULL for each column outside the key
abbrev pub nulls : Shape → List Assignment
nulls shape = map null (filter (λ c. not (is_of_key shape.key_columns c)) (range_with_len 0 shape.columns))

-- One change for two. Assignments are joined; a removal makes what was set before it void; and what is set behind a removal
-- leaves NULL in each other column outside the key
abbrev pub merged : Shape → (earlier later : What) → What
merged shape (Set earlier) (Set later) = Set (joined_assignments earlier later)
merged shape Gone (Set later) = Set (joined_assignments (nulls shape) later)
merged shape earlier Gone = Gone

-- The state is one of the row with this key: with NULL in all other columns it is a fresh row of the key.
abbrev pub HasKey : Shape → (key : List Value) → RowState → Type 0
HasKey shape key None = Unit {0}
HasKey shape key (Some row) = assigned row (nulls shape) ≡ fresh_row shape key
