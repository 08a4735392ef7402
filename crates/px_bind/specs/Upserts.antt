-- What an UPSERT says, and what is wrong with it.
use Rattle.std.specs.Prelude.{ℕ, ◌+◌, Bool, if◌then◌else◌, not, nat_eq, List, [], ◌∷◌, ◌++◌, map, length, Option, Some, None}
use Rattle.std.specs.List.{flat_map, list_any, slice_get}
use Rattle.std.specs.Option.{option_map_or}
use Rattle.px_values.specs.declared.change.Assignment.{Assignment}
use Rattle.px_values.specs.declared.change.Change.{Change}
use Rattle.px_values.specs.declared.change.What.TheVariants.{Set}
use Rattle.px_values.specs.declared.row.Value.{Value}
use Rattle.px_values.specs.declared.row.Value.TheVariants.{Null}
use Rattle.px_ast.specs.declared.literal.Literal.{Literal}
use Rattle.px_ast.specs.declared.statement.Upsert.{Upsert}
use Rattle.px_tables.specs.declared.table.KeyPlace.{KeyPlace}
use Rattle.px_tables.specs.declared.table.Table.{Table}
use Rattle.px_tables.specs.declared.table.TableColumn.{TableColumn}
use Rattle.px_resolve.specs.Names.{names_of, place_of_name, once, places_from, key_may_be_null}
use Rattle.px_resolve.specs.Literals.{value_of_literal, is_null, literal_faults, mismatch_if}
use Rattle.px_resolve.specs.declared.fault.BindFault.{BindFault}
use Rattle.px_resolve.specs.declared.fault.BindFault.TheVariants.{NullKey}

-- the columns that it names, as places: all of the table where it has no list
abbrev pub named : Table → Upsert → List ℕ
named t u = elim u.columns [ None ↦ places_from 0 t.columns | Some names ↦ map (place_of_name (names_of t.columns)) names ]

abbrev pub list_faults : Table → Option (List (List ℕ)) → List BindFault
list_faults t None = []
list_faults t (Some names) = once (names_of t.columns) [] names

-- the faults of a literal that is to be a value of the column at a place
abbrev pub value_faults : List TableColumn → ℕ → Literal → List BindFault
value_faults columns place l = option_map_or (λ c. literal_faults c.column_type l) (slice_get columns place) []

-- the faults of literals that are to be values of the columns at these places
abbrev pub given_faults : List TableColumn → List ℕ → List Literal → List BindFault
given_faults columns places [] = []
given_faults columns [] (l ∷ ls) = []
given_faults columns (p ∷ places) (l ∷ ls) = value_faults columns p l ++ given_faults columns places ls

-- where a place stands among these; behind all where it is none of them
abbrev pub position_of : List ℕ → ℕ → ℕ
position_of [] place = 0
position_of (p ∷ places) place = if nat_eq p place then 0 else position_of places place + 1

-- the value that is given for the column at a place; NULL where none is
abbrev pub given : List ℕ → List Literal → ℕ → Value
given places ls place = option_map_or (λ l. value_of_literal l.constant) (slice_get ls (position_of places place)) Null

-- a key column that may not be NULL, and is
abbrev pub null_key : List TableColumn → List ℕ → List Literal → KeyPlace → List BindFault
null_key columns places ls k =
    option_map_or (λ c. if is_null (given places ls k.column) then (if key_may_be_null c.column_type c.not_null then [] else NullKey c.name ∷ []) else [])
    (slice_get columns k.column) []

-- names, then the number of values, then literals, then NULLs in the order of the key
abbrev pub upsert_faults : Table → Upsert → List BindFault
upsert_faults t u =
    list_faults t u.columns
    ++ (mismatch_if (not (nat_eq (length u.values) (length (named t u)))) u.values_place
    ++ (given_faults t.columns (named t u) u.values ++ flat_map (null_key t.columns (named t u) u.values) t.key))

-- ---- what it asks for

abbrev pub is_key : List KeyPlace → ℕ → Bool
is_key key place = list_any (λ k. nat_eq k.column place) key

-- the assignment of a value to the column at a place, where that isn't one of the key
abbrev pub assignment_of : List KeyPlace → ℕ → Literal → List Assignment
assignment_of key place l = if is_key key place then [] else record { column = place; value = value_of_literal l.constant } ∷ []

-- an assignment for each column but those of the key, in text order
abbrev pub assignments_of : List KeyPlace → List ℕ → List Literal → List Assignment
assignments_of key places [] = []
assignments_of key [] (l ∷ ls) = []
assignments_of key (p ∷ places) (l ∷ ls) = assignment_of key p l ++ assignments_of key places ls

-- the values of the key, in its order, and those assignments
abbrev pub upsert_change : Table → Upsert → Change
upsert_change t u = record { row = map (λ k. given (named t u) u.values k.column) t.key; what = Set (assignments_of t.key (named t u) u.values) }
