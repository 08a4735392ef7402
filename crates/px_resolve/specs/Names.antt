-- Columns by their names, and what is wrong with the names of a statement.
use Rattle.std.specs.Prelude.{ℕ, ◌+◌, Bool, true, false, if◌then◌else◌, nat_eq, nat_lt, List, [], ◌∷◌, ◌++◌, length, map, Option}
use Rattle.std.specs.List.{flat_map, list_any, slice_get}
use Rattle.std.specs.Str.{bytes_eq}
use Rattle.px_values.specs.declared.column.ColType.{ColType}
use Rattle.px_values.specs.declared.column.ColType.TheVariants.{Varchar}
use Rattle.px_tables.specs.declared.table.KeyPlace.{KeyPlace}
use Rattle.px_tables.specs.declared.table.TableColumn.{TableColumn}
use Rattle.px_ast.specs.declared.definition.KeyPart.{KeyPart}
use Rattle.px_resolve.specs.declared.fault.BindFault.{BindFault}
use Rattle.px_resolve.specs.declared.fault.BindFault.TheVariants.{NoColumn, Twice}

abbrev pub names_of : List TableColumn → List (List ℕ)
names_of columns = map (λ c. c.name) columns

abbrev pub part_names : List KeyPart → List (List ℕ)
part_names parts = map (λ p. p.column) parts

-- the place of a name among these; behind all where it is none of them
abbrev pub place_of_name : List (List ℕ) → List ℕ → ℕ
place_of_name [] name = 0
place_of_name (n ∷ names) name = if bytes_eq n name then 0 else place_of_name names name + 1

-- the column of this name
abbrev pub column_of : List TableColumn → List ℕ → Option TableColumn
column_of columns name = slice_get columns (place_of_name (names_of columns) name)

-- one of the places is this one
abbrev pub is_among : List ℕ → ℕ → Bool
is_among places place = list_any (λ p. nat_eq p place) places

-- a name that is none of these; or one whose place was named before
abbrev pub name_faults : List (List ℕ) → List ℕ → List ℕ → List BindFault
name_faults names seen name =
    if nat_lt (place_of_name names name) (length names) then (if is_among seen (place_of_name names name) then Twice name ∷ [] else []) else NoColumn name ∷ []

-- names that may be repeated
abbrev pub known : List (List ℕ) → List (List ℕ) → List BindFault
known names given = flat_map (name_faults names []) given

-- names that stand once, and whose places are none of those named before
abbrev pub once : List (List ℕ) → List ℕ → List (List ℕ) → List BindFault
once names seen [] = []
once names seen (n ∷ given) = name_faults names seen n ++ once names (seen ++ place_of_name names n ∷ []) given

-- a part of a key by its column's place
abbrev pub key_place : List (List ℕ) → KeyPart → KeyPlace
key_place names p = record { column = place_of_name names p.column; direction = p.direction }

-- the places of all columns, where the first has this one
abbrev pub places_from : {X : Type 0} → ℕ → List X → List ℕ
places_from place [] = []
places_from place (c ∷ columns) = place ∷ places_from (place + 1) columns

-- a primary key column may be NULL where it is a text without NOT NULL
abbrev pub key_may_be_null : ColType → Bool → Bool
key_may_be_null Varchar true = false
key_may_be_null Varchar false = true
key_may_be_null column_type not_null = false
