-- A new table, and what is wrong with one.
use Rattle.std.specs.Prelude.{ℕ, ◌+◌, Bool, false, if◌then◌else◌, ◌&&◌, ◌||◌, not, nat_lt, List, [], ◌∷◌, ◌++◌, map, length, take, Option, Some, None}
use Rattle.std.specs.List.{flat_map, list_any, slice_get}
use Rattle.std.specs.Option.{is_some, option_and_then, option_map, option_map_or}
use Rattle.std.specs.Ordering.{is_lt}
use Rattle.px_values.specs.Compare.{compare_of}
use Rattle.px_values.specs.Limits.{most_key}
use Rattle.px_values.specs.declared.limit.Limit.TheVariants as limits
use Rattle.px_values.specs.declared.row.Value.{Value}
use Rattle.px_keys.specs.Spelling.{part_bytes}
use Rattle.px_keys.specs.declared.parts.KeyColumn.{KeyColumn}
use Rattle.px_ast.specs.declared.definition.Column.{Column}
use Rattle.px_ast.specs.declared.definition.CreateTable.{CreateTable}
use Rattle.px_ast.specs.declared.definition.KeyConstraint.{KeyConstraint}
use Rattle.px_ast.specs.declared.literal.Literal.{Literal}
use Rattle.px_tables.specs.declared.table.KeyPlace.{KeyPlace}
use Rattle.px_tables.specs.declared.table.NewTable.{NewTable}
use Rattle.px_tables.specs.declared.table.TableColumn.{TableColumn}
use Rattle.px_create.specs.Limits.{limit_passed, name_limit}
use Rattle.px_resolve.specs.Literals.{value_of_literal, is_bad_text, is_null, literal_faults, range_if}
use Rattle.px_resolve.specs.Names.{part_names, place_of_name, key_place, once, key_may_be_null}
use Rattle.px_create.specs.declared.first_key.FirstKey.{FirstKey}
use Rattle.px_resolve.specs.declared.fault.BindFault.{BindFault}
use Rattle.px_resolve.specs.declared.fault.BindFault.TheVariants.{NullKey, Twice}

abbrev pub new_names : List Column → List (List ℕ)
new_names columns = map (λ c. c.name) columns

-- ---- names

abbrev pub twice_if : Bool → List ℕ → List BindFault
twice_if wrong name = if wrong then Twice name ∷ [] else []

-- a column whose name an earlier one has, or with a primary key where one stands before
abbrev pub repeated : List (List ℕ) → ℕ → Bool → List Column → List BindFault
repeated names place keyed [] = []
repeated names place keyed (c ∷ columns) =
    twice_if (nat_lt (place_of_name names c.name) place || (keyed && is_some c.key)) c.name ++ repeated names (place + 1) (keyed || is_some c.key) columns

abbrev pub is_keyed_inline : List Column → Bool
is_keyed_inline columns = list_any (λ c. is_some c.key) columns

-- what counts as named before a constraint: its first column, where a column has the primary key
abbrev pub named_before : List Column → KeyConstraint → List ℕ
named_before columns k = if is_keyed_inline columns then map (place_of_name (new_names columns)) (take 1 (part_names k.parts)) else []

abbrev pub constraint_faults : List Column → Option KeyConstraint → List BindFault
constraint_faults columns None = []
constraint_faults columns (Some k) = once (new_names columns) (named_before columns k) (part_names k.parts)

-- ---- the primary key, as it is written

abbrev pub inline_key_places : List (List ℕ) → Column → List KeyPlace
inline_key_places names c = option_map_or (λ d. record { column = place_of_name names c.name; direction = d } ∷ []) c.key []

abbrev pub constraint_key : List (List ℕ) → Option KeyConstraint → List KeyPlace
constraint_key names None = []
constraint_key names (Some k) = map (key_place names) k.parts

abbrev pub key_of : CreateTable → List KeyPlace
key_of t = flat_map (inline_key_places (new_names t.columns)) t.columns ++ constraint_key (new_names t.columns) t.constraint

-- the column at a place, as a part of keys
abbrev pub key_column_at : List Column → KeyPlace → Option FirstKey
key_column_at columns p =
    option_map (λ c. record { place = p.column; column = record { ty = c.column_type; direction = p.direction; may_be_null = key_may_be_null c.column_type c.not_null } })
    (slice_get columns p.column)

-- the first key column
abbrev pub first_key_column : CreateTable → Option FirstKey
first_key_column t = option_and_then (key_column_at t.columns) (slice_get (key_of t) 0)

-- ---- split points

-- a point that isn't above the one before
abbrev pub is_not_above : KeyColumn → Option Value → Value → Bool
is_not_above column None v = false
is_not_above column (Some before) v = not (is_lt (compare_of column.direction before v))

abbrev pub is_long : KeyColumn → Value → Bool
is_long column v = nat_lt most_key (length (part_bytes column v))

-- a value of the first key column, above the one before, and not too long for a key
abbrev pub point_faults : KeyColumn → Option Value → Literal → List BindFault
point_faults column before l =
    literal_faults column.ty l ++ range_if (is_not_above column before (value_of_literal l.constant) || is_long column (value_of_literal l.constant)) l.place

abbrev pub points_faults : KeyColumn → Option Value → List Literal → List BindFault
points_faults column before [] = []
points_faults column before (l ∷ ls) = point_faults column before l ++ points_faults column (Some (value_of_literal l.constant)) ls

-- where no column is there to compare it with, a text that none can have
abbrev pub splits_faults : Option FirstKey → List Literal → List BindFault
splits_faults None ls = flat_map (λ l. range_if (is_bad_text (value_of_literal l.constant)) l.place) ls
splits_faults (Some first) ls = points_faults first.column None ls

-- ---- NULLs

-- a table without a primary key
abbrev pub keyless : CreateTable → List BindFault
keyless t = if is_some (slice_get (key_of t) 0) then [] else map NullKey (take 1 (new_names t.columns))

-- the first key column, where it may not be NULL, and is
abbrev pub null_split : List Column → FirstKey → Literal → List BindFault
null_split columns first l =
    if is_null (value_of_literal l.constant) && not first.column.may_be_null then option_map_or (λ c. NullKey c.name ∷ []) (slice_get columns first.place) [] else []

abbrev pub null_splits : List Column → Option FirstKey → List Literal → List BindFault
null_splits columns None ls = []
null_splits columns (Some first) ls = flat_map (null_split columns first) ls

-- ---- limits

abbrev pub constraint_limit : Option KeyConstraint → List BindFault
constraint_limit None = []
constraint_limit (Some k) = name_limit k.name

-- names in text order, then counts
abbrev pub limits_of_table : CreateTable → List BindFault
limits_of_table t =
    name_limit t.name ++ (flat_map (λ c. name_limit c.name) t.columns ++ (constraint_limit t.constraint
    ++ (limit_passed limits.Columns (length t.columns) ++ limit_passed limits.Regions (length t.splits + 1))))

abbrev pub table_name_faults : CreateTable → List BindFault
table_name_faults t = repeated (new_names t.columns) 0 false t.columns ++ constraint_faults t.columns t.constraint

abbrev pub null_faults : CreateTable → List BindFault
null_faults t = keyless t ++ null_splits t.columns (first_key_column t) t.splits

-- names, then literals, then NULLs, then limits
abbrev pub table_faults : CreateTable → List BindFault
table_faults t = table_name_faults t ++ (splits_faults (first_key_column t) t.splits ++ (null_faults t ++ limits_of_table t))

-- ---- the table

abbrev pub new_column : Column → TableColumn
new_column c = record { name = c.name; column_type = c.column_type; not_null = c.not_null }

-- the least key of each region but the first: its split point as a key part
abbrev pub split_keys : Option FirstKey → List Literal → List (List ℕ)
split_keys None ls = []
split_keys (Some first) ls = map (λ l. part_bytes first.column (value_of_literal l.constant)) ls

abbrev pub new_table : CreateTable → NewTable
new_table t = record { name = t.name; columns = map new_column t.columns; key = key_of t; least_keys = [] ∷ split_keys (first_key_column t) t.splits }
