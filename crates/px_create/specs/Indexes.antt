-- Indexes that statements name or make, and what is wrong with them.
use Rattle.std.specs.Prelude.{ℕ, Bool, if◌then◌else◌, ◌||◌, List, [], ◌∷◌, ◌++◌, map, Option, Some, None}
use Rattle.std.specs.Option.{is_some}
use Rattle.std.specs.Str.{bytes_eq}
use Rattle.px_ast.specs.declared.definition.CreateIndex.{CreateIndex}
use Rattle.px_values.specs.declared.name.IndexId.{IndexId}
use Rattle.px_tables.specs.declared.index.Index.{Index}
use Rattle.px_tables.specs.declared.index.NewIndex.{NewIndex}
use Rattle.px_tables.specs.declared.table.Table.{Table}
use Rattle.px_create.specs.Limits.{name_limit}
use Rattle.px_resolve.specs.Names.{names_of, part_names, place_of_name, key_place, once}
use Rattle.px_resolve.specs.declared.fault.BindFault.{BindFault}
use Rattle.px_resolve.specs.declared.fault.BindFault.TheVariants.{NoIndex}

-- the key parts, then INCLUDE, which may not name what the index's key has
abbrev pub index_faults : Table → CreateIndex → List BindFault
index_faults t i =
    once (names_of t.columns) [] (part_names i.parts)
    ++ (once (names_of t.columns) (map (place_of_name (names_of t.columns)) (part_names i.parts) ++ map (λ p. p.column) t.key) i.include ++ name_limit i.name)

abbrev pub new_index : Table → CreateIndex → NewIndex
new_index t i = record { table = t.id; name = i.name; parts = map (key_place (names_of t.columns)) i.parts; included = map (place_of_name (names_of t.columns)) i.include }

-- the number of the index of this name
abbrev pub index_id_named : List Index → List ℕ → Option IndexId
index_id_named [] name = None
index_id_named (i ∷ indexes) name = if bytes_eq i.name name then Some i.id else index_id_named indexes name

-- none of the indexes has this name, and IF EXISTS isn't written
abbrev pub missing_index : List Index → Bool → List ℕ → List BindFault
missing_index indexes if_exists name = if is_some (index_id_named indexes name) || if_exists then [] else NoIndex name ∷ []
