-- What a table or an index was made from.
use Rattle.std.specs.Prelude.{map}
use Rattle.px_tables.specs.declared.index.Index.{Index}
use Rattle.px_tables.specs.declared.index.NewIndex.{NewIndex}
use Rattle.px_tables.specs.declared.table.NewTable.{NewTable}
use Rattle.px_tables.specs.declared.table.Table.{Table}

-- a table without the numbers that it drew
abbrev pub definition_of : Table → NewTable
definition_of t = record { name = t.name; columns = t.columns; key = t.key; least_keys = map (λ r. r.least_key) t.regions }

-- an index without the numbers that it drew
abbrev pub index_definition_of : Index → NewIndex
index_definition_of i = record { table = i.table; name = i.name; parts = i.parts; included = i.included }
