-- The query by which a DELETE finds its rows.
use Rattle.std.specs.Prelude.{[], map, Option, None}
use Rattle.px_tables.specs.declared.table.Table.{Table}
use Rattle.px_expr.specs.declared.bound.Bound.{Bound}
use Rattle.px_bind.specs.declared.request.Query.{Query}
use Rattle.px_plan.specs.Asked.{asked_of}
use Rattle.px_planned.specs.declared.planned.Planned.{Planned}

-- of each row that meets the condition the values of its key, in the order of the key
abbrev pub query_for : Table → Option Bound → Query
query_for t filter = record { table = t.id; hints = []; shown = map (λ p. p.column) t.key; filter = filter; order = t.key; limit = None }

abbrev pub planned_for : Table → Option Bound → Planned
planned_for t filter = record { table = t; asked = asked_of (query_for t filter) }
