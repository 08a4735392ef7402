-- One removal more, in front of the others.
use Rattle.std.specs.Prelude.{◌≡◌, ◌⊎◌, List, [], ◌∷◌}
use Rattle.std.specs.declared.cmp.Ordering.{Ordering}
use Rattle.std.specs.declared.cmp.Ordering.TheVariants.{Less, Equal}
use Rattle.px_values.specs.declared.change.Change.{Change}
use Rattle.px_values.specs.declared.change.What.TheVariants.{Gone}
use Rattle.px_values.specs.declared.row.Value.{Value}
use Rattle.px_tables.specs.declared.table.Table.{Table}
use Rattle.px_calls.specs.Requires.{IsChangeOf}
use Rattle.px_tables.specs.declared.table.KeyPlace.{KeyPlace}
use Rattle.px_removals.specs.Removals.{key_order}

-- where a row stands to the first of them
abbrev pub place_in : List KeyPlace → List Value → List Change → Ordering
place_in key row [] = Less
place_in key row (c ∷ cs) = key_order key row c.row

abbrev pub removal : List Value → Change
removal row = record { row = row; what = Gone }

-- the row's removal stands in front, or it was the first already
abbrev pub IsPut : Table → List Change → List Value → List Change → Type 0
IsPut t cs row cs' = ((place_in t.key row cs ≡ Equal) × (cs' ≡ cs)) ⊎ ((place_in t.key row cs ≡ Less) × IsChangeOf t (removal row) × (cs' ≡ removal row ∷ cs))
