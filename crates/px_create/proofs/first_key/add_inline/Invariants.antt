use Rattle.std.proofs.Common.{◌≡◌, ◌++◌, drop}
use Rattle.std.specs.List.{flat_map}
use Rattle.px_create.specs.Tables.{inline_key_places, new_names}
use Rattle.px_create.proofs.first_key.add_inline.Given as goal

abbrev pub invariant-loop-column : goal.invariant-loop-column
invariant-loop-column l =
    l.initial.key.items ++ flat_map (inline_key_places (new_names l.columns)) l.columns ≡ l.key.items ++ flat_map (inline_key_places (new_names l.columns)) (drop l.column-index l.columns)
