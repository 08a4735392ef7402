use Rattle.std.proofs.Common.{◌≡◌, drop}
use Rattle.std.specs.List.{flat_map}
use Rattle.px_create.specs.Tables.{inline_key_places, new_names}
use Rattle.px_create.proofs.first_key.first_inline.Given as goal

abbrev pub invariant-loop-column : goal.invariant-loop-column
invariant-loop-column l = flat_map (inline_key_places (new_names l.columns)) l.columns ≡ flat_map (inline_key_places (new_names l.columns)) (drop l.column-index l.columns)
