-- What the open batches tell of a change.
use Rattle.std.specs.Prelude.{ℕ, Bool, ◌&&◌, List, is_some, nat_eq}
use Rattle.std.specs.List.{list_any}
use Rattle.px_values.specs.declared.row.Value.{Value}
use Rattle.px_openbatches.specs.Pending.{HeldBatch, change_left}

-- the open batch of the stamp is still to write the row
abbrev pub is_left_at : ℕ → List Value → HeldBatch → Bool
is_left_at s r h = nat_eq h.stamp s && is_some (change_left h r)

abbrev pub is_left_among : List HeldBatch → ℕ → List Value → Bool
is_left_among hs s r = list_any (is_left_at s r) hs
