-- Stored values are read.
use Rattle.std.proofs.Common.{◌≢◌, sym, ◌∙◌, subst}
use Rattle.px_values.specs.Types.{HasType}
use Rattle.px_values.specs.declared.column.ColType.{ColType}
use Rattle.px_values.specs.declared.row.Value.{Value}
use Rattle.px_values.specs.declared.row.Value.TheVariants.{Null}
use Rattle.px_rows.specs.Stored.{stored}
use Rattle.px_rows.proofs.KeysBack.{value_back}
use Rattle.px_cellshapes.specs.Values.{IsStored}

pub stored_is : (ty : ColType) (v : Value) → HasType ty v → v ≢ Null → IsStored ty (stored ty v)
stored_is ty v h n = record { typed = subst (HasType ty) (sym (value_back ty v h n)) h; some = λ e. n (sym (value_back ty v h n) ∙ e) }
