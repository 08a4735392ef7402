-- What a merged change does.
use Rattle.std.proofs.Common.{◌≡◌, List, refl, sym, ◌∙◌, ap, Some, None}
use Rattle.px_values.specs.declared.change.What.{What}
use Rattle.px_values.specs.declared.change.What.TheVariants.{Set, Gone}
use Rattle.px_values.specs.declared.row.Value.{Value}
use Rattle.px_values.specs.States.{RowState, Shape, apply, assigned, fresh_row}
use Rattle.px_held.specs.Merged.{HasKey, merged, nulls}
use Rattle.px_held.proofs.Assigning.{joined-assigned}
use Rattle.px_held.proofs.Fresh.{fresh-nulls}

pub merged-applies : (shape : Shape) (key : List Value) (state : RowState) (earlier later : What) → HasKey shape key state → apply shape key (apply shape key state earlier) later ≡ apply shape key state (merged shape earlier later)
merged-applies shape key None (Set earlier) (Set later) has = ap Some (joined-assigned earlier later (fresh_row shape key))
merged-applies shape key (Some row) (Set earlier) (Set later) has = ap Some (joined-assigned earlier later row)
merged-applies shape key None Gone (Set later) has = ap Some (ap (λ r. assigned r later) (sym (fresh-nulls shape key)) ∙ joined-assigned (nulls shape) later (fresh_row shape key))
merged-applies shape key (Some row) Gone (Set later) has = ap Some (ap (λ r. assigned r later) (sym has) ∙ joined-assigned (nulls shape) later row)
merged-applies shape key None (Set earlier) Gone has = refl
merged-applies shape key (Some row) (Set earlier) Gone has = refl
merged-applies shape key None Gone Gone has = refl
merged-applies shape key (Some row) Gone Gone has = refl
