-- A condition and its conjuncts.
use Rattle.std.proofs.Common.{◌≡◌, ◌↔◌, List, [], ◌∷◌, ◌++◌, refl}
use Rattle.px_values.specs.declared.row.Value.{Value}
use Rattle.px_expr.specs.Holds.{Selects, truth_of, all_of}
use Rattle.px_expr.specs.declared.bound.Truth.TheVariants as truths
use Rattle.px_expr.specs.declared.bound.Bound.{Bound, Or', And', Not', Row_of-Bound, end_of-Bound, more_of-Bound}
use Rattle.px_expr.specs.declared.bound.Bound.TheVariants as bounds
use Rattle.px_conjuncts.specs.Conjuncts.{all_true, conjuncts_of, conjuncts_in}
use Rattle.px_conjuncts.proofs.Rests.{each_true, none_true}
use Rattle.px_conjuncts.proofs.TestSays.{both_true}

single : (row : List Value) (b : Bound) → Selects b row ↔ all_true row (b ∷ [])
single row b = let e = each_true row b [] in (λ h. e.1 (h, none_true row), λ h. (e.0 h).0)

joined : (row : List Value) (bs cs : List Bound) → all_true row (bs ++ cs) ↔ (all_true row bs × all_true row cs)
joined row [] cs = (λ h. (none_true row, h), λ h. h.1)
joined row (b ∷ bs) cs =
    let rest = joined row bs cs in
    let whole = each_true row b (bs ++ cs) in
    let front = each_true row b bs in (
      λ h. (let k = whole.0 h in let r = rest.0 k.1 in (front.1 (k.0, r.0), r.1)),
      λ h. (let k = front.0 h.0 in whole.1 (k.0, rest.1 (k.1, h.1))),
    )

mutual
  pub condition_is : (b : Bound) (row : List Value) → Selects b row ↔ all_true row (conjuncts_of b)
  condition_is (And' shape parts) row = parts_are parts row
  condition_is (Or' shape parts) row = single row (Or' shape parts)
  condition_is (Not' shape part) row = single row (Not' shape part)
  condition_is (bounds.Test t) row = single row (bounds.Test t)

  parts_are : {m : _} → (parts : Row_of-Bound m) (row : List Value) → (all_of row parts ≡ truths.True) ↔ all_true row (conjuncts_in parts)
  parts_are end_of-Bound row = (λ h. none_true row, λ h. refl)
  parts_are (more_of-Bound b rest) row =
      let one = condition_is b row in
      let others = parts_are rest row in
      let both = both_true (truth_of row b) (all_of row rest) in
      let joins = joined row (conjuncts_of b) (conjuncts_in rest) in (
        λ h. (let k = both.0 h in joins.1 (one.0 k.0, others.0 k.1)),
        λ h. (let k = joins.0 h in both.1 (one.1 k.0, others.1 k.1)),
      )
