use Rattle.std.proofs.Common.{◌∙◌, List, ap, sym, length-set, take}
use Rattle.std.specs.Prelude.{slice_set}
use Rattle.px_values.specs.States.{assigned}
use Rattle.px_values.specs.declared.row.Value.{Value}
use Rattle.px_phases.proofs.Assigned.{assigned_more}
use Rattle.px_phases.proofs.transition.assigned.Goals as goal

pub loop-assignment-preserved : goal.loop-assignment-preserved
loop-assignment-preserved c =
    let column = c.assignment-item.result.column in
    let value = c.in_ok-value.value in
    record {
      set = ap (λ (xs : List Value). slice_set xs column value) c.loop-assignment.invariant.set
          ∙ (ap (λ (v : Value). slice_set (assigned c.args.values.items (take c.loop-assignment.assignment-index c.args.assignments.now)) column v) c.in_ok-value.ensures
          ∙ sym (assigned_more c.args.values.items c.args.assignments.now c.loop-assignment.assignment-index c.assignment-item.result c.loop-assignment-test.true c.assignment-item.is));
      length = length-set c.loop-assignment.values.items column value ∙ c.loop-assignment.invariant.length;
    }
