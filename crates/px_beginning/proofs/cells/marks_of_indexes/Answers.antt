use Rattle.std.proofs.Common.{◌≡◌, ◌∙◌, ◌++◌, ◌∷◌, [], Err, sym, refl, arith, rules}
use Rattle.px_forms.specs.Indexes.{IndexForm}
use Rattle.px_phases.specs.Phases.{HasLongIndexed, mark_parts}
use Rattle.px_values.specs.declared.limit.Limit.{Limit as Bound}
use Rattle.px_group.specs.declared.group.IndexRegion.{IndexRegion}
use Rattle.px_beginning.specs.declared.fault.BeginFault.{BeginFault as Fault}
use Rattle.px_beginning.proofs.Lists.{all_more, kept_more, long_in_at}
use Rattle.px_beginning.proofs.cells.marks_of_indexes.Goals as goal

pub returns-in_err-cells-clause-long : goal.returns-in_err-cells-clause-long
returns-in_err-cells-clause-long c e =
    let m : c.marks_at.result ≡ Err (Fault.Limit Bound.Key) = search rules in
    long_in_at c.args.table.now c.args.indexes.now c.loop-part.part-index c.part-item.result c.args.changes.now c.args.transitions.now c.loop-part-test.true c.part-item.is (c.marks_at.ensures.long m)

pub loop-part-preserved : goal.loop-part-preserved
loop-part-preserved c =
    let g = λ (f : IndexForm). mark_parts f c.args.stamp c.args.changes.now c.args.transitions.now in
    record {
      kept = c.push_back_reserved.ensures.items ∙ ((λ i. c.loop-part.invariant.kept i ++ c.in_ok-cells.ensures.kept i ∷ []) ∙ sym (kept_more g c.args.table.now c.args.indexes.now c.loop-part.part-index c.part-item.result c.loop-part-test.true c.part-item.is));
      short = all_more (λ (y : IndexRegion). HasLongIndexed c.args.table.now y.index c.args.changes.now c.args.transitions.now → ⊥) c.args.indexes.now c.loop-part.part-index c.part-item.result c.loop-part-test.true c.part-item.is c.loop-part.invariant.short (c.in_ok-cells.ensures.short refl);
      count = (let n = c.loop-part.invariant.count in let m = c.push_back_reserved.ensures.len in omega arith);
      room = (let n = c.loop-part.invariant.room in let m = c.push_back_reserved.ensures.capacity in omega arith);
    }

pub returns-in_err-cells-clause-only : goal.returns-in_err-cells-clause-only
returns-in_err-cells-clause-only c limit e =
    let m : c.marks_at.result ≡ Err (Fault.Limit limit) = search rules in
    c.marks_at.ensures.only limit m
