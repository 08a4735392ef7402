use Rattle.std.proofs.Common.{◌∙◌, List, Bool, ap, arith, sym}
use Rattle.px_conjuncts.specs.Conjuncts.{equal_in, told_by}
use Rattle.px_conjuncts.specs.Paths.{equal_value, first_told, unmarked, without_first}
use Rattle.px_conjuncts.proofs.Marks.{first_none, first_some}
use Rattle.px_conjuncts.proofs.walk.first_equal.Goals as goal

pub returns-in-Some-clause-value : goal.returns-in-Some-clause-value
returns-in-Some-clause-value c =
    let at = c.loop-index in
    let cs = c.args.conjuncts.now in
    let f = equal_in c.args.column in
    let d = c.index-conjuncts-index.result in
    let r = first_some f cs at.marks at.index (equal_value c.in-Some.value) d (omega arith) c.loop-index-test.true c.if-marks-index.false (ap (told_by f) (sym c.index-conjuncts-index.is) ∙ sym c.in-Some.ensures) at.invariant.passed in
    sym r.0 ∙ ap (λ (ms : List Bool). first_told f (unmarked cs ms)) at.invariant.same

pub returns-in-Some-clause-left : goal.returns-in-Some-clause-left
returns-in-Some-clause-left c =
    let at = c.loop-index in
    let cs = c.args.conjuncts.now in
    let f = equal_in c.args.column in
    let d = c.index-conjuncts-index.result in
    let r = first_some f cs at.marks at.index (equal_value c.in-Some.value) d (omega arith) c.loop-index-test.true c.if-marks-index.false (ap (told_by f) (sym c.index-conjuncts-index.is) ∙ sym c.in-Some.ensures) at.invariant.passed in
    r.1 ∙ ap (λ (ms : List Bool). without_first f (unmarked cs ms)) at.invariant.same

pub returns-clause-value : goal.returns-clause-value
returns-clause-value c =
    let at = c.loop-index in
    let cs = c.args.conjuncts.now in
    let f = equal_in c.args.column in
    let r = first_none f cs at.marks (omega arith) (λ k b. at.invariant.passed k (omega arith)) in
    sym r.0 ∙ ap (λ (ms : List Bool). first_told f (unmarked cs ms)) at.invariant.same

pub returns-clause-left : goal.returns-clause-left
returns-clause-left c =
    let at = c.loop-index in
    let cs = c.args.conjuncts.now in
    let f = equal_in c.args.column in
    let r = first_none f cs at.marks (omega arith) (λ k b. at.invariant.passed k (omega arith)) in
    r.1 ∙ ap (λ (ms : List Bool). without_first f (unmarked cs ms)) at.invariant.same
