use Rattle.std.proofs.Common.{◌≡◌, ◌∙◌, ◌+◌, ◌++◌, ◌∷◌, [], List, Bool, Some, add-one, ap, length, map, subst, suc, sym, ℕ}
use Rattle.std.proofs.lemmas.List.{with_items_is, map-append}
use Rattle.std.specs.Vec.{with_items}
use Rattle.px_values.specs.declared.row.Value.{Value}
use Rattle.px_conjuncts.specs.declared.path.EqualTo.{EqualTo}
use Rattle.px_conjuncts.specs.Conjuncts.{equal_in}
use Rattle.px_conjuncts.specs.Paths.{equal_value, first_told, span_in, unmarked, without_first}
use Rattle.px_conjuncts.proofs.Marks.{Walked, column_at, itself, walk_begin, walk_more, walk_none}
use Rattle.px_conjuncts.proofs.walk.told.Goals as goal

pub loop-column-init : goal.loop-column-init
loop-column-init c =
    let path = c.args.path.now in
    let cs = c.args.conjuncts.now in
    let marks = c.in_ok-marks.marks.items in
    subst (λ (es : List EqualTo). Walked path cs marks (map equal_value es) 0) (sym c.new-equal.ensures.items) (walk_begin path cs marks c.in_ok-marks.ensures)

pub returns-in-None-clause-leading : goal.returns-in-None-clause-leading
returns-in-None-clause-leading c =
    let at = c.loop-column in
    let path = c.args.path.now in
    let found = c.first_equal.new.marks in
    let a : length found ≡ length c.deref_mut.result.now = c.first_equal.auto.marks in
    let n : length found ≡ at.marks.len = a ∙ c.deref_mut.ensures.len in
    (walk_none path c.args.conjuncts.now at.marks.items c.deref_mut.result.now found c.deref_mut-in-None.result.now c.first_bounds-bounds.new.marks (map equal_value at.equal.items) at.column-index (column_at path at.column-index) (span_in c.first_bounds-bounds.result) c.loop-column-test.true (itself path at.column-index _ c.loop-column-test.true) c.deref_mut.ensures.value c.in-None.ensures.value c.in-None.ensures.left (c.deref_mut-in-None.ensures.value ∙ with_items_is at.marks found n) c.first_bounds-bounds.ensures.bounds c.first_bounds-bounds.ensures.left at.invariant).0

pub returns-in-None-clause-rest : goal.returns-in-None-clause-rest
returns-in-None-clause-rest c =
    let at = c.loop-column in
    let path = c.args.path.now in
    let cs = c.args.conjuncts.now in
    let found = c.first_equal.new.marks in
    let last = c.first_bounds-bounds.new.marks in
    let n : length found ≡ at.marks.len = c.first_equal.auto.marks ∙ c.deref_mut.ensures.len in
    let m : length last ≡ at.marks.len = c.first_bounds-bounds.auto.marks ∙ c.deref_mut-in-None.ensures.len in
    ap (λ (ms : List Bool). unmarked cs ms) (with_items_is (with_items at.marks found) last m)
    ∙ (walk_none path cs at.marks.items c.deref_mut.result.now found c.deref_mut-in-None.result.now last (map equal_value at.equal.items) at.column-index (column_at path at.column-index) (span_in c.first_bounds-bounds.result) c.loop-column-test.true (itself path at.column-index _ c.loop-column-test.true) c.deref_mut.ensures.value c.in-None.ensures.value c.in-None.ensures.left (c.deref_mut-in-None.ensures.value ∙ with_items_is at.marks found n) c.first_bounds-bounds.ensures.bounds c.first_bounds-bounds.ensures.left at.invariant).1

pub loop-column-preserved : goal.loop-column-preserved
loop-column-preserved c =
    let at = c.loop-column in
    let path = c.args.path.now in
    let cs = c.args.conjuncts.now in
    let found = c.first_equal.new.marks in
    let i = at.column-index in
    let p = column_at path i in
    let n : length found ≡ at.marks.len = c.first_equal.auto.marks ∙ c.deref_mut.ensures.len in
    let v = equal_value c.in-Some.value in
    let told : first_told (equal_in p) (unmarked cs at.marks.items) ≡ Some v = sym (c.in-Some.ensures.value ∙ ap (λ (ms : List Bool). first_told (equal_in p) (unmarked cs ms)) c.deref_mut.ensures.value) in
    let left : unmarked cs found ≡ without_first (equal_in p) (unmarked cs at.marks.items) = c.in-Some.ensures.left ∙ ap (λ (ms : List Bool). without_first (equal_in p) (unmarked cs ms)) c.deref_mut.ensures.value in
    let more = walk_more path cs at.marks.items found (map equal_value at.equal.items) i p v c.loop-column-test.true (itself path i _ c.loop-column-test.true) (c.first_equal.auto.marks ∙ ap length c.deref_mut.ensures.value ∙ at.invariant.count) told left at.invariant in
    let values : map equal_value at.equal.items ++ v ∷ [] ≡ map equal_value c.push.new.self.items = sym (ap (λ (es : List EqualTo). map equal_value es) c.in_ok-push-in-Some.ensures.items ∙ map-append equal_value at.equal.items (c.in-Some.value ∷ [])) in
    subst (λ (ms : List Bool). Walked path cs ms (map equal_value c.push.new.self.items) (i + 1)) (sym (with_items_is at.marks found n))
    (subst (λ (k : ℕ). Walked path cs found (map equal_value c.push.new.self.items) k) (sym (add-one i))
    (subst (λ (vs : List Value). Walked path cs found vs (suc i)) values more))
