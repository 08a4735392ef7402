use Rattle.std.proofs.Common.{◌≡◌, ◌∙◌, subst}
use Rattle.std.specs.Prelude.{IfOk}
use Rattle.px_values.specs.declared.row.Value.{Value}
use Rattle.px_paths.specs.Paths.{value_on_path}
use Rattle.px_looks.proofs.IndexKeys.{among_first, among_no_part, among_no_value, among_other, rest_is}
use Rattle.px_looks.proofs.keys.+value_among.Goals as goal

pub returns-in-empty : goal.returns-in-empty
returns-in-empty t c = among_no_part c.args.path.now c.args.values.now c.args.place c.in-empty.len_below

pub returns-in-empty-values : goal.returns-in-empty-values
returns-in-empty-values t c = among_no_value c.args.path.now c.args.values.now c.args.place c.in-empty-values.len_below

pub returns-then-first-place : goal.returns-then-first-place
returns-then-first-place t c = subst (λ (w : Value). IfOk c.copied.result (λ v. v ≡ w)) (among_first c.args.path.now c.args.values.now c.args.place _ c.value-item.result c.in-len1-up.len_at_least c.in-len1-up-values.len_at_least c.value-item.is c.if-first-place.true) c.copied.ensures

pub returns-else-first-place : goal.returns-else-first-place
returns-else-first-place t c = subst (λ (w : Value). IfOk c.value_among.result (λ v. v ≡ w)) ((λ i. value_on_path (rest_is c.args.path.now i) (rest_is c.args.values.now i) c.args.place) ∙ among_other c.args.path.now c.args.values.now c.args.place _ c.in-len1-up.len_at_least c.in-len1-up-values.len_at_least c.if-first-place.false) c.value_among.ensures
