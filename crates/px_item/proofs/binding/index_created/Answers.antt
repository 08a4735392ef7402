use Rattle.std.proofs.Common.{◌≡◌, ◌≢◌, ◌∙◌, Some, ap, refl, sym, subst, []}
use Rattle.px_tables.specs.declared.index.NewIndex.{NewIndex}
use Rattle.px_create.specs.Indexes.{new_index}
use Rattle.px_calls.specs.declared.definition.Definition.{Definition}
use Rattle.px_calls.specs.declared.definition.Definition.TheVariants as d
use Rattle.px_item.specs.Right.{IsFitFor}
use Rattle.px_item.proofs.Newly.{filled, new_index_fits}
use Rattle.px_item.proofs.binding.index_created.Goals as goal

pub returns-else-is_empty : goal.returns-else-is_empty
returns-else-is_empty c = λ scn.
    let i = c.args.create.now in
    let t = c.args.found.now.table in
    let is = c.in-Ok.ensures.index in
    let some : (new_index t i).parts ≢ [] = filled c.as_slice.result.now (new_index t i).parts (sym c.is_empty.ensures ∙ c.if-is_empty.false) (c.as_slice.ensures ∙ ap (λ (x : NewIndex). x.parts) is) in
    let asks : d.Index (new_index t i) ≡ c.new.result.definition = sym (c.new.ensures.definition ∙ ap d.Index is) in
    (c.in-Ok.ensures.faults, ap Some asks, c.new.ensures.state, subst (λ (e : Definition). IsFitFor t e) asks (refl, new_index_fits t i c.in-Ok.ensures.faults some))
