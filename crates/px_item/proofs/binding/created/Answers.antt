use Rattle.std.proofs.Common.{◌≢◌, ◌∙◌, ap, sym, []}
use Rattle.px_tables.specs.declared.table.NewTable.{NewTable}
use Rattle.px_calls.specs.declared.definition.Definition.TheVariants as d
use Rattle.px_create.specs.Tables.{key_of}
use Rattle.px_item.proofs.Newly.{filled, new_table_fits}
use Rattle.px_item.proofs.binding.created.Goals as goal

pub returns-else-is_empty : goal.returns-else-is_empty
returns-else-is_empty c =
    let t = c.args.create.now in
    let is = c.in-Ok.ensures.table in
    let keyed : key_of t ≢ [] = filled c.as_slice.result.now (key_of t) (sym c.is_empty.ensures ∙ c.if-is_empty.false) (c.as_slice.ensures ∙ ap (λ (x : NewTable). x.key) is) in
    (c.in-Ok.ensures.faults, c.new.ensures.definition ∙ ap d.Table is, c.new.ensures.state, new_table_fits t c.requires c.in-Ok.ensures.faults keyed)
