use Rattle.std.proofs.Common.{◌≡◌, ◌+◌, ◌<◌, ℕ, List, length, get_or, take, map, ap, ◌∙◌, arith}
use Rattle.std.specs.Prelude.{max}
use Rattle.std.proofs.lemmas.List.{take_all}
use Rattle.px_tables.specs.declared.table.TableRegion.{TableRegion}
use Rattle.px_schema.specs.Stands.{above}
use Rattle.px_schema.proofs.Nexts.{above_more, above_table, region_short, table_short}
use Rattle.px_schema.proofs.after.next_after_table.Goals as goal

pub overflow_add-region : goal.overflow_add-region
overflow_add-region c =
    let items = c.as_slice-region-items.ensures in
    let lt : c.loop-region.region-index < length c.args.table.now.regions = omega (arith, c.loop-region-test.true, ap length items) in
    let short = region_short c.args.table.now c.loop-region.region-index c.region-item.result lt (c.region-item.is ∙ ap (λ (l : List TableRegion). get_or l c.loop-region.region-index c.region-item.result) items) c.requires.short in
    omega (arith, short)

pub loop-region-preserved : goal.loop-region-preserved
loop-region-preserved c =
    c.max-least.ensures ∙ ap (λ (n : ℕ). max n (c.region-item.result.number + 1)) c.loop-region.invariant ∙ above_more c.args.next c.as_slice-region-items.result.now c.loop-region.region-index c.region-item.result c.loop-region-test.true c.region-item.is

pub overflow_add-table : goal.overflow_add-table
overflow_add-table c = omega (arith, table_short c.args.table.now c.requires.short)

pub returns : goal.returns
returns c =
    let items = c.as_slice-region-items.ensures in
    let all : take c.loop-region.region-index c.as_slice-region-items.result.now ≡ c.args.table.now.regions = take_all c.loop-region.region-index c.as_slice-region-items.result.now (omega (arith, c.loop-region-test.false)) ∙ items in
    c.max.ensures ∙ ap (λ (n : ℕ). max n (c.args.table.now.id.0 + 1)) (c.loop-region.invariant ∙ ap (λ (l : List TableRegion). above c.args.next (map (λ r. r.number) l)) all) ∙ above_table c.args.next c.args.table.now
