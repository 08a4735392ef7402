use Rattle.std.proofs.Common.{◌≢◌, ap, sym, ◌∙◌}
use Rattle.px_tables.specs.declared.table.Table.{Table}
use Rattle.px_standing.proofs.SameNames.{all_next, not_same}
use Rattle.px_standing.proofs.names.table_place.Goals as goal

pub loop-place-preserved : goal.loop-place-preserved
loop-place-preserved c = all_next (λ (x : Table). x.name ≢ c.args.name.now) c.as_slice-tables.result.now c.loop-place.place c.index-tables-place.result c.loop-place-test.true c.index-tables-place.is c.loop-place.invariant
    (not_same c.as_str.result.now c.as_str-in-loop-place.result.now c.index-tables-place.result.name c.args.name.now c.eq.result c.eq.ensures c.if-eq.false (c.as_str.ensures ∙ ap (λ (t : Table). t.name) (sym c.index-tables-place.is)) c.as_str-in-loop-place.ensures)
