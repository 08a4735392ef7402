use Rattle.px_trail.specs.Trail.{table_shape}
use Rattle.px_held.proofs.Finding.{held-behind, held-there}
use Rattle.px_held.proofs.holding.hold.Goals as goal

pub returns-in-Ok-clause-ok : goal.returns-in-Ok-clause-ok
returns-in-Ok-clause-ok c =
    held-there (table_shape c.args.table.now) c.args.held.now.items _ _ c.args.change c.in-Some.place c.index.result.now c.index_mut.result.now c.in-Ok.what c.as_slice.ensures.value c.as_slice-2.ensures c.in-Some.ensures c.index.ensures c.index_mut.ensures.value c.in-Ok.ensures

pub returns-clause-ok : goal.returns-clause-ok
returns-clause-ok c = held-behind (table_shape c.args.table.now) c.args.held.now.items _ _ c.args.change c.add.new.held.items c.add.result c.as_slice.ensures.value c.as_slice-2.ensures c.in-None.ensures c.add.ensures.ok
