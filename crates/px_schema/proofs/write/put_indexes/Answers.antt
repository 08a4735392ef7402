use Rattle.px_schema.specs.Spelled.{index_bytes}
use Rattle.px_schema.proofs.Spells.{flat_next}
use Rattle.px_schema.proofs.write.put_indexes.Goals as goal

pub loop-index-preserved : goal.loop-index-preserved
loop-index-preserved c =
    flat_next index_bytes c.args.to.now.items c.loop-index.to.items c.put_index.new.to.items c.args.indexes.now c.loop-index.index-index c.index-item.result c.loop-index-test.true c.index-item.is c.loop-index.invariant c.in_ok-put_index.ensures
