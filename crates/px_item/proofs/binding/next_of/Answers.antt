use Rattle.px_item.proofs.binding.next_of.Goals as goal

pub returns-in-Upsert : goal.returns-in-Upsert
returns-in-Upsert c = c.upserted.ensures c.args.scn

pub returns-in-DropIndex : goal.returns-in-DropIndex
returns-in-DropIndex c = c.index_dropped.ensures c.args.scn

pub returns-in-AlterIndex : goal.returns-in-AlterIndex
returns-in-AlterIndex c = c.index_altered.ensures c.args.scn

pub returns-in-Explain : goal.returns-in-Explain
returns-in-Explain c = c.explained.ensures

pub returns-in-CreateIndex : goal.returns-in-CreateIndex
returns-in-CreateIndex c = rw c.in-CreateIndex.is (c.index_created.ensures c.args.scn)

pub returns-in-Delete : goal.returns-in-Delete
returns-in-Delete c = c.deleted.ensures c.args.scn
