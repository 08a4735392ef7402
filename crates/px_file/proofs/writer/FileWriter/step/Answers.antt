use Rattle.std.proofs.Common.{take, refl, ◌∙◌, arith}
use Rattle.std.proofs.lemmas.Bool.{le-leb, leb-true}
use Rattle.px_file.proofs.Growing.{after_take, written_take}
use Rattle.px_file.proofs.Written.{block_written}
use Rattle.px_file.proofs.writer.FileWriter.step.Goals as goal

pub spell-requires : goal.spell-requires
spell-requires g c = record { written = written_take c.block_len-n.result c.args.cells.now c.requires.written; closed = c.block_len-n.ensures.closed }

pub add-requires-clause-block : goal.add-requires-clause-block
add-requires-clause-block g c = record { written = written_take c.block_len-n.result c.args.cells.now c.requires.written; closed = c.block_len-n.ensures.closed }

pub returns-clause-done : goal.returns-clause-done
returns-clause-done g c = λ blocks has after.
    block_written g.D.Disk c.args.disk.now c.write.new.self c.args.self.now _ blocks (take c.block_len-n.result c.args.cells.now) c.deref.result.now has c.requires.goes_on
    (record { written = written_take c.block_len-n.result c.args.cells.now c.requires.written; closed = c.block_len-n.ensures.closed }) (after_take _ c.block_len-n.result c.args.cells.now after) refl (c.in_ok-add.ensures.added blocks has.index)
    (λ yes. c.in_ok-bytes.ensures.full.0 (let le = leb-true 32772 c.len-3.result yes in let e = c.len-3.ensures in omega arith))
    (c.deref.ensures.value ∙ c.in_ok-bytes.ensures.spelled) c.in_ok-write.ensures.written

pub returns-clause-goes_on : goal.returns-clause-goes_on
returns-clause-goes_on g c = λ lt. le-leb 32772 c.len-3.result (let f = c.in_ok-bytes.ensures.full.1 (c.block_len-n.ensures.full lt) in let e = c.len-3.ensures in omega arith)
