use Rattle.std.proofs.Common.{length, ap, arith, length-append}
use Rattle.px_file.proofs.Blocks.{block_cells, block_longest}
use Rattle.px_file.proofs.Indexes.{index_added}
use Rattle.px_file.proofs.index.Index.add.Goals as goal

pub invariant_of-self-2 : goal.invariant_of-self-2
invariant_of-self-2 c =
    let p = simp length-append at (ap length c.push_reserved.ensures.items) in
    let r = ap length c.in_ok-reserve.ensures.items in
    let b = block_longest c.args.block.now c.requires.block in
    let d = block_cells c.args.block.now c.requires.block in
    let l = c.requires.len in
    let n = c.requires.count in
    let f = c.from.ensures in
    record { small = omega arith; few = omega arith; count = omega arith }

pub returns-clause-added : goal.returns-clause-added
returns-clause-added c = λ blocks is.
    index_added c.args.self.now _ blocks c.args.block.now c.args.len c.in_ok-key.key.items is c.requires.len c.in_ok-key.ensures.key
    (let p = c.push_reserved.ensures.items in let r = c.in_ok-reserve.ensures.items in cc) (let f = c.from.ensures in omega arith) (omega arith) c.greatest-self.ensures
