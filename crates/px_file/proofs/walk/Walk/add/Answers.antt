use Rattle.std.proofs.Common.{arith}
use Rattle.std.proofs.lemmas.Bool.{le-leb, leb-true}
use Rattle.px_block.proofs.Counts.{length-block_bytes}
use Rattle.px_file.proofs.Blocks.{block_longest}
use Rattle.px_file.proofs.walk.Walk.add.Goals as goal

pub overflow_cast-end : goal.overflow_cast-end
overflow_cast-end c = (let l = block_longest c.args.front.cells c.requires.block in let e = c.requires.end in omega arith)

pub returns-clause-full : goal.returns-clause-full
returns-clause-full c =
    let l = length-block_bytes c.args.front.cells in
    let e = c.requires.end in
    (λ yes. (let le = leb-true 32772 c.args.front.end yes in omega arith), λ full. le-leb 32772 c.args.front.end (omega arith))
