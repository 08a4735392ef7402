use Rattle.std.proofs.Common.{◌++◌, length, ap, ◌∙◌, arith}
use Rattle.px_block.specs.Block.{block_bytes}
use Rattle.px_block.proofs.Counts.{length-block_bytes}
use Rattle.px_block.proofs.OneBlock.{block_count}
use Rattle.px_file.proofs.Blocks.{block_longest}
use Rattle.px_file.proofs.writer.spell.Goals as goal

pub write_block-requires-clause-counted : goal.write_block-requires-clause-counted
write_block-requires-clause-counted c = block_count c.args.block.now c.requires.closed

pub returns-clause-small : goal.returns-clause-small
returns-clause-small c =
    let w = ap length (c.in_ok-write_block.ensures.written ∙ ap (λ l. l ++ block_bytes c.args.block.now) c.new-bytes.ensures.items) in
    let l = block_longest c.args.block.now c.requires in
    omega arith

pub returns-clause-full : goal.returns-clause-full
returns-clause-full c =
    let w = ap length (c.in_ok-write_block.ensures.written ∙ ap (λ l. l ++ block_bytes c.args.block.now) c.new-bytes.ensures.items) in
    let l = length-block_bytes c.args.block.now in
    (λ le. omega arith, λ full. omega arith)
