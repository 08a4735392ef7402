use Rattle.std.proofs.Common.{◌∙◌}
use Rattle.px_file.proofs.Ranges.{all_behind, none_below}
use Rattle.px_block.specs.Block.{IsBlock}
use Rattle.px_file.proofs.region_file.RegionFile.blocks_below.Goals as goal

pub returns-clause-below : goal.returns-clause-below
returns-clause-below c = λ blocks are is. c.begin_below.ensures.below blocks are (c.deref.ensures.value ∙ is.entries)

pub returns-clause-from : goal.returns-clause-from
returns-clause-from c = λ blocks are is.
    none_below _ c.args.key.now (all_behind IsBlock blocks c.begin_below.result are.each) (c.begin_below.ensures.below blocks are (c.deref.ensures.value ∙ is.entries)).from
