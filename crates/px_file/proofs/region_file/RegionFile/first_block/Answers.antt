use Rattle.std.proofs.Common.{length, ap, subst, sym, ◌∙◌, arith}
use Rattle.px_file.specs.Ranges.{IsFirstBlock}
use Rattle.px_file.proofs.Blocks.{length-index_of}
use Rattle.px_file.proofs.Ranges.{first_is}
use Rattle.px_file.proofs.region_file.RegionFile.first_block.Goals as goal

pub returns-clause-first : goal.returns-clause-first
returns-clause-first c = λ blocks are is. (
    let entries = c.deref.ensures.value ∙ is.entries in
    let same = ap length entries in
    let long = length-index_of 8 blocks in
    let within = c.begin_below.ensures.within in
    subst (IsFirstBlock blocks c.args.key.now) (sym c.saturating_sub.ensures) (first_is blocks c.args.key.now c.begin_below.result are (omega arith) (c.begin_below.ensures.below blocks are entries)))
