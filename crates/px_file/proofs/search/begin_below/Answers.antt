use Rattle.std.proofs.Common.{◌≡◌, List, true, false, rules, ap, arith, length, subst, sym}
use Rattle.std.specs.Ordering.{is_lt}
use Rattle.std.specs.List.{AllWithin}
use Rattle.std.specs.List.Sorted.{IsPartitionedBy}
use Rattle.std.proofs.lemmas.List.Sorted.{IsPartitionPoint-from_clause}
use Rattle.px_cells.specs.Order.{key_cmp}
use Rattle.px_file.specs.Format.{EntryData}
use Rattle.px_file.proofs.Ranges.{are_below, parted}
use Rattle.px_file.proofs.Blocks.{length-index_of}
use Rattle.px_file.proofs.search.begin_below.Goals as goal

pub returns-clause-below : goal.returns-clause-below
returns-clause-below c = λ blocks are is. (
    let split = subst (IsPartitionedBy (λ (e : EntryData). is_lt (key_cmp e.key c.args.key.now))) (sym is) (parted blocks c.args.key.now are) in
    let p = IsPartitionPoint-from_clause (λ (e : EntryData). is_lt (key_cmp e.key c.args.key.now)) c.args.entries.now c.partition_point.result c.partition_point.ensures.partitioned split (λ a r q k. search rules) in
    let bound = c.partition_point.ensures.bound in
    let long = length-index_of 8 blocks in
    let same = ap length is in
    let under = subst (λ (es : List EntryData). AllWithin (λ e. is_lt (key_cmp e.key c.args.key.now) ≡ true) es 0 c.partition_point.result) is p.0 in
    let over = subst (λ (es : List EntryData). AllWithin (λ e. is_lt (key_cmp e.key c.args.key.now) ≡ false) es c.partition_point.result (length es)) is p.1 in
    are_below blocks c.args.key.now c.partition_point.result (omega arith) under over)
