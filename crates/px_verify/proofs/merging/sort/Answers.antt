use Rattle.std.proofs.Common.{rules}
use Rattle.std.proofs.lemmas.Result.{on_ok_weaker}
use Rattle.std.proofs.lemmas.Fn.{always_returns_same}
use Rattle.px_verify.specs.Rising.{is_entry_below}
use Rattle.px_verify.proofs.Ordered.{rank, sorted-rises}
use Rattle.px_verify.proofs.merging.sort.Goals as goal

pub returns-clause-sorted : goal.returns-clause-sorted
returns-clause-sorted c = on_ok_weaker c.sort_by.result (λ sorted. (let by = always_returns_same _ _ _ (λ a r f k. search rules) in sorted is_entry_below rank by)) c.sort_by.ensures.sorted

pub returns-clause-rising : goal.returns-clause-rising
returns-clause-rising c = on_ok_weaker c.sort_by.result (λ sorted apart. (let by = always_returns_same _ _ _ (λ a r f k. search rules) in sorted-rises _ _ c.sort_by.ensures.permutation (sorted is_entry_below rank by) apart)) c.sort_by.ensures.sorted
