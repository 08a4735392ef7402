use Rattle.std.proofs.Common.{◌≡◌, ◌≤◌, true, List, length, take, sym, subst}
use Rattle.px_values.specs.declared.change.Change.{Change}
use Rattle.px_trail.specs.Batches.{is_distinct, rows_of}
use Rattle.px_removals.proofs.Splitting.{short-front, sorted-distinct, sorted-front}
use Rattle.px_deleting.proofs.machine.go_on.Goals as goal

pub new-requires-clause-rows : goal.new-requires-clause-rows
new-requires-clause-rows c = subst (λ (l : List Change). length l ≤ 1000) (sym c.in-Ok.ensures.part) (short-front c.args.left.changes.items)

pub new-requires-clause-distinct : goal.new-requires-clause-distinct
new-requires-clause-distinct c = subst (λ (l : List Change). is_distinct (rows_of l) ≡ true) (sym c.in-Ok.ensures.part) (sorted-distinct c.requires.ordered.0 (rows_of (take 1000 c.args.left.changes.items)) (sorted-front c.requires.ordered.0 1000 c.args.left.changes.items c.requires.ordered.1))
