use Rattle.px_forgetting.proofs.Rows.{IsKeeping}
use Rattle.px_forgetting.proofs.keeping.keep_seen.Given as goal

abbrev pub invariant-loop-i : goal.invariant-loop-i
invariant-loop-i l = IsKeeping l.horizon l.seen l.fn.part l.part l.gap l.i l.kept l.next
