use Rattle.std.proofs.Common.{◌≡◌, ◌<◌, ℕ}
use Rattle.px_conjuncts.specs.Conjuncts.{equal_in}
use Rattle.px_conjuncts.proofs.Marks.{IsPassed}
use Rattle.px_conjuncts.proofs.walk.first_equal.Given as goal

abbrev pub invariant-loop-index : goal.invariant-loop-index
invariant-loop-index l = record { same : l.marks ≡ l.fn.marks; passed : (k : ℕ) → k < l.index → IsPassed (equal_in l.column) l.conjuncts l.marks k }
