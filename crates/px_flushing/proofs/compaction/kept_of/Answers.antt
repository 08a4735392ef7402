use Rattle.std.proofs.Common.{ℕ, Option, refl, subst, sym}
use Rattle.std.specs.Prelude.{IfOk}
use Rattle.px_flushing.specs.Flushing.{HasKept}
use Rattle.px_flushing.proofs.compaction.kept_of.Goals as goal

pub returns-in-None-clause-kept : goal.returns-in-None-clause-kept
returns-in-None-clause-kept c = subst (λ (o : Option ℕ). HasKept o c.args.cells c.args.cells) (sym c.in-None.is) refl

pub returns-in-Some-clause-kept : goal.returns-in-Some-clause-kept
returns-in-Some-clause-kept c = subst (λ (o : Option ℕ). IfOk c.kept_at.result (λ kept. HasKept o c.args.cells kept)) (sym c.in-Some.is) c.kept_at.ensures.kept
