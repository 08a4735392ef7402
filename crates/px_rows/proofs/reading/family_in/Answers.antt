use Rattle.std.proofs.Common.{ℕ, Some, subst, sym}
use Rattle.px_cells.specs.Contents.{value_at}
use Rattle.px_rows.specs.inner.Found.{IsFamily}
use Rattle.px_rows.proofs.Newest.{family_none, family_some}
use Rattle.px_rows.proofs.reading.family_in.Goals as goal

pub returns-in-Some : goal.returns-in-Some
returns-in-Some c = λ k own plain. subst (λ (s : ℕ). IsFamily (value_at c.args.cells.now) k c.args.point (Some s)) (sym c.stamp.ensures) (family_some c.args.cells.now c.requires k c.args.point plain c.in-Some.cell.now (c.in-Some.ensures k own))

pub returns-in-None : goal.returns-in-None
returns-in-None c = λ k own plain. family_none c.args.cells.now c.requires k c.args.point plain (c.in-None.ensures k own)
