use Rattle.std.proofs.Common.{◌≡◌, ◌≤◌, ℕ, List, Option, arith, subst, sym}
use Rattle.px_cells.specs.CellData.{CellData}
use Rattle.px_memstore.specs.Pieces.{AreFirstRows}
use Rattle.px_looks.specs.inner.Lent.{IsTaken}
use Rattle.px_looks.proofs.Piece.{some_taken, taken_all, taken_more}
use Rattle.px_looks.proofs.lent.lend.Goals as goal

pub returns-then-is_all-clause-taken : goal.returns-then-is_all-clause-taken
returns-then-is_all-clause-taken c = λ list low high are.
    let rows = c.first_rows-lent.result.rows in
    let got = c.first_rows-lent.result.cells.now in
    let fits : rows ≤ 18446744073709551615 = (let few = c.first_rows-lent.ensures.first.few in let most = c.ranges.most.fits in omega (arith, few, most)) in
    subst (λ (m : ℕ). IsTaken list low high m rows got) (sym c.first_rows-lent.ensures.most)
    (taken_all list low high c.args.most rows c.args.cells.now got fits (subst (AreFirstRows list low high c.args.cells.now) c.if-is_all.true are) c.first_rows-lent.ensures.first)

pub returns-clause-taken : goal.returns-clause-taken
returns-clause-taken c = λ list low high are.
    let rows = c.first_rows-lent.result.rows in
    let got = c.first_rows-lent.result.cells.now in
    let fits : rows ≤ 18446744073709551615 = (let few = c.first_rows-lent.ensures.first.few in let most = c.ranges.most.fits in omega (arith, few, most)) in
    taken_more list low high c.args.most rows c.args.cells.now got fits (subst (AreFirstRows list low high c.args.cells.now) c.if-is_all.false are) c.first_rows-lent.ensures.first

pub returns-clause-some : goal.returns-clause-some
returns-clause-some c = λ there wanted. some_taken c.args.cells.now c.first_rows-lent.result.cells.now c.args.most c.first_rows-lent.result.rows (there c.if-is_all.false) wanted c.first_rows-lent.ensures.first
