use Rattle.std.proofs.Common.{◌≡◌, true, false, sym, subst, ◌∙◌}
use Rattle.px_cells.specs.CellData.{CellData}
use Rattle.px_cells.specs.Order.{SamePlace}
use Rattle.px_memstore.proofs.Placed.{equal_is_so, equal_so_is, same_at}
use Rattle.px_memstore.proofs.placing.stands_at.Goals as goal

pub returns-then-at-cells-clause-found : goal.returns-then-at-cells-clause-found
returns-then-at-cells-clause-found c = λ e. (c.if-at-cells.true, subst (λ (x : CellData). SamePlace x c.args.cell.now) (same_at c.args.cells.now c.args.at c.index-cells-at.result c.args.cell.now c.if-at-cells.true c.index-cells-at.is) (equal_so_is _ _ c.cell_order.result c.is_eq.result c.cell_order.ensures c.is_eq.ensures e))

pub returns-then-at-cells-clause-none : goal.returns-then-at-cells-clause-none
returns-then-at-cells-clause-none c = λ e lt same. (let s = equal_is_so c.index-cells-at.result c.args.cell.now c.cell_order.result c.is_eq.result c.cell_order.ensures c.is_eq.ensures (subst (λ (x : CellData). SamePlace x c.args.cell.now) (sym (same_at c.args.cells.now c.args.at c.index-cells-at.result c.args.cell.now c.if-at-cells.true c.index-cells-at.is)) same) in let z : true ≡ false = sym s ∙ e in cc)
