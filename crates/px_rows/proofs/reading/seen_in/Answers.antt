use Rattle.std.proofs.Common.{◌≡◌, ◌∙◌, subst, sym, ap, true, false}
use Rattle.px_rows.specs.inner.Found.{FindsSeen, hidden_by}
use Rattle.px_rows.proofs.Newest.{seen_none, seen_other, seen_hidden, seen_put}
use Rattle.px_rows.proofs.reading.seen_in.Goals as goal

pub returns-in_err-cell : goal.returns-in_err-cell
returns-in_err-cell c = λ k own plain family.
    subst (FindsSeen c.args.cells.now k c.args.qualifier c.args.point) (sym c.from_residual.ensures)
    (seen_none c.args.cells.now c.requires k c.args.point plain c.args.qualifier (c.in_err-cell.ensures k own))

pub returns-then-is_hidden : goal.returns-then-is_hidden
returns-then-is_hidden c = λ k own plain family.
    (let cell = c.in_ok-cell.cell.now in
    let hidden : hidden_by c.args.family cell.stamp ≡ true = ap (hidden_by c.args.family) (sym c.stamp.ensures) ∙ (sym c.is_hidden.ensures ∙ c.if-is_hidden.true) in
    seen_hidden c.args.cells.now c.requires k c.args.point plain c.args.qualifier cell (c.in_ok-cell.ensures k own) c.args.family family hidden)

pub returns-else-is_hidden : goal.returns-else-is_hidden
returns-else-is_hidden c = λ k own plain family.
    (let cell = c.in_ok-cell.cell.now in
    let hidden : hidden_by c.args.family cell.stamp ≡ false = ap (hidden_by c.args.family) (sym c.stamp.ensures) ∙ (sym c.is_hidden.ensures ∙ c.if-is_hidden.false) in
    seen_put c.args.cells.now c.requires k c.args.point plain c.args.qualifier cell (c.in_ok-cell.ensures k own) (sym c.kind.ensures ∙ c.in-Put.is) c.args.family family hidden)

pub returns-in_default : goal.returns-in_default
returns-in_default c = λ k own plain family. seen_other c.args.cells.now c.requires k c.args.point plain c.args.qualifier c.in_ok-cell.cell.now (c.in_ok-cell.ensures k own) (λ e. c.in_default.not-Put (c.kind.ensures ∙ e))
