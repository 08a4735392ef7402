use Rattle.std.proofs.Common.{◌≡◌, ◌∙◌, ap, sym, subst, Some, List, ℕ, true, false}
use Rattle.std.specs.Ordering.{is_lt}
use Rattle.px_looks.specs.inner.Parts.{IsFirst}
use Rattle.px_looks.proofs.Parts.{first_after, first_before, less_from}
use Rattle.px_looks.proofs.next.first_past.Goals as goal

pub returns-then-is_lt : goal.returns-then-is_lt
returns-then-is_lt c =
    subst (λ (k : List ℕ). IsFirst c.args.low.now (Some c.args.after.now) k) (sym c.in_ok-from.ensures)
    (first_before c.args.low.now c.args.after.now (less_from _ (ap is_lt (sym c.cmp.ensures) ∙ sym c.is_lt.ensures ∙ c.if-is_lt.true)))

pub returns : goal.returns
returns c =
    subst (λ (k : List ℕ). IsFirst c.args.low.now (Some c.args.after.now) k) (sym c.in_ok-from-2.ensures)
    (first_after c.args.low.now c.args.after.now (λ l. (let e : true ≡ false = sym (ap is_lt l) ∙ ap is_lt (sym c.cmp.ensures) ∙ sym c.is_lt.ensures ∙ c.if-is_lt.false in cc)))
