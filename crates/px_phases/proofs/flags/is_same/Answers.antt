use Rattle.std.proofs.Common.{arith, ap, sym, ◌∙◌, ◌≡◌, get_or, length, ℕ, List, inl, inr}
use Rattle.std.proofs.lemmas.Bool.{cases_eq}
use Rattle.std.proofs.lemmas.List.{get_or_read}
use Rattle.std.specs.Ordering.{is_eq}
use Rattle.px_values.specs.declared.row.Value.{Value}
use Rattle.px_values.specs.declared.row.Value.TheVariants.{Null}
use Rattle.px_values.proofs.Equal.{value_order-Decides}
use Rattle.px_values.specs.Order.{value_order}
use Rattle.px_phases.proofs.Flagging.{equal_then, differ_then, rows_differ, rows_all, values_differ}
use Rattle.px_phases.proofs.flags.is_same.Goals as goal

pub returns-then-a-b : goal.returns-then-a-b
returns-then-a-b c = rows_differ _ _ (λ q. c.if-a-b.true (ap (λ (l : List Value). length l) q))

pub loop-i-init : goal.loop-i-init
loop-i-init c = λ k l. absurd (omega arith)

pub returns-then-ne : goal.returns-then-ne
returns-then-ne c = rows_differ _ _ (values_differ c.args.a.now c.args.b.now c.loop-i.i (
    (λ j. is_eq (value_order (sym (get_or_read c.args.a.now c.loop-i.i c.index-a-i.result (omega arith) c.index-a-i.is Null) j) (sym (get_or_read c.args.b.now c.loop-i.i c.index-b-i.result (omega arith) c.index-b-i.is Null) j)))
    ∙ (ap is_eq (sym c.compare.ensures) ∙ differ_then c.compare.result (sym c.ne.ensures ∙ c.if-ne.true))))

pub loop-i-preserved : goal.loop-i-preserved
loop-i-preserved c = λ k l. elim (cases_eq k c.loop-i.i) [
  | inl e ↦
      (let same : c.index-a-i.result ≡ c.index-b-i.result = (value_order-Decides _ _).0 (ap is_eq (sym c.compare.ensures) ∙ equal_then c.compare.result (sym c.ne.ensures ∙ c.if-ne.false)) in
      ap (λ (j : ℕ). get_or c.args.a.now j Null) e ∙ (sym (get_or_read c.args.a.now c.loop-i.i c.index-a-i.result (omega arith) c.index-a-i.is Null) ∙ (same ∙ (get_or_read c.args.b.now c.loop-i.i c.index-b-i.result (omega arith) c.index-b-i.is Null ∙ ap (λ (j : ℕ). get_or c.args.b.now j Null) (sym e)))))
  | inr e ↦ c.loop-i.invariant k (omega arith)
]

pub returns : goal.returns
returns c = rows_all c.args.a.now c.args.b.now c.if-a-b.false (λ k l. c.loop-i.invariant k (omega arith))
