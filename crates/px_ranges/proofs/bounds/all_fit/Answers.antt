use Rattle.std.proofs.Common.{refl, ◌<◌, ◌+◌, add-one, arith, length, subst, sym, take, ℕ}
use Rattle.px_values.specs.declared.row.Value.{Value}
use Rattle.px_keys.specs.Spelling.{FitsColumn}
use Rattle.px_ranges.specs.inner.Cuts.{FitsFirst}
use Rattle.px_ranges.proofs.Places.{at_itself, column_at, first_at, first_more}
use Rattle.px_ranges.proofs.bounds.all_fit.Goals as goal

pub returns-then-not-fits : goal.returns-then-not-fits
returns-then-not-fits c =
    let n = c.loop-index.index in
    let l : n < length c.args.columns.now = omega arith in
    let v = c.index-values-index.result in (
      λ e. cc,
      λ f. c.if-not-fits.ensures.1 (subst (λ (x : Value). FitsColumn (column_at c.args.columns.now n) x) (sym c.index-values-index.is) (first_at c.args.columns.now c.args.values.now n v (column_at c.args.columns.now n) c.loop-index-test.true l (at_itself c.args.columns.now n l) f)),
    )

pub loop-index-preserved : goal.loop-index-preserved
loop-index-preserved c =
    let n = c.loop-index.index in
    let l : n < length c.args.columns.now = omega arith in
    let v = c.index-values-index.result in
    let fits = subst (λ (x : Value). FitsColumn (column_at c.args.columns.now n) x) c.index-values-index.is (c.if-not-fits.ensures.0 refl) in
    subst (λ (m : ℕ). FitsFirst c.args.columns.now (take m c.args.values.now)) (sym (add-one n)) (first_more c.args.columns.now c.args.values.now n v (column_at c.args.columns.now n) c.loop-index-test.true l (at_itself c.args.columns.now n l) c.loop-index.invariant fits)
