use Rattle.std.proofs.Common.{length, sym, subst, List}
use Rattle.px_keys.specs.Spelling.{spelled}
use Rattle.px_values.specs.declared.row.Value.{Value}
use Rattle.px_ranges.specs.inner.Cuts.{FitsFirst}
use Rattle.px_ranges.proofs.Places.{enough, led_fit}
use Rattle.px_ranges.proofs.bounds.key_bounds.Goals as goal

pub all_fit-requires : goal.all_fit-requires
all_fit-requires c = rw c.as_slice-equal.ensures (enough c.args.columns.now c.args.leading.now.equal c.args.leading.now.span c.requires)

pub returns-then-not-all_fit : goal.returns-then-not-all_fit
returns-then-not-all_fit c = λ row fits. (
  λ h. absurd (c.no_keys.ensures (spelled c.args.columns.now row) h),
  λ h. (let z = c.if-not-all_fit.ensures.1 (subst (λ (vs : List Value). FitsFirst c.args.columns.now vs) (sym c.as_slice-equal.ensures) (led_fit c.args.columns.now c.args.leading.now.equal row fits h.0)) in cc),
)
