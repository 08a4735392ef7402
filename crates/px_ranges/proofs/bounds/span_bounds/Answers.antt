use Rattle.std.proofs.Common.{◌≡◌, ◌++◌, ◌↔◌, ◌<◌, ◌∙◌, List, ℕ, Option, Some, ap, length, subst, sym}
use Rattle.std.specs.List.{All}
use Rattle.std.specs.Option.{option_copied}
use Rattle.std.proofs.lemmas.Result.{IfOk-weaker}
use Rattle.px_keys.specs.Range.{IsBetween}
use Rattle.px_keys.specs.Spelling.{Fits, spelled}
use Rattle.px_values.specs.declared.row.Value.{Value}
use Rattle.px_ranges.specs.Led.{IsLed}
use Rattle.px_ranges.specs.inner.Cuts.{Cut, FitsFirst, StandsBefore, behind_values, cut_of}
use Rattle.px_ranges.proofs.Places.{at_itself, column_at, end_fits_first, key_is_bytes, between_span, led_beyond, span_column, start_fits_first, start_within, end_within}
use Rattle.px_ranges.proofs.bounds.span_bounds.Goals as goal

pub bounds-columns-equal : goal.bounds-columns-equal
bounds-columns-equal c = span_column c.args.columns.now c.args.equal.now c.args.span.now c.requires.span

pub returns-then-is_beyond : goal.returns-then-is_beyond
returns-then-is_beyond c =
    let n = length c.args.equal.now in
    let l = span_column c.args.columns.now c.args.equal.now c.args.span.now c.requires.span in
    λ row fits. (
      λ h. absurd (c.no_keys.ensures (spelled c.args.columns.now row) h),
      λ h. absurd (led_beyond c.args.columns.now c.args.equal.now row (column_at c.args.columns.now n) c.args.span.now c.requires.span (at_itself c.args.columns.now n l) (sym c.is_beyond.ensures ∙ c.if-is_beyond.true) fits h),
    )

pub bounds_between-bounds-requires-clause-low : goal.bounds_between-bounds-requires-clause-low
bounds_between-bounds-requires-clause-low c =
    let n = length c.args.equal.now in
    let l = span_column c.args.columns.now c.args.equal.now c.args.span.now c.requires.span in
    let d = column_at c.args.columns.now n in
    let start = start_within (cut_of c.start-low.result) d c.args.span.now (option_copied c.lower_within-lower.result) (option_copied c.upper_within-upper.result) c.start-low.ensures c.lower_within-lower.ensures c.upper_within-upper.ensures in
    subst (λ (x : Cut). FitsFirst c.args.columns.now (c.args.equal.now ++ x.values)) (sym start) (start_fits_first c.args.columns.now c.args.equal.now d c.args.span.now c.requires.fit c.requires.span (at_itself c.args.columns.now n l) (sym c.is_beyond.ensures ∙ c.if-is_beyond.false))

pub bounds_between-bounds-requires-clause-high : goal.bounds_between-bounds-requires-clause-high
bounds_between-bounds-requires-clause-high c =
    let n = length c.args.equal.now in
    let l = span_column c.args.columns.now c.args.equal.now c.args.span.now c.requires.span in
    let d = column_at c.args.columns.now n in
    let end = end_within (cut_of c.end-high.result) d c.args.span.now (option_copied c.lower_within-lower.result) (option_copied c.upper_within-upper.result) c.end-high.ensures c.lower_within-lower.ensures c.upper_within-upper.ensures in
    subst (λ (x : Cut). FitsFirst c.args.columns.now (c.args.equal.now ++ x.values)) (sym end) (end_fits_first c.args.columns.now c.args.equal.now d c.args.span.now c.requires.fit c.requires.span (at_itself c.args.columns.now n l) (sym c.is_beyond.ensures ∙ c.if-is_beyond.false))

pub returns : goal.returns
returns c =
    let columns = c.args.columns.now in
    let equal = c.args.equal.now in
    let span = c.args.span.now in
    let n = length equal in
    let l = span_column columns equal span c.requires.span in
    let d = column_at columns n in
    let low = cut_of c.start-low.result in
    let high = cut_of c.end-high.result in
    let start = start_within low d span (option_copied c.lower_within-lower.result) (option_copied c.upper_within-upper.result) c.start-low.ensures c.lower_within-lower.ensures c.upper_within-upper.ensures in
    let end = end_within high d span (option_copied c.lower_within-lower.result) (option_copied c.upper_within-upper.result) c.end-high.ensures c.lower_within-lower.ensures c.upper_within-upper.ensures in
    IfOk-weaker c.bounds_between-bounds.result
    (λ bounds. (key : List ℕ) → All (λ b. b < 256) key → (IsBetween bounds.low bounds.high key ↔ ((StandsBefore columns key (behind_values equal low) → ⊥) × StandsBefore columns key (behind_values equal high))))
    (λ bounds. (row : List Value) → Fits columns row → (IsBetween bounds.low bounds.high (spelled columns row) ↔ IsLed (record { equal = equal; span = Some span }) row))
    (λ bounds h row fits. between_span columns equal row d span low high (IsBetween bounds.low bounds.high (spelled columns row)) c.requires.fit c.requires.span (at_itself columns n l) (sym c.is_beyond.ensures ∙ c.if-is_beyond.false) start end fits (h (spelled columns row) (key_is_bytes columns row fits)))
    c.bounds_between-bounds.ensures
