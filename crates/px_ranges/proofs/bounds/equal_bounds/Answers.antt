use Rattle.std.proofs.Common.{◌≡◌, ◌↔◌, ◌<◌, List, ℕ, None}
use Rattle.std.specs.List.{All}
use Rattle.std.proofs.lemmas.Result.{IfOk-weaker}
use Rattle.px_keys.specs.Range.{IsBetween}
use Rattle.px_keys.specs.Spelling.{Fits, spelled}
use Rattle.px_values.specs.declared.row.Value.{Value}
use Rattle.px_ranges.specs.Led.{IsLed}
use Rattle.px_ranges.specs.inner.Cuts.{StandsBefore, all_begin, all_end, behind_values}
use Rattle.px_ranges.proofs.Places.{key_is_bytes, led_equal}
use Rattle.px_ranges.proofs.bounds.equal_bounds.Goals as goal

pub returns : goal.returns
returns c =
    let columns = c.args.columns.now in
    let equal = c.args.equal.now in
    IfOk-weaker c.bounds_between.result
    (λ bounds. (key : List ℕ) → All (λ b. b < 256) key → (IsBetween bounds.low bounds.high key ↔ ((StandsBefore columns key (behind_values equal all_begin) → ⊥) × StandsBefore columns key (behind_values equal all_end))))
    (λ bounds. (row : List Value) → Fits columns row → (IsBetween bounds.low bounds.high (spelled columns row) ↔ IsLed (record { equal = equal; span = None }) row))
    (λ bounds h row fits.
    let b = h (spelled columns row) (key_is_bytes columns row fits) in
    let l = led_equal columns equal row c.requires fits in (λ x. l.0 (b.0 x), λ x. b.1 (l.1 x)))
    c.bounds_between.ensures
