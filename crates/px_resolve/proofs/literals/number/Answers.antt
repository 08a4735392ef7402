use Rattle.std.proofs.Common.{◌<◌, ◌≡◌, ◌^◌, ◌-◌, ℕ, List, length, get_or, min, ap, ◌∙◌, subst, lit≤}
use Rattle.std.specs.Char.{digit_value}
use Rattle.std.specs.Str.Parse.{digits_value}
use Rattle.px_resolve.proofs.Digits.{one_more}
use Rattle.px_resolve.proofs.literals.number.Goals as goal

pub loop-byte-preserved : goal.loop-byte-preserved
loop-byte-preserved c =
    let same : c.as_bytes-byte-items.result.now ≡ c.args.digits.now = c.as_bytes-byte-items.ensures.value in
    let digit : c.from.result ≡ digit_value (get_or c.args.digits.now c.loop-byte.byte-index 0) = c.from.ensures ∙ c.digit.ensures ∙ ap (λ (ds : List ℕ). digit_value (get_or ds c.loop-byte.byte-index 0)) same in
    let short : c.loop-byte.byte-index < length c.args.digits.now = subst (λ (ds : List ℕ). c.loop-byte.byte-index < length ds) same c.loop-byte-test.true in (
      one_more (2 ^ 127 - 1) (2 ^ 128 - 1) c.loop-byte.number c.loop-byte.byte-index c.from.result c.saturating_mul.result c.saturating_add-number.result
          (min (digits_value 10 c.args.digits.now) (2 ^ 127 - 1)) c.args.digits.now (lit≤ tt) short digit c.saturating_mul.ensures c.saturating_add-number.ensures c.loop-byte.invariant.0,
      c.saturating_add-number.type_inv,
    )
