use Rattle.std.proofs.Common.{◌≡◌, ◌<◌, ◌+◌, ◌*◌, ◌∙◌, length, take, take_all, ℕ, refl, ap, arith}
use Rattle.std.proofs.lemmas.List.{length-take-le}
use Rattle.px_keys.proofs.DigitReading.{small_more, no_overflow}
use Rattle.px_rows.specs.Stored.{number_of_bytes}
use Rattle.px_rows.proofs.Numbers.{number_more, byte_in, taken}
use Rattle.px_rows.proofs.stored.number.Goals as goal

pub loop-byte-init : goal.loop-byte-init
unfolding number_of_bytes
loop-byte-init c =
    let m = c.min.ensures in
    let l : length (take c.min.result c.args.bytes.now) ≡ c.min.result = length-take-le c.min.result c.args.bytes.now (omega arith) in
    record { within = omega arith; short = omega arith; small = omega arith; read = refl }

pub overflow_mul-number : goal.overflow_mul-number
overflow_mul-number c =
    let i = c.loop-byte.invariant in
    let t = c.loop-byte-test.true in
    let n = no_overflow c.loop-byte.byte-index c.loop-byte.number 0 (omega arith) i.small (omega arith) in
    omega arith

pub overflow_add-number : goal.overflow_add-number
overflow_add-number c =
    let i = c.loop-byte.invariant in
    let b : c.from.result < 256 = byte_in c.args.bytes.now c.min.result c.loop-byte.byte-index c.from.result (c.type_inv.bytes c.loop-byte.byte-index).fits c.loop-byte-test.true c.from.ensures in
    let n = no_overflow c.loop-byte.byte-index c.loop-byte.number c.from.result (let t = c.loop-byte-test.true in omega arith) i.small b in
    record { fits = n }

pub loop-byte-preserved : goal.loop-byte-preserved
loop-byte-preserved c =
    let i = c.loop-byte.invariant in
    let first = take c.min.result c.args.bytes.now in
    let b : c.from.result < 256 = byte_in c.args.bytes.now c.min.result c.loop-byte.byte-index c.from.result (c.type_inv.bytes c.loop-byte.byte-index).fits c.loop-byte-test.true c.from.ensures in
    let t = c.loop-byte-test.true in
    record {
      within = omega arith;
      short = i.short;
      small = small_more c.loop-byte.byte-index c.loop-byte.number c.from.result i.small b;
      read = ap (λ (x : ℕ). c.loop-byte.number * 256 + x) c.from.ensures ∙ number_more first c.loop-byte.byte-index c.loop-byte.number t i.read;
    }

pub returns : goal.returns
returns c =
    let i = c.loop-byte.invariant in
    let t = c.loop-byte-test.false in
    let m = c.min.ensures in
    i.read ∙ ap (number_of_bytes 0) (take_all c.loop-byte.byte-index (take c.min.result c.args.bytes.now) t ∙ taken c.args.bytes.now c.args.width c.min.result m)
