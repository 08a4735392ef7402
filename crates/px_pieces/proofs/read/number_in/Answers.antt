use Rattle.std.proofs.Common.{◌≡◌, ◌+◌, ◌*◌, ◌-◌, ◌/◌, ◌^◌, ◌≤◌, ap, arith}
use Rattle.px_pieces.specs.Numbers.{stays_up_to}
use Rattle.px_pieces.proofs.Bytewise.{limited_cut, limited_done, limited_more, limited_wrong, next_low, next_room, number_start, scale_some}
use Rattle.px_pieces.proofs.read.number_in.Goals as goal

pub loop-taken-init : goal.loop-taken-init
loop-taken-init c = record { part = number_start (stays_up_to c.args.most) c.args.size c.args.bytes.now c.args.at c.requires.begins; low = omega arith }

pub returns-then-place-bytes-clause-stopped : goal.returns-then-place-bytes-clause-stopped
returns-then-place-bytes-clause-stopped c =
    limited_cut c.args.size c.args.most c.args.bytes.now c.args.at c.loop-taken.taken c.loop-taken.value c.loop-taken.invariant.part (omega (arith, c.loop-taken-test.true)) (omega (arith, c.if-place-bytes.true))

pub overflow_mul-next : goal.overflow_mul-next
overflow_mul-next c = omega (arith, next_room c.args.most c.args.size c.loop-taken.taken c.loop-taken.value c.loop-taken-test.true c.loop-taken.invariant.low, c.ranges.most)

pub overflow_add-next : goal.overflow_add-next
overflow_add-next c = omega (arith, next_room c.args.most c.args.size c.loop-taken.taken c.loop-taken.value c.loop-taken-test.true c.loop-taken.invariant.low, c.ranges.most, c.from.ensures, c.type_inv.bytes (c.args.at + c.loop-taken.taken))

pub nonzero_div-most : goal.nonzero_div-most
nonzero_div-most c = omega (arith, scale_some (c.args.size - 1 - c.loop-taken.taken), c.scale.ensures)

pub returns-then-next-most-clause-stopped : goal.returns-then-next-most-clause-stopped
returns-then-next-most-clause-stopped c =
    let scaled : c.args.most / c.scale.result ≡ c.args.most / 256 ^ (c.args.size - 1 - c.loop-taken.taken) = ap (λ m. c.args.most / m) c.scale.ensures in
    limited_wrong c.args.size c.args.most c.args.bytes.now c.args.at c.loop-taken.taken c.loop-taken.value c.loop-taken.invariant.part c.loop-taken-test.true c.from.result c.from.ensures (omega (arith, c.if-place-bytes.false, c.loop-taken.invariant.part.way.within))
    (omega (arith, c.from.ensures, c.type_inv.bytes (c.args.at + c.loop-taken.taken))) (omega (arith, scaled, c.if-next-most.true))

pub loop-taken-preserved : goal.loop-taken-preserved
loop-taken-preserved c =
    let scaled : c.args.most / c.scale.result ≡ c.args.most / 256 ^ (c.args.size - 1 - c.loop-taken.taken) = ap (λ m. c.args.most / m) c.scale.ensures in
    let low : c.loop-taken.value * 256 + c.from.result ≤ c.args.most / 256 ^ (c.args.size - 1 - c.loop-taken.taken) = omega (arith, scaled, c.if-next-most.false) in
    record {
      part = limited_more c.args.size c.args.most c.args.bytes.now c.args.at c.loop-taken.taken c.loop-taken.value c.loop-taken.invariant.part c.loop-taken-test.true c.from.result c.from.ensures (omega (arith, c.if-place-bytes.false, c.loop-taken.invariant.part.way.within))
          (omega (arith, c.from.ensures, c.type_inv.bytes (c.args.at + c.loop-taken.taken))) low;
      low = next_low c.args.most c.args.size c.loop-taken.taken (c.loop-taken.value * 256 + c.from.result) c.loop-taken-test.true low;
    }

pub returns-clause-taken : goal.returns-clause-taken
returns-clause-taken c = limited_done c.args.size c.args.most c.args.bytes.now c.args.at c.loop-taken.taken c.loop-taken.value (omega (arith, c.loop-taken-test.false, c.loop-taken.auto.taken-end)) c.loop-taken.invariant.part
