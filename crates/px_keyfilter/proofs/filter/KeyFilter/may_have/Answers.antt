use Rattle.px_keyfilter.proofs.Bits.{both_tested, one_tested}
use Rattle.px_keyfilter.proofs.filter.KeyFilter.may_have.Goals as goal

pub returns-then-has : goal.returns-then-has
returns-then-has c =
    let of = c.bits_of-first.ensures in
    both_tested c.args.self.now c.args.key.now c.bits_of-first.result.0 c.bits_of-first.result.1 of.first c.has.result c.has.ensures c.has-then-has.result of.second c.has-then-has.ensures c.if-has.true

pub returns-else-has : goal.returns-else-has
returns-else-has c =
    one_tested c.args.self.now c.args.key.now c.bits_of-first.result.0 c.bits_of-first.result.1 c.bits_of-first.ensures.first c.has.result c.has.ensures c.if-has.false
