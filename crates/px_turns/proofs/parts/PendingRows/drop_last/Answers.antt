use Rattle.std.proofs.Common.{rules, ◌-◌, length, take, Some, None, ap, ◌∙◌, arith}
use Rattle.px_turns.specs.inner.Found.{items_of}
use Rattle.px_turns.specs.inner.Pending.{stamps_at}
use Rattle.px_turns.proofs.Bytes.{at_key, take_short}
use Rattle.px_turns.proofs.parts.PendingRows.drop_last.Goals as goal

pub returns-in-Some : goal.returns-in-Some
returns-in-Some c = at_key c.args.self.now.rows (c.get_mut.follows.lender c.pop.new.self) c.args.key.now (Some c.pop.new.self) ((c.get_mut.follows.holds c.pop.new.self).3 (search rules)) _ (c.pop.ensures.rest ∙ (ap (λ n. take (n - 1) c.in-Some.stamps.now.items) c.in-Some.stamps.now.ok.0 ∙ ap (λ o. take (length (items_of o) - 1) (items_of o)) c.in-Some.ensures.value))

pub returns-else-count-gt1 : goal.returns-else-count-gt1
returns-else-count-gt1 c = at_key c.args.self.now.rows c.remove.new.self c.args.key.now None c.remove.ensures.updates _ (take_short (stamps_at c.args.self.now c.args.key.now) (let e = c.count.ensures in let l = c.if-count-gt1.false in omega arith))
