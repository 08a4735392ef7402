use Rattle.std.proofs.Common.{rules, drop, Some, None, ap, ◌∙◌, arith}
use Rattle.px_turns.specs.inner.Found.{items_of}
use Rattle.px_turns.specs.inner.Pending.{stamps_at}
use Rattle.px_turns.proofs.Bytes.{at_key, remove_first, drop_short}
use Rattle.px_turns.proofs.parts.PendingRows.drop_first.Goals as goal

pub returns-in-Some : goal.returns-in-Some
returns-in-Some c = at_key c.args.self.now.rows (c.get_mut.follows.lender c.remove.new.self) c.args.key.now (Some c.remove.new.self) ((c.get_mut.follows.holds c.remove.new.self).3 (search rules)) _ (c.remove.ensures.items ∙ (remove_first c.in-Some.stamps.now.items ∙ ap (λ o. drop 1 (items_of o)) c.in-Some.ensures.value))

pub returns-else-count-gt1 : goal.returns-else-count-gt1
returns-else-count-gt1 c = at_key c.args.self.now.rows c.remove-else-count-gt1.new.self c.args.key.now None c.remove-else-count-gt1.ensures.updates _ (drop_short (stamps_at c.args.self.now c.args.key.now) (let e = c.count.ensures in let l = c.if-count-gt1.false in omega arith))
