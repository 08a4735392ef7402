use Rattle.std.proofs.Common.{rules, [], ◌∷◌, ◌++◌, Some, ap, ◌∙◌}
use Rattle.px_turns.specs.inner.Found.{items_of}
use Rattle.px_turns.proofs.Bytes.{at_key, on_err, same_key}
use Rattle.px_turns.proofs.parts.PendingRows.queue.Goals as goal

pub returns-in_err-push-clause-err : goal.returns-in_err-push-clause-err
returns-in_err-push-clause-err c = on_err _ _ (same_key c.args.self.now.rows (c.get_mut.follows.lender c.push.new.self) c.args.key.now (Some c.push.new.self) ((c.get_mut.follows.holds c.push.new.self).3 (search rules)) (c.in_err-push.ensures.items ∙ ap items_of c.in-Some.ensures.value))

pub returns-clause-ok : goal.returns-clause-ok
returns-clause-ok c = at_key c.args.self.now.rows (c.get_mut.follows.lender c.push.new.self) c.args.key.now (Some c.push.new.self) ((c.get_mut.follows.holds c.push.new.self).3 (search rules)) _ (c.in_ok-push.ensures.items ∙ ap (λ o. items_of o ++ c.args.stamp ∷ []) c.in-Some.ensures.value)
