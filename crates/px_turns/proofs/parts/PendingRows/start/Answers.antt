use Rattle.std.proofs.Common.{◌≡◌, ℕ, List, [], ◌∷◌, ◌++◌, Some, ap, sym, ◌∙◌, subst}
use Rattle.px_turns.specs.inner.Pending.{stamps_at}
use Rattle.px_turns.specs.Turns.{stamp_added}
use Rattle.px_turns.proofs.Bytes.{at_key}
use Rattle.px_turns.proofs.parts.PendingRows.start.Goals as goal

pub returns-clause-ok : goal.returns-clause-ok
returns-clause-ok c =
    let e = c.in_ok-key.ensures.items in
    subst (λ (l : List ℕ). (k : List ℕ) → stamps_at (record c.args.self.now { rows = c.insert.new.self }) k ≡ stamp_added l c.args.stamp (stamps_at c.args.self.now) k) e
    (at_key c.args.self.now.rows c.insert.new.self c.in_ok-key.key.items (Some c.push.new.self) c.in_ok-insert.ensures.updates _
    (c.in_ok-push.ensures.items ∙ (ap (λ (l : List ℕ). l ++ c.args.stamp ∷ []) (c.new-stamps.ensures.items ∙ sym (ap (stamps_at c.args.self.now) e ∙ c.requires)))))
