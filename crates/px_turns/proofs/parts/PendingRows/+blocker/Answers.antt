use Rattle.std.proofs.Common.{◌≡◌, ℕ, List, Option, ap, sym, ◌∙◌, subst}
use Rattle.std.specs.Prelude.{slice_get}
use Rattle.px_turns.specs.inner.Pending.{stamps_at}
use Rattle.px_turns.specs.Turns.{IsVerdict, earliest_of}
use Rattle.px_turns.proofs.Rows.{rest_is}
use Rattle.px_turns.proofs.Verdicts.{verdict_cons, verdict_none}
use Rattle.px_turns.proofs.parts.PendingRows.+blocker.Goals as goal

pub returns-in_default : goal.returns-in_default
returns-in_default t c = verdict_none (stamps_at c.args.self.now) c.args.stamp c.args.keys.now c.in_default.len_below

pub returns : goal.returns
returns t c =
    let f = stamps_at c.args.self.now in
    let key = c.key-item.result in
    let here : c.first-here.result ≡ slice_get (f key) 0 = c.first-here.ensures ∙ ap (λ (k : List ℕ). slice_get (f k) 0) c.as_slice.ensures in
    subst (λ (o : Option ℕ). IsVerdict f c.args.stamp c.args.keys.now o) (sym (c.earliest.ensures ∙ ap (λ (o : Option ℕ). earliest_of o c.blocker-others.result c.args.stamp) here))
    (verdict_cons f c.args.stamp c.args.keys.now key c.blocker-others.result c.in-len1-up.len_at_least c.key-item.is (c.requires key) (subst (λ (l : List (List ℕ)). IsVerdict f c.args.stamp l c.blocker-others.result) (rest_is c.args.keys.now) c.blocker-others.ensures))
