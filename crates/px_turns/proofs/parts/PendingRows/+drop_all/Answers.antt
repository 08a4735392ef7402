use Rattle.std.proofs.Common.{ap, sym, ◌∙◌, drop, ℕ, List}
use Rattle.px_turns.specs.inner.Pending.{stamps_at}
use Rattle.px_turns.specs.Turns.{first_dropped, rows_dropped}
use Rattle.px_turns.proofs.Rows.{dropped_cons, dropped_none, rest_is}
use Rattle.px_turns.proofs.parts.PendingRows.+drop_all.Goals as goal

pub returns-in_default : goal.returns-in_default
returns-in_default t c k = sym (ap (λ g. g k) (dropped_none c.args.keys.now (stamps_at c.args.self.now) c.in_default.len_below))

pub returns : goal.returns
returns t c k =
    let f = stamps_at c.args.self.now in
    let rest = drop 1 c.args.keys.now in
    c.drop_all.ensures k
    ∙ (ap (λ (l : List (List ℕ)). rows_dropped l (stamps_at c.drop_first.new.self) k) (rest_is c.args.keys.now)
    ∙ (ap (λ (g : List ℕ → List ℕ). rows_dropped rest g k) (λ i u. c.drop_first.ensures u i)
    ∙ (ap (λ (key : List ℕ). rows_dropped rest (first_dropped key f) k) (c.as_slice.ensures ∙ c.key-item.is)
    ∙ sym (ap (λ g. g k) (dropped_cons c.args.keys.now f c.key-item.result c.in-len1-up.len_at_least)))))
