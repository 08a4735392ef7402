use Rattle.std.proofs.Common.{ap, sym, ◌∙◌, drop, ℕ, List}
use Rattle.px_turns.specs.inner.Pending.{stamps_at}
use Rattle.px_turns.specs.Turns.{last_dropped, rows_added, stamp_added}
use Rattle.px_turns.proofs.Rows.{added_cons, added_none, rest_is, undone}
use Rattle.px_turns.proofs.parts.PendingRows.+add_all.Goals as goal

pub returns-in_default-clause-ok : goal.returns-in_default-clause-ok
returns-in_default-clause-ok t c k = sym (ap (λ g. g k) (added_none c.args.keys.now c.args.stamp (stamps_at c.args.self.now) c.in_default.len_below))

pub returns-in-Ok-clause-ok : goal.returns-in-Ok-clause-ok
returns-in-Ok-clause-ok t c k =
    let f = stamps_at c.args.self.now in
    let rest = drop 1 c.args.keys.now in
    c.in-Ok.ensures.ok k
    ∙ (ap (λ (l : List (List ℕ)). rows_added l c.args.stamp (stamps_at c.add.new.self) k) (rest_is c.args.keys.now)
    ∙ (ap (λ (g : List ℕ → List ℕ). rows_added rest c.args.stamp g k) (λ i u. c.in_ok-add.ensures.ok u i)
    ∙ (ap (λ (key : List ℕ). rows_added rest c.args.stamp (stamp_added key c.args.stamp f) k) (c.as_slice.ensures ∙ c.key-item.is)
    ∙ sym (ap (λ g. g k) (added_cons c.args.keys.now c.args.stamp f c.key-item.result c.in-len1-up.len_at_least)))))

pub returns-in-Err-clause-err : goal.returns-in-Err-clause-err
returns-in-Err-clause-err t c k =
    let f = stamps_at c.args.self.now in
    let key = c.key-item.result in
    c.drop_last.ensures k
    ∙ (ap (λ (g : List ℕ → List ℕ). last_dropped c.as_slice-in-Err.result.now g k) (λ i u. (c.in-Err.ensures.err u ∙ c.in_ok-add.ensures.ok u) i)
    ∙ (ap (λ (x : List ℕ). last_dropped x (stamp_added c.as_slice.result.now c.args.stamp f) k) c.as_slice-in-Err.ensures
    ∙ (ap (λ (x : List ℕ). last_dropped key (stamp_added x c.args.stamp f) k) c.as_slice.ensures
    ∙ undone key c.args.stamp f k)))
