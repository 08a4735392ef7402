use Rattle.std.proofs.Common.{◌++◌, ◌∷◌, [], List, sym, ◌∙◌, ap}
use Rattle.px_verify.specs.declared.report.IndexEntry.{IndexEntry}
use Rattle.px_verify.proofs.Keeping.{key-fits, never, one-entry, same-entry}
use Rattle.px_verify.proofs.entries.keep_row.Goals as goal

pub returns-in-None : goal.returns-in-None
returns-in-None c = λ fits.
    let is = rw c.as_slice.ensures at c.in_ok-entry_of-in-Sure.ensures in
    absurd (never _ (sym c.in-None.is ∙ is (key-fits _ _ c.in-Sure.found c.in-Sure.is fits)))

pub returns : goal.returns
returns c = λ fits.
    let is = rw c.as_slice.ensures at c.in_ok-entry_of-in-Sure.ensures in
    let one = same-entry _ _ (sym c.in-Some.is ∙ is (key-fits _ _ c.in-Sure.found c.in-Sure.is fits)) in
    c.in_ok-push-in-Some.ensures.items ∙ ap (λ (l : List IndexEntry). c.args.rows.now.items ++ l) (ap (λ (e : IndexEntry). e ∷ []) one ∙ sym (one-entry _ _ _ c.in-Sure.found c.in-Sure.is))
