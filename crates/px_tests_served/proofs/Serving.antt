-- A server on which nobody else acts.
use Rattle.std.proofs.Common.{◌≡◌, true, List, [], sym, subst, ◌∙◌}
use Rattle.px_trail.proofs.Growth.{legal-none}
use Rattle.px_trail.specs.Legal.{IsLegal}
use Rattle.px_trail.specs.declared.entry.Entry.{Entry}
use Rattle.px_calls.specs.Known.{Known, Sees}
use Rattle.px_rounds.specs.Turns.{IsSingle}

-- nothing was done with it
pub is_single : (k : Known) → k.alone ≡ true → k.seen ≡ [] → IsSingle k
is_single k alone nothing = record { alone = alone; legal = subst (λ (es : List Entry). IsLegal k.base es) (sym nothing) (legal-none k.base) }

-- a call was made that added nothing
pub is_single_since : (k k' : Known) → k.alone ≡ true → Sees k k' → IsSingle k'
is_single_since k k' alone h = record { alone = h.as_alone ∙ alone; legal = h.passes.legal }
