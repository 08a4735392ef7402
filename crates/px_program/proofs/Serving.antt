-- A server with which nothing was done.
use Rattle.std.proofs.Common.{◌≡◌, ◌++◌, true, List, [], refl, sym, subst}
use Rattle.std.proofs.lemmas.List.{append-nil}
use Rattle.px_trail.proofs.Growth.{legal-none}
use Rattle.px_trail.specs.Legal.{IsLegal}
use Rattle.px_trail.specs.declared.entry.Entry.{Entry}
use Rattle.px_calls.specs.Known.{Known}
use Rattle.px_rounds.specs.Turns.{IsSingle, TrailGoesOn}

pub is_single : (k : Known) → k.alone ≡ true → k.seen ≡ [] → IsSingle k
is_single k alone nothing = record { alone = alone; legal = subst (λ (es : List Entry). IsLegal k.base es) (sym nothing) (legal-none k.base) }

-- where nothing more was done
pub stays : (k : Known) → k.alone ≡ true → k.seen ≡ [] → TrailGoesOn k k
stays k alone nothing = record { more = []; seen = sym (append-nil k.seen); base = refl; damaged = refl; single = is_single k alone nothing }
