-- What a call tells that adds nothing, or one entry.
use Rattle.std.proofs.Common.{◌≡◌, ℕ, List, [], ◌∷◌, ◌++◌, refl, sym}
use Rattle.std.proofs.lemmas.List.{append-nil}
use Rattle.px_trail.specs.declared.entry.Act.{Act}
use Rattle.px_trail.specs.declared.entry.Entry.{Entry}
use Rattle.px_trail.specs.Legal.{IsLegal}
use Rattle.px_trail.specs.Trail.{acts_by}
use Rattle.px_calls.specs.Known.{Adds, Known, Sees}

-- nobody else acts
pub stays : (k : Known) → IsLegal k.base k.seen → Sees k k
unfolding acts_by
stays k legal = record {
  passes = record { others = []; seen = sym (append-nil k.seen); apart = refl; seat = refl; base = refl; damaged = refl; legal = legal };
  alone = λ alone. refl;
  as_alone = refl;
}

pub one_more : (k : Known) (es : List Entry) (calls : ℕ) (act : Act) → IsLegal k.base k.seen → es ≡ k.seen ++ record { seat = k.seat; calls = calls; act = act } ∷ [] → IsLegal k.base es → Adds k (record k { seen = es }) act
one_more k es calls act legal is then = record {
  between = k;
  sees = stays k legal;
  extends = record { calls = calls; seen = is; seat = refl; base = refl; damaged = refl; as_alone = refl; legal = then };
}
