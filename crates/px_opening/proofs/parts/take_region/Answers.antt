use Rattle.std.proofs.Common.{List, ◌∷◌, sym, subst, rules, ◌≡◌, ◌<◌, length}
use Rattle.std.specs.Prelude.{IsPermutation}
use Rattle.std.proofs.lemmas.List.Sorted.{IsPermutation-swap_remove}
use Rattle.px_region.specs.declared.region.Region.{Region}
use Rattle.px_opening.proofs.Building.{at_place}
use Rattle.px_opening.proofs.parts.take_region.Goals as goal

pub returns : goal.returns
returns c =
    let rs = c.args.regions.now.items in
    let i = c.in_ok-place.place in
    let r = c.swap_remove.result in
    let lt : i < length rs = search rules in
    let at = at_place rs i r lt c.swap_remove.ensures.value in
    let number : r.number ≡ c.args.number = search rules in
    (number, subst (λ (l : List Region). IsPermutation rs (r ∷ l)) (sym c.swap_remove.ensures.items) (IsPermutation-swap_remove rs i r lt c.swap_remove.ensures.value))
