-- How many rows of tables were looked at, where one table was read.
use Rattle.std.proofs.Common.{◌≡◌, ◌<◌, ℕ, List, [], ◌∷◌, length, get_or, map, refl, ap, arith, sum_by}
use Rattle.std.specs.List.{slice_set}
use Rattle.std.proofs.lemmas.List.Sums.{get_or-le-sum_by, sum_by-cons, sum_by-set}
use Rattle.px_calls.specs.Counts.{HasRisenBy}
use Rattle.px_region.specs.declared.region.Region.{Region}
use Rattle.px_group.specs.declared.group.Group.{Group}
use Rattle.px_looks.specs.Counted.{HasCounted}
use Rattle.px_server.specs.Looks.{rows_in, rows_looked}

abbrev looked_in : Region → ℕ
looked_in r = r.looked

of_regions : (gs : List Group) → rows_looked gs ≡ sum_by looked_in (map rows_in gs)
of_regions [] = refl
of_regions (g ∷ gs) = (let a = sum_by-cons (λ (h : Group). h.rows.looked) g gs in let b = sum_by-cons looked_in g.rows (map rows_in gs) in let c = of_regions gs in omega (arith, a, b, c))

-- the same regions
pub same_rows : (gs hs : List Group) → map rows_in hs ≡ map rows_in gs → rows_looked hs ≡ rows_looked gs
same_rows gs hs same = (let a = of_regions gs in let b = of_regions hs in let c = ap (λ (rs : List Region). sum_by looked_in rs) same in omega (arith, a, b, c))

-- what is counted of one is counted of all
pub risen_at : (gs : List Group) (place : ℕ) (g g' : Group) → place < length gs → get_or gs place g ≡ g → (n : ℕ) → HasCounted g.rows g'.rows n → HasRisenBy n (rows_looked gs) (rows_looked (slice_set gs place g'))
risen_at gs place g g' l is n counted =
    let f = λ (h : Group). h.rows.looked in
    let one = sum_by-set f gs place g' g l in
    let low = get_or-le-sum_by f gs place g l in
    let was : f (get_or gs place g) ≡ f g = ap f is in
    omega (arith, one, low, was, counted)
