-- Where all columns are shown, in order, the row itself is.
use Rattle.std.proofs.Common.{◌≡◌, ℕ, ◌<◌, List, length, get_or, ap, ◌∙◌, arith}
use Rattle.std.proofs.lemmas.List.{get_or-map, get_or_default, length-map, same_lists}
use Rattle.px_values.specs.declared.row.Value.{Value}
use Rattle.px_values.specs.declared.row.Value.TheVariants.{Null}
use Rattle.px_sorted.specs.Sorting.{row_shown}

pub whole_row : (columns : List ℕ) (row : List Value) → length columns ≡ length row → ((k : ℕ) → k < length columns → get_or columns k 0 ≡ k) → row_shown columns row ≡ row
whole_row columns row long each = same_lists (row_shown columns row) row (length-map columns (λ c. get_or row c Null) ∙ long) (λ k d lt.
    let l = length-map columns (λ c. get_or row c Null) in
    let there : k < length columns = omega arith in
    let here : k < length row = omega arith in
    get_or-map (λ c. get_or row c Null) columns k 0 d there ∙ (ap (λ (c : ℕ). get_or row c Null) (each k there) ∙ get_or_default row k Null d here))
