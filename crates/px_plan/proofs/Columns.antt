-- What is told of so many columns.
use Rattle.std.proofs.Common.{◌≡◌, ◌≤◌, ℕ, List, [], ◌∷◌, length, map, suc, refl, sym, ap, subst, Option, Some, None, arith}
use Rattle.px_values.specs.declared.row.Value.{Value}
use Rattle.px_expr.specs.declared.bound.Bound.{Bound}
use Rattle.px_ranges.specs.Led.{IsFor}
use Rattle.px_ranges.specs.declared.leading.Leading.{Leading}
use Rattle.px_ranges.specs.declared.leading.Span.{Span}
use Rattle.px_conjuncts.specs.Conjuncts.{equal_in}
use Rattle.px_conjuncts.specs.Paths.{equal_value, first_told, leading_of, leading_told, led_by, without_first}
use Rattle.px_conjuncts.specs.declared.path.EqualTo.{EqualTo}
use Rattle.px_paths.specs.declared.path.PathColumn.{PathColumn}
use Rattle.px_conjuncts.specs.declared.path.Told.{Told}
use Rattle.px_conjuncts.proofs.Ranged.{leading_is_for}
use Rattle.px_paths.specs.Paths.{columns_on}

led_short : (o : Option Value) (more : Leading) (span : Option Span) (n : ℕ) → length more.equal ≤ n → length (led_by o more span).equal ≤ suc n
led_short (Some v) more span n h = omega arith
led_short None more span n h = omega arith

-- no more columns have a value than there are
pub leading_short : (path : List PathColumn) (cs : List Bound) → length (leading_of path cs).equal ≤ length path
leading_short [] cs = omega arith
leading_short (p ∷ path) cs = led_short (first_told (equal_in p) cs) (leading_of path (without_first (equal_in p) cs)) _ (length path) (leading_short path (without_first (equal_in p) cs))

map_count : (es : List EqualTo) → length (map equal_value es) ≡ length es
map_count [] = refl
map_count (e ∷ es) = ap suc (map_count es)

pub told_short : (t : Told) (path : List PathColumn) (cs : List Bound) → leading_told t ≡ leading_of path cs → length t.equal.items ≤ length path
told_short t path cs e =
    let n = map_count t.equal.items in
    let l : length (leading_told t).equal ≡ length (leading_of path cs).equal = ap (λ (x : Leading). length x.equal) e in
    let s = leading_short path cs in omega arith

pub told_is_for : (t : Told) (path : List PathColumn) (cs : List Bound) → leading_told t ≡ leading_of path cs → IsFor (columns_on path) (leading_told t).equal (leading_told t).span
told_is_for t path cs e = subst (λ (l : Leading). IsFor (columns_on path) l.equal l.span) (sym e) (leading_is_for path cs)
