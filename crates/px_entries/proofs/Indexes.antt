-- The index of a number among definitions.
use Rattle.std.proofs.Common.{◌≡◌, ℕ, ◌-◌, ◌≤◌, Bool, true, false, Some, None, List, [], ◌∷◌, length, take, drop, refl, sym, ap, ◌∙◌, arith}
use Rattle.std.specs.Prelude.{◌==◌, get_or, if◌then◌else◌}
use Rattle.std.proofs.lemmas.Bool.Decides.{nat_tests}
use Rattle.px_values.specs.declared.name.IndexId.{IndexId}
use Rattle.px_tables.specs.declared.index.Index.{Index}
use Rattle.px_calls.specs.Requires.{index_among}

same_number : (a b : ℕ) → a ≡ b → (a == b) ≡ true
same_number a b e = grind (arith, nat_tests)

other_number : (a b : ℕ) → (a ≡ b → ⊥) → (a == b) ≡ false
other_number a b n = grind (arith, nat_tests)

pub among-none : (i : ℕ) (xs : List Index) → length xs ≤ 0 → None ≡ index_among i xs
unfolding index_among
among-none i [] l = refl
among-none i (x ∷ xs) l = absurd (omega arith)

pub among-here : (i : IndexId) (xs : List Index) (x d : Index) → 1 ≤ length xs → x ≡ get_or xs 0 d → x.id ≡ i → Some x ≡ index_among i.0 xs
unfolding index_among
among-here i [] x d l is same = absurd (omega arith)
among-here i (y ∷ ys) x d l is same = ap Some is ∙ ap (λ (b : Bool). if b then Some y else index_among i.0 ys) (sym (same_number y.id.0 i.0 (ap (λ (z : Index). z.id.0) (sym is) ∙ ap (λ (j : IndexId). j.0) same)))

take_whole : (xs : List Index) → take (length xs) xs ≡ xs
take_whole [] = refl
take_whole (x ∷ xs) = ap (λ (l : List Index). x ∷ l) (take_whole xs)

pub among-on : (i : IndexId) (xs : List Index) (x d : Index) → 1 ≤ length xs → x ≡ get_or xs 0 d → (x.id ≡ i → ⊥) → index_among i.0 (take (length xs - 1) (drop 1 xs)) ≡ index_among i.0 xs
unfolding index_among
among-on i [] x d l is other = absurd (omega arith)
among-on i (y ∷ ys) x d l is other =
    let n : length (y ∷ ys) - 1 ≡ length ys = omega arith in
    ap (λ (m : ℕ). index_among i.0 (take m ys)) n
    ∙ (ap (index_among i.0) (take_whole ys)
    ∙ ap (λ (b : Bool). if b then Some y else index_among i.0 ys) (sym (other_number y.id.0 i.0 (λ e. other (ap (λ (z : Index). z.id) is ∙ (λ j. record { 0 = e j }))))))
