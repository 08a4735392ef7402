-- Lists of two.
use Rattle.std.proofs.Common.{◌≡◌, ◌+◌, ◌&&◌, Bool, true, false, true≢false, sym, Ok, Result, subst, List, [], ◌∷◌, ◌++◌, length, refl, ap, ◌∙◌, arith, length-append}
use Rattle.std.specs.Prelude.{OnOk}

none_left : {A : Type 0} (xs : List A) → length xs ≡ 0 → xs ≡ []
none_left [] e = refl
none_left (x ∷ xs) e = absurd (omega arith)

-- nothing is left once two were taken
pub rest_of : {A : Type 0} (all xs ys : List A) (a b : A) → all ≡ xs ++ b ∷ [] → xs ≡ ys ++ a ∷ [] → length all ≡ 2 → ys ≡ []
rest_of all xs ys a b e d two =
    let n : length all ≡ length xs + 1 = ap length e ∙ length-append xs (b ∷ []) in
    let m : length xs ≡ length ys + 1 = ap length d ∙ length-append ys (a ∷ []) in
    none_left ys (omega arith)

pub both_of : {A : Type 0} (all xs ys : List A) (a b : A) → all ≡ xs ++ b ∷ [] → xs ≡ ys ++ a ∷ [] → ys ≡ [] → all ≡ a ∷ b ∷ []
both_of all xs ys a b e d none = e ∙ ap (λ l. l ++ b ∷ []) (d ∙ ap (λ l. l ++ a ∷ []) none)

pub and_both : (a b : Bool) → (a && b) ≡ true → (a ≡ true) × (b ≡ true)
and_both true true e = (refl, refl)
and_both true false e = absurd (true≢false (sym e))
and_both false b e = absurd (true≢false (sym e))

-- what holds of an `Ok`
pub on_ok : {A F : Type 0} (r : Result A F) (x : A) (P : Type 0) → r ≡ Ok x → OnOk r P → P
on_ok r x P is holds = subst (λ y. OnOk y P) is holds
