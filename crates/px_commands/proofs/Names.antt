-- The text between double quotes.
use Rattle.std.proofs.Common.{◌≡◌, ◌≢◌, ℕ, Bool, true, false, ◌==◌, ◌++◌, List, [], ◌∷◌, refl, ◌∙◌, ap, Option, Some, None}
use Rattle.std.specs.Borrow.{Bor}
use Rattle.std.specs.Prelude.{MatchOption, option_map}
use Rattle.std.proofs.lemmas.Bool.{eqb-true}
use Rattle.px_commands.specs.Commands.{before_last, unquoted_name}

none-at : (b : ℕ) (text : List ℕ) (v : Bool) → (b == 34) ≡ v → b ≢ 34 → unquoted_name (b ∷ text) ≡ None
none-at b text true e other = absurd (other (eqb-true b 34 e))
none-at b text false e other = rw e refl

pub unquoted-none : (text : List ℕ) → ((rest : List ℕ) → text ≢ 34 ∷ rest) → unquoted_name text ≡ None
unquoted-none [] none = refl
unquoted-none (b ∷ text) none = none-at b text (b == 34) refl (λ e. none text (ap (λ x. x ∷ text) e))

last-some : (front : List ℕ) → before_last 34 (front ++ 34 ∷ []) ≡ Some front
last-some [] = refl
last-some (b ∷ []) = refl
last-some (b ∷ a ∷ front) = ap (option_map (λ l. b ∷ l)) (last-some (a ∷ front))

one-last : (b : ℕ) (v : Bool) → (b == 34) ≡ v → b ≢ 34 → before_last 34 (b ∷ []) ≡ None
one-last b true e other = absurd (other (eqb-true b 34 e))
one-last b false e other = rw e refl

last-none : (text : List ℕ) → ((front : List ℕ) → text ≢ front ++ 34 ∷ []) → before_last 34 text ≡ None
last-none [] none = refl
last-none (b ∷ []) none = one-last b (b == 34) refl (λ e. none [] (ap (λ x. x ∷ []) e))
last-none (b ∷ a ∷ text) none = ap (option_map (λ l. b ∷ l)) (last-none (a ∷ text) (λ front e. none (b ∷ front) (ap (λ l. b ∷ l) e)))

-- what is left of a text behind its first quote
pub unquoted-behind : (text rest : List ℕ) (r : Option (Bor (List ℕ))) → text ≡ 34 ∷ rest → MatchOption r ((front : List ℕ) → rest ≢ front ++ 34 ∷ []) (λ x. rest ≡ x.now ++ 34 ∷ [])
    → MatchOption r (unquoted_name text ≡ None) (λ inner. unquoted_name text ≡ Some inner.now)
unquoted-behind text rest None is none = ap unquoted_name is ∙ last-none rest none
unquoted-behind text rest (Some x) is some = ap unquoted_name is ∙ (ap (before_last 34) some ∙ last-some x.now)
