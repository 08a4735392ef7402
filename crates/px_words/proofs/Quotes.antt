-- Texts between quotes.
use Rattle.std.proofs.Common.{◌≡◌, ℕ, ◌<◌, ◌==◌, Bool, true, false, List, [], ◌∷◌, length, refl, ap, ◌∙◌, arith, get_or}
use Rattle.std.proofs.lemmas.Bool.{and_parts, eqb-true}
use Rattle.px_lex.specs.Bytes.{pairs}
use Rattle.px_ast.specs.Grammar.{undoubled}
use Rattle.px_values.specs.Quotes.{doubled}
use Rattle.px_ast.proofs.Tokens.{undoubled_doubled}
use Rattle.px_words.specs.Tokens.{IsEnclosed}

pub enclosed_begins : (text : List ℕ) → IsEnclosed text → (0 < length text) × (get_or text 0 0 < 128)
enclosed_begins text h = (omega (arith, ap length h.3), omega (arith, ap (λ (x : List ℕ). get_or x 0 0) h.3, h.4))

last : (b : ℕ) (t : Bool) → (b == 39) ≡ t → pairs t [] ≡ true → b ∷ [] ≡ doubled (b ∷ undoubled t [])
last b true e h = absurd cc
last b false e h = rw e refl

abbrev pub IsDoubled : List ℕ → Type 0
IsDoubled inner = pairs false inner ≡ true → inner ≡ doubled (undoubled false inner)

two : (b c : ℕ) (inner : List ℕ) (t : Bool) → (b == 39) ≡ t → pairs t (c ∷ inner) ≡ true → IsDoubled (c ∷ inner) → IsDoubled inner
    → b ∷ c ∷ inner ≡ doubled (b ∷ undoubled t (c ∷ inner))
two b c inner false e h behind further = rw e (ap (λ (x : List ℕ). b ∷ x) (behind h))
two b c inner true e h behind further =
    let both = and_parts (c == 39) (pairs false inner) h in
    let first : b ≡ 39 = eqb-true b 39 e in
    let second : c ≡ 39 = eqb-true c 39 both.0 in
    let rest : inner ≡ doubled (undoubled false inner) = further both.1 in
    rw e cc

-- a text whose quotes stand in pairs is another one with each quote doubled
pub doubled_undoubled : (inner : List ℕ) → IsDoubled inner
doubled_undoubled [] h = refl
doubled_undoubled (b ∷ []) h = last b (b == 39) refl h
doubled_undoubled (b ∷ c ∷ inner) h = two b c inner (b == 39) refl h (doubled_undoubled (c ∷ inner)) (doubled_undoubled inner)

pub undoubled_is : (inner bytes : List ℕ) → inner ≡ doubled bytes → undoubled false inner ≡ bytes
undoubled_is inner bytes h = ap (undoubled false) h ∙ undoubled_doubled bytes
