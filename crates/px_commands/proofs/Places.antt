-- The place of a token.
use Rattle.std.proofs.Common.{◌≡◌, ◌<◌, ◌≤◌, ℕ, zero, suc, List, [], ◌∷◌, length, get_or, map, refl, ap, arith}
use Rattle.px_lex.specs.declared.token.Token.{Token}
use Rattle.px_lex.specs.Lexemes.{seen}
use Rattle.px_commands.specs.Commands.{place_behind}

pub place-there : (ts : List Token) (n end : ℕ) (t : Token) → n < length ts → t ≡ get_or ts n t → t.place ≡ place_behind (map seen ts) n end
place-there [] n end t within is = absurd (omega (arith, within))
place-there (u ∷ ts) zero end t within is = ap (λ (x : Token). x.place) is
place-there (u ∷ ts) (suc n) end t within is = place-there ts n end t (omega (arith, within)) is

pub place-at-end : (ts : List Token) (n end : ℕ) → length ts ≤ n → end ≡ place_behind (map seen ts) n end
place-at-end [] n end past = refl
place-at-end (u ∷ ts) zero end past = absurd (omega (arith, past))
place-at-end (u ∷ ts) (suc n) end past = place-at-end ts n end (omega (arith, past))
