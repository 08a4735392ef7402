-- Tokens as the lexer gives them.
use Rattle.std.specs.Prelude.{◌≡◌, ◌<◌, ℕ, true, false, List, [], ◌∷◌, ◌++◌}
use Rattle.px_lex.specs.declared.kind.Kind.TheVariants as k
use Rattle.px_lex.specs.Bytes.{starts, pairs}
use Rattle.px_lex.specs.Kinds.{same_kind}
use Rattle.px_lex.specs.Lexemes.{Seen}
use Rattle.px_ast.specs.Grammar.{unquoted}

-- its first and last bytes are characters of one byte
abbrev pub IsEnclosed : List ℕ → Type 0
IsEnclosed text = (first : ℕ) × (last : ℕ) × (inner : List ℕ) × (text ≡ first ∷ (inner ++ last ∷ [])) × (first < 128) × (last < 128)

-- What is used of a token's text: a name that begins with `"` ends with a byte like it, and a text stands between quotes and
-- has each quote in it twice.
pub record IsWell (t : Seen) : Type 0 where
  pub name : same_kind t.kind k.Name ≡ true → starts 34 t.text ≡ true → IsEnclosed t.text
  pub text : same_kind t.kind k.Text ≡ true → IsEnclosed t.text × (pairs false (unquoted t.text) ≡ true)

abbrev pub AreWell : List Seen → Type 0
AreWell [] = Unit {0}
AreWell (t ∷ ts) = IsWell t × AreWell ts
