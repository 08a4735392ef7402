-- What it is to parse a text.
use Rattle.std.specs.Prelude.{◌≡◌, ◌≤◌, ◌⊎◌, ℕ, zero, suc, ◌+◌, Bool, true, false, List, [], ◌∷◌, ◌++◌, length, take, drop, codes, Option, Some, None, Result, Ok, Err}
use Rattle.px_lex.specs.declared.kind.Kind.{Kind}
use Rattle.px_lex.specs.declared.kind.Kind.TheVariants as k
use Rattle.px_lex.specs.Kinds.{same_kind}
use Rattle.px_lex.specs.declared.token.LexFault.{LexFault}
use Rattle.px_lex.specs.declared.token.LexFault.TheVariants as lexical
use Rattle.px_lex.specs.Lexemes.{Seen, Lexeme, tokens_from, fault_from, before_fault}
use Rattle.px_ast.specs.declared.statement.Upsert.{Upsert}
use Rattle.px_ast.specs.declared.statement.Statement.{Statement}
use Rattle.px_ast.specs.declared.statement.Statement.TheVariants as statements
use Rattle.px_ast.specs.Statements.{ReadsWithin, ReadsStatement, depth_limit}
use Rattle.px_parse.specs.declared.syntax.SyntaxFault.{SyntaxFault}
use Rattle.px_parse.specs.declared.syntax.SyntaxFault.TheVariants as faults
use Rattle.px_parse.specs.LeftOut.{left_out, name_beside}
use Rattle.px_parse.specs.Nullness.{forbids_null_outside_key}
use Rattle.px_statements.specs.Parsed.{BeginsOne, NoneGoesOn}

-- ---- where no statement continues

-- None begins with the first list and then the first token of the second. Where there is no such token, the first list is
-- none, or a fault of the lexer stands behind it.
abbrev pub NoneContinues : Option LexFault → List Seen → List Seen → Type 0
NoneContinues None front rest = NoneGoesOn front rest
NoneContinues (Some fault) front [] = Unit {0}
NoneContinues (Some fault) front (t ∷ rest) = NoneGoesOn front (t ∷ rest)

-- The first place, counted in tokens, where no statement continues.
pub record StopsAt (fault : Option LexFault) (tokens : List Seen) (at : ℕ) : Type 0 where
  pub within : at ≤ length tokens
  pub before : BeginsOne (take at tokens)
  pub none : NoneContinues fault (take at tokens) (drop at tokens)

-- ---- what a refusal tells

-- the first token is of this kind
abbrev pub begins_with : List Seen → Kind → Bool
begins_with [] kind = false
begins_with (t ∷ rest) kind = same_kind t.kind kind

abbrev pub upserts : Statement → Bool
upserts (statements.Upsert u) = true
upserts s = false

-- a whole UPSERT
abbrev pub IsUpsert : List Seen → Type 0
IsUpsert tokens = (u : Upsert) × ReadsWithin depth_limit tokens (statements.Upsert u)

-- a whole UPSERT, and ON behind it
abbrev pub IsUpsertOn : List Seen → ℕ → Type 0
IsUpsertOn tokens at = (begins_with (drop at tokens) k.On ≡ true) × IsUpsert (take at tokens)

-- The token that decides: behind a whole UPSERT and ON it is the one behind ON.
abbrev pub Decides : List Seen → ℕ → ℕ → Type 0
Decides tokens at j = (IsUpsertOn tokens at × (j ≡ at + 1)) ⊎ ((IsUpsertOn tokens at → ⊥) × (j ≡ at))

abbrev pub true_token : Seen
true_token = record { kind = k.True; place = 0; text = codes "TRUE" }

-- A name that stands where an operand may stand, as TRUE may.
abbrev pub IsOperandName : List Seen → ℕ → Type 0
IsOperandName tokens at = (begins_with (drop at tokens) k.Name ≡ true) × BeginsOne (take at tokens ++ true_token ∷ [])

-- A parenthesis behind an operand's name.
abbrev pub IsFunction : List Seen → ℕ → Type 0
IsFunction tokens zero = ⊥
IsFunction tokens (suc before) = (begins_with (drop (suc before) tokens) k.OpenParen ≡ true) × IsOperandName tokens before

-- the place of the first token, or the end where there is none
abbrev pub place_or : List Seen → ℕ → ℕ
place_or [] end = end
place_or (t ∷ rest) end = t.place

-- the name of the first token, where it is left out
abbrev pub name_left_out : List Seen → Option (List ℕ)
name_left_out [] = None
name_left_out (t ∷ rest) = name_beside left_out t.kind

-- At the first place where no statement continues stands no function, and this token decides.
pub record IsDecidedBy (fault : Option LexFault) (tokens : List Seen) (j : ℕ) : Type 0 where
  pub at : ℕ
  pub stops : StopsAt fault tokens at
  pub plain : IsFunction tokens at → ⊥
  pub decides : Decides tokens at j

abbrev pub IsLeftOut : Option LexFault → List Seen → List ℕ → Type 0
IsLeftOut fault tokens name =
    ((j : ℕ) × IsDecidedBy fault tokens j × (name_left_out (drop j tokens) ≡ Some name))
    ⊎ (((at : ℕ) × StopsAt fault tokens at × IsFunction tokens at × (name ≡ codes "FUNCTION"))
    ⊎ ((s : Statement) × (fault ≡ None) × ReadsWithin depth_limit tokens s × (forbids_null_outside_key s ≡ true) × (name ≡ codes "NOT NULL")))

-- Why a text is refused that has these tokens, up to this fault of the lexer or up to its end.
abbrev pub IsRefusedText : Option LexFault → List Seen → ℕ → SyntaxFault → Type 0
IsRefusedText fault tokens end faults.Memory = Unit {0}
IsRefusedText fault tokens end (faults.Unexpected place) =
    (j : ℕ) × IsDecidedBy fault tokens j × (name_left_out (drop j tokens) ≡ None) × (place ≡ place_or (drop j tokens) end)
IsRefusedText fault tokens end (faults.LeftOut name) = IsLeftOut fault tokens name.now
IsRefusedText fault tokens end faults.TooDeep = (fault ≡ None) × ((s : Statement) × ReadsStatement tokens s) × ((s : Statement) → ReadsWithin depth_limit tokens s → ⊥)

-- what a parser may answer to a text that has these tokens, up to this fault of the lexer or up to its end
abbrev pub IsTextParse : Option LexFault → List Seen → ℕ → Result Statement SyntaxFault → Type 0
IsTextParse fault tokens end (Ok s) = (fault ≡ None) × ReadsWithin depth_limit tokens s × (forbids_null_outside_key s ≡ false)
IsTextParse fault tokens end (Err e) = IsRefusedText fault tokens end e

-- ---- texts

-- the byte where a fault of the lexer begins
abbrev pub fault_place : LexFault → ℕ
fault_place (lexical.BadCharacter place) = place
fault_place (lexical.Unclosed place) = place
fault_place (lexical.NumberTooLong place) = place
fault_place lexical.Memory = 0

-- the byte behind the last token that counts
abbrev pub end_of : List ℕ → Option LexFault → ℕ
end_of text None = length text
end_of text (Some fault) = fault_place fault

-- What a parser may answer to a text of this reading.
abbrev pub AnswersStatement : List ℕ → List Lexeme → Result Statement SyntaxFault → Type 0
AnswersStatement text xs result = IsTextParse (fault_from 0 xs) (tokens_from 0 (before_fault xs)) (end_of text (fault_from 0 xs)) result

-- it answers this statement, unless memory runs out
abbrev pub IsAnswered : Statement → Result Statement SyntaxFault → Type 0
IsAnswered s (Ok given) = given ≡ s
IsAnswered s (Err e) = e ≡ faults.Memory
