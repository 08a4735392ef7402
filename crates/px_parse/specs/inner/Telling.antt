-- What the parts of a parser tell.
use Rattle.std.specs.Prelude.{◌≡◌, ◌⊎◌, ℕ, Bool, true, false, List, codes, drop, Option, Some, None, Result, Ok, Err}
use Rattle.px_lex.specs.Lexemes.{Seen}
use Rattle.px_ast.specs.declared.statement.Statement.{Statement}
use Rattle.px_ast.specs.Statements.{ReadsStatement}
use Rattle.px_statements.specs.declared.fault.TokenFault.{TokenFault}
use Rattle.px_parse.specs.declared.syntax.SyntaxFault.{SyntaxFault}
use Rattle.px_parse.specs.declared.syntax.SyntaxFault.TheVariants as faults
use Rattle.px_parse.specs.Nullness.{forbids_null_outside_key}
use Rattle.px_statements.specs.Parsed.{IsRefused}
use Rattle.px_parse.specs.Texts.{Decides, IsFunction, name_left_out, place_or}

-- what a test answers
abbrev pub Tests : Type 0 → Result Bool SyntaxFault → Type 0
Tests P (Ok true) = P
Tests P (Ok false) = P → ⊥
Tests P (Err e) = e ≡ faults.Memory

-- why tokens are no statement, where they are none
abbrev pub ExplainsTokens : List Seen → Option TokenFault → Type 0
ExplainsTokens tokens None = (s : Statement) × ReadsStatement tokens s
ExplainsTokens tokens (Some e) = IsRefused tokens e

-- the refusal that the first token decides
abbrev pub TellsFirst : List Seen → ℕ → SyntaxFault → Type 0
TellsFirst rest end (faults.Unexpected place) = (name_left_out rest ≡ None) × (place ≡ place_or rest end)
TellsFirst rest end (faults.LeftOut name) = name_left_out rest ≡ Some name.now
TellsFirst rest end faults.TooDeep = ⊥
TellsFirst rest end faults.Memory = ⊥

-- the refusal of tokens with which no statement goes on from this place on
abbrev pub IsRefusedAt : List Seen → ℕ → ℕ → SyntaxFault → Type 0
IsRefusedAt tokens at end faults.Memory = Unit {0}
IsRefusedAt tokens at end faults.TooDeep = ⊥
IsRefusedAt tokens at end (faults.LeftOut name) =
    (IsFunction tokens at × (name.now ≡ codes "FUNCTION"))
    ⊎ ((IsFunction tokens at → ⊥) × ((j : ℕ) × Decides tokens at j × (name_left_out (drop j tokens) ≡ Some name.now)))
IsRefusedAt tokens at end (faults.Unexpected place) =
    (IsFunction tokens at → ⊥) × ((j : ℕ) × Decides tokens at j × (name_left_out (drop j tokens) ≡ None) × (place ≡ place_or (drop j tokens) end))

-- the answer to a statement that was read, unless memory runs out
abbrev pub IsAllowed : Statement → Result Statement SyntaxFault → Type 0
IsAllowed read (Ok s) = (s ≡ read) × (forbids_null_outside_key read ≡ false)
IsAllowed read (Err (faults.LeftOut name)) = (forbids_null_outside_key read ≡ true) × (name.now ≡ codes "NOT NULL")
IsAllowed read (Err faults.Memory) = Unit {0}
IsAllowed read (Err e) = ⊥
