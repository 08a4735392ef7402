-- What it is to parse tokens.
use Rattle.std.specs.Prelude.{◌≡◌, ℕ, ◌≤◌, List, [], ◌∷◌, ◌++◌, length, take, drop, Result, Ok, Err}
use Rattle.px_lex.specs.Lexemes.{Seen}
use Rattle.px_ast.specs.declared.statement.Statement.{Statement}
use Rattle.px_ast.specs.Statements.{ReadsWithin, ReadsStatement, depth_limit}
use Rattle.px_statements.specs.declared.fault.TokenFault.{TokenFault}
use Rattle.px_statements.specs.declared.fault.TokenFault.TheVariants as faults

-- Some statement of the grammar begins with these tokens.
abbrev pub BeginsOne : List Seen → Type 0
BeginsOne front = (more : List Seen) × (s : Statement) × ReadsStatement (front ++ more) s

-- None begins with the first list and then the first token of the second; where there is no such token, the first list is none.
abbrev pub NoneGoesOn : List Seen → List Seen → Type 0
NoneGoesOn front [] = (s : Statement) → ReadsStatement front s → ⊥
NoneGoesOn front (t ∷ rest) = BeginsOne (front ++ t ∷ []) → ⊥

-- The first place, counted in tokens, where no statement of the grammar continues.
pub record IsFirstUnexpected (tokens : List Seen) (place : ℕ) : Type 0 where
  pub within : place ≤ length tokens
  pub before : BeginsOne (take place tokens)
  pub none : NoneGoesOn (take place tokens) (drop place tokens)

-- why the tokens are refused
abbrev pub IsRefused : List Seen → TokenFault → Type 0
IsRefused tokens faults.Memory = Unit {0}
IsRefused tokens (faults.Unexpected place) = IsFirstUnexpected tokens place
IsRefused tokens faults.TooDeep = ((s : Statement) × ReadsStatement tokens s) × ((s : Statement) → ReadsWithin depth_limit tokens s → ⊥)

-- what a parser may answer: the statement, or why there is none
abbrev pub IsParse : List Seen → Result Statement TokenFault → Type 0
IsParse tokens (Ok s) = ReadsWithin depth_limit tokens s
IsParse tokens (Err e) = IsRefused tokens e

-- it answers this statement, unless memory runs out
abbrev pub IsGiven : Statement → Result Statement TokenFault → Type 0
IsGiven s (Ok given) = given ≡ s
IsGiven s (Err e) = e ≡ faults.Memory
