-- What session commands say.
use Rattle.std.specs.Prelude.{ℕ, zero, suc, ◌≡◌, ◌⊎◌, ◌∷◌, [], ◌==◌, ◌&&◌, Bool, true, false, nat_le, if◌then◌else◌, List, length, map, option_map, unwrap_or, Option, Some, None, Result, Ok, Err, codes}
use Rattle.std.specs.Char.{to_ascii_uppercase}
use Rattle.std.specs.Str.{str_eq_ignore_ascii_case}
use Rattle.px_lex.specs.declared.kind.Kind.TheVariants as k
use Rattle.px_lex.specs.Kinds.{same_kind}
use Rattle.px_lex.specs.declared.token.LexFault.{LexFault}
use Rattle.px_lex.specs.declared.token.LexFault.TheVariants as lexical
use Rattle.px_lex.specs.Lexemes.{Seen, Lexeme, before_fault, fault_from, tokens_from}
use Rattle.px_resolve.specs.Literals.{number_of_digits}
use Rattle.px_commands.specs.declared.command.Command.{Command}
use Rattle.px_commands.specs.declared.command.CommandFault.{CommandFault}
use Rattle.px_commands.specs.declared.command.CommandFault.TheVariants as faults
use Rattle.px_commands.specs.declared.command.Command.TheVariants as commands
use Rattle.px_commands.specs.declared.reading.Fault.{Fault}
use Rattle.px_commands.specs.declared.reading.Fault.TheVariants.{Stuck, OutOfRange, Memory}
use Rattle.px_commands.specs.declared.word.Word.{Word}
use Rattle.px_commands.specs.declared.word.Word.TheVariants.{Scn, Off, On, Commit, Autocommit, Status, Flush, Compact}

-- ---- words

abbrev pub word_or_else : (is : Bool) → Word → Option Word → Option Word
word_or_else true word other = Some word
word_or_else false word other = other

-- the word that a text is, in any case of letters
abbrev pub word_of : List ℕ → Option Word
word_of text =
    word_or_else (str_eq_ignore_ascii_case text (codes "scn")) Scn
    (word_or_else (str_eq_ignore_ascii_case text (codes "off")) Off
    (word_or_else (str_eq_ignore_ascii_case text (codes "on")) On
    (word_or_else (str_eq_ignore_ascii_case text (codes "commit")) Commit
    (word_or_else (str_eq_ignore_ascii_case text (codes "autocommit")) Autocommit
    (word_or_else (str_eq_ignore_ascii_case text (codes "status")) Status
    (word_or_else (str_eq_ignore_ascii_case text (codes "flush")) Flush
    (word_or_else (str_eq_ignore_ascii_case text (codes "compact")) Compact None)))))))

-- ---- arguments

abbrev pub most_scn : ℕ
most_scn = 9223372036854775807

abbrev pub an_scn : (place n : ℕ) → Result Command Fault
an_scn place n = if nat_le 1 n && nat_le n most_scn then Ok (commands.Scn (Some n)) else Err (OutOfRange place)

abbrev pub off_said : Option Word → Result Command Fault
off_said (Some Off) = Ok (commands.Scn None)
off_said other = Err (Stuck 1)

-- a number from 1 on, or `off`
abbrev pub scn_said : Seen → Result Command Fault
scn_said t = if same_kind t.kind k.Number then an_scn t.place (number_of_digits t.text) else off_said (word_of t.text)

abbrev pub switched : Option Word → Result Command Fault
switched (Some On) = Ok (commands.Autocommit true)
switched (Some Off) = Ok (commands.Autocommit false)
switched other = Err (Stuck 1)

-- `on` or `off`
abbrev pub autocommit_said : Seen → Result Command Fault
autocommit_said t = switched (word_of t.text)

-- a text without this byte at its end, where it has one there
abbrev pub before_last : ℕ → List ℕ → Option (List ℕ)
before_last c [] = None
before_last c (b ∷ []) = if b == c then Some [] else None
before_last c (b ∷ a ∷ text) = option_map (λ l. b ∷ l) (before_last c (a ∷ text))

-- the text between double quotes
abbrev pub unquoted_name : List ℕ → Option (List ℕ)
unquoted_name [] = None
unquoted_name (b ∷ text) = if b == 34 then before_last 34 text else None

abbrev pub name_in_text : List ℕ → List ℕ
name_in_text text = unwrap_or (unquoted_name text) (map to_ascii_uppercase text)

-- a name: as it stands between double quotes, or in capitals
abbrev pub status_said : Seen → Result Command Fault
status_said t = if same_kind t.kind k.Name then Ok (commands.Status (name_in_text t.text)) else Err (Stuck 1)

abbrev pub argument : Word → Seen → Result Command Fault
argument Scn t = scn_said t
argument Autocommit t = autocommit_said t
argument Status t = status_said t
argument word t = Err (Stuck 0)

-- ---- commands

-- the command is its word alone
abbrev pub alone : Command → List Seen → Result Command Fault
alone command [] = Ok command
alone command (t ∷ ts) = Err (Stuck 1)

-- a token too many stands behind an argument that may stand there
abbrev pub followed : Result Command Fault → Result Command Fault
followed (Ok command) = Err (Stuck 2)
followed (Err (OutOfRange place)) = Err (Stuck 2)
followed (Err fault) = Err fault

-- the command is its word and one token behind it
abbrev pub with_argument : Word → List Seen → Result Command Fault
with_argument word [] = Err (Stuck 1)
with_argument word (t ∷ []) = argument word t
with_argument word (t ∷ u ∷ ts) = followed (argument word t)

abbrev pub said_behind : Option Word → List Seen → Result Command Fault
said_behind (Some Commit) ts = alone commands.Commit ts
said_behind (Some Flush) ts = alone commands.Flush ts
said_behind (Some Compact) ts = alone commands.Compact ts
said_behind (Some Scn) ts = with_argument Scn ts
said_behind (Some Autocommit) ts = with_argument Autocommit ts
said_behind (Some Status) ts = with_argument Status ts
said_behind other ts = Err (Stuck 0)

-- what the tokens behind the `!` say: a command, a number that is no SCN, or none, where the first n tokens begin one and no more
abbrev pub said : List Seen → Result Command Fault
said [] = Err (Stuck 0)
said (t ∷ ts) = said_behind (word_of t.text) ts

-- this is answered, or no memory was found
abbrev pub Says : Result Command Fault → Result Command Fault → Type 0
Says said result = (result ≡ said) ⊎ (result ≡ Err Memory)

abbrev pub FollowedBy : Result Command Fault → Result Command Fault → Type 0
FollowedBy said result = result ≡ followed said

-- ---- texts

abbrev pub fault_place : LexFault → ℕ
fault_place (lexical.BadCharacter place) = place
fault_place (lexical.Unclosed place) = place
fault_place (lexical.NumberTooLong place) = place
fault_place lexical.Memory = 0

-- where the tokens that count end
abbrev pub end_of : List ℕ → Option LexFault → ℕ
end_of text None = length text
end_of text (Some fault) = fault_place fault

-- the place of the token behind the first n, or of the end
abbrev pub place_behind : List Seen → (n end : ℕ) → ℕ
place_behind [] n end = end
place_behind (t ∷ ts) zero end = t.place
place_behind (t ∷ ts) (suc n) end = place_behind ts n end

-- the answer where all of the text is tokens
abbrev pub told : Result Command Fault → List Seen → (end : ℕ) → Result Command CommandFault
told (Ok command) ts end = Ok command
told (Err (Stuck n)) ts end = Err (faults.Syntax (place_behind ts n end))
told (Err (OutOfRange place)) ts end = Err (faults.OutOfRange place)
told (Err Memory) ts end = Err faults.Memory

-- the answer where a fault of the lexer stands behind the tokens: no command goes on with it
abbrev pub cut_short : Result Command Fault → List Seen → (end : ℕ) → Result Command CommandFault
cut_short (Ok command) ts end = Err (faults.Syntax end)
cut_short (Err (Stuck n)) ts end = Err (faults.Syntax (place_behind ts n end))
cut_short (Err (OutOfRange place)) ts end = Err (faults.Syntax end)
cut_short (Err Memory) ts end = Err faults.Memory

abbrev pub answer : Option LexFault → List Seen → (end : ℕ) → Result Command CommandFault
answer None ts end = told (said ts) ts end
answer (Some fault) ts end = cut_short (said ts) ts end

-- What may be answered to a text of this reading: the answer by its tokens before the first fault, or that no memory was found.
abbrev pub AnswersCommand : List ℕ → List Lexeme → Result Command CommandFault → Type 0
AnswersCommand text xs result = (result ≡ answer (fault_from 0 xs) (tokens_from 0 (before_fault xs)) (end_of text (fault_from 0 xs))) ⊎ (result ≡ Err faults.Memory)
