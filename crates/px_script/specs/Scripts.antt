-- How a script is divided among rounds and sessions.
use Rattle.std.specs.Prelude.{ℕ, ◌≤◌, ◌<◌, ◌+◌, ◌-◌, ◌*◌, ◌++◌, Bool, ◌&&◌, ◌==◌, nat_le, if◌then◌else◌, List, [], ◌∷◌, length, map, filter, Option, Some, None, codes}
use Rattle.std.specs.Char.{is_ascii_digit}
use Rattle.std.specs.List.{before_first, after_first, flat_map, range_with_len}
use Rattle.std.specs.Str.{IsUtf8, IsValidUpTo, bytes_eq}
use Rattle.px_script.specs.declared.owner.Owned.{Owned}
use Rattle.px_script.specs.declared.script.ScriptFault.{ScriptFault}
use Rattle.px_script.specs.declared.script.ScriptFault.TheVariants.{TooLong, NotUtf8, Memory}
use Rattle.px_script.specs.declared.script.SessionText.{SessionText}

-- ---- lines

abbrev pub Lines : Type 0
Lines = List (List ℕ)

abbrev pub is_feed : ℕ → Bool
is_feed b = b == 10

-- the byte stands before the first line
abbrev pub onto_first : ℕ → Lines → Lines
onto_first b [] = (b ∷ []) ∷ []
onto_first b (line ∷ lines) = (b ∷ line) ∷ lines

-- the lines of a text, without their line feeds. A last line feed ends the last line, and adds nothing
unfoldable pub lines_of : List ℕ → Lines
lines_of [] = []
lines_of (b ∷ text) = if is_feed b then [] ∷ lines_of text else onto_first b (lines_of text)

-- ---- rounds

-- three dashes are the whole line
abbrev pub is_round_end : List ℕ → Bool
is_round_end line = bytes_eq line (codes "---")

-- the lines of each round, where those that are `begun` stand at the beginning of the first: a line `---` ends a round
unfoldable pub rounds_from : (begun : Lines) → Lines → List Lines
rounds_from begun [] = begun ∷ []
rounds_from begun (line ∷ lines) = if is_round_end line then begun ∷ rounds_from [] lines else rounds_from (begun ++ line ∷ []) lines

-- ---- sessions

abbrev pub digit : ℕ → ℕ
digit b = b - 48

-- the number that one or two digits spell
abbrev pub number_of : List ℕ → Option ℕ
number_of (a ∷ []) = if is_ascii_digit a then Some (digit a) else None
number_of (a ∷ b ∷ []) = if is_ascii_digit a && is_ascii_digit b then Some (digit a * 10 + digit b) else None
number_of other = None

-- a number from 1 to 32
abbrev pub a_session : Option ℕ → Option ℕ
a_session None = None
a_session (Some n) = if nat_le 1 n && nat_le n 32 then Some n else None

-- the session that a word `@n` names
abbrev pub named : List ℕ → Option ℕ
named [] = None
named (b ∷ digits) = if b == 64 then a_session (number_of digits) else None

-- a line's session, and what the line gives to it
pub record SeenOwned : Type 0 where
  pub session : ℕ
  pub text : List ℕ

abbrev pub seen_owned : Owned → SeenOwned
seen_owned o = record { session = o.session; text = o.text.now }

abbrev pub given_to : Option ℕ → (rest line : List ℕ) → SeenOwned
given_to None rest line = record { session = 1; text = line }
given_to (Some n) rest line = record { session = n; text = rest }

abbrev pub is_space : ℕ → Bool
is_space b = b == 32

-- A line whose first word is `@n`, n from 1 to 32 in one or two digits, gives what stands behind that word and one space to
-- session n. Every other line belongs to session 1.
abbrev pub owned : List ℕ → SeenOwned
owned line = given_to (named (before_first is_space line)) (after_first is_space line) line

-- ---- the texts of a round

-- lines joined by line feeds; none where there is no line
abbrev pub joined_lines : Lines → Option (List ℕ)
joined_lines [] = None
joined_lines (line ∷ lines) = Some (line ++ flat_map (λ l. 10 ∷ l) lines)

-- a session's text of a round
abbrev pub text_of : (session : ℕ) → Lines → Option (List ℕ)
text_of session lines = joined_lines (map (λ o. o.text) (filter (λ o. o.session == session) (map owned lines)))

-- of each session its text of a round
unfoldable pub all_texts : Lines → List (Option (List ℕ))
all_texts lines = map (λ n. text_of n lines) (range_with_len 1 32)

-- those that are there, each with its session, where the first of these is session n
abbrev pub present : (n : ℕ) → List (Option (List ℕ)) → List SessionText
present n [] = []
present n (None ∷ texts) = present (n + 1) texts
present n (Some text ∷ texts) = record { session = n; text = text } ∷ present (n + 1) texts

-- a round
abbrev pub round_of : Lines → List SessionText
round_of lines = present 1 (all_texts lines)

-- ---- a script

-- the rounds of a script, each with the texts of its sessions
abbrev pub script_of : List ℕ → List (List SessionText)
script_of script = map round_of (rounds_from [] (lines_of script))

-- the greatest length of a script, in bytes
abbrev pub most_script : ℕ
most_script = 67108864

-- The script is run: it isn't too long, and it is UTF-8.
pub record IsReadableScript (script : List ℕ) : Type 0 where
  pub short : length script ≤ most_script
  pub utf8 : IsUtf8 script

-- Why nothing of a script is run: it is too long; or else it isn't UTF-8, from this byte on.
abbrev pub StopsScript : List ℕ → ScriptFault → Type 0
StopsScript script TooLong = most_script < length script
StopsScript script (NotUtf8 place) = (length script ≤ most_script) × (¬ IsUtf8 script) × IsValidUpTo script place
StopsScript script Memory = Unit {0}
