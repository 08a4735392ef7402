-- One line more of a round.
use Rattle.std.specs.Prelude.{ℕ, ◌≡◌, ◌++◌, List, ◌∷◌, map, Option, Some, None}
use Rattle.px_script.specs.declared.script.SessionText.{SessionText}
use Rattle.px_script.specs.Scripts.{Lines, all_texts, round_of, rounds_from}

-- a session's text with one line more
abbrev pub with_line : Option (List ℕ) → List ℕ → List ℕ
with_line None line = line
with_line (Some text) line = text ++ (10 ∷ line)

-- These rounds have ended and these texts are those of the lines that the next one has so far, where this is the script.
pub record IsDivided (rounds : List (List SessionText)) (texts : List (Option (List ℕ))) (left : Lines) (script : List (List SessionText)) : Type 0 where
  pub begun : Lines
  pub texts_are : texts ≡ all_texts begun
  pub whole : rounds ++ map round_of (rounds_from begun left) ≡ script
