-- The hints of a query.
use Rattle.std.specs.Prelude.{◌≡◌, ℕ, zero, suc, Bool, false, if◌then◌else◌, ◌&&◌, nat_eq, List, [], ◌∷◌, ◌++◌, map, codes, Option, Some, None}
use Rattle.std.specs.Char.{to_ascii_uppercase}
use Rattle.std.specs.Option.{option_and_then, option_map, option_map_or, option_to_list}
use Rattle.std.specs.Str.{bytes_eq, str_eq_ignore_ascii_case}
use Rattle.px_lex.specs.declared.kind.Kind.TheVariants as k
use Rattle.px_lex.specs.Kinds.{same_kind}
use Rattle.px_lex.specs.Lexemes.{Seen, Lexeme, IsTextReading, tokens_from, before_fault}
use Rattle.px_bind.specs.declared.request.Hint.{Hint}
use Rattle.px_bind.specs.declared.request.Hint.TheVariants.{Index, NoIndex}

-- ---- texts without their ends

-- what stands behind this first byte
abbrev pub behind : ℕ → List ℕ → Option (List ℕ)
behind first [] = None
behind first (b ∷ text) = if nat_eq b first then Some text else None

-- what stands before this last byte
abbrev pub before : ℕ → List ℕ → Option (List ℕ)
before last [] = None
before last (b ∷ []) = if nat_eq b last then Some [] else None
before last (b ∷ c ∷ text) = option_map (λ l. b ∷ l) (before last (c ∷ text))

-- the name that a name's token is stored as: as it stands between double quotes, or in capitals
abbrev pub name_in : List ℕ → Option (List ℕ)
name_in text = elim (behind 34 text) [ None ↦ Some (map to_ascii_uppercase text) | Some quoted ↦ before 34 quoted ]

-- what stands between `/*+` and `*/`
abbrev pub inside_hint : List ℕ → Option (List ℕ)
inside_hint text = option_and_then (before 42) (option_and_then (before 47) (option_and_then (behind 43) (option_and_then (behind 42) (behind 47 text))))

-- ---- hints among tokens

abbrev pub is_name : List ℕ → Option (List ℕ) → Bool
is_name name found = option_map_or (λ n. bytes_eq n name) found false

-- `INDEX(table index)` with the query's table gives the index's name
abbrev pub index_hint : List ℕ → List Seen → Option (List ℕ)
index_hint table (t ∷ a ∷ b ∷ c ∷ d ∷ tokens) =
    if same_kind t.kind k.Index && same_kind a.kind k.OpenParen && same_kind b.kind k.Name && same_kind c.kind k.Name && same_kind d.kind k.CloseParen && is_name table (name_in b.text)
    then name_in c.text else None
index_hint table tokens = None

abbrev pub is_no_index : Seen → Bool
is_no_index t = same_kind t.kind k.Name && str_eq_ignore_ascii_case t.text (codes "NO_INDEX")

-- the hint that begins with the first of these tokens
abbrev pub hint_at : List ℕ → List Seen → Option Hint
hint_at table [] = None
hint_at table (t ∷ tokens) = elim (index_hint table (t ∷ tokens)) [ Some name ↦ Some (Index name) | None ↦ if is_no_index t then Some NoIndex else None ]

-- how many tokens behind its first belong to a hint
abbrev pub length_behind : Option Hint → ℕ
length_behind None = 0
length_behind (Some (Index name)) = 4
length_behind (Some NoIndex) = 0

-- the hints among these tokens, of which so many first ones are passed over; a token that begins none is passed over too
abbrev pub hints_among : List ℕ → ℕ → List Seen → List Hint
hints_among table skip [] = []
hints_among table (suc skip) (t ∷ tokens) = hints_among table skip tokens
hints_among table zero (t ∷ tokens) = option_to_list (hint_at table (t ∷ tokens)) ++ hints_among table (length_behind (hint_at table (t ∷ tokens))) tokens

-- the hints in what stands inside a hint's token: of a text with a lexical fault the tokens before it count
abbrev pub AreInside : List ℕ → Option (List ℕ) → List Hint → Type 0
AreInside table None found = found ≡ []
AreInside table (Some inner) found = (xs : List Lexeme) × IsTextReading inner xs × (found ≡ hints_among table 0 (tokens_from 0 (before_fault xs)))

-- the hints of a query of this table
abbrev pub AreHints : List ℕ → Option (List ℕ) → List Hint → Type 0
AreHints table None found = found ≡ []
AreHints table (Some text) found = AreInside table (inside_hint text) found
