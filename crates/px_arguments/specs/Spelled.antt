-- How a command is written in words.
use Rattle.std.specs.Prelude.{ℕ, ◌≡◌, ◌≢◌, ◌<◌, ◌≤◌, ◌⊎◌, ◌^◌, Bool, true, false, if◌then◌else◌, List, [], ◌∷◌, ◌++◌, length, codes, Option, None, Some}
use Rattle.std.specs.List.{AllByRecursion}
use Rattle.std.specs.Str.Parse.{IsNumeral, digits_value}
use Rattle.px_load.specs.declared.script.Load.{Load as Loads}
use Rattle.px_verifying.specs.declared.answer.VerifyKind.{VerifyKind}
use Rattle.px_verifying.specs.declared.answer.VerifyKind.TheVariants as kind
use Rattle.px_arguments.specs.declared.said.Part.{Part}
use Rattle.px_arguments.specs.declared.said.Part.TheVariants as part
use Rattle.px_arguments.specs.Arguments.{SeenCommand, Run, Verify, Load, is_plain, usual_lookback}

-- the word of an option
abbrev pub option_word : Part → Option (List ℕ)
option_word part.Folder = None
option_word part.Table = Some (codes "--table")
option_word part.Index = Some (codes "--index")
option_word part.Kind = Some (codes "--kind")
option_word part.Number = Some (codes "--number")
option_word part.Rows = Some (codes "--rows")
option_word part.Lookback = Some (codes "--lookback")
option_word part.Schedule = Some (codes "--schedule")

abbrev pub kind_word : VerifyKind → List ℕ
kind_word kind.None = codes "NONE"
kind_word kind.Only = codes "ONLY"
kind_word kind.Before = codes "BEFORE"
kind_word kind.After = codes "AFTER"
kind_word kind.Both = codes "BOTH"

-- decimal digits alone, at least one, which come to this number; it has 64 bits at most
pub record IsNumber (text : List ℕ) (n : ℕ) : Type 0 where
  pub digits : IsNumeral 10 text
  pub value : digits_value 10 text ≡ n
  pub within : n < 2 ^ 64

-- the number of a session, from 1 to 32
pub record IsSession (text : List ℕ) (n : ℕ) : Type 0 where
  pub is_number : IsNumber text n
  pub some : 1 ≤ n
  pub few : n ≤ 32

-- each text is the number of a session
abbrev pub AreSessions : List (List ℕ) → List ℕ → Type 0
AreSessions [] [] = Unit {0}
AreSessions (text ∷ texts) (n ∷ ns) = IsSession text n × AreSessions texts ns
AreSessions texts ns = ⊥

-- texts, with a comma between each two
abbrev pub with_commas : List ℕ → List (List ℕ) → List ℕ
with_commas first [] = first
with_commas first (next ∷ rest) = first ++ codes "," ++ with_commas next rest

-- the numbers of sessions, at least one and at most 65,535, joined by commas
pub record IsSchedule (text : List ℕ) (sessions : List ℕ) : Type 0 where
  pub first : List ℕ
  pub rest : List (List ℕ)
  pub joined : text ≡ with_commas first rest
  pub each : AreSessions (first ∷ rest) sessions
  pub few : length sessions ≤ 65535

-- 1. Parts

-- a part with its value, and the words that give it
pub record GivenPart : Type 0 where
  pub part : Part
  pub value : List ℕ
  pub words : List (List ℕ)

-- `DIR`, `--name value` or `--name=value`; a value isn't empty, and a word of its own doesn't begin with `-`
pub data IsGiven (g : GivenPart) : Type 0 where
  is_folder : g.part ≡ part.Folder → is_plain g.value ≡ true → g.words ≡ g.value ∷ [] → IsGiven g
  is_apart : (name : List ℕ) → option_word g.part ≡ Some name → is_plain g.value ≡ true → g.words ≡ name ∷ g.value ∷ [] → IsGiven g
  is_joined : (name : List ℕ) → option_word g.part ≡ Some name → g.value ≢ [] → g.words ≡ (name ++ codes "=" ++ g.value) ∷ [] → IsGiven g

abbrev pub words_of : List GivenPart → List (List ℕ)
words_of [] = []
words_of (g ∷ gs) = g.words ++ words_of gs

abbrev pub is_same : Part → Part → Bool
is_same part.Folder part.Folder = true
is_same part.Table part.Table = true
is_same part.Index part.Index = true
is_same part.Kind part.Kind = true
is_same part.Number part.Number = true
is_same part.Rows part.Rows = true
is_same part.Lookback part.Lookback = true
is_same part.Schedule part.Schedule = true
is_same p q = false

-- the values that are given to a part, in order
abbrev pub values_given : Part → List GivenPart → List (List ℕ)
values_given p [] = []
values_given p (g ∷ gs) = (if is_same p g.part then g.value ∷ [] else []) ++ values_given p gs

-- 2. Commands

-- no option of `verify` is given
abbrev pub HasNoVerify : List GivenPart → Type 0
HasNoVerify gs = (values_given part.Table gs ≡ []) × (values_given part.Index gs ≡ []) × (values_given part.Kind gs ≡ [])

-- no option of `load` is
abbrev pub HasNoLoad : List GivenPart → Type 0
HasNoLoad gs = (values_given part.Number gs ≡ []) × (values_given part.Rows gs ≡ [])

-- no option of `run` is
abbrev pub HasNoRun : List GivenPart → Type 0
HasNoRun gs = (values_given part.Lookback gs ≡ []) × (values_given part.Schedule gs ≡ [])

-- how long versions are kept is given once, by a number, which is the greatest stamp at most
pub record GivesLookback (lookback : ℕ) (gs : List GivenPart) : Type 0 where
  pub text : List ℕ
  pub given : values_given part.Lookback gs ≡ text ∷ []
  pub is_number : IsNumber text lookback
  pub few : lookback ≤ 9223372036854775807

-- so, or it isn't, and versions are kept as long as usual
abbrev pub KeepsVersions : ℕ → List GivenPart → Type 0
KeepsVersions lookback gs = ((values_given part.Lookback gs ≡ []) × (lookback ≡ usual_lookback)) ⊎ GivesLookback lookback gs

-- the sessions whose steps are next are listed once
pub record GivesList (sessions : List ℕ) (gs : List GivenPart) : Type 0 where
  pub text : List ℕ
  pub given : values_given part.Schedule gs ≡ text ∷ []
  pub is_list : IsSchedule text sessions

-- so, or they aren't
abbrev pub GivesSchedule : Option (List ℕ) → List GivenPart → Type 0
GivesSchedule None gs = values_given part.Schedule gs ≡ []
GivesSchedule (Some sessions) gs = GivesList sessions gs

-- each option of `verify` is given once
abbrev pub GivesVerify : (table index : List ℕ) → VerifyKind → List GivenPart → Type 0
GivesVerify table index k gs = (values_given part.Table gs ≡ table ∷ []) × (values_given part.Index gs ≡ index ∷ []) × (values_given part.Kind gs ≡ kind_word k ∷ [])

-- each option of `load` is given once, by a number; there is at least one row, and at most 100,000
pub record GivesLoad (l : Loads) (gs : List GivenPart) : Type 0 where
  pub number : List ℕ
  pub number_given : values_given part.Number gs ≡ number ∷ []
  pub number_is : IsNumber number l.number
  pub rows : List ℕ
  pub rows_given : values_given part.Rows gs ≡ rows ∷ []
  pub rows_are : IsNumber rows l.rows
  pub some : 1 ≤ l.rows
  pub few : l.rows ≤ 100000

-- the command's own word, its folder once, and its own options
abbrev pub Asks : SeenCommand → (word : List ℕ) → List GivenPart → Type 0
Asks (Run folder lookback schedule) word gs = (word ≡ codes "run") × (values_given part.Folder gs ≡ folder ∷ []) × HasNoVerify gs × HasNoLoad gs × KeepsVersions lookback gs × GivesSchedule schedule gs
Asks (Verify folder table index k) word gs = (word ≡ codes "verify") × (values_given part.Folder gs ≡ folder ∷ []) × GivesVerify table index k gs × HasNoLoad gs × HasNoRun gs
Asks (Load folder l) word gs = (word ≡ codes "load") × (values_given part.Folder gs ≡ folder ∷ []) × HasNoVerify gs × GivesLoad l gs × HasNoRun gs

-- the words spell the command: its own word, and then its parts in any order
pub record IsSpelled (words : List (List ℕ)) (c : SeenCommand) : Type 0 where
  pub word : List ℕ
  pub parts : List GivenPart
  pub words_are : words ≡ word ∷ words_of parts
  pub each : AllByRecursion IsGiven parts
  pub asks : Asks c word parts
