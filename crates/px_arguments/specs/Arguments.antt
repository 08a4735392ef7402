-- The words after the program's name.
use Rattle.std.specs.Prelude.{ℕ, Bool, false, ◌==◌, ◌||◌, ◌&&◌, ◌^◌, ◌-◌, nat_le, nat_lt, not, if◌then◌else◌, List, [], ◌∷◌, ◌++◌, length, codes, Option, None, Some, option_map, option_and_then, option_copied}
use Rattle.std.specs.Borrow.{Bor}
use Rattle.std.specs.Option.{is_some, unwrap_or}
use Rattle.std.specs.List.{before_first, after_first}
use Rattle.std.specs.Str.{all_ascii_digits, bytes_eq}
use Rattle.std.specs.Str.Parse.{digits_value}
use Rattle.px_load.specs.declared.script.Load.{Load as Loads}
use Rattle.px_verifying.specs.declared.answer.VerifyKind.{VerifyKind}
use Rattle.px_verifying.specs.declared.answer.VerifyKind.TheVariants as kind
use Rattle.px_arguments.specs.declared.command.Command.{Command}
use Rattle.px_arguments.specs.declared.command.Command.TheVariants as command
use Rattle.px_arguments.specs.declared.said.Part.{Part}
use Rattle.px_arguments.specs.declared.said.Part.TheVariants as part
use Rattle.px_arguments.specs.declared.said.Said.{Said}

-- 1. Words

-- a word that may be a folder, or the value of the option before it: it isn't empty, and doesn't begin with `-`
abbrev pub is_plain : List ℕ → Bool
is_plain [] = false
is_plain (first ∷ rest) = not (first == 45)

abbrev pub is_equals : ℕ → Bool
is_equals b = b == 61

abbrev pub option_named : List ℕ → Option Part
option_named word = if bytes_eq word (codes "--table") then Some part.Table
    else (if bytes_eq word (codes "--index") then Some part.Index
    else (if bytes_eq word (codes "--kind") then Some part.Kind
    else (if bytes_eq word (codes "--number") then Some part.Number
    else (if bytes_eq word (codes "--rows") then Some part.Rows
    else (if bytes_eq word (codes "--lookback") then Some part.Lookback
    else (if bytes_eq word (codes "--schedule") then Some part.Schedule
    else None))))))

abbrev pub kind_named : List ℕ → Option VerifyKind
kind_named word = if bytes_eq word (codes "NONE") then Some kind.None
    else (if bytes_eq word (codes "ONLY") then Some kind.Only
    else (if bytes_eq word (codes "BEFORE") then Some kind.Before
    else (if bytes_eq word (codes "AFTER") then Some kind.After
    else (if bytes_eq word (codes "BOTH") then Some kind.Both
    else None))))

-- the number that decimal digits alone spell, where it has 64 bits
abbrev pub number_named : List ℕ → Option ℕ
number_named word = if all_ascii_digits word && nat_lt 0 (length word) && nat_lt (digits_value 10 word) (2 ^ 64) then Some (digits_value 10 word) else None

-- so many rows may be loaded
abbrev pub some_rows : ℕ → Option ℕ
some_rows n = if nat_le 1 n && nat_le n 100000 then Some n else None

abbrev pub rows_named : List ℕ → Option ℕ
rows_named word = option_and_then some_rows (number_named word)

-- versions may be kept so long: up to the greatest stamp
abbrev pub some_lookback : ℕ → Option ℕ
some_lookback n = if nat_le n 9223372036854775807 then Some n else None

abbrev pub lookback_named : List ℕ → Option ℕ
lookback_named word = option_and_then some_lookback (number_named word)

-- how long they are, by the option's value: where it isn't given, three days in milliseconds
abbrev pub usual_lookback : ℕ
usual_lookback = 259200000

abbrev pub lookback_in : Option (List ℕ) → Option ℕ
lookback_in None = Some usual_lookback
lookback_in (Some word) = lookback_named word

-- a session has a number from 1 to 32
abbrev pub some_session : ℕ → Option ℕ
some_session n = if nat_le 1 n && nat_le n 32 then Some n else None

abbrev pub session_named : List ℕ → Option ℕ
session_named word = option_and_then some_session (number_named word)

-- a session, where so many may still be named
abbrev pub session_among : (most : ℕ) → List ℕ → Option ℕ
session_among most word = if most == 0 then None else session_named word

-- the sessions that a list names, at most so many, where these bytes of the first name were read before
abbrev pub sessions_from : (most : ℕ) → (begun : List ℕ) → List ℕ → Option (List ℕ)
sessions_from most begun [] = option_map (λ n. n ∷ []) (session_among most begun)
sessions_from most begun (b ∷ bs) = if b == 44 then option_and_then (λ n. option_map (λ ns. n ∷ ns) (sessions_from (most - 1) [] bs)) (session_among most begun)
    else sessions_from most (begun ++ (b ∷ [])) bs

-- the sessions that a list names, joined by commas: 65,535 at most
abbrev pub sessions_named : List ℕ → Option (List ℕ)
sessions_named word = sessions_from 65535 [] word

-- so, and of any other text none
abbrev pub sessions_listed : List ℕ → List ℕ
sessions_listed word = unwrap_or (sessions_named word) []

-- the sessions whose steps are next, by the option's value, where it is given
abbrev pub schedule_in : Option (List ℕ) → Option (Option (List ℕ))
schedule_in None = Some None
schedule_in (Some word) = option_map (λ ns. Some ns) (sessions_named word)

-- 2. What words say, one after another

-- the folder, the values of the options, and the option whose value is the next word
pub record SeenSaid : Type 0 where
  pub folder : Option (List ℕ)
  pub table : Option (List ℕ)
  pub index : Option (List ℕ)
  pub kind : Option (List ℕ)
  pub number : Option (List ℕ)
  pub rows : Option (List ℕ)
  pub lookback : Option (List ℕ)
  pub schedule : Option (List ℕ)
  pub awaits : Option Part

abbrev pub seen_said : Said → SeenSaid
seen_said s = record { folder = option_copied s.folder; table = option_copied s.table; index = option_copied s.index; kind = option_copied s.kind; number = option_copied s.number; rows = option_copied s.rows; lookback = option_copied s.lookback; schedule = option_copied s.schedule; awaits = s.awaits }

abbrev pub nothing : SeenSaid
nothing = record { folder = None; table = None; index = None; kind = None; number = None; rows = None; lookback = None; schedule = None; awaits = None }

-- the value that was given to a part
abbrev pub value_in : SeenSaid → Part → Option (List ℕ)
value_in s part.Folder = s.folder
value_in s part.Table = s.table
value_in s part.Index = s.index
value_in s part.Kind = s.kind
value_in s part.Number = s.number
value_in s part.Rows = s.rows
value_in s part.Lookback = s.lookback
value_in s part.Schedule = s.schedule

abbrev pub with_value : SeenSaid → Part → List ℕ → SeenSaid
with_value s part.Folder value = record s { folder = Some value }
with_value s part.Table value = record s { table = Some value }
with_value s part.Index value = record s { index = Some value }
with_value s part.Kind value = record s { kind = Some value }
with_value s part.Number value = record s { number = Some value }
with_value s part.Rows value = record s { rows = Some value }
with_value s part.Lookback value = record s { lookback = Some value }
with_value s part.Schedule value = record s { schedule = Some value }

-- each part is given once
abbrev pub give : SeenSaid → Part → List ℕ → Option SeenSaid
give s p value = if is_some (value_in s p) then None else Some (with_value s p value)

-- an option's value stands behind its `=`, or is the next word
abbrev pub give_option : SeenSaid → Option Part → (word : List ℕ) → Option SeenSaid
give_option s None word = if is_plain word then give s part.Folder word else None
give_option s (Some p) word = if length (before_first is_equals word) == length word then Some (record s { awaits = Some p })
    else (if length (after_first is_equals word) == 0 then None else give s p (after_first is_equals word))

-- a word that isn't the value of an option before it: an option, or the folder
abbrev pub begin : SeenSaid → List ℕ → Option SeenSaid
begin s word = give_option s (option_named (before_first is_equals word)) word

abbrev pub take_awaited : SeenSaid → Option Part → List ℕ → Option SeenSaid
take_awaited s None word = begin s word
take_awaited s (Some p) word = if is_plain word then give (record s { awaits = None }) p word else None

abbrev pub take_word : SeenSaid → List ℕ → Option SeenSaid
take_word s word = take_awaited s s.awaits word

-- what all words say behind those before them, and nothing where one of them has no place
abbrev pub said_from : SeenSaid → List (List ℕ) → Option SeenSaid
said_from s [] = if is_some s.awaits then None else Some s
said_from s (word ∷ words) = option_and_then (λ more. said_from more words) (take_word s word)

-- 3. Commands

-- of a run the sessions whose steps are next, where they are listed
pub data SeenCommand : Type 0 where
  Run : (folder : List ℕ) → (lookback : ℕ) → (schedule : Option (List ℕ)) → SeenCommand
  Verify : (folder table index : List ℕ) → VerifyKind → SeenCommand
  Load : (folder : List ℕ) → Loads → SeenCommand

-- a list as it was written, as the sessions that it names
abbrev pub listed_in : Option (Bor (List ℕ)) → Option (List ℕ)
listed_in list = option_map sessions_listed (option_copied list)

abbrev pub seen_command : Command → SeenCommand
seen_command (command.Run folder lookback schedule) = Run folder.now lookback (listed_in schedule)
seen_command (command.Verify folder table index kind) = Verify folder.now table.now index.now kind
seen_command (command.Load folder load) = Load folder.now load

abbrev pub command_folder : SeenCommand → List ℕ
command_folder (Run folder lookback schedule) = folder
command_folder (Verify folder table index kind) = folder
command_folder (Load folder load) = folder

-- an option of `verify` was given
abbrev pub has_verified : SeenSaid → Bool
has_verified s = is_some s.table || is_some s.index || is_some s.kind

-- an option of `load` was
abbrev pub has_loaded : SeenSaid → Bool
has_loaded s = is_some s.number || is_some s.rows

-- an option of `run` was
abbrev pub has_run : SeenSaid → Bool
has_run s = is_some s.lookback || is_some s.schedule

-- `run DIR`, with `--lookback N` or without, and with `--schedule LIST` or without
abbrev pub run_of : SeenSaid → Option SeenCommand
run_of s = if has_verified s || has_loaded s then None
    else option_and_then (λ folder. option_and_then (λ lookback. option_map (λ schedule. Run folder lookback schedule) (schedule_in s.schedule)) (lookback_in s.lookback)) s.folder

-- `verify DIR --table NAME --index NAME --kind KIND`
abbrev pub verify_of : SeenSaid → Option SeenCommand
verify_of s = if has_loaded s || has_run s then None
    else option_and_then (λ folder. option_and_then (λ table. option_and_then (λ index. option_map (λ k. Verify folder table index k) (option_and_then kind_named s.kind)) s.index) s.table) s.folder

abbrev pub load : (folder : List ℕ) → (number rows : ℕ) → SeenCommand
load folder number rows = Load folder (record { number = number; rows = rows })

-- `load DIR --number S --rows N`
abbrev pub load_of : SeenSaid → Option SeenCommand
load_of s = if has_verified s || has_run s then None
    else option_and_then (λ folder. option_and_then (λ number. option_map (λ rows. load folder number rows) (option_and_then rows_named s.rows)) (option_and_then number_named s.number)) s.folder

abbrev pub command_of : (word : List ℕ) → SeenSaid → Option SeenCommand
command_of word s = if bytes_eq word (codes "run") then run_of s
    else (if bytes_eq word (codes "verify") then verify_of s
    else (if bytes_eq word (codes "load") then load_of s
    else None))

-- the command that the words are
abbrev pub command_in : List (List ℕ) → Option SeenCommand
command_in [] = None
command_in (word ∷ words) = option_and_then (command_of word) (said_from nothing words)
