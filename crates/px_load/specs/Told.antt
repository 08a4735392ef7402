-- What is told of a load.
use Rattle.std.specs.Prelude.{ℕ, ◌≡◌, Bool, true, false, min, nat_lt, if◌then◌else◌, List, [], ◌∷◌, ◌++◌, length, Option, Some, None, ℤ, pos, negsuc, codes}
use Rattle.std.specs.List.{flat_map, sum_by}
use Rattle.px_values.specs.declared.row.Value.{Value}
use Rattle.px_values.specs.declared.row.Value.TheVariants.{Number}
use Rattle.px_reply.specs.declared.refusal.Refusal.{Refusal}
use Rattle.px_reply.specs.declared.reply.Reply.{Reply}
use Rattle.px_reply.specs.declared.reply.Reply.TheVariants.{Rows, Refused}
use Rattle.px_reply.specs.declared.transcript.Item.{Item}
use Rattle.px_reply.specs.declared.transcript.Transcript.{Transcript}
use Rattle.px_reply.specs.Printed.{numbered, refusal_line, with_number}
use Rattle.px_load.specs.declared.script.Load.{Load}
use Rattle.px_load.specs.declared.told.Came.{Came}
use Rattle.px_load.specs.declared.told.Came.TheVariants.{Nothing, ByTable, ByBoth}

-- the items of the only session
abbrev pub items_of : List Transcript → List Item
items_of [] = []
items_of (only ∷ others) = only.items

-- ---- refusals

abbrev pub refused_or : Reply → Option Refusal → Option Refusal
refused_or (Refused refusal) others = Some refusal
refused_or reply others = others

-- the first refusal among some items
abbrev pub first_refusal : List Item → Option Refusal
first_refusal [] = None
first_refusal (item ∷ items) = refused_or item.reply (first_refusal items)

-- the line of the first refusal was added, where there is one
abbrev pub HasTold : Option Refusal → (found : Bool) → (old new : List ℕ) → Type 0
HasTold None found old new = (found ≡ false) × (new ≡ old)
HasTold (Some refusal) found old new = (found ≡ true) × (new ≡ old ++ refusal_line refusal)

-- ---- what the two queries gave

abbrev pub Answer : Type 0
Answer = List (List Value)

abbrev pub rows_in : Reply → List Answer
rows_in (Rows rows) = rows ∷ []
rows_in reply = []

-- the answers that have rows
abbrev pub answers_in : List Item → List Answer
answers_in items = flat_map (λ item. rows_in item.reply) items

-- amounts are below 1000
abbrev pub small : ℤ → ℕ
small (pos n) = if nat_lt n 1000 then n else 0
small (negsuc n) = 0

abbrev pub number_in : Value → ℕ
number_in (Number n) = small n
number_in value = 0

-- the amount of a row of three values: the last one
abbrev pub amount_in : List Value → ℕ
amount_in (id ∷ group ∷ amount ∷ []) = number_in amount
amount_in row = 0

-- the sum of the amounts; it stands still at its last value
abbrev pub amount_of : Answer → ℕ
amount_of rows = min (sum_by amount_in rows) 18446744073709551615

-- the first answer is that by the table, and the second that by the index
abbrev pub came_of : List Answer → Came
came_of [] = Nothing
came_of (first ∷ []) = ByTable (length first)
came_of (first ∷ second ∷ others) = ByBoth (length first) (length second) (amount_of second)

-- one answer more
abbrev pub more : Came → Answer → Came
more Nothing answer = ByTable (length answer)
more (ByTable rows) answer = ByBoth rows (length answer) (amount_of answer)
more (ByBoth rows indexed amount) answer = ByBoth rows indexed amount

-- ---- the lines

-- `load 0 rows 1`, `table rows 1`, `index rows 1`, `amount 937`; nothing where not both queries were answered
abbrev pub lines : Load → Came → List ℕ
lines load (ByBoth rows indexed amount) = with_number (codes "load ") load.number ++ numbered (codes " rows ") load.rows ++ numbered (codes "table rows ") rows ++ numbered (codes "index rows ") indexed ++ numbered (codes "amount ") amount
lines load came = []

abbrev pub told_of : Load → Option Refusal → Came → List ℕ
told_of load (Some refusal) came = refusal_line refusal
told_of load None came = lines load came

-- what is told of a load: the first refusal alone, or the counts
unfoldable pub told_of_load : Load → List Transcript → List ℕ
told_of_load load transcripts = told_of load (first_refusal (items_of transcripts)) (came_of (answers_in (items_of transcripts)))
