-- The status of a run, by its causes.
use Rattle.std.specs.Prelude.{ℕ, zero, suc, Bool, true, false, ◌||◌, if◌then◌else◌, List, [], ◌∷◌, Option, None, Some}
use Rattle.std.specs.List.{flat_map, list_any}
use Rattle.px_reply.specs.Refusals.{cause_of, refusal_in}
use Rattle.px_reply.specs.declared.refusal.Cause.{Cause}
use Rattle.px_reply.specs.declared.refusal.Cause.TheVariants.{Statement, Device as OfDevice, Closing, Memory as NoMemory}
use Rattle.px_reply.specs.declared.refusal.Refusal.{Refusal}
use Rattle.px_reply.specs.declared.refusal.Refusal.TheVariants.{Damaged as DamagedRefusal}
use Rattle.px_reply.specs.declared.reply.Reply.{Reply}
use Rattle.px_reply.specs.declared.transcript.Item.{Item}
use Rattle.px_reply.specs.declared.transcript.Transcript.{Transcript}
use Rattle.px_program.specs.declared.causes.Causes.{Causes}
use Rattle.px_program.specs.declared.causes.Place.{Place}
use Rattle.px_program.specs.declared.status.Status.{Status}
use Rattle.px_program.specs.declared.status.Status.TheVariants.{Done, Refused, BadWords, Device, Memory, Damaged, SourceFault, SinkFault}

-- ---- what stands among replies

-- kinds of causes: want of memory; the statement itself, definitions or rows; and the disk, of which a call failed, in the statement or before, or
-- a place is damaged
abbrev pub is_memory : Cause → Bool
is_memory NoMemory = true
is_memory cause = false

abbrev pub is_statement : Cause → Bool
is_statement Statement = true
is_statement cause = false

abbrev pub is_of_disk : Cause → Bool
is_of_disk Statement = false
is_of_disk OfDevice = true
is_of_disk Closing = true
is_of_disk NoMemory = false

abbrev pub comes_from : (Cause → Bool) → Option Refusal → Bool
comes_from kind (Some refusal) = kind (cause_of refusal)
comes_from kind None = false

-- the statement was refused, with a cause of this kind
abbrev pub refused_by : (Cause → Bool) → Reply → Bool
refused_by kind reply = comes_from kind (refusal_in reply)

abbrev pub some_refused_by : (Cause → Bool) → List Item → Bool
some_refused_by kind items = list_any (λ i. refused_by kind i.reply) items

abbrev pub place_of : Refusal → Option Place
place_of (DamagedRefusal file place) = Some (record { file = file; place = place })
place_of refusal = None

abbrev pub place_in : Option Refusal → Option Place
place_in (Some refusal) = place_of refusal
place_in None = None

-- the place that the statement found damaged
abbrev pub damage_of : Reply → Option Place
damage_of reply = place_in (refusal_in reply)

abbrev pub place_or_else : Option Place → Option Place → Option Place
place_or_else None other = other
place_or_else (Some p) other = Some p

abbrev pub first_damage : List Item → Option Place
first_damage [] = None
first_damage (i ∷ items) = place_or_else (damage_of i.reply) (first_damage items)

-- the items of all transcripts, in order
abbrev pub items_of : List Transcript → List Item
items_of ts = flat_map (λ t. t.items) ts

-- the first place that was found damaged, and whether statements lacked memory, or were refused
abbrev pub causes_of : List Item → Causes
causes_of items = record { damaged = first_damage items; lacked = some_refused_by is_memory items; refused = some_refused_by is_statement items }

-- ---- the status

-- without a fault of the disk or the sink, and without a damaged place
abbrev pub quiet_status : (lacked refused : Bool) → Status
quiet_status lacked refused = if lacked then Memory else (if refused then Refused else Done)

abbrev pub whole_status : Option Place → (lacked refused : Bool) → Status
whole_status None lacked refused = quiet_status lacked refused
whole_status (Some p) lacked refused = Damaged p.file p.place

-- without a fault of the sink, where this call of the disk was the first that failed, and 0 stands for none
abbrev pub unsunk_status : (failed : ℕ) → (memory : Bool) → Causes → Status
unsunk_status zero memory c = whole_status c.damaged (memory || c.lacked) c.refused
unsunk_status (suc n) memory c = Device (suc n)

-- The status by its causes: the sink failed; a call of the disk failed, and this was the first; a place is damaged; memory was lacked; a statement
-- was refused. Of the causes that stand, the first here names it.
abbrev pub status_of : (sink_failed : Bool) → (failed : ℕ) → (memory : Bool) → Causes → Status
status_of true failed memory c = SinkFault
status_of false failed memory c = unsunk_status failed memory c

-- the exit status
abbrev pub exit_code : Status → ℕ
exit_code Done = 0
exit_code Refused = 1
exit_code BadWords = 2
exit_code (Device call) = 3
exit_code Memory = 4
exit_code (Damaged file place) = 5
exit_code SourceFault = 6
exit_code SinkFault = 7

-- the statuses that come where nothing fails outside
abbrev pub IsQuietStatus : Status → Type 0
IsQuietStatus Done = Unit {0}
IsQuietStatus Refused = Unit {0}
IsQuietStatus BadWords = ⊥
IsQuietStatus (Device call) = ⊥
IsQuietStatus Memory = Unit {0}
IsQuietStatus (Damaged file place) = ⊥
IsQuietStatus SourceFault = ⊥
IsQuietStatus SinkFault = ⊥

abbrev pub is_memory_status : Status → Bool
is_memory_status Memory = true
is_memory_status status = false
