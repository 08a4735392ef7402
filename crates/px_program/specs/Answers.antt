-- What a script is answered, and what a verification and a load are.
use Rattle.std.specs.Prelude.{ℕ, ◌≡◌, ◌≢◌, ◌<◌, ◌≤◌, ◌⊎◌, Bool, true, false, List, [], ◌∷◌, drop, length, vec_capacity}
use Rattle.px_values.specs.declared.limit.Limit.TheVariants as bound
use Rattle.px_script.specs.declared.script.ScriptFault.{ScriptFault}
use Rattle.px_script.specs.declared.script.ScriptFault.TheVariants.{TooLong, NotUtf8, Memory}
use Rattle.px_script.specs.Scripts.{IsReadableScript, StopsScript, script_of}
use Rattle.px_trail.specs.Trail.{acts_by}
use Rattle.px_calls.specs.Known.{Known}
use Rattle.px_reply.specs.Printed.{printed}
use Rattle.px_reply.specs.declared.refusal.Refusal.{Refusal}
use Rattle.px_reply.specs.declared.refusal.Refusal.TheVariants as refusal
use Rattle.px_reply.specs.declared.reply.Reply.{Reply}
use Rattle.px_reply.specs.declared.reply.Reply.TheVariants.{Refused}
use Rattle.px_reply.specs.declared.transcript.Item.{Item}
use Rattle.px_reply.specs.declared.transcript.Transcript.{Transcript}
use Rattle.px_rounds.specs.Rounds.{RanScript}
use Rattle.px_rounds.specs.Turns.{as_seat}
use Rattle.px_session.specs.Replies.{own_since}
use Rattle.px_verified.specs.declared.asked.Verification.{Verification}
use Rattle.px_verified.specs.Verified.{IsRightVerification}
use Rattle.px_load.specs.Told.{told_of_load}
use Rattle.px_loaded.specs.Loads.{RanLoad}
use Rattle.px_program.specs.declared.job.Job.{Job}
use Rattle.px_program.specs.declared.job.Job.TheVariants.{Script, Verify, Load}
use Rattle.px_program.specs.declared.replies.Room.{Room}

-- how it is told that nothing of a script is run
abbrev pub refusal_of_script : ScriptFault → Refusal
refusal_of_script TooLong = refusal.Limit bound.Script
refusal_of_script (NotUtf8 place) = refusal.Syntax place
refusal_of_script Memory = refusal.Memory

-- an item that rests on no receipt, over a whole text of so many bytes
abbrev pub item_over : (end : ℕ) → Reply → (first last : ℕ) → Item
item_over end reply first last = record { statement = record { start = 0; end = end }; reply = reply; evidence = record { receipts = []; places = []; first = first; last = last } }

-- session 1 is told this alone, in the first round
abbrev pub one_item : (end : ℕ) → Reply → (first last : ℕ) → List Transcript
one_item end reply first last = record { session = 1; round = 1; items = item_over end reply first last ∷ [] } ∷ []

-- session 1 is told why nothing of the script is run
abbrev pub stopped_by : ScriptFault → ℕ → List Transcript
stopped_by fault n = one_item n (Refused (refusal_of_script fault)) 0 0

abbrev pub HasRoomToTell : Room → Type 0
HasRoomToTell room = (room.transcripts.items ≡ []) × (0 < vec_capacity room.transcripts) × (room.items.items ≡ []) × (0 < vec_capacity room.items)

-- Nothing of the script is run, and session 1 is told why, unless no memory was found to keep that. The trail has no entry from the place `from` on
pub record IsStopped (k : Known) (from : ℕ) (script : List ℕ) (ts : List Transcript) (memory : Bool) : Type 0 where
  pub still : length k.seen ≡ from
  pub fault : ScriptFault
  pub why : StopsScript script fault
  pub told : (ts ≡ stopped_by fault (length script)) ⊎ ((ts ≡ []) × (memory ≡ true))

-- the sessions of the script are answered, round by round, by the trail from the place `from` on
pub record IsAnswered (sound : Type 0) (k : Known) (from : ℕ) (script : List ℕ) (ts : List Transcript) (sink_failed memory : Bool) : Type 0 where
  pub readable : IsReadableScript script
  pub ran : RanScript sound k from (script_of script) ts sink_failed memory

-- the answers to a script
abbrev pub AnswersScript : Type 0 → Known → ℕ → List ℕ → List Transcript → (sink_failed memory : Bool) → Type 0
AnswersScript sound k from script ts sink_failed memory = IsAnswered sound k from script ts sink_failed memory ⊎ IsStopped k from script ts memory

-- The index is verified by the seat of session 1, and nobody else acts. Its reply is the one item, right by the trail from the place `from` on
pub record IsVerified (sound : Type 0) (k : Known) (from : ℕ) (v : Verification) (ts : List Transcript) : Type 0 where
  pub reply : Reply
  pub right : IsRightVerification sound (as_seat 1 k) from (own_since 1 from k.seen) v reply
  pub others : (seat : ℕ) → seat ≢ 1 → acts_by seat (drop from k.seen) ≡ []
  pub told : ts ≡ one_item 0 reply from (length k.seen)

-- no memory was found to keep the reply, and nothing was done
pub record LacksRoom (k : Known) (from : ℕ) (ts : List Transcript) (memory : Bool) : Type 0 where
  pub still : length k.seen ≡ from
  pub none : ts ≡ []
  pub lacks : memory ≡ true

abbrev pub AnswersVerification : Type 0 → Known → ℕ → Verification → List Transcript → (memory : Bool) → Type 0
AnswersVerification sound k from v ts memory = IsVerified sound k from v ts ⊎ LacksRoom k from ts memory

-- the answers to a job
abbrev pub AnswersJob : Type 0 → Known → ℕ → Job → List Transcript → (sink_failed memory : Bool) → Type 0
AnswersJob sound k from (Script script schedule) ts sink_failed memory = AnswersScript sound k from script ts sink_failed memory
AnswersJob sound k from (Verify v) ts sink_failed memory = AnswersVerification sound k from v ts memory
AnswersJob sound k from (Load l) ts sink_failed memory = RanLoad sound k from l ts memory

-- what is printed of the answers to a job: the replies; of a load the first refusal alone, or the counts of its rows
abbrev pub printed_for : Job → List Transcript → List ℕ
printed_for (Script script schedule) ts = printed ts
printed_for (Verify v) ts = printed ts
printed_for (Load l) ts = told_of_load l ts

-- a load has at most 100,000 rows
abbrev pub IsWithin : Job → Type 0
IsWithin (Script script schedule) = Unit {0}
IsWithin (Verify v) = Unit {0}
IsWithin (Load l) = l.rows ≤ 100000
