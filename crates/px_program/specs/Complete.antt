-- What a run comes to where nothing fails outside.
use Rattle.std.specs.Prelude.{ℕ, ◌≡◌, ◌<◌, ◌⊎◌, ◌+◌, Bool, true, false, Some, List, [], ◌∷◌, length, map, slice_get}
use Rattle.px_values.specs.declared.print.CountWord.TheVariants.{Affected}
use Rattle.px_outside.specs.Disk.{last_count}
use Rattle.px_outside.specs.Faults.{FaultsRose}
use Rattle.px_outside.specs.declared.disk.Disk.{Ghosts as DiskGhosts}
use Rattle.px_outside.specs.declared.sink.Sink.{Ghosts as SinkGhosts}
use Rattle.px_lex.specs.Script.{IsScript, Section, pieces_from}
use Rattle.px_script.specs.Pieces.{span_of}
use Rattle.px_script.specs.declared.piece.Span.{Span}
use Rattle.px_script.specs.Scripts.{StopsScript, script_of}
use Rattle.px_script.specs.declared.script.ScriptFault.{ScriptFault}
use Rattle.px_script.specs.declared.script.SessionText.{SessionText}
use Rattle.px_reply.specs.declared.refusal.Cause.{Cause}
use Rattle.px_reply.specs.declared.reply.Reply.{Reply}
use Rattle.px_reply.specs.declared.reply.Reply.TheVariants.{Count}
use Rattle.px_reply.specs.declared.transcript.Item.{Item}
use Rattle.px_reply.specs.declared.transcript.Transcript.{Transcript}
use Rattle.px_rounds.specs.Rounds.{AreWithin, all_transcripts, text_in}
use Rattle.px_server.specs.Kept.{HasFailed}
use Rattle.px_session.specs.Replies.{has_fatal}
use Rattle.px_load.specs.Script.{load_text}
use Rattle.px_program.specs.Answers.{one_item, stopped_by}
use Rattle.px_program.specs.Status.{IsQuietStatus, is_of_disk, items_of, some_refused_by}
use Rattle.px_program.specs.declared.job.Job.{Job}
use Rattle.px_program.specs.declared.job.Job.TheVariants.{Script, Verify, Load}
use Rattle.px_program.specs.declared.status.Status.{Status}
use Rattle.px_program.specs.declared.status.Status.TheVariants.{Done}

-- a cause of whatever kind
abbrev pub is_any : Cause → Bool
is_any cause = true

-- ---- sessions that came to their end

-- the item is a commit of so many rows, which was made
abbrev pub IsCommit : Item → Type 0
IsCommit i = (n : ℕ) × (i.reply ≡ Count n Affected)

-- each piece has its item, in order; in front of one stands the commit that was made before it, where one was; and there are no others
abbrev pub AreItemsOf : List Span → List Item → Type 0
AreItemsOf [] items = items ≡ []
AreItemsOf (p ∷ ps) [] = ⊥
AreItemsOf (p ∷ ps) (i ∷ items) = (i.statement ≡ p) × (AreItemsOf ps items ⊎ ((j : Item) × (rest : List Item) × IsCommit i × (items ≡ j ∷ rest) × (j.statement ≡ p) × AreItemsOf ps rest))

-- a session in a round: each piece of its text has its item
pub record IsWhole (text : List ℕ) (t : Transcript) : Type 0 where
  pub sections : List Section
  pub cut : IsScript text sections
  pub each : AreItemsOf (map span_of (pieces_from 0 sections)) t.items

-- all sessions of a round, from 1 on
pub record IsWholeRound (sessions : ℕ) (round : List SessionText) (ts : List Transcript) : Type 0 where
  pub count : length ts ≡ sessions
  pub each : (i : ℕ) (t : Transcript) → slice_get ts i ≡ Some t → IsWhole (text_in round (i + 1)) t

abbrev pub AreWholeRounds : ℕ → List (List SessionText) → List (List Transcript) → Type 0
AreWholeRounds sessions [] [] = Unit {0}
AreWholeRounds sessions (round ∷ rounds) (ts ∷ tss) = IsWholeRound sessions round ts × AreWholeRounds sessions rounds tss
AreWholeRounds sessions rounds tss = ⊥

-- each statement of each session of the script has its reply
pub record IsWholeScript (script : List ℕ) (ts : List Transcript) : Type 0 where
  pub sessions : ℕ
  pub within : AreWithin sessions (script_of script)
  pub rounds : List (List Transcript)
  pub flat : ts ≡ all_transcripts rounds
  pub whole : AreWholeRounds sessions (script_of script) rounds

-- nothing of the script is run, and session 1 is told why
abbrev pub IsToldWhy : List ℕ → List Transcript → Type 0
IsToldWhy script ts = (fault : ScriptFault) × StopsScript script fault × (ts ≡ stopped_by fault (length script))

-- session 1 is told one thing, in the first round
abbrev pub IsOneReply : List Transcript → Type 0
IsOneReply ts = (reply : Reply) × (first : ℕ) × (last : ℕ) × (ts ≡ one_item 0 reply first last)

-- ---- jobs

-- all that a job asks for has its reply
abbrev pub IsWholeJob : Job → List Transcript → Type 0
IsWholeJob (Script script schedule) ts = IsWholeScript script ts
IsWholeJob (Verify v) ts = IsOneReply ts
IsWholeJob (Load l) ts = IsWholeScript (load_text l) ts

-- so, or nothing of the script is run; that of a load always is
abbrev pub HasEnded : Job → List Transcript → Type 0
HasEnded (Script script schedule) ts = IsWholeScript script ts ⊎ IsToldWhy script ts
HasEnded (Verify v) ts = IsOneReply ts
HasEnded (Load l) ts = IsWholeScript (load_text l) ts

-- ---- runs

-- each statement of each session was answered, those of a load's too, or the verification was, and none refused; no memory was lacked, and the sink took all
pub record IsAnsweredWhole {O : Type 0} (k : SinkGhosts O) (out out' : O) (job : Job) (ts : List Transcript) (memory : Bool) : Type 0 where
  pub whole : IsWholeJob job ts
  pub none_refused : some_refused_by is_any (items_of ts) ≡ false
  pub enough : memory ≡ false
  pub sent : k.faults out' ≡ k.faults out

-- Where no call of the disk failed, no statement is refused for the disk's sake, and so none stops its session. Where the sink didn't fail either, the
-- status is Done, Refused or Memory; and each session comes to its end, unless memory was lacked outside a statement, or nothing of the script is run.
-- Done comes only where each statement of each session was answered, and none refused, unless the count of calls stands at its last value.
pub record IsComplete {D O : Type 0} (d : DiskGhosts D) (k : SinkGhosts O) (disk : D) (out out' : O) (job : Job) (ts : List Transcript) (memory : Bool) (status : Status) : Type 0 where
  pub answered : (HasFailed d disk → ⊥) → some_refused_by is_of_disk (items_of ts) ≡ false
  pub goes_on : (HasFailed d disk → ⊥) → has_fatal (items_of ts) ≡ false
  pub quiet : (HasFailed d disk → ⊥) → (FaultsRose (k.faults out) (k.faults out') → ⊥) → IsQuietStatus status
  pub ended : (HasFailed d disk → ⊥) → (FaultsRose (k.faults out) (k.faults out') → ⊥) → memory ≡ false → HasEnded job ts
  pub done : status ≡ Done → d.calls disk < last_count → IsAnsweredWhole k out out' job ts memory
