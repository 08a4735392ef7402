-- What a run that has one session alone tells: a fold over the statements of that session.
use Rattle.std.specs.Prelude.{ℕ, ◌≡◌, ◌<◌, ◌⊎◌, ◌++◌, true, List, [], ◌∷◌, map}
use Rattle.std.specs.List.{All, flat_map}
use Rattle.px_lex.specs.Script.{IsScript, Section, SeenPiece, pieces_from}
use Rattle.px_script.specs.Scripts.{IsReadableScript, script_of}
use Rattle.px_script.specs.declared.script.SessionText.{SessionText}
use Rattle.px_trail.specs.Trail.{Base}
use Rattle.px_trail.specs.declared.entry.Entry.{Entry}
use Rattle.px_reply.specs.Printed.{head, printed, printed_reply}
use Rattle.px_reply.specs.declared.reply.Reply.{Reply}
use Rattle.px_reply.specs.declared.transcript.Transcript.{Transcript}
use Rattle.px_item.specs.declared.answered.Settings.{Settings}
use Rattle.px_alone.specs.Alone.{AloneEvent, AloneThrough, replies_of, rises, stamps_drawn, tables_at, trail_rises, trail_stamps}
use Rattle.px_alone.specs.Tables.{tables_first}
use Rattle.px_rounds.specs.Rounds.{all_transcripts, first_state, text_in}
use Rattle.px_load.specs.Script.{load_text}
use Rattle.px_program.specs.Status.{items_of}
use Rattle.px_program.specs.declared.job.Job.{Job}
use Rattle.px_program.specs.declared.job.Job.TheVariants.{Script, Verify, Load}
use Rattle.px_program.specs.declared.status.Status.{Status}
use Rattle.px_program.specs.declared.status.Status.TheVariants.{Done, Refused}

-- the rounds name this session, and no other
abbrev pub NamesOnly : ℕ → List (List SessionText) → Type 0
NamesOnly n rounds = (0 < n) × All (λ round. All (λ x. x.session ≡ n) round) rounds

-- the statements and commands of this session, round by round
abbrev pub ArePiecesOf : ℕ → List (List SessionText) → List (List SeenPiece) → Type 0
ArePiecesOf n [] [] = Unit {0}
ArePiecesOf n (round ∷ rounds) (pieces ∷ more) = ((sections : List Section) × IsScript (text_in round n) sections × (pieces ≡ pieces_from 0 sections)) × ArePiecesOf n rounds more
ArePiecesOf n rounds pieces = ⊥

-- what is printed of the replies to this session in a round
abbrev pub printed_to : ℕ → List Reply → List ℕ
printed_to n [] = []
printed_to n (reply ∷ replies) = head n true ++ flat_map printed_reply (reply ∷ replies)

-- in each round what is told are the replies of what then happens, and what is printed is printed of these
abbrev pub AreToldTo : ℕ → List (List Transcript) → List (List AloneEvent) → Type 0
AreToldTo n [] [] = Unit {0}
AreToldTo n (ts ∷ rounds) (events ∷ more) = (map (λ i. i.reply) (items_of ts) ≡ replies_of events) × (printed ts ≡ printed_to n (replies_of events)) × AreToldTo n rounds more
AreToldTo n rounds events = ⊥

-- What this session is told, round by round, is the fold over its statements to their end: from what stood before the trail to what stands by it, by the
-- stamps that were drawn and the horizons that rose
pub record IsFoldOf (b : Base) (es : List Entry) (n : ℕ) (script : List (List SessionText)) (ts : List Transcript) : Type 0 where
  pub pieces : List (List SeenPiece)
  pub cut : ArePiecesOf n script pieces
  pub events : List (List AloneEvent)
  pub settings : Settings
  pub through : AloneThrough (tables_first b) first_state.settings pieces events (tables_at b es) settings
  pub rounds : List (List Transcript)
  pub flat : ts ≡ all_transcripts rounds
  pub told : AreToldTo n rounds events
  pub drawn : stamps_drawn (flat_map (λ e. e) events) ≡ trail_stamps es
  pub rose : rises (flat_map (λ e. e) events) ≡ trail_rises es

-- So it is where a job's script, that of a load too, can be read, and names one session. A verification has none
abbrev pub FoldsJob : Base → List Entry → Job → List Transcript → Type 0
FoldsJob b es (Script script schedule) ts = IsReadableScript script → (n : ℕ) → NamesOnly n (script_of script) → IsFoldOf b es n (script_of script) ts
FoldsJob b es (Verify v) ts = Unit {0}
FoldsJob b es (Load l) ts = NamesOnly 1 (script_of (load_text l)) → IsFoldOf b es 1 (script_of (load_text l)) ts

-- all was run: what was refused, if anything was, was so for its own sake
abbrev pub HasRunAll : Status → Type 0
HasRunAll status = (status ≡ Done) ⊎ (status ≡ Refused)
