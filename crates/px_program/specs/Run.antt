-- What a run of the program leaves.
use Rattle.std.specs.Prelude.{◌≡◌, ◌≢◌, ◌<◌, ◌≤◌, ◌+◌, ◌⊎◌, ℕ, Bool, true, false, List, [], take, drop, IsTrue, sum_by, Option, None, Some}
use Rattle.px_outside.specs.Disk.{Image}
use Rattle.px_outside.specs.Faults.{FaultsRose}
use Rattle.px_outside.specs.OnDisk.{IsLeft, Only, TouchesOnly, Rose}
use Rattle.px_outside.specs.declared.clock.Clock.{Ghosts as ClockGhosts}
use Rattle.px_outside.specs.declared.disk.Disk.{Ghosts as DiskGhosts}
use Rattle.px_outside.specs.declared.sink.Sink.{Ghosts as SinkGhosts}
use Rattle.px_outside.specs.declared.source.Source.{Ghosts as SourceGhosts}
use Rattle.px_trail.specs.declared.entry.Entry.{Entry}
use Rattle.px_trail.specs.Legal.{IsLegal}
use Rattle.px_trail.specs.Trail.{Base, closing_call}
use Rattle.px_calls.specs.Known.{Known}
use Rattle.px_alone.specs.Alone.{AreQuiet}
use Rattle.px_reply.specs.declared.transcript.Transcript.{Transcript}
use Rattle.px_catalog.specs.Catalogue.{catalogue_files}
use Rattle.px_recovery.specs.Base.{IsSound, IsSoundFolder, base_of}
use Rattle.px_recovery.specs.Folder.{FolderData, StandsFor, from, region_numbers}
use Rattle.px_recovery.specs.Kept.{IsLate}
use Rattle.px_recovery.specs.Stands.{Recovers}
use Rattle.px_folder.specs.Calls.{AreOpenedBy}
use Rattle.px_folder.specs.Damage.{IsFirstDamaged}
use Rattle.px_folder.specs.Read.{PartsStandFor}
use Rattle.px_rounds.specs.Written.{IsTextWritten}
use Rattle.px_server.specs.Kept.{HasFailed, has_told}
use Rattle.px_server.specs.Others.{part_files}
use Rattle.px_server.specs.Started.{StartsSound, StandsBy}
use Rattle.px_session.specs.Replies.{has_fatal}
use Rattle.px_server.specs.Stamps.{AreBack, AreStamped}
use Rattle.px_arguments.specs.Arguments.{SeenCommand, Run, Verify, Load, command_in, usual_lookback}
use Rattle.px_load.specs.declared.script.Load.{Load as Loads}
use Rattle.px_verified.specs.declared.asked.Verification.{Verification}
use Rattle.px_program.specs.Answers.{AnswersJob, printed_for}
use Rattle.px_program.specs.Complete.{IsComplete}
use Rattle.px_program.specs.Ended.{AllEnded}
use Rattle.px_program.specs.OneSession.{FoldsJob, HasRunAll}
use Rattle.px_program.specs.Status.{causes_of, is_memory_status, items_of, status_of}
use Rattle.px_program.specs.declared.job.Job.{Job}
use Rattle.px_program.specs.declared.job.Job.TheVariants as jobs
use Rattle.px_program.specs.declared.outcome.Outcome.{Outcome}
use Rattle.px_program.specs.declared.status.Status.{Status}
use Rattle.px_program.specs.declared.status.Status.TheVariants.{Done, Refused, BadWords, Device, Memory, Damaged, SourceFault, SinkFault}

-- ---- what a run is given and leaves

pub record RunGiven (D C I O : Type 0) : Type 0 where
  pub disk : D
  pub clock : C
  pub input : I
  pub out : O
  pub words : List (List ℕ)

pub record RunLeft (D I O : Type 0) : Type 0 where
  pub outcome : Outcome D
  pub input : I
  pub out : O

abbrev pub run_given : {D C I O : Type 0} → D → C → I → O → List (List ℕ) → RunGiven D C I O
run_given disk clock input out words = record { disk = disk; clock = clock; input = input; out = out; words = words }

abbrev pub run_left : {D I O : Type 0} → Outcome D → I → O → RunLeft D I O
run_left outcome input out = record { outcome = outcome; input = input; out = out }

-- ---- the input

-- the greatest length of a script that is read, and one byte more
abbrev pub most_read : ℕ
most_read = 67108865

-- the input was read to its end, or to one byte more than the greatest script
abbrev pub ReadsAll : {I : Type 0} → SourceGhosts I → I → I → Type 0
ReadsAll s input input' = IsTrue s.tells → s.remaining input' ≡ drop most_read (s.remaining input)

-- some bytes at its front were taken, and no more than that
abbrev pub ReadsSome : {I : Type 0} → SourceGhosts I → I → I → Type 0
ReadsSome s input input' = IsTrue s.tells → (n : ℕ) × (n ≤ most_read) × (s.remaining input' ≡ drop n (s.remaining input))

-- a command's input was read: of a script all of it; for a verification and a load none
abbrev pub HasRead : {I : Type 0} → SourceGhosts I → SeenCommand → I → I → Type 0
HasRead s (Run folder lookback schedule) input input' = ReadsAll s input input'
HasRead s (Verify folder table index kind) input input' = input' ≡ input
HasRead s (Load folder load) input input' = input' ≡ input

-- or some of it was, until the run was stopped
abbrev pub HasReadSome : {I : Type 0} → SourceGhosts I → SeenCommand → I → I → Type 0
HasReadSome s (Run folder lookback schedule) input input' = ReadsSome s input input'
HasReadSome s (Verify folder table index kind) input input' = input' ≡ input
HasReadSome s (Load folder load) input input' = input' ≡ input

-- ---- the command

-- the words are `run DIR`, with a lookback or none, and with this schedule or none, and the script is the input to its end, or to one byte past the
-- greatest script
pub record RunsScript {I : Type 0} (s : SourceGhosts I) (words : List (List ℕ)) (input input' : I) (script : List ℕ) (schedule : Option (List ℕ)) : Type 0 where
  pub folder : List ℕ
  pub lookback : ℕ
  pub words_are_run : command_in words ≡ Some (Run folder lookback schedule)
  pub script_is_the_input : IsTrue s.tells → script ≡ take most_read (s.remaining input)
  pub input_is_read : ReadsAll s input input'

-- the words are `verify DIR` with the names and the kind, and no input is read
pub record RunsVerification {I : Type 0} (words : List (List ℕ)) (input input' : I) (v : Verification) : Type 0 where
  pub folder : List ℕ
  pub words_are_verify : command_in words ≡ Some (Verify folder v.table v.index v.kind)
  pub input_is_left : input' ≡ input

-- the words are `load DIR` with the number and the count of rows, and no input is read
pub record RunsLoad {I : Type 0} (words : List (List ℕ)) (input input' : I) (l : Loads) : Type 0 where
  pub folder : List ℕ
  pub words_are_load : command_in words ≡ Some (Load folder l)
  pub input_is_left : input' ≡ input

-- how long the words have versions kept
abbrev pub lookback_of : SeenCommand → ℕ
lookback_of (Run folder lookback schedule) = lookback
lookback_of (Verify folder table index kind) = usual_lookback
lookback_of (Load folder load) = usual_lookback

-- the job is what the words ask for
abbrev pub AsksFor : {I : Type 0} → SourceGhosts I → (words : List (List ℕ)) → I → I → Job → Type 0
AsksFor s words input input' (jobs.Script script schedule) = RunsScript s words input input' script schedule
AsksFor s words input input' (jobs.Verify v) = RunsVerification words input input' v
AsksFor s words input input' (jobs.Load l) = RunsLoad words input input' l

-- ---- the trail

-- The folder that was there, as it was read, and what the trail's first entry is told over: the catalogue and each region that it names stood for it in
-- the files, sound or not. So no folder is run of which the catalogue or such a region has a damaged place.
pub record IsOrigin {D : Type 0} (d : DiskGhosts D) (disk : D) (folder : FolderData) : Type 0 where
  pub stands : IsTrue d.tells → PartsStandFor (d.seen disk) folder
  pub sound : IsTrue d.tells → IsSound (d.seen disk) → StandsFor (d.seen disk) folder × IsSoundFolder folder

-- The folder that reads give is sound, and no file of a region that is still to be drawn has a byte, whatever a stop leaves. All else that reads
-- give may still be lost by a stop, as after a process was killed.
pub record ReadsSound {D : Type 0} (d : DiskGhosts D) (disk : D) : Type 0 where
  pub sound : IsSound (d.seen disk)
  pub fresh : (file : ℕ) → from sound.folder.standing.next file → Only d disk file

-- no place of a file that is read behind the opening is damaged: none is read
abbrev pub undamaged : ℕ → ℕ → Bool
undamaged file place = false

-- what is known at the end, whichever seat acts
abbrev pub known_over : Base → ℕ → List Entry → Known
known_over base seat es = record { seat = seat; base = base; damaged = undamaged; alone = true; seen = es }

-- ---- a run that opened no folder

-- why no folder was opened, on a disk from before to after
abbrev pub StopsDisk : {D : Type 0} → DiskGhosts D → D → D → Status → Type 0
StopsDisk d disk disk' (Device call) = Rose d disk disk' × (call ≡ d.first_fault disk')
StopsDisk d disk disk' Memory = Unit {0}
StopsDisk d disk disk' (Damaged file place) = IsTrue d.tells → IsFirstDamaged (d.seen disk) file place ⊎ (place ≡ 0)
StopsDisk d disk disk' status = ⊥

-- why nothing was run, and what became of disk and input
abbrev pub Stops : {D I : Type 0} → DiskGhosts D → SourceGhosts I → D → D → I → I → (words : List (List ℕ)) → Status → Type 0
Stops d s disk disk' input input' words BadWords = (command_in words ≡ None) × (disk' ≡ disk) × (input' ≡ input)
Stops d s disk disk' input input' words SourceFault = ((folder : List ℕ) × (lookback : ℕ) × (schedule : Option (List ℕ)) × (command_in words ≡ Some (Run folder lookback schedule))) × (disk' ≡ disk) × FaultsRose (s.faults input) (s.faults input') × ReadsSome s input input'
Stops d s disk disk' input input' words Memory = (c : SeenCommand) × (command_in words ≡ Some c) × StopsDisk d disk disk' Memory × HasReadSome s c input input'
Stops d s disk disk' input input' words status = (c : SeenCommand) × (command_in words ≡ Some c) × StopsDisk d disk disk' status × HasRead s c input input'

-- Nothing was run: nothing is told but the status, no byte is written, all files but the catalogue's stay as they were, and each image that a stop may
-- leave recovers
pub record IsUnrun {D C I O : Type 0} (d : DiskGhosts D) (s : SourceGhosts I) (given : RunGiven D C I O) (left : RunLeft D I O) : Type 0 where
  pub cause : Stops d s given.disk left.outcome.disk given.input left.input given.words left.outcome.status
  pub no_entries : left.outcome.trail.entries ≡ []
  pub no_late : left.outcome.late ≡ None
  pub no_replies : left.outcome.transcripts ≡ []
  pub no_bytes : left.out ≡ given.out
  pub memory_is : left.outcome.memory ≡ is_memory_status left.outcome.status
  pub others_stay : IsTrue d.tells → TouchesOnly d given.disk left.outcome.disk catalogue_files
  pub stops_recover : (starts : StartsSound d given.disk) → (moment : ℕ) (image : Image) → IsLeft d left.outcome.disk moment image → Recovers (base_of starts.sound.folder) [] None moment image

-- ---- a run

-- What the words ask for was done on what the folder stood for: the script of the input was run, an index was verified, or rows were loaded
pub record IsRun {D C I O : Type 0} (d : DiskGhosts D) (c : ClockGhosts C) (s : SourceGhosts I) (k : SinkGhosts O) (given : RunGiven D C I O) (left : RunLeft D I O) : Type 0 where
  pub job : Job
  pub job_is_asked_for : AsksFor s given.words given.input left.input job
  -- what was there, and the trail of what was done to it
  pub folder : FolderData
  pub origin_is_the_folder : IsOrigin d given.disk folder
  pub trail_is_legal : IsLegal (base_of folder) left.outcome.trail.entries
  -- each stamp that was drawn is the one behind its table's last by a number that the clock told, each by a later one
  pub stamps_are_by_the_clock : IsTrue c.tells → (n : ℕ) × AreStamped (c.times given.clock) (base_of folder) [] 0 n left.outcome.trail.entries
  -- each horizon that rises is at most its table's last stamp less the lookback of the words
  pub horizons_are_by_the_lookback : (command : SeenCommand) × (command_in given.words ≡ Some command) × AreBack (lookback_of command) (base_of folder) [] left.outcome.trail.entries
  -- the sessions are answered, round by round, those of a load's script too, or the verification is; what is told of rows is told where the folder was sound
  pub seat : ℕ
  pub sink_failed : Bool
  pub items_are_replied : AnswersJob (IsSoundFolder folder) (known_over (base_of folder) seat left.outcome.trail.entries) 0 job left.outcome.transcripts sink_failed left.outcome.memory
  -- where the script names one session, they are the fold over its statements, on what the folder stood for
  pub one_session_folds : IsSoundFolder folder → HasRunAll left.outcome.status → AreQuiet (items_of left.outcome.transcripts) → FoldsJob (base_of folder) left.outcome.trail.entries job left.outcome.transcripts
  pub bytes_are_printed : IsTextWritten k given.out left.out (printed_for job left.outcome.transcripts) sink_failed left.outcome.memory
  -- each image that a stop may leave at a moment of the run stands for what was there then, or for this and the one entry under way
  pub stops_recover : StartsSound d given.disk → (moment : ℕ) (image : Image) → IsLeft d left.outcome.disk moment image → Recovers (base_of folder) left.outcome.trail.entries left.outcome.late moment image
  -- and so does each at a moment from the opening's end on, where a stop may lose what reads gave at first; before it a stop leaves the files as at first, but for the catalogue's
  pub opened : ℕ
  pub opened_soon : IsTrue d.tells → (calls : ℕ → ℕ) → AreOpenedBy (d.seen given.disk) (region_numbers folder.standing) calls → opened ≤ d.calls given.disk + (17 + sum_by calls (region_numbers folder.standing))
  pub opened_within : opened ≤ d.calls left.outcome.disk
  pub before_it : (moment file : ℕ) (bytes : List ℕ) → d.calls given.disk ≤ moment → moment < opened → ¬ catalogue_files file → d.left left.outcome.disk moment file bytes → d.left given.disk (d.calls given.disk) file bytes
  pub stops_recover_later : ReadsSound d given.disk → (moment : ℕ) (image : Image) → opened ≤ moment → IsLeft d left.outcome.disk moment image → Recovers (base_of folder) left.outcome.trail.entries left.outcome.late moment image
  -- the catalogue's files and those of the regions that tables and indexes had since the beginning are touched, and no others
  pub other_files_stay : ReadsSound d given.disk → IsTrue d.tells → TouchesOnly d given.disk left.outcome.disk (part_files (base_of folder) left.outcome.trail.entries)
  -- unless a failed write closed the server, no entry is late, and the folder stands for what base and trail give; the late one may come where it was closed
  pub folder_stands : closing_call left.outcome.trail.entries ≡ None → ReadsSound d given.disk → IsTrue d.tells → StandsBy d (base_of folder) left.outcome.disk left.outcome.trail.entries
  pub late_is_of_a_failed_write : closing_call left.outcome.trail.entries ≡ None → left.outcome.late ≡ None
  pub late_is_where_it_closed : (u : Entry) → left.outcome.late ≡ Some u → ReadsSound d given.disk → IsTrue d.tells → IsLate (base_of folder) left.outcome.trail.entries u
  -- and the device call that closed it, which replies name, is the last one of the run
  pub closed_by_its_last_call : (call : ℕ) → closing_call left.outcome.trail.entries ≡ Some call → call ≡ d.calls left.outcome.disk
  pub status_is_caused : left.outcome.status ≡ status_of sink_failed (d.first_fault left.outcome.disk) left.outcome.memory (causes_of (items_of left.outcome.transcripts))
  pub faults_are_theirs : has_told left.outcome.trail.entries ≡ true → HasFailed d left.outcome.disk
  -- where no session is stopped, each batch has ended, and each point is closed
  pub all_is_ended : has_fatal (items_of left.outcome.transcripts) ≡ false → AllEnded left.outcome.trail.entries
  pub run_is_complete : IsComplete d k left.outcome.disk given.out left.out job left.outcome.transcripts left.outcome.memory left.outcome.status

-- where a call of the disk failed, the status tells the first that did, or that the sink failed too
abbrev pub FaultsAreTold : {D : Type 0} → DiskGhosts D → D → D → Status → Type 0
FaultsAreTold d disk disk' status = d.faults disk < d.faults disk' → (status ≡ Device (d.first_fault disk')) ⊎ (status ≡ SinkFault)
