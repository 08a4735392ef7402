-- What a run over a folder leaves.
use Rattle.std.specs.Prelude.{◌≡◌, ◌≤◌, ◌<◌, ◌+◌, ◌⊎◌, ℕ, zero, suc, Bool, true, List, [], None, Some, IsTrue, sum_by}
use Rattle.std.specs.List.{All}
use Rattle.px_outside.specs.Disk.{Image}
use Rattle.px_outside.specs.OnDisk.{IsLeft, Rose, TouchesOnly}
use Rattle.px_outside.specs.declared.clock.Clock.{Ghosts as ClockGhosts}
use Rattle.px_outside.specs.declared.disk.Disk.{Ghosts as DiskGhosts}
use Rattle.px_outside.specs.declared.sink.Sink.{Ghosts as SinkGhosts}
use Rattle.px_trail.specs.Legal.{IsLegal}
use Rattle.px_trail.specs.Trail.{Base, closing_call}
use Rattle.px_trail.specs.declared.entry.Entry.{Entry}
use Rattle.px_recovery.specs.Base.{IsSoundFolder, base_of}
use Rattle.px_catalog.specs.Catalogue.{HasCatalogue, catalogue_files}
use Rattle.px_recovery.specs.Folder.{FolderData, StandsFor, StandsOn, region_numbers}
use Rattle.px_recovery.specs.Kept.{IsLate}
use Rattle.px_recovery.specs.Stands.{Recovers}
use Rattle.px_folder.specs.Calls.{AreOpenedBy}
use Rattle.px_folder.specs.Damage.{IsFirstDamaged}
use Rattle.px_opening.specs.Opened.{all_regions, folder_in}
use Rattle.px_opening.specs.declared.opened.Opened.{Opened}
use Rattle.px_opening.specs.declared.fault.OpenFault.{OpenFault}
use Rattle.px_opening.specs.declared.fault.OpenFault.TheVariants as fault
use Rattle.px_rounds.specs.Written.{IsTextWritten}
use Rattle.px_server.specs.Kept.{HasFailed, has_told}
use Rattle.px_server.specs.Others.{Beginning, OthersStay, beginning_at}
use Rattle.px_server.specs.Stamps.{AreBack, AreStamped}
use Rattle.px_server.specs.Started.{HoldsOwn, StandsBy, StartsSound}
use Rattle.px_program.specs.Answers.{AnswersJob, printed_for}
use Rattle.px_program.specs.Run.{IsOrigin, ReadsSound, known_over}
use Rattle.px_program.specs.Status.{causes_of, is_memory_status, items_of, status_of}
use Rattle.px_program.specs.declared.job.Job.{Job}
use Rattle.px_program.specs.declared.outcome.Outcome.{Outcome}
use Rattle.px_program.specs.declared.status.Status.{Status}
use Rattle.px_program.specs.declared.status.Status.TheVariants.{Damaged, Device, Memory}

-- why a folder wasn't opened, where no call of the disk has failed; or where the counts stand at their last values
abbrev pub stopped_quietly : OpenFault → Status
stopped_quietly fault.ReadFault = Device 0
stopped_quietly fault.WriteFault = Device 0
stopped_quietly (fault.Damaged file place) = Damaged file place
stopped_quietly fault.Memory = Memory

-- why a folder wasn't opened, where this call of the disk was the first that failed, and 0 stands for none
abbrev pub stopped_by : OpenFault → (failed : ℕ) → Status
stopped_by fault zero = stopped_quietly fault
stopped_by fault (suc n) = Device (suc n)

-- What was opened is sound, the disk stands for it whatever a stop leaves now, and catalogue and regions go on from there
pub record IsOpenedNow {D : Type 0} (d : DiskGhosts D) (disk : D) (o : Opened) : Type 0 where
  pub sound : IsSoundFolder (folder_in o)
  pub stands : StandsOn d disk (folder_in o)
  pub catalogue : HasCatalogue d o.catalog disk
  pub regions : All (HoldsOwn d disk) (all_regions o)

-- and so did each image that a stop may have left before
abbrev pub StoodBefore : {D : Type 0} → DiskGhosts D → D → Opened → Type 0
StoodBefore d disk o = (moment : ℕ) (image : Image) → IsLeft d disk moment image → StandsFor image (folder_in o)

-- A job was done over this base, while the clock had these numbers to tell, and versions were kept so long. It is told what some of the stops leave.
pub record RanOver {D C O : Type 0} (d : DiskGhosts D) (c : ClockGhosts C) (k : SinkGhosts O) (base : Base) (sound premise : Type 0) (began : Beginning) (Left : D → ℕ → Image → Type 0) (times : ℕ → ℕ) (lookback : ℕ) (job : Job) (out out' : O) (outcome : Outcome D) : Type 0 where
  pub legal : IsLegal base outcome.trail.entries
  pub stamped : IsTrue c.tells → (n : ℕ) × AreStamped times base [] 0 n outcome.trail.entries
  pub back : AreBack lookback base [] outcome.trail.entries
  pub seat : ℕ
  pub sink_failed : Bool
  pub replied : AnswersJob sound (known_over base seat outcome.trail.entries) 0 job outcome.transcripts sink_failed outcome.memory
  pub written : IsTextWritten k out out' (printed_for job outcome.transcripts) sink_failed outcome.memory
  pub recovers : premise → (moment : ℕ) (image : Image) → Left outcome.disk moment image → Recovers base outcome.trail.entries outcome.late moment image
  pub stands : closing_call outcome.trail.entries ≡ None → premise → IsTrue d.tells → StandsBy d base outcome.disk outcome.trail.entries
  pub unlate : closing_call outcome.trail.entries ≡ None → outcome.late ≡ None
  pub late_is : (u : Entry) → outcome.late ≡ Some u → premise → IsTrue d.tells → IsLate base outcome.trail.entries u
  pub closed_at : (call : ℕ) → closing_call outcome.trail.entries ≡ Some call → call ≡ d.calls outcome.disk
  pub status : outcome.status ≡ status_of sink_failed (d.first_fault outcome.disk) outcome.memory (causes_of (items_of outcome.transcripts))
  pub blamed : has_told outcome.trail.entries ≡ true → HasFailed d outcome.disk
  pub others : premise → IsTrue d.tells → OthersStay d base began outcome.disk outcome.trail.entries

-- nothing was run, and nothing is told but the status
pub record LeavesNothing {D O : Type 0} (out out' : O) (outcome : Outcome D) : Type 0 where
  pub entries : outcome.trail.entries ≡ []
  pub late : outcome.late ≡ None
  pub transcripts : outcome.transcripts ≡ []
  pub memory : outcome.memory ≡ is_memory_status outcome.status
  pub unwritten : out' ≡ out

-- no memory was found for a server, and the disk is as it was
pub record LacksServer {D O : Type 0} (d : DiskGhosts D) (disk : D) (out out' : O) (outcome : Outcome D) : Type 0 where
  pub status : outcome.status ≡ stopped_by fault.Memory (d.first_fault outcome.disk)
  pub back : outcome.disk ≡ disk
  pub nothing : LeavesNothing out out' outcome

abbrev pub RanOpened : {D C O : Type 0} → DiskGhosts D → ClockGhosts C → SinkGhosts O → Base → (sound premise : Type 0) → Beginning → (D → ℕ → Image → Type 0) → (times : ℕ → ℕ) → (lookback : ℕ) → Job → D → O → O → Outcome D → Type 0
RanOpened d c k base sound premise began Left times lookback job disk out out' outcome = RanOver d c k base sound premise began Left times lookback job out out' outcome ⊎ LacksServer d disk out out' outcome

-- a moment from this one on, and any one where that is true
abbrev pub at_least : ℕ → (all : Type 0) → ℕ → Type 0
at_least from all moment = all ⊎ (from ≤ moment)

-- a stop at such a moment may leave this image
abbrev pub IsLeftSince : {D : Type 0} → DiskGhosts D → ℕ → (all : Type 0) → D → ℕ → Image → Type 0
IsLeftSince d from all disk moment image = at_least from all moment × IsLeft d disk moment image

-- why a folder on a disk wasn't opened, by what was found there and what became of the disk
abbrev pub IsCausedBy : {D : Type 0} → DiskGhosts D → D → D → OpenFault → Type 0
IsCausedBy d disk disk' fault.ReadFault = Rose d disk disk'
IsCausedBy d disk disk' fault.WriteFault = Rose d disk disk'
IsCausedBy d disk disk' (fault.Damaged file place) = IsTrue d.tells → IsFirstDamaged (d.seen disk) file place ⊎ (place ≡ 0)
IsCausedBy d disk disk' fault.Memory = Unit {0}

-- The folder wasn't opened, or no memory was found for a server. Only the catalogue may have been made, and each image that a stop may leave stands for
-- what was there.
pub record Unopened {D O : Type 0} (d : DiskGhosts D) (disk : D) (out out' : O) (outcome : Outcome D) : Type 0 where
  pub fault : OpenFault
  pub status : outcome.status ≡ stopped_by fault (d.first_fault outcome.disk)
  pub caused : IsCausedBy d disk outcome.disk fault
  pub nothing : LeavesNothing out out' outcome
  pub touches : IsTrue d.tells → TouchesOnly d disk outcome.disk catalogue_files
  pub recovers : (starts : StartsSound d disk) → (moment : ℕ) (image : Image) → IsLeft d outcome.disk moment image → Recovers (base_of starts.sound.folder) [] None moment image

-- a job was done over the folder that was there, which was opened with so many calls
pub record RanFolder {D C O : Type 0} (d : DiskGhosts D) (c : ClockGhosts C) (k : SinkGhosts O) (lookback : ℕ) (job : Job) (clock : C) (disk : D) (out out' : O) (outcome : Outcome D) : Type 0 where
  pub folder : FolderData
  pub origin : IsOrigin d disk folder
  pub opened : ℕ
  pub soon : IsTrue d.tells → (calls : ℕ → ℕ) → AreOpenedBy (d.seen disk) (region_numbers folder.standing) calls → opened ≤ d.calls disk + (17 + sum_by calls (region_numbers folder.standing))
  pub within : opened ≤ d.calls outcome.disk
  pub before : (moment file : ℕ) (bytes : List ℕ) → d.calls disk ≤ moment → moment < opened → ¬ catalogue_files file → d.left outcome.disk moment file bytes → d.left disk (d.calls disk) file bytes
  pub over : RanOver d c k (base_of folder) (IsSoundFolder folder) (ReadsSound d disk) (beginning_at d disk) (IsLeftSince d opened (StartsSound d disk)) (c.times clock) lookback job out out' outcome

abbrev pub RanOn : {D C O : Type 0} → DiskGhosts D → ClockGhosts C → SinkGhosts O → (lookback : ℕ) → Job → C → D → O → O → Outcome D → Type 0
RanOn d c k lookback job clock disk out out' outcome = RanFolder d c k lookback job clock disk out out' outcome ⊎ Unopened d disk out out' outcome
