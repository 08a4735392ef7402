-- A region's files, and the flush of its log.
use Rattle.std.specs.Prelude.{◌≡◌, ◌≤◌, ◌<◌, ◌+◌, ◌∷◌, ◌⊎◌, [], ℕ, max, List, length, map, take, drop, Option, Some, None, Result, Ok, Err}
use Rattle.px_outside.specs.Disk.{Image}
use Rattle.px_outside.specs.declared.disk.Disk.{Ghosts}
use Rattle.px_cells.specs.CellData.{CellData}
use Rattle.px_file.specs.Format.{cells_in}
use Rattle.px_file.specs.declared.region_file.RegionFile.{RegionFile}
use Rattle.px_merge.specs.Kept.{IsKeptList}
use Rattle.px_merge.specs.Merged.{joined}
use Rattle.px_merge.specs.Settle.{settle}
use Rattle.px_wal.specs.Batches.{AreOverHorizon, LogBatch, batches_above}
use Rattle.px_wal.specs.Files.{file_of}
use Rattle.px_wal.specs.Form.{batch_byte_count, cell_count}
use Rattle.px_wal.specs.Manifest.{named_snapshot}
use Rattle.px_wal.specs.Snapshot.{SnapshotData}
use Rattle.px_wal.specs.declared.manifest.Manifest.{Manifest}
use Rattle.px_wal.specs.declared.wal.Wal.{Wal}
use Rattle.px_files.specs.Locals.{IsFreeLocal}
use Rattle.px_naming.specs.Naming.{HasParts, RegionReads, one_compaction_more}
use Rattle.px_frozen.specs.Frozen.{IsFrozen}
use Rattle.px_frozen.specs.FrozenData.{FrozenData}
use Rattle.px_loading.specs.Gathering.{HasGathered}
use Rattle.px_flushing.specs.Stage.{IsStage}
use Rattle.px_flushing.specs.declared.fault.FlushFault.{FlushFault}
use Rattle.px_flushing.specs.declared.flushing.FlushStep.{FlushStep}
use Rattle.px_flushing.specs.declared.flushing.FlushStep.TheVariants as step
use Rattle.px_flushing.specs.declared.job.Flush.{Flush}
use Rattle.px_flushing.specs.declared.job.Gather.{Gather}
use Rattle.px_flushing.specs.declared.job.Job.{Job}
use Rattle.px_flushing.specs.declared.job.Job.TheVariants as job
use Rattle.px_flushing.specs.declared.job.Merge.{Merge}
use Rattle.px_flushing.specs.declared.flushing.Flushing.{Flushing}
use Rattle.px_flushing.specs.declared.stage.Stage.{Stage}
use Rattle.px_flushing.specs.declared.stage.Stage.TheVariants as how

-- A flush that was begun, which the manifest doesn't name: its cells are those of some batches above the flushed number, and
-- its file, which has a number of its own, has as many of them as its stage says.
pub record IsBegun {D : Type 0} (d : Ghosts D) (region : ℕ) (named : SnapshotData) (batches : List LogBatch) (disk : D) (flush : Flush) : Type 0 where
  pub frozen : IsFrozen named.flushed batches flush.frozen
  pub later : named.flushed < flush.frozen.upto
  pub free : IsFreeLocal named.files flush.local
  pub stage : IsStage d (file_of region flush.local) disk flush.frozen.cells flush.stage

-- The cells of so many of the newest files are gathered, to be merged.
pub record IsGathering {D : Type 0} (d : Ghosts D) (files : List RegionFile) (lists : List (List CellData)) (disk : D) (gather : Gather) : Type 0 where
  pub blocks : List (List (List CellData))
  pub within : gather.count ≤ length files
  pub lists_are : take gather.count lists ≡ map cells_in blocks
  pub has : HasGathered d gather.gathering disk (take gather.count files) blocks

-- all that is read of cells, or what a horizon keeps of it
abbrev pub HasKept : Option ℕ → (cells kept : List CellData) → Type 0
HasKept None cells kept = kept ≡ cells
HasKept (Some h) cells kept = IsKeptList cells h kept

-- What is read of so many of the newest files, or what a horizon keeps of it, goes to a file that the manifest doesn't name, which has a number of its own and
-- as many of these cells as its stage says.
pub record IsMerging {D : Type 0} (d : Ghosts D) (region : ℕ) (named : SnapshotData) (lists : List (List CellData)) (disk : D) (merge : Merge) : Type 0 where
  pub cells : HasKept merge.horizon (settle (joined (take merge.count lists))) merge.frozen.cells
  pub free : IsFreeLocal named.files merge.local
  pub stage : IsStage d (file_of region merge.local) disk merge.frozen.cells merge.stage

-- a flush or a compaction that may be under way
abbrev pub IsJobUnderWay : {D : Type 0} → Ghosts D → ℕ → SnapshotData → List LogBatch → List RegionFile → List (List CellData) → D → Option Job → Type 0
IsJobUnderWay d region named batches files lists disk None = Unit {0}
IsJobUnderWay d region named batches files lists disk (Some (job.Flush flush)) = IsBegun d region named batches disk flush
IsJobUnderWay d region named batches files lists disk (Some (job.Gather gather)) = IsGathering d files lists disk gather
IsJobUnderWay d region named batches files lists disk (Some (job.Merge merge)) = IsMerging d region named lists disk merge

-- the number of the last batch of a flush, 0 where none is under way
abbrev pub upto_of : Option Job → ℕ
upto_of None = 0
upto_of (Some (job.Flush flush)) = flush.frozen.upto
upto_of (Some (job.Gather gather)) = 0
upto_of (Some (job.Merge merge)) = 0

-- the horizon of a compaction that forgets
abbrev pub forgetting_horizon : Option Job → Option ℕ
forgetting_horizon None = None
forgetting_horizon (Some (job.Flush flush)) = None
forgetting_horizon (Some (job.Gather gather)) = gather.horizon
forgetting_horizon (Some (job.Merge merge)) = merge.horizon

-- the cells of a compaction that forgets, once its file is measured
abbrev pub measured_of : Option ℕ → Stage → FrozenData → Option FrozenData
measured_of None s frozen = None
measured_of (Some h) how.Frozen frozen = None
measured_of (Some h) (how.Making making) frozen = None
measured_of (Some h) (how.Written making) frozen = None
measured_of (Some h) (how.Made made) frozen = None
measured_of (Some h) (how.Measured made len) frozen = Some frozen

-- the cells of the file that the next step names, where it is that of a compaction that forgets
abbrev pub naming_of : Option Job → Option FrozenData
naming_of None = None
naming_of (Some (job.Flush flush)) = None
naming_of (Some (job.Gather gather)) = None
naming_of (Some (job.Merge merge)) = measured_of merge.horizon merge.stage merge.frozen

-- a compaction may forget at this horizon, if it has one, where every batch that isn't in a file is above it
abbrev pub MayForget : Option ℕ → List LogBatch → Type 0
MayForget None batches = Unit {0}
MayForget (Some h) batches = AreOverHorizon h batches

-- no file is named or begun
pub record IsFreshFlushing (number : ℕ) (flushing : Flushing) : Type 0 where
  pub number_is : flushing.number ≡ number
  pub files : flushing.files.items ≡ []
  pub flush : flushing.flush ≡ None

-- The disk tells that manifest, log and open files of the region have this, all of it on the disk, and that it goes on from
-- there, with the flush or the compaction that may be under way.
pub record HasFlushing {D : Type 0} (d : Ghosts D) (manifest : Manifest) (wal : Wal) (flushing : Flushing) (disk : D) (batches : List LogBatch) (lists : List (List CellData)) : Type 0 where
  pub parts : HasParts d flushing.number manifest wal disk batches flushing.files.items lists
  pub flush : IsJobUnderWay d flushing.number (named_snapshot manifest) batches flushing.files.items lists disk flushing.flush

-- the image's files of a region are read as this list, and its manifest names this horizon
pub record IsRegionRead (region : ℕ) (image : Image) (horizon : ℕ) (cells : List CellData) : Type 0 where
  pub named : SnapshotData
  pub reads : RegionReads region image named cells
  pub horizon_is : named.horizon ≡ horizon

-- the image's files of a region are read as what a horizon keeps of this list, and its manifest names that horizon
pub record IsReadKept (region : ℕ) (image : Image) (horizon : ℕ) (cells : List CellData) : Type 0 where
  pub kept : List CellData
  pub keeps : IsKeptList cells horizon kept
  pub read : IsRegionRead region image horizon kept

-- they are read as this list, with this horizon; or, of a compaction that forgets, as what its horizon keeps
abbrev pub ReadsFrom : Option ℕ → (region : ℕ) → Image → (horizon : ℕ) → List CellData → Type 0
ReadsFrom None region image horizon cells = IsRegionRead region image horizon cells
ReadsFrom (Some h) region image horizon cells = IsRegionRead region image horizon cells ⊎ IsReadKept region image h cells

-- what is named after a flush up to a number, whose file has this local number and so many bytes
abbrev pub named_next : SnapshotData → (upto local len : ℕ) → RegionFile → SnapshotData
named_next named upto local len file = record {
  flushed = upto;
  horizon = named.horizon;
  stamp = max named.stamp file.index.stamp;
  compactions = named.compactions;
  files = record { local = local; len = len; cells = file.index.cells } ∷ named.files;
}

-- what is named after a compaction of so many of the newest files
abbrev pub merged_next : SnapshotData → (count local len : ℕ) → RegionFile → SnapshotData
merged_next named count local len file = record {
  flushed = named.flushed;
  horizon = named.horizon;
  stamp = named.stamp;
  compactions = one_compaction_more named.compactions;
  files = record { local = local; len = len; cells = file.index.cells } ∷ drop count named.files;
}

-- what is named after a compaction of all files that keeps what a horizon does
abbrev pub forgot_next : SnapshotData → (horizon local len : ℕ) → RegionFile → SnapshotData
forgot_next named horizon local len file = record {
  flushed = named.flushed;
  horizon = horizon;
  stamp = named.stamp;
  compactions = one_compaction_more named.compactions;
  files = record { local = local; len = len; cells = file.index.cells } ∷ [];
}

-- one file is named in place of all, with a horizon that isn't below the one before
pub record HasForgottenFiles (old new : SnapshotData) (horizon : ℕ) : Type 0 where
  pub raised : old.horizon ≤ horizon
  pub local : ℕ
  pub len : ℕ
  pub file : RegionFile
  pub is : new ≡ forgot_next old horizon local len file

-- one file is named in place of some of the newest
pub record HasMerged (old new : SnapshotData) : Type 0 where
  pub count : ℕ
  pub some : 1 ≤ count
  pub local : ℕ
  pub len : ℕ
  pub file : RegionFile
  pub is : new ≡ merged_next old count local len file

-- the flushed number has risen, and so many cells and bytes of batches aren't above it any more
pub record IsRaised (old new : ℕ) (batches : List LogBatch) (cells bytes : ℕ) : Type 0 where
  pub later : old < new
  pub counted : cell_count (batches_above old batches) ≡ cells + cell_count (batches_above new batches)
  pub weighed : batch_byte_count (batches_above old batches) ≡ bytes + batch_byte_count (batches_above new batches)

-- what is read after a step: the same, or what the horizon keeps at which it forgot
abbrev pub Goes : Result FlushStep FlushFault → (old new : List CellData) → Type 0
Goes (Ok step.More) old new = new ≡ old
Goes (Ok (step.Named cells bytes)) old new = new ≡ old
Goes (Ok step.Merged) old new = new ≡ old
Goes (Ok (step.Forgot horizon)) old new = IsKeptList old horizon new
Goes (Ok step.Done) old new = new ≡ old
Goes (Err fault) old new = new ≡ old

-- the cells that were kept are those of the one file
abbrev pub HasOnly : Option FrozenData → List (List CellData) → Type 0
HasOnly None lists = ⊥
HasOnly (Some kept) lists = lists ≡ kept.cells ∷ []

-- after a step that forgot, the cells that it kept can be taken, and are those of the one file
abbrev pub HasForgot : Result FlushStep FlushFault → Flushing → (lists : List (List CellData)) → Type 0
HasForgot (Ok step.More) flushing lists = Unit {0}
HasForgot (Ok (step.Named cells bytes)) flushing lists = Unit {0}
HasForgot (Ok step.Merged) flushing lists = Unit {0}
HasForgot (Ok (step.Forgot horizon)) flushing lists = HasOnly flushing.kept lists
HasForgot (Ok step.Done) flushing lists = Unit {0}
HasForgot (Err fault) flushing lists = Unit {0}

-- the horizon that is named after a step
abbrev pub horizon_after : Result FlushStep FlushFault → ℕ → ℕ
horizon_after (Ok step.More) h = h
horizon_after (Ok (step.Named cells bytes)) h = h
horizon_after (Ok step.Merged) h = h
horizon_after (Ok (step.Forgot horizon)) h = horizon
horizon_after (Ok step.Done) h = h
horizon_after (Err fault) h = h
