-- A region on a disk of which fewer stops are told.
use Rattle.std.proofs.Common.{◌≡◌, ℕ, List, [], ◌∷◌, take, Option, None, Some}
use Rattle.px_outside.specs.declared.disk.Disk.{Ghosts as DiskGhosts}
use Rattle.px_cells.specs.CellData.{CellData}
use Rattle.px_file.specs.Files.{HasBlocks, HasWrittenBlocks}
use Rattle.px_file.specs.declared.region_file.RegionFile.{RegionFile}
use Rattle.px_file.specs.declared.writer.FileWriter.{FileWriter}
use Rattle.px_gatelog.specs.Format.{LogForm, LogRecord}
use Rattle.px_gatelog.specs.Records.{HasLog}
use Rattle.px_gatelog.specs.declared.gate_log.GateLog.{GateLog}
use Rattle.px_making.specs.Making.{IsFileMade}
use Rattle.px_wal.specs.Batches.{LogBatch}
use Rattle.px_wal.specs.Snapshot.{FileData, SnapshotData}
use Rattle.px_files.specs.Files.{HaveFiles}
use Rattle.px_loading.specs.Gathering.{HaveBlocks}
use Rattle.px_flushing.specs.Flushing.{IsJobUnderWay}
use Rattle.px_flushing.specs.Stage.{IsStage}
use Rattle.px_flushing.specs.declared.job.Job.{Job}
use Rattle.px_flushing.specs.declared.job.Job.TheVariants as job
use Rattle.px_flushing.specs.declared.stage.Stage.{Stage}
use Rattle.px_flushing.specs.declared.stage.Stage.TheVariants as stage
use Rattle.px_region.specs.Region.{RegionData, RegionHolds}
use Rattle.px_region.specs.declared.region.Region.{Region}

-- the disk of which stops are told at these moments
abbrev pub later : {D : Type 0} → DiskGhosts D → (ℕ → Type 0) → DiskGhosts D
later d tell = record { tells = d.tells; seen = d.seen; first = d.first; left = λ m moment file bytes. tell moment × d.left m moment file bytes; calls = d.calls; faults = d.faults; first_fault = d.first_fault }

module _ {D : Type 0} (d : DiskGhosts D) (tell : ℕ → Type 0) (disk : D) where
  pub log_later : (form : LogForm) (first second : ℕ) (log : GateLog) (records next : List LogRecord) → HasLog d form first second disk log records next → HasLog (later d tell) form first second disk log records next
  log_later form first second log records next k = record {
    segments = k.segments;
    first_is = k.first_is;
    second_is = k.second_is;
    settled = record {
      told = k.settled.told;
      first_durable = λ bytes left. k.settled.first_durable bytes left.1;
      second_durable = λ bytes left. k.settled.second_durable bytes left.1;
      state = k.settled.state;
    };
    records_are = k.records_are;
    laid = λ one. record { made = (k.laid one).made };
  }

  -- ---- its files

  blocks_later : (file : RegionFile) (blocks : List (List CellData)) → HasBlocks d file disk blocks → HasBlocks (later d tell) file disk blocks
  blocks_later file blocks k = record { right = k.right; index = k.index; seen = k.seen; only = λ bytes left. k.only bytes left.1 }

  written_later : (writer : FileWriter) (blocks : List (List CellData)) → HasWrittenBlocks d writer disk blocks → HasWrittenBlocks (later d tell) writer disk blocks
  written_later writer blocks k = record { right = k.right; full = k.full; index = k.index; seen = k.seen }

  have_later : (region : ℕ) (named : List FileData) (files : List RegionFile) (lists : List (List CellData)) → HaveFiles d region disk named files lists → HaveFiles (later d tell) region disk named files lists
  have_later region [] [] [] k = tt
  have_later region [] [] (l ∷ lists) k = absurd k
  have_later region [] (o ∷ files) lists k = absurd k
  have_later region (f ∷ named) [] lists k = absurd k
  have_later region (f ∷ named) (o ∷ files) [] k = absurd k
  have_later region (f ∷ named) (o ∷ files) (l ∷ lists) k = (record { is = k.0.is; blocks = k.0.blocks; has = blocks_later o k.0.blocks k.0.has; cells = k.0.cells }, have_later region named files lists k.1)

  -- ---- the flush or the compaction that may be under way

  made_later : (file : RegionFile) (cells : List CellData) → IsFileMade d file disk cells → IsFileMade (later d tell) file disk cells
  made_later file cells k = record { blocks = k.blocks; has = blocks_later file k.blocks k.has; all = k.all }

  stage_later : (file : ℕ) (cells : List CellData) (s : Stage) → IsStage d file disk cells s → IsStage (later d tell) file disk cells s
  stage_later file cells stage.Frozen k = tt
  stage_later file cells (stage.Making making) k = (k.0, record { blocks = k.1.blocks; written = written_later making.writer k.1.blocks k.1.written; within = k.1.within; first = k.1.first; full = k.1.full })
  stage_later file cells (stage.Written making) k = (k.0, record { blocks = k.1.blocks; written = written_later making.writer k.1.blocks k.1.written; all = k.1.all })
  stage_later file cells (stage.Made made) k = (k.0, made_later made cells k.1)
  stage_later file cells (stage.Measured made len) k = (k.0, made_later made cells k.1, k.2)

  all_later : (files : List RegionFile) (blocks : List (List (List CellData))) → HaveBlocks d disk files blocks → HaveBlocks (later d tell) disk files blocks
  all_later [] [] k = tt
  all_later [] (b ∷ blocks) k = absurd k
  all_later (o ∷ files) [] k = absurd k
  all_later (o ∷ files) (b ∷ blocks) k = (blocks_later o b k.0, all_later files blocks k.1)

  under_later : (region : ℕ) (named : SnapshotData) (batches : List LogBatch) (files : List RegionFile) (lists : List (List CellData)) (under : Option Job) → IsJobUnderWay d region named batches files lists disk under → IsJobUnderWay (later d tell) region named batches files lists disk under
  under_later region named batches files lists None k = tt
  under_later region named batches files lists (Some (job.Flush flush)) k = record { frozen = k.frozen; later = k.later; free = k.free; stage = stage_later _ flush.frozen.cells flush.stage k.stage }
  under_later region named batches files lists (Some (job.Gather gather)) k = record {
    blocks = k.blocks;
    within = k.within;
    lists_are = k.lists_are;
    has = record { tells = k.has.tells; have = all_later (take gather.count files) k.blocks k.has.have; store = k.has.store; cells = k.has.cells };
  }
  under_later region named batches files lists (Some (job.Merge merge)) k = record { cells = k.cells; free = k.free; stage = stage_later _ merge.frozen.cells merge.stage k.stage }

  -- ---- the region

  pub holds_later : (r : Region) (s : RegionData) → RegionHolds d r disk s → RegionHolds (later d tell) r disk s
  unfolding log_later
  holds_later r s k =
      let parts = k.has.parts in
      record {
        batches = k.batches;
        lists = k.lists;
        has = record {
          parts = record {
            tells = parts.tells;
            named = record { records = parts.named.records; log = log_later _ _ _ _ _ _ parts.named.log; last = parts.named.last; right = parts.named.right };
            log = record { log = log_later _ _ _ _ _ _ parts.log.log; right = parts.log.right; last = parts.log.last; cut = parts.log.cut };
            have = have_later _ _ _ _ parts.have;
          };
          flush = under_later _ _ _ _ _ r.flushing.flush k.has.flush;
        };
        number = k.number;
        store = k.store;
        named = k.named;
        cells = k.cells;
        horizon = k.horizon;
        counted = k.counted;
        weighed = k.weighed;
        least = k.least;
      }
