-- How a flush goes on.
use Rattle.std.proofs.Common.{◌≡◌, ◌⊎◌, ℕ, zero, suc, take, ◌+◌, ◌<◌, ◌≤◌, List, [], ◌∷◌, ◌++◌, Option, Some, None, refl, sym, ap, subst, ◌∙◌, arith, inl, inr}
use Rattle.std.proofs.lemmas.Bool.{cases_lt}
use Rattle.std.specs.Prelude.{◌≢◌, IfOk, IsTrue, Result, Ok, Err, OnOk, OnErr}
use Rattle.std.specs.List.{AllByRecursion}
use Rattle.px_outside.specs.OnDisk.{LeavesOnly, Stays, TouchesOnly}
use Rattle.px_outside.specs.Standing.{StandsIn}
use Rattle.px_outside.specs.declared.disk.Disk.{Ghosts}
use Rattle.px_outside.proofs.Moments.{stays_touches, touches_more}
use Rattle.px_cells.specs.CellData.{CellData}
use Rattle.px_file.specs.declared.region_file.RegionFile.{RegionFile}
use Rattle.px_file.proofs.Kept.{kept_apart}
use Rattle.px_merge.specs.Settle.{settle}
use Rattle.px_wal.specs.Batches.{AreRisingBatches, LogBatch, batches_above, batches_between, cells_over, later_first}
use Rattle.px_wal.specs.Files.{HasFile, file_of}
use Rattle.px_wal.specs.Form.{batch_byte_count, cell_count, last_batch_number}
use Rattle.px_wal.specs.Manifest.{HasSnapshot, manifest_files, named_snapshot}
use Rattle.px_wal.specs.Snapshot.{FileData, IsEntry, SnapshotData}
use Rattle.px_wal.specs.Wal.{HasBatches, log_files}
use Rattle.px_wal.specs.declared.manifest.Manifest.{Manifest}
use Rattle.px_wal.specs.declared.wal.Wal.{Wal}
use Rattle.px_wal.proofs.Appended.{log_kept}
use Rattle.px_wal.proofs.Cuts.{flushed_same}
use Rattle.px_wal.proofs.Named.{manifest_kept}
use Rattle.px_files.specs.Files.{HaveFiles, IsNamedFile}
use Rattle.px_files.specs.Locals.{IsFreeLocal}
use Rattle.px_files.proofs.Kept.{have_apart}
use Rattle.px_naming.specs.Naming.{HasParts, IsFlushed}
use Rattle.px_frozen.specs.Frozen.{IsFrozen}
use Rattle.px_frozen.specs.FrozenData.{FrozenData}
use Rattle.px_frozen.proofs.Coming.{bytes_freed, cells_freed, frozen_more}
use Rattle.px_loading.specs.Gathering.{HaveBlocks}
use Rattle.px_flushing.specs.Flushing.{HasFlushing, IsBegun, IsGathering, IsJobUnderWay, IsMerging, IsRaised, IsRegionRead, named_next}
use Rattle.px_flushing.specs.Stage.{IsStage}
use Rattle.px_flushing.specs.declared.fault.FlushFault.{FlushFault}
use Rattle.px_flushing.specs.declared.fault.FlushFault.TheVariants.{WriteFault}
use Rattle.px_flushing.specs.declared.flushing.FlushStep.{FlushStep}
use Rattle.px_flushing.specs.declared.flushing.FlushStep.TheVariants as step
use Rattle.px_flushing.specs.declared.flushing.Flushing.{Flushing}
use Rattle.px_flushing.specs.declared.job.Flush.{Flush}
use Rattle.px_flushing.specs.declared.job.Gather.{Gather}
use Rattle.px_flushing.specs.declared.job.Job.{Job}
use Rattle.px_flushing.specs.declared.job.Job.TheVariants as job
use Rattle.px_flushing.specs.declared.job.Merge.{Merge}
use Rattle.px_flushing.specs.declared.stage.Stage.{Stage}
use Rattle.px_flushing.specs.declared.stage.Stage.TheVariants as stage
use Rattle.px_flushing.proofs.Parts.{IsPart, free_apart, part_own, parts_kept, parts_leave, parts_stand}
use Rattle.px_flushing.proofs.Stages.{stage_kept}

-- a free number's file is one of the region
pub free_own : (region local file : ℕ) (files : List FileData) → IsFreeLocal files local → file ≡ file_of region local → HasFile region file
free_own region local file files free is = record { local = local; is = is; short = (let s = free.short in omega arith) }

pub manifest_own : (region file : ℕ) → manifest_files region file → HasFile region file
manifest_own region file (inl is) = record { local = 2; is = is; short = omega arith }
manifest_own region file (inr is) = record { local = 3; is = is; short = omega arith }

-- no file of the log is one of the manifest, or is named
pub manifest_log : (region file : ℕ) → manifest_files region file → log_files region file → ⊥
manifest_log region file (inl a) (inl b) = omega arith
manifest_log region file (inl a) (inr b) = omega arith
manifest_log region file (inr a) (inl b) = omega arith
manifest_log region file (inr a) (inr b) = omega arith

pub named_log : (region file : ℕ) (named : List FileData) → AllByRecursion IsEntry named → IsNamedFile region named file → log_files region file → ⊥
named_log region file [] all own touched = own
named_log region file (f ∷ named) all (inl is) (inl b) = (let o = all.0.own in omega arith)
named_log region file (f ∷ named) all (inl is) (inr b) = (let o = all.0.own in omega arith)
named_log region file (f ∷ named) all (inr own) touched = named_log region file named all.1 own touched

pub named_manifest : (region file : ℕ) (named : List FileData) → AllByRecursion IsEntry named → IsNamedFile region named file → manifest_files region file → ⊥
named_manifest region file [] all own touched = own
named_manifest region file (f ∷ named) all (inl is) (inl b) = (let o = all.0.own in omega arith)
named_manifest region file (f ∷ named) all (inl is) (inr b) = (let o = all.0.own in omega arith)
named_manifest region file (f ∷ named) all (inr own) touched = named_manifest region file named all.1 own touched

-- the file of a flush is none of its log or manifest
pub log_apart : (region local : ℕ) (files : List FileData) → IsFreeLocal files local → log_files region (file_of region local) → ⊥
log_apart region local files free (inl is) = (let o = free.own in omega arith)
log_apart region local files free (inr is) = (let o = free.own in omega arith)

pub manifest_free : (region local : ℕ) (files : List FileData) → IsFreeLocal files local → manifest_files region (file_of region local) → ⊥
manifest_free region local files free (inl is) = (let o = free.own in omega arith)
manifest_free region local files free (inr is) = (let o = free.own in omega arith)

-- a log that has a batch above a number
some_batch : (flushed upto : ℕ) (batches : List LogBatch) → flushed < upto → upto ≤ last_batch_number flushed batches → (b : LogBatch) × ((more : List LogBatch) × (batches ≡ b ∷ more))
some_batch flushed upto [] later within = absurd (omega arith)
some_batch flushed upto (b ∷ batches) later within = (b, (batches, refl))

pub unflushed : (flushed last : ℕ) → (last ≤ flushed → ⊥) → flushed < last
unflushed flushed last never = by (cases_lt flushed last)
  where
    by : (flushed < last) ⊎ (last ≤ flushed) → flushed < last
    by (inl lt) = lt
    by (inr le) = absurd (never le)

module _ {D : Type 0} (d : Ghosts D) (region : ℕ) (named : SnapshotData) (batches : List LogBatch) where
  -- ---- calls on other files

  pub begun_kept : (old new : D) (flush : Flush) (touched : ℕ → Type 0) → TouchesOnly d old new touched → (touched (file_of region flush.local) → ⊥) → IsBegun d region named batches old flush → IsBegun d region named batches new flush
  begun_kept old new flush touched touches apart begun = record {
    frozen = begun.frozen;
    later = begun.later;
    free = begun.free;
    stage = stage_kept d old new (file_of region flush.local) touched touches apart flush.frozen.cells flush.stage begun.stage;
  }

  merging_kept : (old new : D) (lists : List (List CellData)) (merge : Merge) (touched : ℕ → Type 0) → TouchesOnly d old new touched → (touched (file_of region merge.local) → ⊥) → IsMerging d region named lists old merge → IsMerging d region named lists new merge
  merging_kept old new lists merge touched touches apart merging = record {
    cells = merging.cells;
    free = merging.free;
    stage = stage_kept d old new (file_of region merge.local) touched touches apart merge.frozen.cells merge.stage merging.stage;
  }

  -- the blocks of named files
  blocks_kept : (old new : D) (n : ℕ) (entries : List FileData) (files : List RegionFile) (lists : List (List CellData)) (blocks : List (List (List CellData))) (touched : ℕ → Type 0) → TouchesOnly d old new touched
      → ((file : ℕ) → IsNamedFile region entries file → touched file → ⊥) → HaveFiles d region old entries files lists → HaveBlocks d old (take n files) blocks → HaveBlocks d new (take n files) blocks
  blocks_kept old new zero entries files lists [] touched touches apart have blocks = tt
  blocks_kept old new zero entries files lists (b ∷ rest) touched touches apart have blocks = absurd blocks
  blocks_kept old new (suc n) entries [] lists [] touched touches apart have blocks = tt
  blocks_kept old new (suc n) entries [] lists (b ∷ rest) touched touches apart have blocks = absurd blocks
  blocks_kept old new (suc n) entries (o ∷ files) lists [] touched touches apart have blocks = absurd blocks
  blocks_kept old new (suc n) [] (o ∷ files) lists (b ∷ rest) touched touches apart have blocks = absurd have
  blocks_kept old new (suc n) (f ∷ entries) (o ∷ files) [] (b ∷ rest) touched touches apart have blocks = absurd have
  blocks_kept old new (suc n) (f ∷ entries) (o ∷ files) (l ∷ lists) (b ∷ rest) touched touches apart have blocks = (
    kept_apart d old new o b (touches_more d.calls d.left d.seen old new touched (λ t. t ≢ o.file) (λ t own same. apart t (inl (same ∙ have.0.is)) own) touches) blocks.0,
    blocks_kept old new n entries files lists rest touched touches (λ file own. apart file (inr own)) have.1 blocks.1,
  )

  pub gathering_kept : (old new : D) (files : List RegionFile) (lists : List (List CellData)) (gather : Gather) (touched : ℕ → Type 0) → TouchesOnly d old new touched → ((file : ℕ) → IsNamedFile region named.files file → touched file → ⊥)
      → HaveFiles d region old named.files files lists → IsGathering d files lists old gather → IsGathering d files lists new gather
  gathering_kept old new files lists gather touched touches apart have is = record {
    blocks = is.blocks;
    within = is.within;
    lists_are = is.lists_are;
    has = record {
      tells = is.has.tells;
      have = blocks_kept old new gather.count named.files files lists is.blocks touched touches apart have is.has.have;
      store = is.has.store;
      cells = is.has.cells;
    };
  }

  -- calls on files that aren't named, and whose numbers aren't free
  pub under_kept : (old new : D) (files : List RegionFile) (lists : List (List CellData)) (under : Option Job) (touched : ℕ → Type 0) → TouchesOnly d old new touched → ((file : ℕ) → IsNamedFile region named.files file → touched file → ⊥)
      → ((local : ℕ) → IsFreeLocal named.files local → touched (file_of region local) → ⊥) → HaveFiles d region old named.files files lists → IsJobUnderWay d region named batches files lists old under → IsJobUnderWay d region named batches files lists new under
  under_kept old new files lists None touched touches apart free have is = tt
  under_kept old new files lists (Some (job.Flush flush)) touched touches apart free have is = begun_kept old new flush touched touches (λ own. free flush.local is.free own) is
  under_kept old new files lists (Some (job.Gather gather)) touched touches apart free have is = gathering_kept old new files lists gather touched touches apart have is
  under_kept old new files lists (Some (job.Merge merge)) touched touches apart free have is = merging_kept old new lists merge touched touches (λ own. free merge.local is.free own) is

  -- ---- a batch comes

  under_more : (old new : D) (files : List RegionFile) (lists : List (List CellData)) (under : Option Job) (b : LogBatch) → last_batch_number named.flushed batches < b.number → TouchesOnly d old new (log_files region) → AllByRecursion IsEntry named.files
      → HaveFiles d region old named.files files lists → IsJobUnderWay d region named batches files lists old under → IsJobUnderWay d region named (batches ++ b ∷ []) files lists new under
  under_more old new files lists None b next touches entries have is = tt
  under_more old new files lists (Some (job.Flush flush)) b next touches entries have is = record {
    frozen = frozen_more named.flushed batches b flush.frozen next is.frozen;
    later = is.later;
    free = is.free;
    stage = stage_kept d old new (file_of region flush.local) (log_files region) touches (log_apart region flush.local named.files is.free) flush.frozen.cells flush.stage is.stage;
  }
  under_more old new files lists (Some (job.Gather gather)) b next touches entries have is = gathering_kept old new files lists gather (log_files region) touches (λ file own touched. named_log region file named.files entries own touched) have is
  under_more old new files lists (Some (job.Merge merge)) b next touches entries have is = merging_kept old new lists merge (log_files region) touches (log_apart region merge.local named.files is.free) is

-- ---- by fields

pub by_fields : {D : Type 0} (d : Ghosts D) (manifest : Manifest) (wal : Wal) (number : ℕ) (files : List RegionFile) (under : Option Job) (disk : D) (batches : List LogBatch) (lists : List (List CellData)) (flushing : Flushing)
    → HasParts d number manifest wal disk batches files lists → IsJobUnderWay d number (named_snapshot manifest) batches files lists disk under → number ≡ flushing.number → files ≡ flushing.files.items → under ≡ flushing.flush → HasFlushing d manifest wal flushing disk batches lists
by_fields d manifest wal number files under disk batches lists flushing parts is a b c = record {
  parts =
      subst (λ (l : List RegionFile). HasParts d flushing.number manifest wal disk batches l lists) b (subst (λ (n : ℕ). HasParts d n manifest wal disk batches files lists) a parts);
  flush =
      subst (λ (f : Option Job). IsJobUnderWay d flushing.number (named_snapshot manifest) batches flushing.files.items lists disk f) c
      (subst (λ (l : List RegionFile). IsJobUnderWay d flushing.number (named_snapshot manifest) batches l lists disk under) b (subst (λ (n : ℕ). IsJobUnderWay d n (named_snapshot manifest) batches files lists disk under) a is));
}

-- ---- its steps

module _ {D : Type 0} (d : Ghosts D) (number : ℕ) (manifest : Manifest) (wal : Wal) (old new : D) (batches : List LogBatch) (files : List RegionFile) (lists : List (List CellData)) where
  quiet_apart : (file : ℕ) → IsPart number (named_snapshot manifest) file → ⊥ → ⊥
  quiet_apart file own never = never

  -- the files are opened
  pub opened_by : (named : List FileData) → named ≡ (named_snapshot manifest).files → IsTrue d.tells → HasSnapshot d number manifest old → HasBatches d number (named_snapshot manifest).flushed wal old batches → Stays d old new → d.seen new ≡ d.seen old
      → HaveFiles d number new named files lists → HasParts d number manifest wal new batches files lists
  opened_by named is tells has log stays same have =
      let none = stays_touches d.calls d.left d.seen old new stays same in
      record {
        tells = tells;
        named = manifest_kept d number manifest old has new (λ file. ⊥) none (λ file own never. never);
        log = log_kept d number (named_snapshot manifest).flushed wal old batches log new (λ file. ⊥) none (λ file own never. never);
        have = subst (λ (l : List FileData). HaveFiles d number new l files lists) is have;
      }

  module _ (parts : HasParts d number manifest wal old batches files lists) where
    pub parts_quiet : Stays d old new → d.seen new ≡ d.seen old → HasParts d number manifest wal new batches files lists
    parts_quiet stays same = parts_kept d number manifest wal old batches files lists parts new (λ file. ⊥) (stays_touches d.calls d.left d.seen old new stays same) quiet_apart

    -- a flush is begun
    pub begun_by : (flushed local : ℕ) (named : List FileData) (frozen : FrozenData) → flushed ≡ (named_snapshot manifest).flushed → named ≡ (named_snapshot manifest).files → ((b : List LogBatch) → HasBatches d number flushed wal old b → IsFrozen flushed b frozen)
        → frozen.upto ≡ wal.older_to → (named_snapshot manifest).flushed < wal.older_to → IsFreeLocal named local → IsBegun d number (named_snapshot manifest) batches new (record { frozen = frozen; local = local; stage = stage.Frozen })
    begun_by flushed local named frozen a b give upto later free = record {
      frozen = subst (λ (n : ℕ). IsFrozen n batches frozen) a (give batches (subst (λ (n : ℕ). HasBatches d number n wal old batches) (sym a) parts.log));
      later = omega (arith, upto);
      free = subst (λ (l : List FileData). IsFreeLocal l local) b free;
      stage = tt;
    }

-- a step of its file is made
module _ {D : Type 0} (d : Ghosts D) (number : ℕ) (named : SnapshotData) (old new : D) (batches : List LogBatch) (frozen : FrozenData) (local file : ℕ) (cells : List CellData) (before after : Stage) (begun : IsBegun d number named batches old (record { frozen = frozen; local = local; stage = before }))
    (file-is : file ≡ file_of number local) (cells-are : cells ≡ frozen.cells) (touches : IsStage d file old cells before → TouchesOnly d old new (λ touched. touched ≡ file)) (stands : IsStage d file old cells before → IsStage d file new cells after) where
  was : IsStage d file old cells before
  was = subst (λ (f : ℕ). IsStage d f old cells before) (sym file-is) (subst (λ (l : List CellData). IsStage d (file_of number local) old l before) (sym cells-are) begun.stage)

  pub wrote_begun : IsBegun d number named batches new (record { frozen = frozen; local = local; stage = after })
  wrote_begun = record {
    frozen = begun.frozen;
    later = begun.later;
    free = begun.free;
    stage = subst (λ (l : List CellData). IsStage d (file_of number local) new l after) cells-are (subst (λ (f : ℕ). IsStage d f new cells after) file-is (stands was));
  }

  pub wrote_touches : TouchesOnly d old new (λ touched. touched ≡ file_of number local)
  wrote_touches = subst (λ (f : ℕ). TouchesOnly d old new (λ touched. touched ≡ f)) file-is (touches was)

-- calls on the file of a flush leave all else
module _ {D : Type 0} (d : Ghosts D) (number : ℕ) (manifest : Manifest) (wal : Wal) (old new : D) (batches : List LogBatch) (files : List RegionFile) (lists : List (List CellData)) (parts : HasParts d number manifest wal old batches files lists)
    (local : ℕ) (free : IsFreeLocal (named_snapshot manifest).files local) (touches : TouchesOnly d old new (λ touched. touched ≡ file_of number local)) where
  pub wrote_parts : HasParts d number manifest wal new batches files lists
  wrote_parts = parts_kept d number manifest wal old batches files lists parts new (λ touched. touched ≡ file_of number local) touches (λ f own same. free_apart number local f (named_snapshot manifest) free own same)

  pub wrote_leaves : LeavesOnly d old new (λ moment image. IsRegionRead number image (named_snapshot manifest).horizon (cells_over (named_snapshot manifest).flushed batches lists))
  wrote_leaves = parts_leave d number manifest wal old batches files lists parts new (λ touched. touched ≡ file_of number local) touches (λ f own same. free_apart number local f (named_snapshot manifest) free own same)

module _ {D : Type 0} (d : Ghosts D) (manifest : Manifest) (wal : Wal) (flushing : Flushing) (disk : D) (batches : List LogBatch) (lists : List (List CellData)) (has : HasFlushing d manifest wal flushing disk batches lists) where
  pub flushing_kept : (disk' : D) → TouchesOnly d disk disk' (λ touched. HasFile flushing.number touched → ⊥) → HasFlushing d manifest wal flushing disk' batches lists
  flushing_kept disk' touches = record {
    parts =
        parts_kept d flushing.number manifest wal disk batches flushing.files.items lists has.parts disk' (λ touched. HasFile flushing.number touched → ⊥) touches (λ file own touched. touched (part_own flushing.number file (named_snapshot manifest) has.parts.named.right.files own));
    flush =
        under_kept d flushing.number (named_snapshot manifest) batches disk disk' flushing.files.items lists flushing.flush (λ touched. HasFile flushing.number touched → ⊥) touches
        (λ file own touched. touched (part_own flushing.number file (named_snapshot manifest) has.parts.named.right.files (inr (inr own)))) (λ local free touched. touched (free_own flushing.number local (file_of flushing.number local) (named_snapshot manifest).files free refl)) has.parts.have
        has.flush;
  }

  pub flushing_stands : StandsIn d disk (HasFile flushing.number) (λ image. IsRegionRead flushing.number image (named_snapshot manifest).horizon (cells_over (named_snapshot manifest).flushed batches lists))
  flushing_stands =
      let all = parts_stand d flushing.number manifest wal disk batches flushing.files.items lists has.parts in
      record { each = λ image left. all.each image (λ file own. left file (part_own flushing.number file (named_snapshot manifest) has.parts.named.right.files own)) }

  pub flushing_more : (new : Wal) (disk' : D) (b : LogBatch) → TouchesOnly d disk disk' (log_files flushing.number) → wal.last < b.number → HasBatches d flushing.number (named_snapshot manifest).flushed new disk' (batches ++ b ∷ [])
      → HasFlushing d manifest new flushing disk' (batches ++ b ∷ []) lists
  flushing_more new disk' b touches next log = record {
    parts = record {
      tells = has.parts.tells;
      named = manifest_kept d flushing.number manifest disk has.parts.named disk' (log_files flushing.number) touches (λ file own touched. manifest_log flushing.number file own touched);
      log = log;
      have = have_apart d flushing.number disk disk' (named_snapshot manifest).files flushing.files.items lists (log_files flushing.number) touches (λ file own touched. named_log flushing.number file (named_snapshot manifest).files has.parts.named.right.files own touched) has.parts.have;
    };
    flush = under_more d flushing.number (named_snapshot manifest) batches disk disk' flushing.files.items lists flushing.flush b (let l = has.parts.log.last in omega arith) touches has.parts.named.right.files has.parts.have has.flush;
  }

-- what is under way
pub under_is : {D : Type 0} (d : Ghosts D) (manifest : Manifest) (wal : Wal) (flushing : Flushing) (disk : D) (batches : List LogBatch) (lists : List (List CellData)) (under : Option Job) → HasFlushing d manifest wal flushing disk batches lists → flushing.flush ≡ under
    → IsJobUnderWay d flushing.number (named_snapshot manifest) batches flushing.files.items lists disk under
under_is d manifest wal flushing disk batches lists under has is = subst (λ (f : Option Job). IsJobUnderWay d flushing.number (named_snapshot manifest) batches flushing.files.items lists disk f) is has.flush

-- a flush that is at a stage
pub begun_at : {D : Type 0} (d : Ghosts D) (number : ℕ) (named : SnapshotData) (batches : List LogBatch) (disk : D) (frozen : FrozenData) (local : ℕ) (before s : Stage) → IsBegun d number named batches disk (record { frozen = frozen; local = local; stage = before }) → before ≡ s
    → IsBegun d number named batches disk (record { frozen = frozen; local = local; stage = s })
begun_at d number named batches disk frozen local before s is b = subst (λ (x : Stage). IsBegun d number named batches disk (record { frozen = frozen; local = local; stage = x })) b is

-- what goes on behind a step
abbrev pub GoesOn : {D : Type 0} → Ghosts D → (manifest after : Manifest) → Wal → Flushing → D → List LogBatch → List (List CellData) → Type 0
GoesOn d manifest after wal flushing disk batches lists = (more : List (List CellData)) × HasFlushing d after wal flushing disk batches more × (cells_over (named_snapshot after).flushed batches more ≡ cells_over (named_snapshot manifest).flushed batches lists)

-- ---- a file is named

module _ {D : Type 0} (d : Ghosts D) (region : ℕ) (manifest : Manifest) (disk : D) (batches : List LogBatch) (frozen : FrozenData) (local len : ℕ) (file : RegionFile)
    (begun : IsBegun d region (named_snapshot manifest) batches disk (record { frozen = frozen; local = local; stage = stage.Measured file len })) (after : SnapshotData) (after-is : after ≡ named_next (named_snapshot manifest) frozen.upto local len file) where
  pub flushed_by : IsFlushed d region disk (named_snapshot manifest) after batches file frozen.cells
  flushed_by =
      let made = begun.stage.1 in
      let some = some_batch (named_snapshot manifest).flushed frozen.upto batches begun.later begun.frozen.within in
      record {
        entry = record { local = local; len = len; cells = file.index.cells };
        before = ap (λ (n : SnapshotData). n.files) after-is;
        has = record { is = begun.stage.0; blocks = made.blocks; has = made.has; cells = sym made.all };
        later = (let l = begun.later in let e = ap (λ (n : SnapshotData). n.flushed) after-is in omega arith);
        some = some.0;
        more = some.1.0;
        batches_are = some.1.1;
        cells = begun.frozen.cells ∙ ap (λ (n : ℕ). settle (later_first (batches_between (named_snapshot manifest).flushed n batches))) (sym (ap (λ (n : SnapshotData). n.flushed) after-is));
      }

  pub raised_by : IsRaised (named_snapshot manifest).flushed after.flushed batches frozen.count frozen.bytes
  raised_by =
      let e : after.flushed ≡ frozen.upto = ap (λ (n : SnapshotData). n.flushed) after-is in
      let le : (named_snapshot manifest).flushed ≤ frozen.upto = (let l = begun.later in omega arith) in
      record {
        later = (let l = begun.later in omega arith);
        counted = cells_freed (named_snapshot manifest).flushed batches frozen le begun.frozen ∙ ap (λ (n : ℕ). frozen.count + cell_count (batches_above n batches)) (sym e);
        weighed = bytes_freed (named_snapshot manifest).flushed batches frozen le begun.frozen ∙ ap (λ (n : ℕ). frozen.bytes + batch_byte_count (batches_above n batches)) (sym e);
      }

  pub raised_as : (cells bytes : ℕ) → cells ≡ frozen.count → bytes ≡ frozen.bytes → IsRaised (named_snapshot manifest).flushed after.flushed batches cells bytes
  raised_as cells bytes a b = record {
    later = raised_by.later;
    counted = raised_by.counted ∙ ap (λ (n : ℕ). n + cell_count (batches_above after.flushed batches)) (sym a);
    weighed = raised_by.weighed ∙ ap (λ (n : ℕ). n + batch_byte_count (batches_above after.flushed batches)) (sym b);
  }

  -- with the file the same is read
  pub same_by : AreRisingBatches batches → (lists : List (List CellData)) → cells_over after.flushed batches (frozen.cells ∷ lists) ≡ cells_over (named_snapshot manifest).flushed batches lists
  same_by rising lists = flushed_same (named_snapshot manifest).flushed after.flushed batches lists frozen.cells flushed_by.later rising flushed_by.cells

-- naming a file goes on, unless a write failed
pub named_goes : {D : Type 0} (d : Ghosts D) (manifest after : Manifest) (wal : Wal) (flushing : Flushing) (disk : D) (batches : List LogBatch) (lists others : List (List CellData)) (r : Result FlushStep FlushFault)
    → OnOk r (HasFlushing d after wal flushing disk batches others) → OnErr r (r ≢ Err WriteFault → (after ≡ manifest) × HasFlushing d after wal flushing disk batches lists)
    → OnOk r (cells_over (named_snapshot after).flushed batches others ≡ cells_over (named_snapshot manifest).flushed batches lists) → r ≢ Err WriteFault → GoesOn d manifest after wal flushing disk batches lists
named_goes d manifest after wal flushing disk batches lists others (Ok x) done kept same other = (others, done, same)
named_goes d manifest after wal flushing disk batches lists others (Err f) done kept same other = (lists, (kept other).1, ap (λ (m : Manifest). cells_over (named_snapshot m).flushed batches lists) (kept other).0)

-- ---- what a step answers

-- what is told of an answer that is Ok
pub ok_told : (r : Result FlushStep FlushFault) (x s : FlushStep) (Q R : Type 0) → IfOk r (λ step. (step ≡ x) × Q × R) → r ≡ Ok s → (s ≡ x) × Q × R
ok_told (Ok y) x s Q R ok e = (let same : y ≡ s = cc in (sym same ∙ ok.0, ok.1, ok.2))
ok_told (Err f) x s Q R ok e = cc

pub ok_then : (r : Result FlushStep FlushFault) (x : FlushStep) (Q R S : Type 0) → IfOk r (λ step. (step ≡ x) × Q × R) → (R → S) → OnOk r S
ok_then (Ok y) x Q R S ok to = to ok.2
ok_then (Err f) x Q R S ok to = tt

-- what holds of an answer that is Ok
pub ok_at : (r : Result FlushStep FlushFault) (s : FlushStep) (P : Type 0) → OnOk r P → r ≡ Ok s → P
ok_at (Ok y) s P is e = is
ok_at (Err f) s P is e = cc

-- there are more steps
pub more_only : (r : Result FlushStep FlushFault) (s : FlushStep) → OnOk r (r ≡ Ok step.More) → r ≡ Ok s → s ≡ step.More
more_only (Ok y) s is e = cc
more_only (Err f) s is e = cc
