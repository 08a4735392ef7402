-- How a compaction goes on.
use Rattle.std.proofs.Common.{◌≡◌, ℕ, zero, suc, ◌+◌, ◌≤◌, ◌⊎◌, inl, inr, Option, Some, None, List, [], ◌∷◌, ◌++◌, length, map, take, drop, refl, sym, ap, subst, ◌∙◌, arith}
use Rattle.std.specs.List.{AllByRecursion}
use Rattle.std.specs.Prelude.{◌≢◌, IfOk, IsErr, IsTrue, OnErr, OnOk, Result, Ok, Err}
use Rattle.std.proofs.lemmas.List.{take_all}
use Rattle.px_outside.specs.OnDisk.{LeavesOnly, TouchesOnly}
use Rattle.px_outside.specs.declared.disk.Disk.{Ghosts}
use Rattle.px_cells.specs.CellData.{CellData}
use Rattle.px_cells.specs.Order.{GoesWith}
use Rattle.px_cellbytes.specs.Reading.{IsBare, IsInRange, IsWritten}
use Rattle.px_cellbytes.specs.Spelling.{IsShortEnough}
use Rattle.px_file.specs.Files.{HasBlocks}
use Rattle.px_file.specs.Format.{cells_in}
use Rattle.px_file.specs.declared.region_file.RegionFile.{RegionFile}
use Rattle.px_merge.specs.Kept.{IsKeptList}
use Rattle.px_merge.specs.Merged.{joined}
use Rattle.px_merge.specs.Settle.{settle}
use Rattle.px_merge.proofs.Settling.{settle_placed}
use Rattle.px_wal.specs.Batches.{AreOverHorizon, LogBatch, batches_above, cells_over}
use Rattle.px_wal.specs.Files.{file_of}
use Rattle.px_wal.specs.Manifest.{named_snapshot}
use Rattle.px_wal.specs.Snapshot.{FileData, SnapshotData}
use Rattle.px_wal.specs.declared.manifest.Manifest.{Manifest}
use Rattle.px_wal.specs.declared.wal.Wal.{Wal}
use Rattle.px_files.specs.Files.{HaveFiles}
use Rattle.px_naming.specs.Naming.{IsCompactedFile, RegionReads}
use Rattle.px_naming.proofs.Named.{merged_same}
use Rattle.px_forgetting.specs.Forgetting.{IsForgotten}
use Rattle.px_forgetting.proofs.Horizons.{kept_written}
use Rattle.px_frozen.proofs.Fitting.{settled_all}
use Rattle.px_frozen.specs.FrozenData.{FrozenData}
use Rattle.px_loading.specs.Gathering.{HasGathered, HaveBlocks, IsFresh}
use Rattle.px_loading.specs.declared.gathering.Gathering.{Gathering}
use Rattle.px_loading.proofs.Gathered.{gathered_none}
use Rattle.px_flushing.specs.Flushing.{Goes, HasFlushing, HasForgot, HasKept, HasOnly, IsGathering, IsMerging, IsRegionRead, ReadsFrom, forgot_next, horizon_after, measured_of, merged_next}
use Rattle.px_flushing.specs.declared.fault.FlushFault.{FlushFault}
use Rattle.px_flushing.specs.declared.fault.FlushFault.TheVariants.{WriteFault}
use Rattle.px_flushing.specs.declared.flushing.FlushStep.{FlushStep}
use Rattle.px_flushing.specs.declared.flushing.FlushStep.TheVariants as step
use Rattle.px_flushing.specs.declared.flushing.Flushing.{Flushing}
use Rattle.px_flushing.specs.Stage.{IsStage}
use Rattle.px_flushing.specs.declared.stage.Stage.{Stage}
use Rattle.px_flushing.specs.declared.stage.Stage.TheVariants as stage

-- ---- a compaction is begun

-- the blocks of the newest files
pub record HasNewest {D : Type 0} (d : Ghosts D) (disk : D) (n : ℕ) (files : List RegionFile) (lists : List (List CellData)) : Type 0 where
  pub blocks : List (List (List CellData))
  pub are : take n lists ≡ map cells_in blocks
  pub have : HaveBlocks d disk (take n files) blocks

newest : {D : Type 0} (d : Ghosts D) (region : ℕ) (disk : D) (n : ℕ) (named : List FileData) (files : List RegionFile) (lists : List (List CellData)) → HaveFiles d region disk named files lists → HasNewest d disk n files lists
newest d region disk zero named files lists have = record { blocks = []; are = refl; have = tt }
newest d region disk (suc n) [] [] [] have = record { blocks = []; are = refl; have = tt }
newest d region disk (suc n) [] [] (l ∷ lists) have = absurd have
newest d region disk (suc n) [] (o ∷ files) lists have = absurd have
newest d region disk (suc n) (f ∷ named) [] lists have = absurd have
newest d region disk (suc n) (f ∷ named) (o ∷ files) [] have = absurd have
newest d region disk (suc n) (f ∷ named) (o ∷ files) (l ∷ lists) have =
    let more = newest d region disk n named files lists have.1 in
    record {
      blocks = have.0.blocks ∷ more.blocks;
      are = ap (λ (x : List CellData). x ∷ take n lists) have.0.cells ∙ ap (λ (x : List (List CellData)). cells_in have.0.blocks ∷ x) more.are;
      have = (have.0.has, more.have);
    }

take_short : {A : Type 0} (n : ℕ) (xs : List A) → length (take n xs) ≤ n
take_short zero xs = omega arith
take_short (suc n) [] = omega arith
take_short (suc n) (x ∷ xs) = (let l = take_short n xs in omega arith)

pub gathering_none : {D : Type 0} (d : Ghosts D) (region : ℕ) (disk : D) (count : ℕ) (o : Option ℕ) (g : Gathering) (named : List FileData) (files : List RegionFile) (lists : List (List CellData)) → IsTrue d.tells → IsFresh count g → count ≤ length files → HaveFiles d region disk named files lists
    → IsGathering d files lists disk (record { count = count; horizon = o; gathering = g })
gathering_none d region disk count o g named files lists tells fresh within have =
    let n = newest d region disk count named files lists have in
    record {
      blocks = n.blocks;
      within = within;
      lists_are = n.are;
      has = gathered_none d count g disk (take count files) n.blocks tells fresh (take_short count files) n.have;
    }

-- ---- its cells are gathered

all_append : (P : CellData → Type 0) (xs ys : List CellData) → AllByRecursion P xs → AllByRecursion P ys → AllByRecursion P (xs ++ ys)
all_append P [] ys a b = b
all_append P (x ∷ xs) ys a b = (a.0, all_append P xs ys a.1 b)

-- all cells of blocks have what those of each file have
all_blocks : {D : Type 0} (d : Ghosts D) (P : CellData → Type 0) (disk : D) (files : List RegionFile) (blocks : List (List (List CellData))) → ((o : RegionFile) (b : List (List CellData)) → HasBlocks d o disk b → AllByRecursion P (cells_in b))
    → HaveBlocks d disk files blocks → AllByRecursion P (joined (map cells_in blocks))
all_blocks d P disk [] [] each have = tt
all_blocks d P disk [] (b ∷ blocks) each have = absurd have
all_blocks d P disk (o ∷ files) [] each have = absurd have
all_blocks d P disk (o ∷ files) (b ∷ blocks) each have = all_append P (cells_in b) (joined (map cells_in blocks)) (each o b have.0) (all_blocks d P disk files blocks each have.1)

gathered_written : {D : Type 0} (d : Ghosts D) (disk : D) (files : List RegionFile) (blocks : List (List (List CellData))) → HaveBlocks d disk files blocks → IsWritten (settle (joined (map cells_in blocks)))
gathered_written d disk files blocks have =
    let all = joined (map cells_in blocks) in
    let goes = all_blocks d GoesWith disk files blocks (λ o b has. has.right.written.listed.placed) have in
    let bare = all_blocks d IsBare disk files blocks (λ o b has. has.right.written.bare) have in
    let short = all_blocks d IsShortEnough disk files blocks (λ o b has. has.right.written.short) have in
    let ranged = all_blocks d IsInRange disk files blocks (λ o b has. has.right.written.ranged) have in
    record {
      listed = settle_placed all goes;
      bare = settled_all IsBare all bare;
      short = settled_all IsShortEnough all short;
      ranged = settled_all IsInRange all ranged;
    }

module _ {D : Type 0} (d : Ghosts D) (disk : D) (files : List RegionFile) (lists : List (List CellData)) (count : ℕ) (o : Option ℕ) (g : Gathering) (gathering : IsGathering d files lists disk (record { count = count; horizon = o; gathering = g })) where
  -- all are
  module _ (new : Gathering) (disk' : D) (has : HasGathered d new disk' (take count files) gathering.blocks) (none : new.left ≡ 0) where
    pub gathered_all : new.store.cells ≡ settle (joined (take count lists))
    gathered_all = has.store ∙ ap (λ (n : ℕ). settle (joined (map cells_in (drop n gathering.blocks)))) none ∙ ap (λ (l : List (List CellData)). settle (joined l)) (sym gathering.lists_are)

    pub gathered_fit : IsWritten new.store.cells
    gathered_fit = subst IsWritten (sym (has.store ∙ ap (λ (n : ℕ). settle (joined (map cells_in (drop n gathering.blocks)))) none)) (gathered_written d disk' (take count files) gathering.blocks has.have)

  pub gathering_more : (new : Gathering) (disk' : D) → HasGathered d new disk' (take count files) gathering.blocks → IsGathering d files lists disk' (record { count = count; horizon = o; gathering = new })
  gathering_more new disk' has = record { blocks = gathering.blocks; within = gathering.within; lists_are = gathering.lists_are; has = has }

-- ---- a step of its file is made

module _ {D : Type 0} (d : Ghosts D) (number : ℕ) (named : SnapshotData) (old new : D) (lists : List (List CellData)) (count : ℕ) (o : Option ℕ) (frozen : FrozenData) (local file : ℕ) (cells : List CellData) (before after : Stage)
    (merging : IsMerging d number named lists old (record { count = count; horizon = o; frozen = frozen; local = local; stage = before })) (file-is : file ≡ file_of number local) (cells-are : cells ≡ frozen.cells)
    (touches : IsStage d file old cells before → TouchesOnly d old new (λ touched. touched ≡ file)) (stands : IsStage d file old cells before → IsStage d file new cells after) where
  was : IsStage d file old cells before
  was = subst (λ (f : ℕ). IsStage d f old cells before) (sym file-is) (subst (λ (l : List CellData). IsStage d (file_of number local) old l before) (sym cells-are) merging.stage)

  pub wrote_merging : IsMerging d number named lists new (record { count = count; horizon = o; frozen = frozen; local = local; stage = after })
  wrote_merging = record {
    cells = merging.cells;
    free = merging.free;
    stage = subst (λ (l : List CellData). IsStage d (file_of number local) new l after) cells-are (subst (λ (f : ℕ). IsStage d f new cells after) file-is (stands was));
  }

  pub merging_touches : TouchesOnly d old new (λ touched. touched ≡ file_of number local)
  merging_touches = subst (λ (f : ℕ). TouchesOnly d old new (λ touched. touched ≡ f)) file-is (touches was)

-- a compaction that is at a stage
pub merging_at : {D : Type 0} (d : Ghosts D) (number : ℕ) (named : SnapshotData) (lists : List (List CellData)) (disk : D) (count : ℕ) (o : Option ℕ) (frozen : FrozenData) (local : ℕ) (before s : Stage) → IsMerging d number named lists disk (record { count = count; horizon = o; frozen = frozen; local = local; stage = before })
    → before ≡ s → IsMerging d number named lists disk (record { count = count; horizon = o; frozen = frozen; local = local; stage = s })
merging_at d number named lists disk count o frozen local before s is b = subst (λ (x : Stage). IsMerging d number named lists disk (record { count = count; horizon = o; frozen = frozen; local = local; stage = x })) b is

-- ---- its file is named

abbrev files_none : List RegionFile
files_none = []

-- the first of some files goes
pub drop_next : (n : ℕ) (files rest more : List RegionFile) → rest ≡ drop n files → more ≡ drop 1 rest → more ≡ drop (n + 1) files
drop_next n files rest more a b = b ∙ ap (drop 1) a ∙ one n files
  where
    one : (n : ℕ) (files : List RegionFile) → drop 1 (drop n files) ≡ drop (n + 1) files
    one zero files = refl
    one (suc n) [] = (let e : suc n + 1 ≡ suc (n + 1) = omega arith in sym (ap (λ (k : ℕ). drop k files_none) e))
    one (suc n) (f ∷ files) = (let e : suc n + 1 ≡ suc (n + 1) = omega arith in one n files ∙ sym (ap (λ (k : ℕ). drop k (f ∷ files)) e))

module _ {D : Type 0} (d : Ghosts D) (region : ℕ) (manifest : Manifest) (disk : D) (batches : List LogBatch) (lists : List (List CellData)) (count : ℕ) (frozen : FrozenData) (local len : ℕ) (file : RegionFile)
    (merging : IsMerging d region (named_snapshot manifest) lists disk (record { count = count; horizon = None; frozen = frozen; local = local; stage = stage.Measured file len })) (after : SnapshotData) (after-is : after ≡ merged_next (named_snapshot manifest) count local len file) where
  pub compacted_by : IsCompactedFile d region disk (named_snapshot manifest) after lists count file frozen.cells
  compacted_by =
      let made = merging.stage.1 in
      record {
        entry = record { local = local; len = len; cells = file.index.cells };
        in_place = ap (λ (n : SnapshotData). n.files) after-is;
        has = record { is = merging.stage.0; blocks = made.blocks; has = made.has; cells = sym made.all };
        same = ap (λ (n : SnapshotData). n.flushed) after-is;
        cells = merging.cells;
      }

  -- with the file the same is read
  pub merged_by : cells_over after.flushed batches (frozen.cells ∷ drop count lists) ≡ cells_over (named_snapshot manifest).flushed batches lists
  merged_by = merged_same d region disk (named_snapshot manifest) after batches lists count file frozen.cells compacted_by

-- ---- it keeps what a horizon does

-- there are as many lists as files
pub have_as_many : {D : Type 0} (d : Ghosts D) (region : ℕ) (disk : D) (named : List FileData) (files : List RegionFile) (lists : List (List CellData)) → HaveFiles d region disk named files lists → length lists ≡ length files
have_as_many d region disk [] [] [] have = refl
have_as_many d region disk [] [] (l ∷ lists) have = absurd have
have_as_many d region disk [] (o ∷ files) lists have = absurd have
have_as_many d region disk (f ∷ named) [] lists have = absurd have
have_as_many d region disk (f ∷ named) (o ∷ files) [] have = absurd have
have_as_many d region disk (f ∷ named) (o ∷ files) (l ∷ lists) have = (let e = have_as_many d region disk named files lists have.1 in omega arith)

-- behind all files there is none
pub none_behind : (count : ℕ) (files all : List RegionFile) (file : RegionFile) → count ≡ length files → all ≡ file ∷ drop count files → all ≡ file ∷ []
none_behind count files all file long is = is ∙ ap (λ (l : List RegionFile). file ∷ l) (past count files (omega arith))
  where
    past : (n : ℕ) (fs : List RegionFile) → length fs ≤ n → drop n fs ≡ []
    past zero [] le = refl
    past zero (f ∷ fs) le = absurd (omega arith)
    past (suc n) [] le = refl
    past (suc n) (f ∷ fs) le = past n fs (omega arith)

module _ {D : Type 0} (d : Ghosts D) (region : ℕ) (manifest : Manifest) (disk : D) (batches : List LogBatch) (lists : List (List CellData)) (count h : ℕ) (frozen : FrozenData) (local len : ℕ) (file : RegionFile)
    (merging : IsMerging d region (named_snapshot manifest) lists disk (record { count = count; horizon = Some h; frozen = frozen; local = local; stage = stage.Measured file len })) (over : AreOverHorizon h (batches_above (named_snapshot manifest).flushed batches)) (all : length lists ≤ count)
    (after : SnapshotData) (after-is : after ≡ forgot_next (named_snapshot manifest) h local len file) where
  pub forgotten_by : IsForgotten d region disk (named_snapshot manifest) after batches lists file frozen.cells
  forgotten_by =
      let made = merging.stage.1 in
      let at : h ≡ after.horizon = sym (ap (λ (n : SnapshotData). n.horizon) after-is) in
      record {
        entry = record { local = local; len = len; cells = file.index.cells };
        alone = ap (λ (n : SnapshotData). n.files) after-is;
        has = record { is = merging.stage.0; blocks = made.blocks; has = made.has; cells = sym made.all };
        same = ap (λ (n : SnapshotData). n.flushed) after-is;
        kept = subst (λ (k : ℕ). IsKeptList (settle (joined lists)) k frozen.cells) at (subst (λ (l : List (List CellData)). IsKeptList (settle (joined l)) h frozen.cells) (take_all count lists all) merging.cells);
        over = subst (λ (k : ℕ). AreOverHorizon k (batches_above (named_snapshot manifest).flushed batches)) at over;
      }

-- of its name a stop leaves what was named and read, or what the horizon keeps, under it
pub kept_leaves : {D : Type 0} (d : Ghosts D) (region : ℕ) (manifest : Manifest) (old new : D) (after : SnapshotData) (h : ℕ) (cells kept : List CellData) → after.horizon ≡ h → IsKeptList cells after.horizon kept
    → LeavesOnly d old new (λ moment image. RegionReads region image (named_snapshot manifest) cells ⊎ RegionReads region image after kept) → LeavesOnly d old new (λ moment image. ReadsFrom (Some h) region image (named_snapshot manifest).horizon cells)
kept_leaves d region manifest old new after h cells kept at keeps leaves = record {
  each = λ moment image since left. elim (leaves.each moment image since left) [
    | inl reads ↦ inl (record { named = named_snapshot manifest; reads = reads; horizon_is = refl })
    | inr reads ↦ inr (record { kept = kept; keeps = subst (λ (k : ℕ). IsKeptList cells k kept) at keeps; read = record { named = after; reads = reads; horizon_is = at } })
  ];
}

-- what is read as before is so of any compaction
pub reads_from : (o : Option ℕ) {D : Type 0} (d : Ghosts D) (region horizon : ℕ) (old new : D) (cells : List CellData) → LeavesOnly d old new (λ moment image. IsRegionRead region image horizon cells) → LeavesOnly d old new (λ moment image. ReadsFrom o region image horizon cells)
reads_from None d region horizon old new cells leaves = leaves
reads_from (Some h) d region horizon old new cells leaves = record { each = λ moment image since left. inl (leaves.each moment image since left) }

-- ---- what a step goes on with

pub goes_same : (r : Result FlushStep FlushFault) (old new : List CellData) → ((h : ℕ) → r ≢ Ok (step.Forgot h)) → new ≡ old → Goes r old new
goes_same (Ok step.More) old new none e = e
goes_same (Ok (step.Named cells bytes)) old new none e = e
goes_same (Ok step.Merged) old new none e = e
goes_same (Ok (step.Forgot h)) old new none e = absurd (none h refl)
goes_same (Ok step.Done) old new none e = e
goes_same (Err f) old new none e = e

pub forgot_none : (r : Result FlushStep FlushFault) (flushing : Flushing) (lists : List (List CellData)) → ((h : ℕ) → r ≢ Ok (step.Forgot h)) → HasForgot r flushing lists
forgot_none (Ok step.More) flushing lists none = tt
forgot_none (Ok (step.Named cells bytes)) flushing lists none = tt
forgot_none (Ok step.Merged) flushing lists none = tt
forgot_none (Ok (step.Forgot h)) flushing lists none = absurd (none h refl)
forgot_none (Ok step.Done) flushing lists none = tt
forgot_none (Err f) flushing lists none = tt

pub horizon_same : (r : Result FlushStep FlushFault) (before after : ℕ) → ((h : ℕ) → r ≢ Ok (step.Forgot h)) → after ≡ before → after ≡ horizon_after r before
horizon_same (Ok step.More) before after none e = e
horizon_same (Ok (step.Named cells bytes)) before after none e = e
horizon_same (Ok step.Merged) before after none e = e
horizon_same (Ok (step.Forgot h)) before after none e = absurd (none h refl)
horizon_same (Ok step.Done) before after none e = e
horizon_same (Err f) before after none e = e

-- an answer that is this one where it is Ok is no other
pub only_this : (r : Result FlushStep FlushFault) (x s : FlushStep) (Q R : Type 0) → IfOk r (λ y. (y ≡ x) × Q × R) → r ≡ Ok s → s ≡ x
only_this (Ok y) x s Q R ok e = (let same : y ≡ s = cc in sym same ∙ ok.0)
only_this (Err f) x s Q R ok e = cc

-- all that goes on, with what is read
abbrev pub GoesBy : {D : Type 0} → Ghosts D → (r : Result FlushStep FlushFault) → (manifest after : Manifest) → Wal → Flushing → D → List LogBatch → List (List CellData) → Type 0
GoesBy d r manifest after wal flushing disk batches lists =
    (more : List (List CellData)) × HasFlushing d after wal flushing disk batches more × Goes r (cells_over (named_snapshot manifest).flushed batches lists) (cells_over (named_snapshot after).flushed batches more) × HasForgot r flushing more

-- naming a file that keeps what a horizon does goes on, unless a write failed
pub kept_goes : {D : Type 0} (d : Ghosts D) (manifest after : Manifest) (wal : Wal) (flushing : Flushing) (disk : D) (batches : List LogBatch) (lists : List (List CellData)) (frozen : FrozenData) (h : ℕ) (Q R : Type 0) (r : Result FlushStep FlushFault)
    → OnOk r (HasFlushing d after wal flushing disk batches (frozen.cells ∷ [])) → OnErr r (r ≢ Err WriteFault → (after ≡ manifest) × HasFlushing d after wal flushing disk batches lists) → IfOk r (λ x. (x ≡ step.Forgot h) × Q × R)
    → OnOk r (IsKeptList (cells_over (named_snapshot manifest).flushed batches lists) h (cells_over (named_snapshot after).flushed batches (frozen.cells ∷ []))) → OnOk r (flushing.kept ≡ Some frozen) → r ≢ Err WriteFault → GoesBy d r manifest after wal flushing disk batches lists
kept_goes d manifest after wal flushing disk batches lists frozen h Q R (Ok x) done kept is whole held other = (
  frozen.cells ∷ [],
  done,
  subst (λ (y : FlushStep). Goes (Ok y) (cells_over (named_snapshot manifest).flushed batches lists) (cells_over (named_snapshot after).flushed batches (frozen.cells ∷ []))) (sym is.0) whole,
  subst (λ (y : FlushStep). HasForgot (Ok y) flushing (frozen.cells ∷ [])) (sym is.0) (subst (λ (k : Option FrozenData). HasOnly k (frozen.cells ∷ [])) (sym held) refl),
)
kept_goes d manifest after wal flushing disk batches lists frozen h Q R (Err f) done kept is whole held other = (lists, (kept other).1, ap (λ (m : Manifest). cells_over (named_snapshot m).flushed batches lists) (kept other).0, tt)

-- one that goes on as before does
pub goes_before : {D : Type 0} (d : Ghosts D) (r : Result FlushStep FlushFault) (manifest after : Manifest) (wal : Wal) (flushing : Flushing) (disk : D) (batches : List LogBatch) (lists : List (List CellData)) → ((h : ℕ) → r ≢ Ok (step.Forgot h))
    → ((more : List (List CellData)) × HasFlushing d after wal flushing disk batches more × (cells_over (named_snapshot after).flushed batches more ≡ cells_over (named_snapshot manifest).flushed batches lists)) → GoesBy d r manifest after wal flushing disk batches lists
goes_before d r manifest after wal flushing disk batches lists none z = (z.0, z.1, goes_same r _ _ none z.2, forgot_none r flushing z.0 none)

-- what is named after it
pub kept_named : (before after : SnapshotData) (h local len : ℕ) (file : RegionFile) (Q : Type 0) (r : Result FlushStep FlushFault) → IfOk r (λ x. (x ≡ step.Forgot h) × Q × (after ≡ forgot_next before h local len file)) → (IsErr r → after ≡ before)
    → (after.horizon ≡ horizon_after r before.horizon) × (after.flushed ≡ before.flushed)
kept_named before after h local len file Q (Ok x) is still = (
  ap (λ (n : SnapshotData). n.horizon) is.2 ∙ sym (ap (λ (y : FlushStep). horizon_after (Ok y) before.horizon) is.0),
  ap (λ (n : SnapshotData). n.flushed) is.2,
)
kept_named before after h local len file Q (Err f) is still = (let e = still refl in (ap (λ (n : SnapshotData). n.horizon) e, ap (λ (n : SnapshotData). n.flushed) e))

pub kept_still : (before after : SnapshotData) (h : ℕ) (Q R : Type 0) (r : Result FlushStep FlushFault) → IfOk r (λ x. (x ≡ step.Forgot h) × Q × R) → (IsErr r → after ≡ before) → ((k : ℕ) → r ≢ Ok (step.Forgot k)) → after ≡ before
kept_still before after h Q R (Ok x) is still none = absurd (none h (ap (λ (y : FlushStep). Ok y) is.0))
kept_still before after h Q R (Err f) is still none = still refl

-- the file of a compaction that forgets is measured
pub measured_then : (o : Option ℕ) (h : ℕ) (s : Stage) (file : RegionFile) (len : ℕ) (frozen : FrozenData) → o ≡ Some h → s ≡ stage.Measured file len → measured_of o s frozen ≡ Some frozen
measured_then o h s file len frozen some is = ap (λ (x : Option ℕ). measured_of x s frozen) some ∙ ap (λ (x : Stage). measured_of (Some h) x frozen) is

-- of a compaction whose horizon is known
pub merging_with : {D : Type 0} (d : Ghosts D) (number : ℕ) (named : SnapshotData) (lists : List (List CellData)) (disk : D) (count : ℕ) (o p : Option ℕ) (frozen : FrozenData) (local : ℕ) (s : Stage) → o ≡ p → IsMerging d number named lists disk (record { count = count; horizon = o; frozen = frozen; local = local; stage = s })
    → IsMerging d number named lists disk (record { count = count; horizon = p; frozen = frozen; local = local; stage = s })
merging_with d number named lists disk count o p frozen local s is merging = subst (λ (x : Option ℕ). IsMerging d number named lists disk (record { count = count; horizon = x; frozen = frozen; local = local; stage = s })) is merging

-- what goes to a file of cells that can be written can be
pub has_written : (o : Option ℕ) (cells kept : List CellData) → HasKept o cells kept → IsWritten cells → IsWritten kept
has_written None cells kept has written = subst IsWritten (sym has) written
has_written (Some h) cells kept has written = kept_written cells kept h written has
