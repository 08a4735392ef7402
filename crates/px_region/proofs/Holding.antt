-- What a region has.
use Rattle.std.proofs.Common.{◌≡◌, ◌⊎◌, ℕ, ◌+◌, ◌*◌, ◌<◌, ◌≤◌, List, [], ◌∷◌, ◌++◌, Option, None, Some, length, take, get_or, refl, sym, ap, subst, ◌∙◌, arith, inl, inr}
use Rattle.std.proofs.lemmas.List.{length-append, take_more}
use Rattle.px_outside.specs.Disk.{Image, IsLeftBy}
use Rattle.px_outside.specs.OnDisk.{LeavesOnly, TouchesOnly}
use Rattle.px_outside.proofs.Moments.{touches_more, touches_none}
use Rattle.px_outside.specs.Standing.{StandsIn}
use Rattle.px_outside.proofs.Standing.{stands_left}
use Rattle.px_outside.specs.declared.disk.Disk.{Ghosts}
use Rattle.px_cells.specs.CellData.{CellData}
use Rattle.px_cells.specs.Order.{IsSettled}
use Rattle.px_cellbytes.specs.Spelling.{all_bytes, cell_bytes}
use Rattle.px_cellbytes.proofs.Bytes.{all_bytes-push, length-cell_bytes}
use Rattle.px_merge.specs.Kept.{IsKeptList}
use Rattle.px_merge.specs.Settle.{settle}
use Rattle.px_merge.proofs.Settling.{settled_is}
use Rattle.px_wal.specs.Batches.{IsRest, LogBatch, batches_above, cells_over}
use Rattle.px_wal.specs.Files.{HasFile}
use Rattle.px_wal.specs.Form.{batch_byte_count, cell_count}
use Rattle.px_wal.specs.Snapshot.{SnapshotData}
use Rattle.px_wal.specs.Manifest.{HasSnapshot, SnapshotStands, manifest_files, named_snapshot}
use Rattle.px_wal.specs.Wal.{HasBatches, LogStands, log_files}
use Rattle.px_wal.specs.declared.manifest.Manifest.{Manifest}
use Rattle.px_wal.specs.declared.wal.Wal.{Wal}
use Rattle.px_wal.proofs.Cuts.{written_last}
use Rattle.px_wal.proofs.Numbers.{above_more, bytes_more, cells_more}
use Rattle.px_wal.proofs.Parting.{rest_above, rest_cells}
use Rattle.px_flushing.specs.Flushing.{HasFlushing, IsRegionRead, ReadsFrom}
use Rattle.px_flushing.specs.declared.flushing.Flushing.{Flushing}
use Rattle.px_flushing.proofs.Going.{flushing_kept, flushing_more, flushing_stands}
use Rattle.px_flushing.proofs.Logs as flush
use Rattle.px_region.specs.Region.{RegionData, RegionHolds, RegionStands, data_of, with_batch}
use Rattle.px_region.specs.Forgetting.{StandsFrom}
use Rattle.px_region.specs.Promise.{IsAlike}
use Rattle.px_region.specs.Stamps.{HaveLeast}
use Rattle.px_region.specs.declared.stamps.LeastStamps.{LeastStamps}
use Rattle.px_region.specs.declared.region.Region.{Region}

-- ---- the files of a region

pub log_own : (number file : ℕ) → log_files number file → HasFile number file
log_own number file (inl is) = record { local = 0; is = is; short = omega arith }
log_own number file (inr is) = record { local = 1; is = is; short = omega arith }

pub manifest_own : (number file : ℕ) → manifest_files number file → HasFile number file
manifest_own number file (inl is) = record { local = 2; is = is; short = omega arith }
manifest_own number file (inr is) = record { local = 3; is = is; short = omega arith }

-- regions have no file together
pub files_apart : (m n file : ℕ) → (m ≡ n → ⊥) → HasFile m file → HasFile n file → ⊥
files_apart m n file other a b = other (let i = a.is in let j = b.is in let k = a.short in let l = b.short in omega arith)

-- ---- a region by its fields

pub record HoldsBy {D : Type 0} (d : Ghosts D) (number : ℕ) (manifest : Manifest) (wal : Wal) (flushing : Flushing) (horizon : ℕ) (store : List CellData) (cells bytes : ℕ) (stamps : LeastStamps) (disk : D) (s : RegionData) : Type 0 where
  pub batches : List LogBatch
  pub lists : List (List CellData)
  pub has : HasFlushing d manifest wal flushing disk batches lists
  pub own : flushing.number ≡ number
  pub store_is : store ≡ cells_over (named_snapshot manifest).flushed batches lists
  pub named : horizon ≡ (named_snapshot manifest).horizon
  pub cells_are : s.cells ≡ store
  pub horizon_is : s.horizon ≡ horizon
  pub counted : cells ≡ cell_count (batches_above (named_snapshot manifest).flushed batches)
  pub weighed : bytes ≡ batch_byte_count (batches_above (named_snapshot manifest).flushed batches)
  pub least : HaveLeast stamps (batches_above (named_snapshot manifest).flushed batches)

pub by_fields : {D : Type 0} (d : Ghosts D) (number : ℕ) (manifest : Manifest) (wal : Wal) (flushing : Flushing) (horizon : ℕ) (store : List CellData) (cells bytes : ℕ) (stamps : LeastStamps) (disk : D) (s : RegionData) (region : Region)
    → HoldsBy d number manifest wal flushing horizon store cells bytes stamps disk s → number ≡ region.number → manifest ≡ region.manifest → wal ≡ region.wal → flushing ≡ region.flushing → horizon ≡ region.horizon → store ≡ region.store.cells → cells ≡ region.cells → bytes ≡ region.bytes
    → stamps ≡ region.stamps → RegionHolds d region disk s
by_fields {D} d number manifest wal flushing horizon store cells bytes stamps disk s region holds a b c e f g h i j =
    all (subst (λ (n : ℕ). HoldsBy d n region.manifest region.wal region.flushing region.horizon region.store.cells region.cells region.bytes region.stamps disk s) a
    (subst (λ (m : Manifest). HoldsBy d number m region.wal region.flushing region.horizon region.store.cells region.cells region.bytes region.stamps disk s) b
    (subst (λ (w : Wal). HoldsBy d number manifest w region.flushing region.horizon region.store.cells region.cells region.bytes region.stamps disk s) c
    (subst (λ (x : Flushing). HoldsBy d number manifest wal x region.horizon region.store.cells region.cells region.bytes region.stamps disk s) e
    (subst (λ (n : ℕ). HoldsBy d number manifest wal flushing n region.store.cells region.cells region.bytes region.stamps disk s) f
    (subst (λ (l : List CellData). HoldsBy d number manifest wal flushing horizon l region.cells region.bytes region.stamps disk s) g
    (subst (λ (n : ℕ). HoldsBy d number manifest wal flushing horizon store n region.bytes region.stamps disk s) h
    (subst (λ (n : ℕ). HoldsBy d number manifest wal flushing horizon store cells n region.stamps disk s) i
    (subst (λ (x : LeastStamps). HoldsBy d number manifest wal flushing horizon store cells bytes x disk s) j holds)))))))))
  where
    all : HoldsBy d region.number region.manifest region.wal region.flushing region.horizon region.store.cells region.cells region.bytes region.stamps disk s → RegionHolds d region disk s
    all x = record {
      batches = x.batches;
      lists = x.lists;
      has = x.has;
      number = x.own;
      store = x.store_is;
      named = x.named;
      cells = x.cells_are;
      horizon = x.horizon_is;
      counted = x.counted;
      weighed = x.weighed;
      least = x.least;
    }

module _ {D : Type 0} (d : Ghosts D) (region : Region) (disk : D) (s : RegionData) (holds : RegionHolds d region disk s) where
  abbrev own : ℕ
  own = region.flushing.number

  abbrev flushed : ℕ
  flushed = (named_snapshot region.manifest).flushed

  parts : HoldsBy d region.number region.manifest region.wal region.flushing region.horizon region.store.cells region.cells region.bytes region.stamps disk s
  parts = record {
    batches = holds.batches;
    lists = holds.lists;
    has = holds.has;
    own = holds.number;
    store_is = holds.store;
    named = holds.named;
    cells_are = holds.cells;
    horizon_is = holds.horizon;
    counted = holds.counted;
    weighed = holds.weighed;
    least = holds.least;
  }

  -- a region that differs in its room alone has the same
  pub holds_alike : (new : Region) → IsAlike region new → RegionHolds d new disk s
  holds_alike new alike =
      by_fields d region.number region.manifest region.wal region.flushing region.horizon region.store.cells region.cells region.bytes region.stamps disk s new parts (sym alike.number) (sym alike.manifest) (sym alike.wal) (sym alike.flushing) (sym alike.horizon) (sym alike.store)
      (sym alike.cells) (sym alike.bytes) (sym alike.stamps)

  -- its store has what it has
  pub store_is_all : region.store.cells ≡ s.cells
  store_is_all = sym holds.cells

  -- what is read of it and named by its manifest is what it has
  pub held_data : data_of region ≡ s
  held_data = λ i. record { cells = store_is_all i; horizon = sym holds.horizon i }

  -- an image that is read as these cells stands for them
  pub read_as : (image : Image) (cells : List CellData) (t : RegionData) → cells ≡ t.cells → t.horizon ≡ s.horizon → IsRegionRead own image (named_snapshot region.manifest).horizon cells → RegionStands region.number image t
  read_as image cells t cells_are same read =
      subst (λ (n : ℕ). IsRegionRead n image t.horizon t.cells) holds.number
      (subst (λ (h : ℕ). IsRegionRead own image h t.cells) (sym (same ∙ holds.horizon ∙ holds.named)) (subst (λ (l : List CellData). IsRegionRead own image (named_snapshot region.manifest).horizon l) cells_are read))

  all_cells : cells_over flushed holds.batches holds.lists ≡ s.cells
  all_cells = sym (holds.cells ∙ holds.store)

  pub read_same : (image : Image) → IsRegionRead own image (named_snapshot region.manifest).horizon (cells_over flushed holds.batches holds.lists) → RegionStands region.number image s
  read_same image read = read_as image (cells_over flushed holds.batches holds.lists) s all_cells refl read

  pub leaves_same : (disk' : D) → LeavesOnly d disk disk' (λ moment image. IsRegionRead own image (named_snapshot region.manifest).horizon (cells_over flushed holds.batches holds.lists)) → LeavesOnly d disk disk' (λ moment image. RegionStands region.number image s)
  leaves_same disk' leaves = record { each = λ moment image since left. read_same image (leaves.each moment image since left) }

  -- files that a compaction may leave
  pub leaves_from : (o : Option ℕ) (disk' : D) → LeavesOnly d disk disk' (λ moment image. ReadsFrom o own image (named_snapshot region.manifest).horizon (cells_over flushed holds.batches holds.lists)) → LeavesOnly d disk disk' (λ moment image. StandsFrom o region.number image s)
  leaves_from None disk' leaves = leaves_same disk' leaves
  leaves_from (Some h) disk' leaves = record {
    each = λ moment image since left. elim (leaves.each moment image since left) [
      | inl reads ↦ inl (read_same image reads)
      | inr reads ↦ inr (record {
        kept = record { cells = reads.kept; horizon = h };
        forgets = record { kept = subst (λ (l : List CellData). IsKeptList l h reads.kept) all_cells reads.keeps; horizon_is = refl };
        stands = subst (λ (n : ℕ). IsRegionRead n image h reads.kept) holds.number reads.read;
      })
    ];
  }

  -- its files stand for what it has, whatever a stop leaves of the files
  pub holds_stands : StandsIn d disk (HasFile region.number) (λ image. RegionStands region.number image s)
  holds_stands =
      let all = flushing_stands d region.manifest region.wal region.flushing disk holds.batches holds.lists holds.has in
      record { each = λ image left. read_same image (all.each image (λ file has. left file (subst (λ (n : ℕ). HasFile n file) holds.number has))) }

  -- calls on other files leave it so
  pub holds_kept : (disk' : D) (touched : ℕ → Type 0) → TouchesOnly d disk disk' touched → ((file : ℕ) → HasFile region.number file → touched file → ⊥) → RegionHolds d region disk' s
  holds_kept disk' touched touches apart =
      let others =
      touches_more d.calls d.left d.seen disk disk' touched (λ file. HasFile own file → ⊥) (λ file is has. apart file (subst (λ (n : ℕ). HasFile n file) holds.number has) is) touches in
      record {
        batches = holds.batches;
        lists = holds.lists;
        has = flushing_kept d region.manifest region.wal region.flushing disk holds.batches holds.lists holds.has disk' others;
        number = holds.number;
        store = holds.store;
        named = holds.named;
        cells = holds.cells;
        horizon = holds.horizon;
        counted = holds.counted;
        weighed = holds.weighed;
        least = holds.least;
      }

  -- no call
  pub stands_now : (up_to_now : (x : D) (moment file : ℕ) (bytes : List ℕ) → d.left x moment file bytes → moment ≤ d.calls x) → LeavesOnly d disk disk (λ moment image. RegionStands region.number image s)
  stands_now up_to_now =
      let none = touches_none d.calls d.left d.seen up_to_now disk (λ file. ⊥) in
      record { each = λ moment image since left. stands_left d disk disk (HasFile region.number) (λ i. RegionStands region.number i s) holds_stands (λ file. ⊥) none (λ file has touched. touched) moment image since left }

  -- ---- calls on the log

  pub touches_log : (disk' : D) → TouchesOnly d disk disk' (log_files own) → TouchesOnly d disk disk' (HasFile region.number)
  touches_log disk' touches = touches_more d.calls d.left d.seen disk disk' (log_files own) (HasFile region.number) (λ file has. subst (λ (n : ℕ). HasFile n file) holds.number (log_own own file has)) touches

  module _ (disk' : D) (touches : TouchesOnly d disk disk' (log_files own)) where
    -- an image in which the log has these batches
    log_as : (rest : List LogBatch) (t : RegionData) → cells_over flushed rest holds.lists ≡ t.cells → t.horizon ≡ s.horizon → (moment : ℕ) (image : Image) → d.calls disk ≤ moment → IsLeftBy d.left disk' moment image → LogStands own flushed image rest → RegionStands region.number image t
    log_as rest t cells same moment image since left stands =
        read_as image (cells_over flushed rest holds.lists) t cells same (flush.log_read d region.manifest region.wal region.flushing disk holds.batches holds.lists holds.has disk' touches moment image rest (cells_over flushed rest holds.lists) since left stands refl)

    -- that leave its batches
    pub log_stays : LeavesOnly d disk disk' (λ moment image. LogStands own flushed image holds.batches) → LeavesOnly d disk disk' (λ moment image. RegionStands region.number image s)
    log_stays leaves = record { each = λ moment image since left. log_as holds.batches s all_cells refl moment image since left (leaves.each moment image since left) }

    pub log_rolled : (wal : Wal) (new : Region) → HasBatches d own flushed wal disk' holds.batches → region.number ≡ new.number → region.manifest ≡ new.manifest → wal ≡ new.wal → region.flushing ≡ new.flushing → region.horizon ≡ new.horizon
        → region.store.cells ≡ new.store.cells → region.cells ≡ new.cells → region.bytes ≡ new.bytes → region.stamps ≡ new.stamps → RegionHolds d new disk' s
    log_rolled wal new log number manifest wal_is flushing horizon store cells bytes stamps =
        by_fields d region.number region.manifest wal region.flushing region.horizon region.store.cells region.cells region.bytes region.stamps disk' s new
        (record {
          batches = holds.batches;
          lists = holds.lists;
          has = flush.log_rolled d region.manifest region.wal region.flushing disk holds.batches holds.lists holds.has disk' touches wal log;
          own = holds.number;
          store_is = holds.store;
          named = holds.named;
          cells_are = holds.cells;
          horizon_is = holds.horizon;
          counted = holds.counted;
          weighed = holds.weighed;
          least = holds.least;
        })
        number manifest wal_is flushing horizon store cells bytes stamps

    -- that leave the batches above the flushed number
    pub log_rests : LeavesOnly d disk disk' (λ moment image. (rest : List LogBatch) × IsRest flushed holds.batches rest × LogStands own flushed image rest) → LeavesOnly d disk disk' (λ moment image. RegionStands region.number image s)
    log_rests leaves = record {
      each = λ moment image since left.
          let left_with = leaves.each moment image since left in
          log_as left_with.0 s (rest_cells flushed holds.batches left_with.0 holds.lists left_with.1 ∙ all_cells) refl moment image since left left_with.2;
    }

    pub log_switched : (wal : Wal) (stamps : LeastStamps) (new : Region) (rest : List LogBatch) → IsRest flushed holds.batches rest → region.flushing.flush ≡ None → HasBatches d own flushed wal disk' rest → HaveLeast stamps (batches_above flushed rest) → region.number ≡ new.number → region.manifest ≡ new.manifest
        → wal ≡ new.wal → region.flushing ≡ new.flushing → region.horizon ≡ new.horizon → region.store.cells ≡ new.store.cells → region.cells ≡ new.cells → region.bytes ≡ new.bytes → stamps ≡ new.stamps → RegionHolds d new disk' s
    log_switched wal stamps new rest is idle log least number manifest wal_is flushing horizon store cells bytes stamps_are =
        by_fields d region.number region.manifest wal region.flushing region.horizon region.store.cells region.cells region.bytes stamps disk' s new
        (record {
          batches = rest;
          lists = holds.lists;
          has = flush.log_switched d region.manifest region.wal region.flushing disk holds.batches holds.lists holds.has disk' touches wal rest idle log;
          own = holds.number;
          store_is = holds.store ∙ sym (rest_cells flushed holds.batches rest holds.lists is);
          named = holds.named;
          cells_are = holds.cells;
          horizon_is = holds.horizon;
          counted = holds.counted ∙ ap cell_count (sym (rest_above flushed holds.batches rest is));
          weighed = holds.weighed ∙ ap batch_byte_count (sym (rest_above flushed holds.batches rest is));
          least = least;
        })
        number manifest wal_is flushing horizon store cells bytes stamps_are

    -- the least stamps of those that are left
    pub rest_least : (rest : List LogBatch) → IsRest flushed holds.batches rest → HaveLeast region.stamps (batches_above flushed rest)
    rest_least rest is = subst (HaveLeast region.stamps) (sym (rest_above flushed holds.batches rest is)) holds.least

    -- that append a batch
    module _ (b : LogBatch) (over : flushed < b.number) where
      more : cells_over flushed (holds.batches ++ b ∷ []) holds.lists ≡ (with_batch s b.cells).cells
      more = written_last flushed holds.batches holds.lists b over ∙ ap (λ (l : List CellData). settle (b.cells ++ l)) all_cells

      pub log_leaves : LeavesOnly d disk disk' (λ moment image. LogStands own flushed image holds.batches ⊎ LogStands own flushed image (holds.batches ++ b ∷ []))
          → LeavesOnly d disk disk' (λ moment image. RegionStands region.number image s ⊎ RegionStands region.number image (with_batch s b.cells))
      log_leaves leaves = record {
        each = λ moment image since left. elim (leaves.each moment image since left) [
          | inl a ↦ inl (log_as holds.batches s all_cells refl moment image since left a)
          | inr z ↦ inr (log_as (holds.batches ++ b ∷ []) (with_batch s b.cells) more refl moment image since left z)
        ];
      }

      pub log_more : (wal : Wal) (store : List CellData) (cells bytes : ℕ) (stamps : LeastStamps) (new : Region) → region.wal.last < b.number → HasBatches d own flushed wal disk' (holds.batches ++ b ∷ []) → IsSettled (b.cells ++ region.store.cells) store
          → cells ≡ region.cells + length b.cells → bytes ≡ region.bytes + length (all_bytes b.cells) → ((batches : List LogBatch) → HaveLeast region.stamps batches → HaveLeast stamps (batches ++ b ∷ [])) → region.number ≡ new.number → region.manifest ≡ new.manifest → wal ≡ new.wal → region.flushing ≡ new.flushing → region.horizon ≡ new.horizon → store ≡ new.store.cells → cells ≡ new.cells
          → bytes ≡ new.bytes → stamps ≡ new.stamps → RegionHolds d new disk' (with_batch s b.cells)
      log_more wal store cells bytes stamps new next log settled counted weighed least number manifest wal_is flushing horizon store_is cells_is bytes_is stamps_are =
          let is : store ≡ settle (b.cells ++ region.store.cells) = settled_is (b.cells ++ region.store.cells) store settled in
          by_fields d region.number region.manifest wal region.flushing region.horizon store cells bytes stamps disk' (with_batch s b.cells) new
          (record {
            batches = holds.batches ++ b ∷ [];
            lists = holds.lists;
            has = flushing_more d region.manifest region.wal region.flushing disk holds.batches holds.lists holds.has wal disk' b touches next log;
            own = holds.number;
            store_is = is ∙ ap (λ (l : List CellData). settle (b.cells ++ l)) holds.store ∙ sym (written_last flushed holds.batches holds.lists b over);
            named = holds.named;
            cells_are = ap (λ (l : List CellData). settle (b.cells ++ l)) holds.cells ∙ sym is;
            horizon_is = holds.horizon;
            counted = counted ∙ ap (λ (n : ℕ). n + length b.cells) holds.counted ∙ sym (cells_more (batches_above flushed holds.batches) b) ∙ ap cell_count (sym (above_more flushed holds.batches b over));
            weighed = weighed ∙ ap (λ (n : ℕ). n + length (all_bytes b.cells)) holds.weighed ∙ sym (bytes_more (batches_above flushed holds.batches) b) ∙ ap batch_byte_count (sym (above_more flushed holds.batches b over));
            least = subst (HaveLeast stamps) (sym (above_more flushed holds.batches b over)) (least (batches_above flushed holds.batches) holds.least);
          })
          number manifest wal_is flushing horizon store_is cells_is bytes_is stamps_are

  -- ---- calls on the manifest

  pub touches_manifest : (disk' : D) → TouchesOnly d disk disk' (manifest_files own) → TouchesOnly d disk disk' (HasFile region.number)
  touches_manifest disk' touches = touches_more d.calls d.left d.seen disk disk' (manifest_files own) (HasFile region.number) (λ file has. subst (λ (n : ℕ). HasFile n file) holds.number (manifest_own own file has)) touches

  module _ (disk' : D) (touches : TouchesOnly d disk disk' (manifest_files own)) where
    -- that leave what it names
    pub manifest_stays : LeavesOnly d disk disk' (λ moment image. SnapshotStands own image (named_snapshot region.manifest)) → LeavesOnly d disk disk' (λ moment image. RegionStands region.number image s)
    manifest_stays leaves = record {
      each = λ moment image since left.
          read_same image (flush.manifest_read d region.manifest region.wal region.flushing disk holds.batches holds.lists holds.has disk' touches moment image since left (leaves.each moment image since left));
    }

    pub manifest_rolled : (manifest : Manifest) (new : Region) → HasSnapshot d own manifest disk' → named_snapshot manifest ≡ named_snapshot region.manifest → region.number ≡ new.number → manifest ≡ new.manifest → region.wal ≡ new.wal → region.flushing ≡ new.flushing → region.horizon ≡ new.horizon
        → region.store.cells ≡ new.store.cells → region.cells ≡ new.cells → region.bytes ≡ new.bytes → region.stamps ≡ new.stamps → RegionHolds d new disk' s
    manifest_rolled manifest new named same number manifest_is wal_is flushing horizon store cells bytes stamps =
        by_fields d region.number manifest region.wal region.flushing region.horizon region.store.cells region.cells region.bytes region.stamps disk' s new
        (record {
          batches = holds.batches;
          lists = holds.lists;
          has = flush.manifest_rolled d region.manifest region.wal region.flushing disk holds.batches holds.lists holds.has disk' touches manifest named same;
          own = holds.number;
          store_is = holds.store ∙ ap (λ (n : SnapshotData). cells_over n.flushed holds.batches holds.lists) (sym same);
          named = holds.named ∙ ap (λ (n : SnapshotData). n.horizon) (sym same);
          cells_are = holds.cells;
          horizon_is = holds.horizon;
          counted = holds.counted ∙ ap (λ (n : SnapshotData). cell_count (batches_above n.flushed holds.batches)) (sym same);
          weighed = holds.weighed ∙ ap (λ (n : SnapshotData). batch_byte_count (batches_above n.flushed holds.batches)) (sym same);
          least = subst (λ (n : SnapshotData). HaveLeast region.stamps (batches_above n.flushed holds.batches)) (sym same) holds.least;
        })
        number manifest_is wal_is flushing horizon store cells bytes stamps

  -- ---- a step of a flush

  -- that may forget: the files are read with another horizon, and the store has what is read then
  pub flush_forgot : (disk' : D) (manifest : Manifest) (flushing : Flushing) (after : List (List CellData)) (horizon : ℕ) (store : List CellData) (cells bytes : ℕ) (stamps : LeastStamps) (t : RegionData) (new : Region) → HasFlushing d manifest region.wal flushing disk' holds.batches after
      → store ≡ cells_over (named_snapshot manifest).flushed holds.batches after → flushing.number ≡ own → horizon ≡ (named_snapshot manifest).horizon → t.cells ≡ store → t.horizon ≡ horizon → cells ≡ cell_count (batches_above (named_snapshot manifest).flushed holds.batches) → bytes ≡ batch_byte_count (batches_above (named_snapshot manifest).flushed holds.batches)
      → HaveLeast stamps (batches_above (named_snapshot manifest).flushed holds.batches) → region.number ≡ new.number → manifest ≡ new.manifest → region.wal ≡ new.wal → flushing ≡ new.flushing → horizon ≡ new.horizon → store ≡ new.store.cells → cells ≡ new.cells → bytes ≡ new.bytes → stamps ≡ new.stamps → RegionHolds d new disk' t
  flush_forgot disk' manifest flushing after horizon store cells bytes stamps t new has store_is mine named cells_are horizon_is counted weighed least number manifest_is wal_is flushing_is horizon_same store_same cells_is bytes_is stamps_are =
      by_fields d region.number manifest region.wal flushing horizon store cells bytes stamps disk' t new
      (record {
        batches = holds.batches;
        lists = after;
        has = has;
        own = mine ∙ holds.number;
        store_is = store_is;
        named = named;
        cells_are = cells_are;
        horizon_is = horizon_is;
        counted = counted;
        weighed = weighed;
        least = least;
      })
      number manifest_is wal_is flushing_is horizon_same store_same cells_is bytes_is stamps_are

  pub flush_went : (disk' : D) (manifest : Manifest) (flushing : Flushing) (after : List (List CellData)) (cells bytes : ℕ) (stamps : LeastStamps) (new : Region) → HasFlushing d manifest region.wal flushing disk' holds.batches after
      → cells_over (named_snapshot manifest).flushed holds.batches after ≡ cells_over flushed holds.batches holds.lists → flushing.number ≡ own → (named_snapshot manifest).horizon ≡ (named_snapshot region.manifest).horizon → cells ≡ cell_count (batches_above (named_snapshot manifest).flushed holds.batches)
      → bytes ≡ batch_byte_count (batches_above (named_snapshot manifest).flushed holds.batches) → HaveLeast stamps (batches_above (named_snapshot manifest).flushed holds.batches) → region.number ≡ new.number → manifest ≡ new.manifest → region.wal ≡ new.wal → flushing ≡ new.flushing → region.horizon ≡ new.horizon
      → region.store.cells ≡ new.store.cells → cells ≡ new.cells → bytes ≡ new.bytes → stamps ≡ new.stamps → RegionHolds d new disk' s
  flush_went disk' manifest flushing after cells bytes stamps new has same mine still counted weighed least =
      flush_forgot disk' manifest flushing after region.horizon region.store.cells cells bytes stamps s new has (holds.store ∙ sym same) mine (holds.named ∙ sym still) holds.cells holds.horizon counted weighed least

  -- that names nothing
  pub flush_same : (disk' : D) (manifest : Manifest) (flushing : Flushing) (after : List (List CellData)) (new : Region) → HasFlushing d manifest region.wal flushing disk' holds.batches after
      → cells_over (named_snapshot manifest).flushed holds.batches after ≡ cells_over flushed holds.batches holds.lists → flushing.number ≡ own → named_snapshot manifest ≡ named_snapshot region.manifest → region.number ≡ new.number → manifest ≡ new.manifest → region.wal ≡ new.wal → flushing ≡ new.flushing
      → region.horizon ≡ new.horizon → region.store.cells ≡ new.store.cells → region.cells ≡ new.cells → region.bytes ≡ new.bytes → region.stamps ≡ new.stamps → RegionHolds d new disk' s
  flush_same disk' manifest flushing after new has same mine still =
      flush_went disk' manifest flushing after region.cells region.bytes region.stamps new has same mine (ap (λ (n : SnapshotData). n.horizon) still) (holds.counted ∙ ap (λ (n : SnapshotData). cell_count (batches_above n.flushed holds.batches)) (sym still))
      (holds.weighed ∙ ap (λ (n : SnapshotData). batch_byte_count (batches_above n.flushed holds.batches)) (sym still)) (subst (λ (n : SnapshotData). HaveLeast region.stamps (batches_above n.flushed holds.batches)) (sym still) holds.least)

  pub touches_files : (disk' : D) → TouchesOnly d disk disk' (HasFile own) → TouchesOnly d disk disk' (HasFile region.number)
  touches_files disk' touches = subst (λ (n : ℕ). TouchesOnly d disk disk' (HasFile n)) holds.number touches

-- ---- the bytes of cells

-- the bytes of one cell more
pub bytes_next : (cells : List CellData) (i : ℕ) (c : CellData) → i < length cells → c ≡ get_or cells i c → length (all_bytes (take (i + 1) cells)) ≡ length (all_bytes (take i cells)) + (14 + length c.key + length c.value)
bytes_next cells i c lt is =
    let e : all_bytes (take (i + 1) cells) ≡ all_bytes (take i cells) ++ cell_bytes c =
    ap all_bytes (take_more cells i c lt) ∙ ap (λ (x : CellData). all_bytes (take i cells ++ x ∷ [])) (sym is) ∙ all_bytes-push (take i cells) c in
    omega (arith, ap length e, length-append (all_bytes (take i cells)) (cell_bytes c), length-cell_bytes c)

-- a batch for which room was promised finds it
pub no_room : (room promised promised_bytes count bytes last : ℕ) → 19 * promised + promised_bytes ≤ room → last + promised ≤ 18446744073709551615 → 1 ≤ count → count ≤ promised → bytes ≤ promised_bytes → (room < 19 + bytes) ⊎ (last ≡ 18446744073709551615) → ⊥
no_room room promised promised_bytes count bytes last roomy numbered some fits bytes_fit (inl less) = omega arith
no_room room promised promised_bytes count bytes last roomy numbered some fits bytes_fit (inr last-is) = omega arith
