-- What the files of a region stand for, and where they are damaged, depends on these files alone.
use Rattle.std.proofs.Common.{◌≡◌, ◌<◌, ℕ, List, [], ◌∷◌, ◌++◌, map, refl, sym, ap, subst, ◌∙◌, arith}
use Rattle.std.specs.List.{AllByRecursion}
use Rattle.px_cells.specs.CellData.{CellData}
use Rattle.px_file.specs.Format.{FileStands, greatest_stamp_in}
use Rattle.px_file.specs.Reading.{IsFirstWrongInFile}
use Rattle.px_files.specs.Files.{FilesStand}
use Rattle.px_outside.specs.Disk.{Image}
use Rattle.px_gatelog.specs.Damage.{IsFirstWrong}
use Rattle.px_gatelog.specs.Format.{LogForm, LogRecord, segments_of}
use Rattle.px_gatelog.specs.Records.{RecordsStand}
use Rattle.px_wal.specs.Batches.{LogBatch}
use Rattle.px_wal.specs.Files.{HasFile, file_of}
use Rattle.px_wal.specs.Form.{batch_record, wal_form}
use Rattle.px_wal.specs.Manifest.{SnapshotStands}
use Rattle.px_wal.specs.Snapshot.{FileData, IsEntry, SnapshotData, manifest_form}
use Rattle.px_wal.specs.Wal.{LogStands}
use Rattle.px_region.specs.Calls.{IsOpenedBy}
use Rattle.px_region.specs.Opened.{IsFirstDamagedInRegion, in_file, in_log, in_manifest}
use Rattle.px_region.specs.Region.{RegionData, RegionStands}

-- the files before one, and that one
entries_cut : (before : List FileData) (f : FileData) (rest : List FileData) → AllByRecursion IsEntry (before ++ f ∷ rest) → AllByRecursion IsEntry before × IsEntry f
entries_cut [] f rest all = (tt, all.0)
entries_cut (e ∷ before) f rest all = (let cut = entries_cut before f rest all.1 in ((all.0, cut.0), cut.1))

module _ (number : ℕ) (image other : Image) (same : (file : ℕ) → HasFile number file → image file ≡ other file) where
  at : (local : ℕ) → local < 4294967296 → image (file_of number local) ≡ other (file_of number local)
  at local short = same (file_of number local) (record { local = local; is = refl; short = short })

  records_local : (form : LogForm) (a b : ℕ) → a < 4294967296 → b < 4294967296 → (records : List LogRecord) → RecordsStand form (file_of number a) (file_of number b) image records → RecordsStand form (file_of number a) (file_of number b) other records
  records_local form a b la lb records r = (r.0, (λ i. segments_of form (sym (at a la) i) (sym (at b lb) i)) ∙ r.1, r.2)

  snapshot_local : (s : SnapshotData) → SnapshotStands number image s → SnapshotStands number other s
  snapshot_local s x = record { records = x.records; stands = records_local manifest_form 2 3 (omega arith) (omega arith) x.records x.stands; last = x.last; right = x.right }

  log_local : (flushed : ℕ) (batches : List LogBatch) → LogStands number flushed image batches → LogStands number flushed other batches
  log_local flushed batches x = record { records = records_local (wal_form flushed) 0 1 (omega arith) (omega arith) (map batch_record batches) x.records; right = x.right }

  -- the files that a manifest names
  files_local : (named : List FileData) (lists : List (List CellData)) → AllByRecursion IsEntry named → FilesStand number image named lists → FilesStand number other named lists
  files_local [] [] all x = tt
  files_local [] (l ∷ lists) all x = absurd x
  files_local (f ∷ named) [] all x = absurd x
  files_local (f ∷ named) (l ∷ lists) all x = (subst (λ (b : List ℕ). FileStands b l (greatest_stamp_in l)) (at f.local (let e = all.0.local in omega arith)) x.0, files_local named lists all.1 x.1)

  pub stands_local : (s : RegionData) → RegionStands number image s → RegionStands number other s
  stands_local s x = record {
    named = x.named;
    reads = record {
      batches = x.reads.batches;
      lists = x.reads.lists;
      manifest = snapshot_local x.named x.reads.manifest;
      log = log_local x.named.flushed x.reads.batches x.reads.log;
      files = files_local x.named.files x.reads.lists x.reads.manifest.right.files x.reads.files;
      is = x.reads.is;
    };
    horizon_is = x.horizon_is;
  }

  wrong_local : (form : LogForm) (a b : ℕ) → a < 4294967296 → b < 4294967296 → (file place : ℕ) → IsFirstWrong form (file_of number a) (file_of number b) (image (file_of number a)) (image (file_of number b)) file place
      → IsFirstWrong form (file_of number a) (file_of number b) (other (file_of number a)) (other (file_of number b)) file place
  wrong_local form a b la lb file place w =
      subst (λ (x : List ℕ). IsFirstWrong form (file_of number a) (file_of number b) x (other (file_of number b)) file place) (at a la)
      (subst (λ (x : List ℕ). IsFirstWrong form (file_of number a) (file_of number b) (image (file_of number a)) x file place) (at b lb) w)

  pub damaged_local : (file place : ℕ) → IsFirstDamagedInRegion number image file place → IsFirstDamagedInRegion number other file place
  damaged_local file place (in_manifest w) = in_manifest (wrong_local manifest_form 2 3 (omega arith) (omega arith) file place w)
  damaged_local file place (in_log named stands w) = in_log named (snapshot_local named stands) (wrong_local (wal_form named.flushed) 0 1 (omega arith) (omega arith) file place w)
  damaged_local file place (in_file named batches stands log bad) =
      let all = entries_cut bad.before bad.bad bad.rest (subst (AllByRecursion IsEntry) bad.cut stands.right.files) in
      let same : image file ≡ other file = ap image bad.file_is ∙ (at bad.bad.local (let e = all.1.local in omega arith) ∙ sym (ap other bad.file_is)) in
      in_file named batches (snapshot_local named stands) (log_local named.flushed batches log) (record {
        before = bad.before;
        lists = bad.lists;
        bad = bad.bad;
        rest = bad.rest;
        cut = bad.cut;
        right = files_local bad.before bad.lists all.0 bad.right;
        file_is = bad.file_is;
        wrong = subst (λ (b : List ℕ). IsFirstWrongInFile b place) same bad.wrong;
      })

  pub opened_local : (calls : ℕ) → IsOpenedBy number image calls → IsOpenedBy number other calls
  opened_local calls x = record {
    named = x.named;
    lists = x.lists;
    manifest = snapshot_local x.named x.manifest;
    files = files_local x.named.files x.lists x.manifest.right.files x.files;
    is = x.is;
  }
