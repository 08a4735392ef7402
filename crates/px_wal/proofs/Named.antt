-- What a region's manifest names.
use Rattle.std.proofs.Common.{◌≡◌, ◌⊎◌, ℕ, ◌<◌, List, [], ◌∷◌, ◌++◌, Ok, refl, sym, ap, subst, ◌∙◌, arith, inl, inr}
use Rattle.px_outside.specs.OnDisk.{LeavesOnly, TouchesOnly}
use Rattle.px_outside.specs.Standing.{StandsIn}
use Rattle.px_outside.proofs.Moments.{touches_more}
use Rattle.px_outside.specs.declared.disk.Disk.{Ghosts}
use Rattle.px_gatelog.specs.Format.{AllRecordsFit, IsNextRecord, LogRecord, records_of, segments_of}
use Rattle.px_gatelog.specs.GateLog.{IsLaid, IsSameLog, is_newest_file, is_next_file, steps_left}
use Rattle.px_gatelog.specs.Records.{HasLog, RecordsStand}
use Rattle.px_gatelog.specs.Steps.{Commits, IsAppend, IsRollStep, LogReaches}
use Rattle.px_gatelog.proofs.LogRecords.{appended_leaves, appended_records, next_leaves, next_records, records_kept, records_stand, started_records}
use Rattle.px_gatelog.specs.Start.{Started}
use Rattle.px_wal.specs.Files.{file_of}
use Rattle.px_wal.specs.Snapshot.{IsLast, IsSnapshot, SnapshotData, manifest_form, snapshot_record, wrong_snapshot}
use Rattle.px_wal.specs.Snapshot.IsLast.{last}
use Rattle.px_wal.specs.SnapshotOf.{snapshot_of}
use Rattle.px_wal.specs.inner.SnapshotReader.{HoldsLast}
use Rattle.px_wal.specs.Manifest.{HasSnapshot, IsStarted, SnapshotStands, is_manifest_open, manifest_files, named_snapshot}
use Rattle.px_wal.specs.declared.snapshot.Snapshot.{Snapshot}
use Rattle.px_wal.specs.declared.snapshot_reader.SnapshotReader.{SnapshotReader}
use Rattle.px_wal.specs.declared.manifest.Manifest.{Manifest}
use Rattle.px_wal.proofs.Appended.{newest_of_files, next_of_files}
use Rattle.px_wal.proofs.Snapshots.{length-snapshot, snapshot_is_right}

-- a snapshot may be the first record
fits : (s : SnapshotData) → IsSnapshot s → AllRecordsFit manifest_form [] (snapshot_record s ∷ [])
fits s is = ((snapshot_is_right [] s is, (let l = length-snapshot s in let f = is.few in omega arith), tt), refl)

module _ {D : Type 0} (d : Ghosts D) (region : ℕ) (old : Manifest) (disk : D) (has : HasSnapshot d region old disk) where
  pub touches_newest : (disk' : D) → TouchesOnly d disk disk' (is_newest_file old.log) → TouchesOnly d disk disk' (manifest_files region)
  touches_newest disk' touches =
      touches_more d.calls d.left d.seen disk disk' (is_newest_file old.log) (manifest_files region) (λ file own. newest_of_files old.log (file_of region 2) (file_of region 3) has.log.first_is has.log.second_is file own) touches

  pub touches_next : (disk' : D) → TouchesOnly d disk disk' (is_next_file old.log) → TouchesOnly d disk disk' (manifest_files region)
  touches_next disk' touches =
      touches_more d.calls d.left d.seen disk disk' (is_next_file old.log) (manifest_files region) (λ file own. next_of_files old.log (file_of region 2) (file_of region 3) has.log.first_is has.log.second_is file own) touches

  -- its files stand for what it names, whatever a stop leaves of the files
  pub manifest_stands : StandsIn d disk (manifest_files region) (λ image. SnapshotStands region image (named_snapshot old))
  manifest_stands =
      let stand = records_stand d manifest_form (file_of region 2) (file_of region 3) disk old.log has.records has.log in
      record { each = λ image left. record { records = has.records; stands = stand.each image left; last = has.last; right = has.right } }

  -- calls on other files leave it so
  pub manifest_kept : (disk' : D) (touched : ℕ → Type 0) → TouchesOnly d disk disk' touched → ((file : ℕ) → manifest_files region file → touched file → ⊥) → HasSnapshot d region old disk'
  manifest_kept disk' touched touches apart = record {
    records = has.records;
    log = records_kept d manifest_form (file_of region 2) (file_of region 3) disk disk' old.log has.records has.log touched touches apart;
    last = has.last;
    right = has.right;
  }

  -- ---- an append

  module _ (s : SnapshotData) (is : IsSnapshot s) (open_ : is_manifest_open old) (r : LogRecord) (record-is : r ≡ snapshot_record s) where
    may : IsNextRecord manifest_form has.log.segments r
    may = ap (wrong_snapshot (records_of has.log.segments)) record-is ∙ snapshot_is_right (records_of has.log.segments) s is

    last_is : IsLast (has.records ++ r ∷ []) s
    last_is = last has.records (ap (λ (x : LogRecord). has.records ++ x ∷ []) record-is)

    pub append_at : (disk' : D) → Commits d old.log disk disk' (IsAppend r) → LeavesOnly d disk disk' (λ moment image. SnapshotStands region image (named_snapshot old) ⊎ SnapshotStands region image s)
    append_at disk' leaves =
        let l = appended_leaves d manifest_form (file_of region 2) (file_of region 3) disk disk' old.log old.log has.records r has.log open_ may leaves in
        record {
          each = λ moment image since left. elim (l.each moment image since left) [
            | inl a ↦ inl (record { records = has.records; stands = a; last = has.last; right = has.right })
            | inr z ↦ inr (record { records = has.records ++ r ∷ []; stands = z; last = last_is; right = is })
          ];
        }

    pub append_done : (new : Manifest) (disk' : D) → named_snapshot new ≡ s → (steps_left old.log ≡ 1 → ⊥) → IsSameLog old.log new.log
        → (IsLaid d old.log disk (snapshot_record s ∷ []) → IsLaid d new.log disk' (snapshot_record s ∷ [])) → steps_left new.log ≡ steps_left old.log → LogReaches d old.log new.log disk disk' (IsAppend r) → HasSnapshot d region new disk'
    append_done new disk' named unlaid same laid steps done =
        let open_next : HasLog d manifest_form (file_of region 2) (file_of region 3) disk old.log has.records (snapshot_record s ∷ []) = record {
          segments = has.log.segments;
          first_is = has.log.first_is;
          second_is = has.log.second_is;
          settled = has.log.settled;
          records_are = has.log.records_are;
          laid = λ last. absurd (unlaid last);
        } in
        let log = appended_records d manifest_form (file_of region 2) (file_of region 3) disk disk' old.log new.log has.records r open_next open_ may done same laid steps in
        record {
          records = has.records ++ r ∷ [];
          log = subst (λ (n : SnapshotData). HasLog d manifest_form (file_of region 2) (file_of region 3) disk' new.log (has.records ++ r ∷ []) (snapshot_record n ∷ [])) (sym named) log;
          last = subst (IsLast (has.records ++ r ∷ [])) (sym named) last_is;
          right = subst IsSnapshot (sym named) is;
        }

  -- ---- a step of the making of a segment

  pub roll_at : (disk' : D) → Commits d old.log disk disk' (IsRollStep d old.log disk) → LeavesOnly d disk disk' (λ moment image. SnapshotStands region image (named_snapshot old))
  roll_at disk' leaves =
      let next = snapshot_record (named_snapshot old) ∷ [] in
      let l = next_leaves d manifest_form (file_of region 2) (file_of region 3) refl disk disk' old.log old.log has.records next has.log (fits (named_snapshot old) has.right) leaves in
      record {
        each = λ moment image since left. elim (l.each moment image since left) [
          | inl a ↦ record { records = has.records; stands = a; last = has.last; right = has.right }
          | inr z ↦ record { records = next; stands = z; last = last [] refl; right = has.right }
        ];
      }

  pub roll_done : (new : Manifest) (disk' : D) → named_snapshot new ≡ named_snapshot old → IsSameLog old.log new.log → (steps_left new.log ≡ 1 → IsLaid d new.log disk' (snapshot_record (named_snapshot old) ∷ []))
      → LogReaches d old.log new.log disk disk' (IsRollStep d old.log disk) → HasSnapshot d region new disk'
  roll_done new disk' named same laid done =
      let next = snapshot_record (named_snapshot old) ∷ [] in
      elim (next_records d manifest_form (file_of region 2) (file_of region 3) refl disk disk' old.log new.log has.records next has.log (fits (named_snapshot old) has.right) done same laid) [
        | inl log ↦ by has.records log has.last
        | inr log ↦ by next log (last [] refl)
      ]
    where
      by : (records : List LogRecord) → HasLog d manifest_form (file_of region 2) (file_of region 3) disk' new.log records (snapshot_record (named_snapshot old) ∷ []) → IsLast records (named_snapshot old) → HasSnapshot d region new disk'
      by records log is = record {
        records = records;
        log = subst (λ (n : SnapshotData). HasLog d manifest_form (file_of region 2) (file_of region 3) disk' new.log records (snapshot_record n ∷ [])) (sym named) log;
        last = subst (IsLast records) (sym named) is;
        right = subst IsSnapshot (sym named) has.right;
      }

-- ---- opening

pub started_by : {D : Type 0} (d : Ghosts D) (region : ℕ) (old new : D) (reader : SnapshotReader) (m : Manifest)
    → Started d manifest_form (λ records. HoldsLast reader records) (file_of region 2) (file_of region 3) old new m.log → 1 < steps_left m.log → m.snapshot ≡ reader.snapshot → IsStarted d region old new m
started_by {D} d region old new reader m started more named =
    let is : IsLast (records_of started.segments) (named_snapshot m) = subst (λ (n : Snapshot). IsLast (records_of started.segments) (snapshot_of n)) (sym named) started.taken.last in
    let right : IsSnapshot (named_snapshot m) = subst (λ (n : Snapshot). IsSnapshot (snapshot_of n)) (sym named) started.taken.right in
    let read : segments_of manifest_form (d.seen old (file_of region 2)) (d.seen old (file_of region 3)) ≡ Ok started.segments =
    ap (λ (f : ℕ). segments_of manifest_form (d.seen old f) (d.seen old (file_of region 3))) (sym started.first_is) ∙ ap (λ (f : ℕ). segments_of manifest_form (d.seen old m.log.first) (d.seen old f)) (sym started.second_is) ∙ started.stood in
    let stands : RecordsStand manifest_form (file_of region 2) (file_of region 3) (d.seen old) (records_of started.segments) = (started.segments, read, refl) in
    record {
      stood = record { records = records_of started.segments; stands = stands; last = is; right = right };
      has = record {
        records = records_of started.segments;
        log = started_records d manifest_form (file_of region 2) (file_of region 3) (λ records. HoldsLast reader records) old new m.log (records_of started.segments) started more stands;
        last = is;
        right = right;
      };
    }
