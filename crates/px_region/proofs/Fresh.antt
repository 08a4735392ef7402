-- A region of which no file was ever written has nothing.
use Rattle.std.proofs.Common.{◌≡◌, ℕ, ◌<◌, Option, [], List, refl, sym, ap, subst, ◌∙◌, arith}
use Rattle.px_outside.specs.declared.disk.Disk.{Ghosts}
use Rattle.px_file.specs.declared.region_file.RegionFile.{RegionFile}
use Rattle.px_merge.proofs.Settling.{settle_sorted}
use Rattle.px_wal.specs.Files.{HasFile, file_of}
use Rattle.px_wal.specs.Manifest.{named_snapshot}
use Rattle.px_wal.specs.Snapshot.{FileData, SnapshotData}
use Rattle.px_wal.specs.Wal.{HasBatches}
use Rattle.px_wal.proofs.Fresh.{fresh_has, fresh_names}
use Rattle.px_files.specs.Files.{HaveFiles}
use Rattle.px_naming.specs.Naming.{HasParts}
use Rattle.px_flushing.specs.Flushing.{HasFlushing, IsJobUnderWay}
use Rattle.px_flushing.specs.declared.job.Job.{Job}
use Rattle.px_region.specs.Fresh.{IsFreshRegion, IsRegionBlank, no_data}
use Rattle.px_region.specs.Region.{RegionHolds}
use Rattle.px_region.specs.declared.region.Region.{Region}

own : (number local : ℕ) → local < 4294967296 → HasFile number (file_of number local)
own number local short = record { local = local; is = refl; short = short }

module _ {D : Type 0} (d : Ghosts D) (number : ℕ) (region : Region) (disk : D) (fresh : IsFreshRegion number region) (blank : IsRegionBlank d number disk) where
  abbrev file : (local : ℕ) → local < 4294967296 → HasFile number (file_of number local)
  file local short = own number local short

  log_has : HasBatches d number 0 region.wal disk []
  log_has = fresh_has d number disk blank.tells region.wal fresh.wal (blank.only (file_of number 0) (file 0 (omega arith))) (blank.only (file_of number 1) (file 1 (omega arith))) (blank.none (file_of number 0) (file 0 (omega arith))) (blank.none (file_of number 1) (file 1 (omega arith)))

  flushed_is : (named_snapshot region.manifest).flushed ≡ 0
  flushed_is = ap (λ (s : SnapshotData). s.flushed) fresh.manifest.named

  none_named : (named_snapshot region.manifest).files ≡ []
  none_named = ap (λ (s : SnapshotData). s.files) fresh.manifest.named

  have : HaveFiles d number disk (named_snapshot region.manifest).files region.flushing.files.items []
  have = subst (λ (l : List FileData). HaveFiles d number disk l region.flushing.files.items []) (sym none_named) (subst (λ (l : List RegionFile). HaveFiles d number disk [] l []) (sym fresh.flushing.files) tt)

  parts : HasFlushing d region.manifest region.wal region.flushing disk [] []
  parts = record {
    parts =
        subst (λ (n : ℕ). HasParts d n region.manifest region.wal disk [] region.flushing.files.items []) (sym fresh.flushing.number_is)
        (record {
          tells = blank.tells;
          named = fresh_names d number disk blank.tells region.manifest fresh.manifest (blank.only (file_of number 2) (file 2 (omega arith))) (blank.only (file_of number 3) (file 3 (omega arith))) (blank.none (file_of number 2) (file 2 (omega arith))) (blank.none (file_of number 3) (file 3 (omega arith)));
          log = subst (λ (n : ℕ). HasBatches d number n region.wal disk []) (sym flushed_is) log_has;
          have = have;
        });
    flush = subst (λ (f : Option Job). IsJobUnderWay d region.flushing.number (named_snapshot region.manifest) [] region.flushing.files.items [] disk f) (sym fresh.flushing.flush) tt;
  }

  pub fresh_holds : RegionHolds d region disk no_data
  fresh_holds = record {
    batches = [];
    lists = [];
    has = parts;
    number = fresh.flushing.number_is ∙ sym fresh.number_is;
    store = fresh.store ∙ sym (settle_sorted [] tt);
    named = fresh.horizon ∙ sym (ap (λ (s : SnapshotData). s.horizon) fresh.manifest.named);
    cells = sym fresh.store;
    horizon = sym fresh.horizon;
    counted = fresh.cells;
    weighed = fresh.bytes;
    least = tt;
  }
