-- A region of which no file was ever written.
use Rattle.std.proofs.Common.{◌≡◌, ◌≤◌, ℕ, [], refl, sym, subst, arith}
use Rattle.std.specs.Prelude.{IsTrue}
use Rattle.px_outside.specs.OnDisk.{Only}
use Rattle.px_outside.specs.declared.disk.Disk.{Ghosts}
use Rattle.px_gatelog.specs.Records.{HasRecords}
use Rattle.px_gatelog.proofs.LogRecords.{fresh_records}
use Rattle.px_gatelog.proofs.Switching.{older_empty}
use Rattle.px_wal.specs.Files.{file_of}
use Rattle.px_wal.specs.Form.{wal_form}
use Rattle.px_wal.specs.Manifest.{HasSnapshot, IsFreshManifest}
use Rattle.px_wal.specs.Snapshot.{IsSnapshot, manifest_form, nothing_named}
use Rattle.px_wal.specs.Snapshot.IsLast.{none}
use Rattle.px_wal.specs.Wal.{HasBatches, IsFreshLog}
use Rattle.px_wal.specs.declared.manifest.Manifest.{Manifest}
use Rattle.px_wal.specs.declared.wal.Wal.{Wal}

nothing_right : IsSnapshot nothing_named
nothing_right = record { flushed = omega arith; horizon = omega arith; stamp = omega arith; compactions = omega arith; few = omega arith; files = tt }

none_flushed : (n : ℕ) → n ≡ 0 → n ≤ 0
none_flushed n is = omega (arith, is)

module _ {D : Type 0} (d : Ghosts D) (region : ℕ) (disk : D) (tells : IsTrue d.tells) where
  -- its log has no batch
  pub fresh_has : (wal : Wal) → IsFreshLog region wal → Only d disk (file_of region 0) → Only d disk (file_of region 1) → d.seen disk (file_of region 0) ≡ [] → d.seen disk (file_of region 1) ≡ [] → HasBatches d region 0 wal disk []
  fresh_has wal fresh one two none_ nothing =
      let l : HasRecords d (wal_form 0) (file_of region 0) (file_of region 1) disk wal.log [] = fresh_records d (wal_form 0) (file_of region 0) (file_of region 1) disk wal.log fresh.log tells one two none_ nothing in
      record {
        log = l;
        right = record { each = tt; rising = tt; first = tt };
        last = fresh.last;
        cut = record { older = []; newer = []; all = refl; before = older_empty l.segments l.records_are; upto_is = none_flushed wal.older_to fresh.older_to };
      }

  -- its manifest names nothing
  pub fresh_names : (m : Manifest) → IsFreshManifest region m → Only d disk (file_of region 2) → Only d disk (file_of region 3) → d.seen disk (file_of region 2) ≡ [] → d.seen disk (file_of region 3) ≡ [] → HasSnapshot d region m disk
  fresh_names m fresh one two none_ nothing = record {
    records = [];
    log = fresh_records d manifest_form (file_of region 2) (file_of region 3) disk m.log fresh.log tells one two none_ nothing;
    last = none refl fresh.named;
    right = subst IsSnapshot (sym fresh.named) nothing_right;
  }
