-- A disk that was only read: what is true of a server stays so, with no entry.
use Rattle.std.proofs.Common.{◌≡◌, ◌∙◌, ◌≤◌, ℕ, Option, None, Some, List, sym, arith}
use Rattle.std.specs.Prelude.{IsTrue}
use Rattle.px_outside.specs.OnDisk.{TouchesOnly}
use Rattle.px_outside.specs.declared.disk.Disk.{Ghosts}
use Rattle.px_outside.proofs.Moments.{only_kept, stays_touches}
use Rattle.px_outside.proofs.Standing.{stands_kept}
use Rattle.px_trail.specs.declared.entry.Entry.{Entry}
use Rattle.px_trail.specs.Recorded.{Recorded}
use Rattle.px_trail.specs.Trail.{Base}
use Rattle.px_groupworld.specs.Group.{GroupData}
use Rattle.px_region.specs.OnlyRead.{HasOnlyRead}
use Rattle.px_region.specs.Region.{RegionHolds, RegionData}
use Rattle.px_region.specs.declared.region.Region.{Region}
use Rattle.px_region.proofs.Holding.{holds_kept}
use Rattle.px_schema.specs.declared.standing.Standing.{Standing}
use Rattle.px_catalog.specs.declared.catalog.Catalog.{Catalog}
use Rattle.px_catalog.proofs.Holding.{catalogue_kept}
use Rattle.px_group.specs.declared.group.Group.{Group}
use Rattle.px_recovery.specs.Folder.{FolderData, IsFileOfPart, StandsOn}
use Rattle.px_recovery.specs.Kept.{FolderGoesOn}
use Rattle.px_recovery.proofs.Server.{read_server}
use Rattle.px_server.specs.Kept.{HasServerParts, IsKept, IsOnDisk}
use Rattle.px_server.specs.Others.{Beginning}
use Rattle.px_server.proofs.Blamed.{blamed_on}
use Rattle.px_server.proofs.Lists.{all_weaker}
use Rattle.px_server.proofs.Others.{others_on}

module _ {D : Type 0} (d : Ghosts D) (old new : D) (reads : HasOnlyRead d old new) where
  -- no file is touched
  pub read_touches : TouchesOnly d old new (λ file. ⊥)
  read_touches = stays_touches d.calls d.left d.seen old new reads.stays reads.seen

  -- a region has what it had
  read_holds : (region : Region) (s : RegionData) → RegionHolds d region old s → RegionHolds d region new s
  read_holds region s holds = holds_kept d region old s holds new (λ file. ⊥) read_touches (λ file own no. no)

  read_disk : (f : FolderData) (g : Group) → IsOnDisk d old f g → IsOnDisk d new f g
  read_disk f g on = record { rows = read_holds g.rows (f.regions g.rows.number) on.rows; indexes = λ i x at. read_holds x.region (f.regions x.region.number) (on.indexes i x at) }

  -- the disk stands for what it stood for
  read_stands : (f : FolderData) → StandsOn d old f → StandsOn d new f
  read_stands f on = record {
    parts = λ q keeps. stands_kept d old new (IsFileOfPart q) _ (on.parts q keeps) (λ file. ⊥) read_touches (λ file own no. no);
    fresh = record {
      on_disk = λ file own. only_kept d.calls d.left d.seen old new (λ touched. ⊥) file read_touches (λ no. no) (on.fresh.on_disk file own);
      empty = λ file own. read_touches.sees file (λ no. no) ∙ on.fresh.empty file own;
    };
    unmade = on.unmade;
  }

  -- ---- the server

  module _ (told : (x : D) (moment file : ℕ) (bytes : List ℕ) → d.left x moment file bytes → IsTrue d.tells) (up_to_now : (x : D) (moment file : ℕ) (bytes : List ℕ) → d.left x moment file bytes → moment ≤ d.calls x)
      (b : Base) (sound premise : Type 0) (began : Beginning) (catalog : Catalog) (standing : Standing) (groups : List Group) (trail : Recorded) (late : Option Entry) (closed : Option ℕ)
      (k : IsKept d b sound premise began old catalog standing groups trail late closed) (running : closed ≡ None) where
    parts_read : (f : FolderData) (v : ℕ → GroupData) → HasServerParts d b sound catalog groups old trail.entries f v → HasServerParts d b sound catalog groups new trail.entries f v
    parts_read f v p = record {
      given = p.given;
      stored = catalogue_kept d catalog old p.stored new (λ file. ⊥) read_touches (λ file own no. no);
      standing = p.standing;
      regions = all_weaker (IsOnDisk d old f) (IsOnDisk d new f) (λ g on. read_disk f g on) groups p.regions;
      shown = p.shown;
    }

    goes_read : FolderGoesOn d b (HasServerParts d b sound catalog groups) old trail.entries → FolderGoesOn d b (HasServerParts d b sound catalog groups) new trail.entries
    goes_read goes = record { folder = goes.folder; groups = goes.groups; stands = read_stands goes.folder goes.stands; explains = goes.explains; has = parts_read goes.folder goes.groups goes.has }

    pub read_kept : IsKept d b sound premise began new catalog standing groups trail late closed
    read_kept = record {
      told = k.told;
      each = k.each;
      shown = k.shown;
      server = read_server d told up_to_now b premise (HasServerParts d b sound catalog groups) old trail.entries late closed k.server new reads.stays (λ given tells goes. goes_read goes);
      room = k.room;
      blamed = blamed_on d old new trail.entries reads.stays.later (let f = reads.faults in omega (arith, f)) k.blamed;
      last_call = λ call shut. absurd (let never : None ≡ Some call = sym running ∙ shut in cc);
      others = λ given tells. others_on d b began trail.entries old new (λ file. ⊥) (λ file no. absurd no) read_touches (k.others given tells);
    }
