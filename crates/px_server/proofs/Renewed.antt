-- A step of the catalogue's renewal: the same stands after it, and what is true of a server stays so.
use Rattle.std.proofs.Common.{◌≡◌, ◌<◌, ◌≤◌, ◌+◌, inl, ℕ, Option, Some, None, List, [], ◌∷◌, ◌++◌, refl, sym, ap, subst, ◌∙◌, arith}
use Rattle.std.specs.Prelude.{IsTrue}
use Rattle.px_outside.specs.Disk.{Image, IsLeftBy}
use Rattle.px_outside.specs.OnDisk.{LeavesOnly, Rose}
use Rattle.px_outside.specs.Standing.{StandsIn}
use Rattle.px_outside.specs.declared.disk.Disk.{Ghosts}
use Rattle.px_trail.specs.Recorded.{Recorded}
use Rattle.px_trail.specs.Trail.{Base}
use Rattle.px_trail.specs.declared.entry.Act.TheVariants.{Shut}
use Rattle.px_trail.specs.declared.entry.Entry.{Entry}
use Rattle.px_schema.specs.declared.standing.Standing.{Standing}
use Rattle.px_catalog.specs.Catalogue.{CatalogueStands, HasCatalogue, catalogue_files, standing_of}
use Rattle.px_catalog.specs.declared.catalog.Catalog.{Catalog}
use Rattle.px_catalog.proofs.Holding.{catalogue_stands}
use Rattle.px_groupworld.specs.Group.{GroupData}
use Rattle.px_group.specs.declared.group.Group.{Group}
use Rattle.px_recovery.specs.Folder.{FolderData}
use Rattle.px_recovery.specs.Kept.{FolderGoesOn, LeavesFolder, MovesFolder}
use Rattle.px_recovery.proofs.Definitions.{catalogue_kept, catalogue_stays}
use Rattle.px_server.specs.Kept.{HasServerParts, IsKept, IsTold, spare}
use Rattle.px_server.specs.Others.{Beginning, OthersStay}
use Rattle.px_server.specs.inner.Renewing.{HasRenewed, Renews}
use Rattle.px_server.proofs.Blamed.{blamed_on, failed_rose}
use Rattle.px_server.proofs.Catalogued.{all_on_disk}
use Rattle.px_server.proofs.Changed.{changed_server, shut_server}
use Rattle.px_server.proofs.Others.{others_on}
use Rattle.px_server.proofs.Stopped.{none_some, stopped_same}

module _ {D : Type 0} (d : Ghosts D) (tells_left : (x : D) (moment file : ℕ) (bytes : List ℕ) → d.left x moment file bytes → IsTrue d.tells)
    (up_to_now : (x : D) (moment file : ℕ) (bytes : List ℕ) → d.left x moment file bytes → moment ≤ d.calls x) (b : Base) (sound premise : Type 0) (began : Beginning)
    (disk : D) (catalog : Catalog) (standing : Standing) (groups : List Group) (trail : Recorded) (late : Option Entry) (closed : Option ℕ) (k : IsKept d b sound premise began disk catalog standing groups trail late closed)
    (running : closed ≡ None) (disk' : D) (catalog' : Catalog) (r : Renews d catalog catalog' disk disk') where
  abbrev es : List Entry
  es = trail.entries

  abbrev Has : D → List Entry → FolderData → (ℕ → GroupData) → Type 0
  Has = HasServerParts d b sound catalog groups

  abbrev Then : D → List Entry → FolderData → (ℕ → GroupData) → Type 0
  Then = HasServerParts d b sound catalog' groups

  past : premise → IsTrue d.tells → (moment : ℕ) (image : Image) → moment < d.calls disk → IsLeftBy d.left disk' moment image → IsLeftBy d.left disk moment image
  past given tells moment image before is file = (r.touches (k.server.goes_on running given tells).has.stored).past moment file (image file) before (is file)

  others_on_disk : premise → IsTrue d.tells → OthersStay d b began disk' es
  others_on_disk given tells = others_on d b began es disk disk' catalogue_files (λ file own. inl own) (r.touches (k.server.goes_on running given tells).has.stored) (k.others given tells)

  left_now : (goes : FolderGoesOn d b Has disk es) → LeavesFolder d b disk disk' es goes.folder
  left_now goes = (let
      f = goes.folder
      in let
      leaves : LeavesOnly d disk disk' (λ moment image. CatalogueStands image f.standing) =
      subst (λ (s : Standing). LeavesOnly d disk disk' (λ moment image. CatalogueStands image s)) (sym goes.has.standing) (r.leaves goes.has.stored)
      in let
      stays = catalogue_stays d disk disk' f goes.stands goes.explains.numbered.least (r.touches goes.has.stored) leaves
      in record {
        folder = f;
        groups = goes.groups;
        leaves = record { each = λ moment image since is. inl (stays.each moment image since is) };
        explains = goes.explains;
      })

  -- a call failed: the server is closed
  pub renewal_stopped : (calls seat : ℕ) → calls ≡ d.calls disk' → Rose d disk disk' → (trail' : Recorded) → trail'.entries ≡ es ++ record { seat = seat; calls = calls; act = Shut calls } ∷ [] → trail'.room + 1 ≡ trail.room
      → IsKept d b sound premise began disk' catalog' standing groups trail' late (Some calls)
  renewal_stopped calls seat at rose trail' entries room = (let
      shut : Entry = record { seat = seat; calls = calls; act = Shut calls }
      in let
      before = k.room
      in let
      one : spare closed ≡ 1 = ap spare running
      in subst (λ (o : Option Entry). IsKept d b sound premise began disk' catalog' standing groups trail' o (Some calls)) (sym (k.server.unlate running))
      (stopped_same d b sound premise began disk catalog standing groups trail late closed k running disk' r.counts.later shut calls refl at catalog' None
      (shut_server d tells_left up_to_now b premise Has Then disk es late closed k.server running disk' r.counts.later past shut calls refl at left_now) (failed_rose d disk disk' rose) others_on_disk trail' entries (omega (arith, before, one, room))))

  -- the catalogue goes on
  module _ (stored : HasRenewed d catalog catalog' disk disk') where
    moves : (goes : FolderGoesOn d b Has disk es) → MovesFolder d b Then disk disk' es goes.folder
    unfolding left_now
    moves goes = (let
        f = goes.folder
        in let
        touched = r.touches goes.has.stored
        in let
        there : HasCatalogue d catalog' disk' = stored goes.has.stored
        in let
        stands_now : standing_of catalog' ≡ f.standing = r.same ∙ sym goes.has.standing
        in record {
          left = left_now goes;
          on = catalogue_kept d disk disk' f goes.stands goes.explains.numbered.least touched
              (subst (λ (s : Standing). StandsIn d disk' catalogue_files (λ image. CatalogueStands image s)) stands_now (catalogue_stands d catalog' disk' there));
          has = record {
            given = goes.has.given;
            stored = there;
            standing = sym stands_now;
            regions = all_on_disk d disk disk' touched b es f goes.groups goes.explains groups (k.each.right running) (k.each.tallied running) goes.has.regions;
            shown = goes.has.shown;
          };
        })

    pub renewed : IsKept d b sound premise began disk' catalog' standing groups trail late closed
    renewed = record {
      told = subst (λ (s : Standing). IsTold b es closed s standing) (sym r.same) k.told;
      each = k.each;
      shown = k.shown;
      server = changed_server d tells_left up_to_now b premise Has Then disk es late closed k.server running disk' r.counts.later past moves;
      room = k.room;
      blamed = blamed_on d disk disk' es r.counts.later r.counts.faults_later k.blamed;
      last_call = λ c same. absurd (none_some c (sym running ∙ same));
      others = others_on_disk;
    }
