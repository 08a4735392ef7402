-- What a folder that is opened on a sound disk leaves.
use Rattle.std.proofs.Common.{◌≡◌, inl, inr, ℕ, zero, suc, None, [], refl, sym, ap, arith}
use Rattle.std.specs.Prelude.{length}
use Rattle.std.specs.List.{All}
use Rattle.std.proofs.lemmas.List.Elements.{All-weaker}
use Rattle.px_outside.specs.Disk.{Image}
use Rattle.px_outside.specs.OnDisk.{IsLeft}
use Rattle.px_outside.specs.declared.disk.Disk.{Ghosts}
use Rattle.px_gatelog.proofs.LogRecords.{records_same}
use Rattle.px_schema.specs.declared.standing.Standing.{Standing}
use Rattle.px_catalog.specs.Catalogue.{CatalogueStands, HasCatalogue, standing_of}
use Rattle.px_catalog.specs.Reading.{catalogue_form}
use Rattle.px_recovery.specs.Base.{IsSound, IsSoundFolder, base_of}
use Rattle.px_recovery.specs.Folder.{AreFresh, FolderData, IsFileOfPart, PartStands, StandsFor, StandsOn, part_of}
use Rattle.px_recovery.specs.Stands.{Recovers}
use Rattle.px_recovery.proofs.Round.{sound_stands}
use Rattle.px_folder.specs.Read.{IsReadOn}
use Rattle.px_folder.proofs.Local.{stands_local}
use Rattle.px_folder.proofs.Same.{one_base}
use Rattle.px_opening.specs.Opened.{all_regions, folder_in}
use Rattle.px_opening.specs.declared.opened.Opened.{Opened}
use Rattle.px_server.specs.Started.{HoldsOwn, IsOpenedOn, KeepsFolder, StartsSound}

-- what files 0 and 1 stand for depends on these files alone
catalogue_local : (old new : Image) (s : Standing) → new 0 ≡ old 0 → new 1 ≡ old 1 → CatalogueStands old s → CatalogueStands new s
catalogue_local old new s first second k = record {
  records = k.records;
  stand = records_same catalogue_form 0 1 old new k.records first second k.stand;
  value = k.value;
  short = λ none. (let
      both = k.short none
      in let
      one : length (new 0) ≡ length (old 0) = ap length first
      in let
      two : length (new 1) ≡ length (old 1) = ap length second
      in let
      low = both.0
      in let
      high = both.1
      in (omega (arith, one, low), omega (arith, two, high)));
}

part_local : (old new : Image) (f : FolderData) (n : ℕ) → ((file : ℕ) → IsFileOfPart n file → new file ≡ old file) → PartStands n old (part_of f n) → PartStands n new (part_of f n)
part_local old new f zero same k = catalogue_local old new f.standing (same 0 (inl refl)) (same 1 (inr refl)) k
part_local old new f (suc n) same k = stands_local (suc n) old new (λ file own. sym (same file own)) (f.regions (suc n)) k

module _ {D : Type 0} (d : Ghosts D) (old : D) (starts : StartsSound d old) where
  -- the disk stands for what its files stand for
  stands_on : (f : FolderData) → StandsFor (d.seen old) f → StandsOn d old f
  stands_on f k = record {
    parts = λ n kept. record { each = λ image left. part_local (d.seen old) image f n (λ file own. starts.only file (image file) (left file own)) (k.parts n kept) };
    fresh = record { on_disk = λ file own. starts.only file; empty = k.fresh };
    unmade = k.unmade;
  }

  -- and so does each image that calls leave which keep it
  left_for : (new : D) → KeepsFolder d old new → (f : FolderData) → StandsFor (d.seen old) f → IsSoundFolder f → (moment : ℕ) (image : Image) → IsLeft d new moment image → StandsFor image f
  left_for new keeps f k sound moment image left = (let
      first = starts.calls
      in (keeps f k (stands_on f k) sound.numbered.least).each moment image (omega (arith, first)) left)

  module _ (o : Opened) (told : IsSound (d.seen old) → StandsFor (d.seen old) (folder_in o) × IsSoundFolder (folder_in o)) where
    pub opened_on : (new : D) → (AreFresh d old (standing_of o.catalog).next → StandsOn d new (folder_in o)) → HasCatalogue d o.catalog new → All (IsReadOn d old new) (all_regions o) → KeepsFolder d old new → IsOpenedOn d new o
    opened_on new stands catalogue read keeps = (let
        k = told starts.sound
        in record {
          sound = k.1;
          left = λ moment image left. left_for new keeps (folder_in o) k.0 k.1 moment image left;
          stands = stands (record { on_disk = λ file own. starts.only file; empty = k.0.fresh });
          catalogue = catalogue;
          regions = All-weaker (IsReadOn d old new) (HoldsOwn d new) (λ r own. own.holds) (all_regions o) read;
        })

    pub base_opened : base_of (folder_in o) ≡ base_of starts.sound.folder
    base_opened = (let
        k = told starts.sound
        in one_base (d.seen old) (folder_in o) starts.sound.folder k.0 starts.sound.stands k.1)

  pub recovers_failed : (new : D) → KeepsFolder d old new → (moment : ℕ) (image : Image) → IsLeft d new moment image → Recovers (base_of starts.sound.folder) [] None moment image
  recovers_failed new keeps moment image left = inl (sound_stands starts.sound.folder image (left_for new keeps starts.sound.folder starts.sound.stands starts.sound.sound moment image left) starts.sound.sound)
