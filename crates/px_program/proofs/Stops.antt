-- A disk of which stops are told from a moment on.
use Rattle.std.proofs.Common.{◌≡◌, ◌≤◌, inl, inr, ℕ, List, ap, subst, ◌∙◌, arith}
use Rattle.std.specs.List.{All}
use Rattle.std.proofs.lemmas.List.Elements.{All-weaker}
use Rattle.px_outside.specs.Disk.{Image}
use Rattle.px_outside.specs.OnDisk.{IsLeft}
use Rattle.px_outside.specs.declared.clock.Clock.{Ghosts as ClockGhosts}
use Rattle.px_outside.specs.declared.disk.Disk.{Ghosts as DiskGhosts}
use Rattle.px_outside.specs.declared.sink.Sink.{Ghosts as SinkGhosts}
use Rattle.px_outside.proofs.Parts.{all_now}
use Rattle.px_trail.specs.Trail.{Base}
use Rattle.px_region.specs.Region.{data_of}
use Rattle.px_catalog.specs.Catalogue.{HasCatalogue, standing_of}
use Rattle.px_catalog.specs.declared.catalog.Catalog.{Catalog}
use Rattle.px_recovery.specs.Base.{IsSound, IsSoundFolder, base_of}
use Rattle.px_recovery.specs.Folder.{AreFresh, FolderData, IsFileOfPart, IsKeptPart, PartStands, StandsFor, StandsOn, from, part_of}
use Rattle.px_folder.specs.Read.{IsReadOn}
use Rattle.px_folder.proofs.Same.{one_base}
use Rattle.px_opening.specs.Opened.{all_regions, folder_in}
use Rattle.px_opening.specs.declared.opened.Opened.{Opened}
use Rattle.px_server.specs.Others.{Beginning, BeginsAt}
use Rattle.px_server.specs.Started.{HoldsOwn, IsOpenedOn, StartsSound}
use Rattle.px_program.proofs.Later.{holds_later, later, log_later}
use Rattle.px_program.specs.Run.{ReadsSound}
use Rattle.px_program.specs.declared.job.Job.{Job}
use Rattle.px_program.specs.inner.Running.{IsOpenedNow, RanOpened, StoodBefore, IsLeftSince, at_least}
use Rattle.px_program.specs.declared.outcome.Outcome.{Outcome}

-- ---- what was opened

-- of the premise of a run the weaker one
pub starts_reads : {D : Type 0} (d : DiskGhosts D) (disk : D) → StartsSound d disk → ReadsSound d disk
starts_reads d disk s = record { sound = s.sound; fresh = λ file own. s.only file }

module _ {D : Type 0} (d : DiskGhosts D) (old : D) (o : Opened) (told : IsSound (d.seen old) → StandsFor (d.seen old) (folder_in o) × IsSoundFolder (folder_in o)) where
  pub opened_now : (new : D) → (AreFresh d old (standing_of o.catalog).next → StandsOn d new (folder_in o)) → HasCatalogue d o.catalog new → All (IsReadOn d old new) (all_regions o) → ReadsSound d old → IsOpenedNow d new o
  opened_now new stands catalogue read reads = (let
      k = told reads.sound
      in let
      same : base_of (folder_in o) ≡ base_of reads.sound.folder = one_base (d.seen old) (folder_in o) reads.sound.folder k.0 reads.sound.stands k.1
      in let
      next : (standing_of o.catalog).next ≡ reads.sound.folder.standing.next = ap (λ (b : Base). b.next) same
      in record {
        sound = k.1;
        stands = stands (record { on_disk = λ file own. reads.fresh file (subst (λ (n : ℕ). from n file) next own); empty = k.0.fresh });
        catalogue = catalogue;
        regions = All-weaker (IsReadOn d old new) (HoldsOwn d new) (λ r own. own.holds) (all_regions o) read;
      })

-- ---- the disk with fewer stops

module _ {D : Type 0} (d : DiskGhosts D) (tell : ℕ → Type 0) (disk : D) where
  catalogue_later : (c : Catalog) → HasCatalogue d c disk → HasCatalogue (later d tell) c disk
  catalogue_later c k = record {
    records = k.records;
    log = log_later d tell disk _ _ _ _ _ _ k.log;
    value = k.value;
    right = k.right;
    short = λ none. (λ bytes left. (k.short none).0 bytes left.1, λ bytes left. (k.short none).1 bytes left.1);
  }

  pub begins_later : (began : Beginning) → BeginsAt d began disk → BeginsAt (later d tell) began disk
  begins_later began k = record { moment = k.moment; left = λ file bytes is. k.left file bytes is.1; seen = k.seen }

  stands_later : (f : FolderData) → StandsOn d disk f → StandsOn (later d tell) disk f
  stands_later f k = record {
    parts = λ n kept. record { each = λ image left. (k.parts n kept).each image (λ file own. (left file own).1) };
    fresh = record { on_disk = λ file own bytes left. k.fresh.on_disk file own bytes left.1; empty = k.fresh.empty };
    unmade = k.unmade;
  }

  -- where stops are told now, what stands stands on the disk itself
  stands_back : tell (d.calls disk) → (f : FolderData) → StandsOn (later d tell) disk f → StandsOn d disk f
  stands_back now f k = record {
    parts = λ n kept. record { each = λ image left. (k.parts n kept).each image (λ file own. (now, left file own)) };
    fresh = record { on_disk = λ file own bytes left. k.fresh.on_disk file own bytes (now, left); empty = k.fresh.empty };
    unmade = k.unmade;
  }

-- what the disk stands for, each image that a stop leaves now stands for
stands_left : {D : Type 0} (d : DiskGhosts D) → ((x : D) (moment file : ℕ) (bytes : List ℕ) → d.left x moment file bytes → moment ≤ d.calls x) → (disk : D) (f : FolderData) → StandsOn d disk f
    → (moment : ℕ) (image : Image) → d.calls disk ≤ moment → IsLeft d disk moment image → StandsFor image f
stands_left d up_to_now disk f k moment image since left = record {
  parts = all_now d IsFileOfPart PartStands up_to_now (IsKeptPart f.standing) (part_of f) disk k.parts moment image since left;
  fresh = λ file own.
      let up = up_to_now disk moment file (image file) (left file) in
      let same : moment ≡ d.calls disk = omega arith in
      k.fresh.on_disk file own (image file) (subst (λ (m : ℕ). d.left disk m file (image file)) same (left file)) ∙ k.fresh.empty file own;
  unmade = k.unmade;
}

module _ {D : Type 0} (d : DiskGhosts D) (up_to_now : (x : D) (moment file : ℕ) (bytes : List ℕ) → d.left x moment file bytes → moment ≤ d.calls x) (at : ℕ) (all : Type 0) where
  -- what a server asks of that disk
  pub opened_later : (disk : D) (o : Opened) → at ≡ d.calls disk → (all → StoodBefore d disk o) → IsOpenedNow d disk o → IsOpenedOn (later d (at_least at all)) disk o
  opened_later disk o now before k = record {
    sound = k.sound;
    left = λ moment image left. each moment image (left 0).0 (λ file. (left file).1);
    stands = stands_later d (at_least at all) disk (folder_in o) k.stands;
    catalogue = catalogue_later d (at_least at all) disk o.catalog k.catalogue;
    regions = All-weaker (HoldsOwn d disk) (HoldsOwn (later d (at_least at all)) disk) (λ r own. holds_later d (at_least at all) disk r (data_of r) own) (all_regions o) k.regions;
  }
    where
      each : (moment : ℕ) (image : Image) → at_least at all moment → IsLeft d disk moment image → StandsFor image (folder_in o)
      each moment image (inl earlier) left = before earlier moment image left
      each moment image (inr since) left = stands_left d up_to_now disk (folder_in o) k.stands moment image (omega (arith, now, since)) left

  -- what a run over it leaves of the disk itself
  pub ran_later : {C O : Type 0} (c : ClockGhosts C) (k : SinkGhosts O) (base : Base) (sound premise : Type 0) (began : Beginning) (times : ℕ → ℕ) (lookback : ℕ) (job : Job) (disk : D) (out out' : O) (o : Outcome D) → at ≤ d.calls o.disk → at ≡ began.moment
      → RanOpened (later d (at_least at all)) c k base sound premise began (IsLeft (later d (at_least at all))) times lookback job disk out out' o → RanOpened d c k base sound premise began (IsLeftSince d at all) times lookback job disk out out' o
  ran_later c k base sound premise began times lookback job disk out out' o within now (inl r) = inl (record {
    legal = r.legal;
    stamped = r.stamped;
    back = r.back;
    seat = r.seat;
    sink_failed = r.sink_failed;
    replied = r.replied;
    written = r.written;
    recovers = λ given moment image left. r.recovers given moment image (λ file. (left.0, left.1 file));
    stands = λ open_ given tells. (let
        s = r.stands open_ given tells
        in record { folder = s.folder; groups = s.groups; stands = stands_back d (at_least at all) o.disk (inr within) s.folder s.stands; explains = s.explains });
    unlate = r.unlate;
    late_is = r.late_is;
    closed_at = r.closed_at;
    status = r.status;
    blamed = r.blamed;
    others = λ given tells. (let
        s = r.others given tells
        in record { later = s.later; left = λ moment file bytes since other is. s.left moment file bytes since other (inr (omega (arith, now, since)), is); seen = s.seen });
  })
  ran_later c k base sound premise began times lookback job disk out out' o within now (inr l) = inr (record { status = l.status; back = l.back; nothing = record { entries = l.nothing.entries; late = l.nothing.late; transcripts = l.nothing.transcripts; memory = l.nothing.memory; unwritten = l.nothing.unwritten } })
