-- What is read of a folder.
use Rattle.std.proofs.Common.{◌≡◌, ◌≢◌, ◌≤◌, ◌<◌, ◌+◌, ◌⊎◌, ℕ, zero, suc, List, [], ◌∷◌, ◌++◌, length, take, drop, get_or, map, refl, sym, ap, subst, ◌∙◌, arith, inl, inr}
use Rattle.std.specs.Prelude.{IfOk, IsTrue, IsPermutation, Result, Ok, Err}
use Rattle.std.specs.List.{All, AllByRecursion, flat_map}
use Rattle.std.proofs.lemmas.Bool.{cases_lt}
use Rattle.std.proofs.lemmas.List.Sorted.{All-permutation}
use Rattle.std.proofs.lemmas.List.Elements.{All-from_recursion, All-map, All-push, All-same, All-weaker, recursion_from_All}
use Rattle.std.proofs.lemmas.List.{map-append, take_more}
use Rattle.px_outside.specs.Disk.{Image, IsLeftBy}
use Rattle.px_outside.specs.OnDisk.{LeavesOnly, Only, Stays, TouchesOnly}
use Rattle.px_outside.specs.Standing.{StandsIn}
use Rattle.px_outside.specs.declared.disk.Disk.{Ghosts}
use Rattle.px_outside.proofs.Moments.{only_kept, stays_touches, touches_more, touches_then}
use Rattle.px_tables.specs.declared.index.Index.{Index}
use Rattle.px_tables.specs.declared.table.Table.{Table}
use Rattle.px_tables.specs.declared.table.TableRegion.{TableRegion}
use Rattle.px_region.specs.Opened as region
use Rattle.px_region.specs.Region.{RegionData, RegionHolds, RegionStands, data_of}
use Rattle.px_region.specs.declared.region.Region.{Region}
use Rattle.px_region.proofs.Holding.{held_data, holds_kept, holds_stands}
use Rattle.px_schema.specs.declared.standing.Standing.{Standing}
use Rattle.px_catalog.specs.Catalogue.{CatalogueStands, HasCatalogue, catalogue_files, standing_of}
use Rattle.px_catalog.specs.declared.catalog.Catalog.{Catalog}
use Rattle.px_catalog.proofs.Holding.{catalogue_kept, catalogue_stands}
use Rattle.px_wal.specs.Files.{HasFile, file_of}
use Rattle.px_recovery.specs.Folder.{AreFresh, AreUnmade, FolderData, IsEmptyFrom, IsFileOfPart, IsKeptPart, PartStands, StandsFor, StandsOn, from, part_of, region_numbers, regions_of}
use Rattle.px_recovery.proofs.Definitions.{catalogue_stays}
use Rattle.px_recovery.specs.Base.{IsSound, IsSoundFolder}
use Rattle.px_catalog.proofs.Opening.{stands_once}
use Rattle.px_folder.proofs.Same.{one_sound}
use Rattle.px_folder.specs.Damage.{IsDamagedBelow, IsDamagedIn, IsWhole, in_numbers, in_region}
use Rattle.px_folder.specs.Drawn.{AreDrawn, IsDrawnIndex, IsDrawnTable, IsRegionDrawn}
use Rattle.px_folder.specs.Read.{IsReadOn, PartsStandFor, data_at, folder_by, number_of_open_region}
use Rattle.px_folder.proofs.Found.{at_all, at_none}
use Rattle.px_folder.proofs.Local.{damaged_local, stands_local}
use Rattle.px_folder.proofs.Once.{among_permuted}

pub next_numbers : (rs all : List Region) (r : Region) (numbers : List ℕ) (i : ℕ) → all ≡ rs ++ r ∷ [] → map number_of_open_region rs ≡ take i numbers → i < length numbers → r.number ≡ get_or numbers i 0 → map number_of_open_region all ≡ take (i + 1) numbers
next_numbers rs all r numbers i are before lt is =
    ap (map number_of_open_region) are ∙ (map-append number_of_open_region rs (r ∷ []) ∙ ((λ j. before j ++ is j ∷ []) ∙ sym (take_more numbers i 0 lt)))

-- the numbers up to a place, that one, and those behind it
pub parts_at : (numbers : List ℕ) (i : ℕ) → i < length numbers → numbers ≡ take i numbers ++ get_or numbers i 0 ∷ drop (suc i) numbers
parts_at [] i lt = absurd (omega arith)
parts_at (n ∷ numbers) zero lt = refl
parts_at (n ∷ numbers) (suc i) lt = ap (λ (l : List ℕ). n ∷ l) (parts_at numbers i (omega arith))

-- the parts, and no byte in the files of regions that are still to be made
pub whole_stands : (image : Image) (f : FolderData) → PartsStandFor image f → IsEmptyFrom f.standing.next image → StandsFor image f
whole_stands image f stood empty = record { parts = stood.parts; fresh = empty; unmade = stood.unmade }

module _ {D : Type 0} (d : Ghosts D) where
  -- ---- regions, one after another

  -- what was read stays where nothing changes
  read_kept : (old mid new : D) → Stays d mid new → d.seen new ≡ d.seen mid → (r : Region) → IsReadOn d old mid r → IsReadOn d old new r
  read_kept old mid new quiet same r read = record {
    stood = read.stood;
    holds = holds_kept d r mid (data_of r) read.holds new (λ file. ⊥) (stays_touches d.calls d.left d.seen mid new quiet same) (λ file own never. never);
  }

  pub all_read : (old mid new : D) → Stays d mid new → d.seen new ≡ d.seen mid → (rs : List Region) → All (IsReadOn d old mid) rs → All (IsReadOn d old new) rs
  all_read old mid new quiet same rs all = All-weaker (IsReadOn d old mid) (IsReadOn d old new) (read_kept old mid new quiet same) rs all

  pub one_read : (old mid new : D) (number : ℕ) (r : Region) → d.seen mid ≡ d.seen old → r.number ≡ number → (s : RegionData) → RegionStands number (d.seen mid) s → RegionHolds d r new s → IsReadOn d old new r
  one_read old mid new number r same number_is s stood holds =
      let e = held_data d r new s holds in
      record {
        stood = subst (λ (n : ℕ). RegionStands n (d.seen old) (data_of r)) (sym number_is) (subst (λ (x : RegionData). RegionStands number (d.seen old) x) (sym e) (subst (λ (i : Image). RegionStands number i s) same stood));
        holds = subst (λ (x : RegionData). RegionHolds d r new x) (sym e) holds;
      }

  -- one more
  pub more_read : (old mid new : D) (number : ℕ) (r : Region) (rs all : List Region) → all ≡ rs ++ r ∷ [] → d.seen mid ≡ d.seen old → Stays d mid new → d.seen new ≡ d.seen mid → All (IsReadOn d old mid) rs → r.number ≡ number
      → (s : RegionData) → RegionStands number (d.seen mid) s → RegionHolds d r new s → All (IsReadOn d old new) all
  more_read old mid new number r rs all are same quiet seen read number_is s stood holds =
      All-same (IsReadOn d old new) all (rs ++ r ∷ []) are (All-push (IsReadOn d old new) rs r (all_read old mid new quiet seen rs read) (one_read old mid new number r same number_is s stood holds))

  -- those that were read stand
  pub all_whole : (old new : D) (rs : List Region) (numbers : List ℕ) → map number_of_open_region rs ≡ numbers → All (IsReadOn d old new) rs → All (IsWhole (d.seen old)) numbers
  all_whole old new rs numbers are all =
      subst (λ (l : List ℕ). All (IsWhole (d.seen old)) l) are (All-map (IsWhole (d.seen old)) number_of_open_region rs (All-weaker (IsReadOn d old new) (λ r. IsWhole (d.seen old) r.number) (λ r read. (data_of r, read.stood)) rs all))

  -- ---- a folder

  pub apart : (n file : ℕ) → 1 ≤ n → HasFile n file → catalogue_files file → ⊥
  apart n file some own (inl is) = (let e = own.is in omega arith)
  apart n file some own (inr is) = (let e = own.is in omega arith)

  later_apart : (n file : ℕ) → 1 ≤ n → from n file → catalogue_files file → ⊥
  later_apart n file some own (inl is) = omega arith
  later_apart n file some own (inr is) = omega arith

  module _ (old mid new : D) (touches : TouchesOnly d old mid catalogue_files) (quiet : Stays d mid new) (same : d.seen new ≡ d.seen mid) where
    pub all_touches : TouchesOnly d old new catalogue_files
    all_touches = touches_then d.calls d.left d.seen old mid new catalogue_files touches
        (touches_more d.calls d.left d.seen mid new (λ file. ⊥) catalogue_files (λ file never. absurd never) (stays_touches d.calls d.left d.seen mid new quiet same))

    -- the files of the regions were there before the catalogue was made
    pub read_before : (r : Region) → 1 ≤ r.number → IsReadOn d mid new r → IsReadOn d old new r
    read_before r some read = record { stood = stands_local r.number (d.seen mid) (d.seen old) (λ file own. touches.sees file (λ its. apart r.number file some own its)) (data_of r) read.stood; holds = read.holds }

    pub whole_before : (n : ℕ) → 1 ≤ n → IsWhole (d.seen mid) n → IsWhole (d.seen old) n
    whole_before n some whole = (whole.0, stands_local n (d.seen mid) (d.seen old) (λ file own. touches.sees file (λ its. apart n file some own its)) whole.0 whole.1)

    pub damaged_before : (n file place : ℕ) → 1 ≤ n → region.IsFirstDamagedInRegion n (d.seen mid) file place → region.IsFirstDamagedInRegion n (d.seen old) file place
    damaged_before n file place some damaged = damaged_local n (d.seen mid) (d.seen old) (λ f own. touches.sees f (λ its. apart n f some own its)) file place damaged

    pub catalogue_after : (c : Catalog) → HasCatalogue d c mid → HasCatalogue d c new
    catalogue_after c has = catalogue_kept d c mid has new (λ file. ⊥) (stays_touches d.calls d.left d.seen mid new quiet same) (λ file own never. never)

    -- what the folder stands for stays at each moment
    pub leaves_folder : (f : FolderData) → StandsOn d old f → 1 ≤ f.standing.next → LeavesOnly d old mid (λ moment image. CatalogueStands image f.standing) → LeavesOnly d old new (λ moment image. StandsFor image f)
    leaves_folder f on some leaves =
        let first = catalogue_stays d old mid f on some touches leaves in
        record {
          each = λ moment image since is. elim (cases_lt moment (d.calls mid)) [
            | inl before ↦ first.each moment image since (λ file. quiet.past moment file (image file) before (is file))
            | inr after ↦ first.each (d.calls mid) image touches.later (λ file. quiet.now moment file (image file) after (is file))
          ];
        }

-- ---- numbers that were drawn

drawn_regions : (next : ℕ) (gs : List TableRegion) → AllByRecursion (λ g. IsRegionDrawn next g.number) gs → AllByRecursion (IsRegionDrawn next) (map (λ (g : TableRegion). g.number) gs)
drawn_regions next [] all = tt
drawn_regions next (g ∷ gs) all = (all.0, drawn_regions next gs all.1)

joined : (P : ℕ → Type 0) (a b : List ℕ) → AllByRecursion P a → AllByRecursion P b → AllByRecursion P (a ++ b)
joined P [] b one two = two
joined P (m ∷ a) b one two = (one.0, joined P a b one.1 two)

drawn_tables : (next : ℕ) (ts : List Table) → AllByRecursion (IsDrawnTable next) ts → AllByRecursion (IsRegionDrawn next) (flat_map regions_of ts)
drawn_tables next [] all = tt
drawn_tables next (t ∷ ts) all = joined (IsRegionDrawn next) (regions_of t) (flat_map regions_of ts) (drawn_regions next t.regions (recursion_from_All (λ g. IsRegionDrawn next g.number) t.regions all.0.regions)) (drawn_tables next ts all.1)

drawn_indexes : (next : ℕ) (is : List Index) → AllByRecursion (IsDrawnIndex next) is → AllByRecursion (IsRegionDrawn next) (map (λ (i : Index). i.region) is)
drawn_indexes next [] all = tt
drawn_indexes next (i ∷ is) all = (all.0.region, drawn_indexes next is all.1)

pub all_drawn : (s : Standing) → AreDrawn s → All (IsRegionDrawn s.next) (region_numbers s)
all_drawn s drawn = All-from_recursion (IsRegionDrawn s.next) (region_numbers s)
    (joined (IsRegionDrawn s.next) (flat_map regions_of s.tables) (map (λ (i : Index). i.region) s.indexes) (drawn_tables s.next s.tables (recursion_from_All (IsDrawnTable s.next) s.tables drawn.tables))
    (drawn_indexes s.next s.indexes (recursion_from_All (IsDrawnIndex s.next) s.indexes drawn.indexes)))

mapped : (P : ℕ → Type 0) (rs : List Region) → AllByRecursion P (map number_of_open_region rs) → AllByRecursion (λ (r : Region). P r.number) rs
mapped P [] all = tt
mapped P (r ∷ rs) all = (all.0, mapped P rs all.1)

both : (P Q R : Region → Type 0) → ((r : Region) → P r → Q r → R r) → (rs : List Region) → AllByRecursion P rs → AllByRecursion Q rs → AllByRecursion R rs
both P Q R to [] one two = tt
both P Q R to (r ∷ rs) one two = (to r one.0 two.0, both P Q R to rs one.1 two.1)

module _ (s : Standing) (rs : List Region) (drawn : AreDrawn s) (moved : IsPermutation (region_numbers s) (map number_of_open_region rs)) where
  pub numbers_drawn : AllByRecursion (λ (r : Region). IsRegionDrawn s.next r.number) rs
  numbers_drawn = mapped (IsRegionDrawn s.next) rs (recursion_from_All (IsRegionDrawn s.next) (map number_of_open_region rs) (All-permutation (IsRegionDrawn s.next) (region_numbers s) (map number_of_open_region rs) moved (all_drawn s drawn)))

  pub unmade : AreUnmade (folder_by s rs)
  unmade n le = at_none rs n (both (λ r. IsRegionDrawn s.next r.number) (λ r. Unit {0}) (λ r. r.number ≢ n) (λ r is none same. (let b = is.below in omega arith)) rs numbers_drawn (all_units rs))
    where
      all_units : (l : List Region) → AllByRecursion (λ (r : Region). Unit {0}) l
      all_units [] = tt
      all_units (r ∷ l) = (tt, all_units l)

  module _ {D : Type 0} (d : Ghosts D) (old new : D) (read : AllByRecursion (IsReadOn d old new) rs) where
    stood_at : (n : ℕ) → AllByRecursion (λ (r : Region). r.number ≡ n → RegionStands n (d.seen old) (data_of r)) rs
    stood_at n = both (IsReadOn d old new) (IsReadOn d old new) (λ r. r.number ≡ n → RegionStands n (d.seen old) (data_of r)) (λ r one two same. subst (λ (k : ℕ). RegionStands k (d.seen old) (data_of r)) same one.stood) rs read read

    held_at : (n : ℕ) → AllByRecursion (λ (r : Region). r.number ≡ n → StandsIn d new (HasFile n) (λ image. RegionStands n image (data_of r))) rs
    held_at n =
        both (IsReadOn d old new) (IsReadOn d old new) (λ r. r.number ≡ n → StandsIn d new (HasFile n) (λ image. RegionStands n image (data_of r)))
        (λ r one two same. subst (λ (k : ℕ). StandsIn d new (HasFile k) (λ image. RegionStands k image (data_of r))) same (holds_stands d r new (data_of r) one.holds)) rs read read

    pub read_stood : CatalogueStands (d.seen old) s → PartsStandFor (d.seen old) (folder_by s rs)
    read_stood catalogue = record { parts = each; unmade = unmade }
      where
        each : (n : ℕ) → IsKeptPart s n → PartStands n (d.seen old) (part_of (folder_by s rs) n)
        each zero kept = catalogue
        each (suc n) kept = at_all (λ x. RegionStands (suc n) (d.seen old) x) rs (suc n) (stood_at (suc n)) (among_permuted (suc n) (region_numbers s) (map number_of_open_region rs) moved kept)

    pub read_stands : StandsIn d new catalogue_files (λ image. CatalogueStands image s) → TouchesOnly d old new catalogue_files → AreFresh d old s.next → StandsOn d new (folder_by s rs)
    read_stands catalogue touches fresh = record {
      parts = each;
      fresh = record {
        on_disk = λ file own. only_kept d.calls d.left d.seen old new catalogue_files file touches (later_apart d s.next file drawn.least own) (fresh.on_disk file own);
        empty = λ file own. touches.sees file (later_apart d s.next file drawn.least own) ∙ fresh.empty file own;
      };
      unmade = unmade;
    }
      where
        each : (n : ℕ) → IsKeptPart s n → StandsIn d new (IsFileOfPart n) (λ image. PartStands n image (part_of (folder_by s rs) n))
        each zero kept = catalogue
        each (suc n) kept = at_all (λ x. StandsIn d new (HasFile (suc n)) (λ image. RegionStands (suc n) image x)) rs (suc n) (held_at (suc n)) (among_permuted (suc n) (region_numbers s) (map number_of_open_region rs) moved kept)

-- numbers up to one of them, and that one
front : (P : ℕ → Type 0) (a : List ℕ) (n : ℕ) (b : List ℕ) → AllByRecursion P (a ++ n ∷ b) → AllByRecursion P a × P n
front P [] n b all = (tt, all.0)
front P (m ∷ a) n b all = let f = front P a n b all.1 in ((all.0, f.0), f.1)

both_numbers : (P Q R : ℕ → Type 0) → ((n : ℕ) → P n → Q n → R n) → (ns : List ℕ) → AllByRecursion P ns → AllByRecursion Q ns → AllByRecursion R ns
both_numbers P Q R to [] one two = tt
both_numbers P Q R to (n ∷ ns) one two = (to n one.0 two.0, both_numbers P Q R to ns one.1 two.1)

module _ {D : Type 0} (d : Ghosts D) (old mid new : D) (touches : TouchesOnly d old mid catalogue_files) (quiet : Stays d mid new) (same : d.seen new ≡ d.seen mid) where
  -- where a region is damaged, it was before the catalogue was made
  pub below_before : (s : Standing) (file place : ℕ) → IsDamagedBelow s (d.seen mid) file place → IsDamagedBelow s (d.seen old) file place
  below_before s file place (in_numbers wrong at_file at_place) = in_numbers wrong at_file at_place
  below_before s file place (in_region drawn numbers moved sorted x) =
      let all = recursion_from_All (IsRegionDrawn s.next) numbers (All-permutation (IsRegionDrawn s.next) (region_numbers s) numbers moved (all_drawn s drawn)) in
      let own = front (IsRegionDrawn s.next) x.before x.number x.after (subst (λ (l : List ℕ). AllByRecursion (IsRegionDrawn s.next) l) x.is all) in
      in_region drawn numbers moved sorted (record {
        before = x.before;
        number = x.number;
        after = x.after;
        is = x.is;
        whole = All-from_recursion (IsWhole (d.seen old)) x.before
            (both_numbers (IsRegionDrawn s.next) (IsWhole (d.seen mid)) (IsWhole (d.seen old)) (λ n is whole. whole_before d old mid new touches quiet same n is.some whole) x.before own.0 (recursion_from_All (IsWhole (d.seen mid)) x.before x.whole));
        damaged = damaged_before d old mid new touches quiet same x.number file place own.1.some x.damaged;
      })

  module _ (c : Catalog) (rs : List Region) (drawn : AreDrawn (standing_of c)) (moved : IsPermutation (region_numbers (standing_of c)) (map number_of_open_region rs)) (read : All (IsReadOn d mid new) rs) where
    all_before : AllByRecursion (IsReadOn d old new) rs
    all_before = both (λ r. IsRegionDrawn (standing_of c).next r.number) (IsReadOn d mid new) (IsReadOn d old new) (λ r is one. read_before d old mid new touches quiet same r is.some one) rs (numbers_drawn (standing_of c) rs drawn moved) (recursion_from_All (IsReadOn d mid new) rs read)

    pub folder_read : All (IsReadOn d old new) rs
    folder_read = All-from_recursion (IsReadOn d old new) rs all_before

    pub folder_stood : CatalogueStands (d.seen old) (standing_of c) → PartsStandFor (d.seen old) (folder_by (standing_of c) rs)
    folder_stood = read_stood (standing_of c) rs drawn moved d old new all_before

    -- a sound image stands for what was read of it
    pub folder_sound : CatalogueStands (d.seen old) (standing_of c) → IsSound (d.seen old) → StandsFor (d.seen old) (folder_by (standing_of c) rs) × IsSoundFolder (folder_by (standing_of c) rs)
    folder_sound catalogue sound =
        let same = stands_once (d.seen old) sound.folder.standing (standing_of c) (sound.stands.parts 0 tt) catalogue in
        let stood = whole_stands (d.seen old) (folder_by (standing_of c) rs) (folder_stood catalogue) (subst (λ (s : Standing). IsEmptyFrom s.next (d.seen old)) same sound.stands.fresh) in
        (stood, one_sound (d.seen old) sound.folder (folder_by (standing_of c) rs) sound.stands stood sound.sound)

    pub folder_stands : HasCatalogue d c mid → AreFresh d old (standing_of c).next → StandsOn d new (folder_by (standing_of c) rs)
    folder_stands has fresh = read_stands (standing_of c) rs drawn moved d old new all_before (catalogue_stands d c new (catalogue_after d old mid new touches quiet same c has)) (all_touches d old mid new touches quiet same) fresh

-- what holds of an answer
pub ok_then : {A E : Type 0} (P Q : A → Type 0) → ((x : A) → P x → Q x) → (r : Result A E) → IfOk r P → IfOk r Q
ok_then P Q to (Ok x) holds = to x holds
ok_then P Q to (Err e) holds = tt
