-- How a catalogue goes on.
use Rattle.std.proofs.Common.{◌≡◌, ◌⊎◌, inl, inr, ◌≤◌, ◌<◌, ◌+◌, ◌++◌, ◌∷◌, [], ℕ, Bool, true, false, List, length, Option, Some, None, Ok, refl, sym, ap, subst, ◌∙◌, arith}
use Rattle.std.specs.Prelude.{◌↔◌, IsSome, IsTrue}
use Rattle.std.proofs.lemmas.Bool.{false≢true}
use Rattle.px_outside.specs.Disk.{Image}
use Rattle.px_outside.specs.Lengths.{IsWithinLength, StaysWithin}
use Rattle.px_outside.specs.OnDisk.{LeavesOnly, TouchesOnly}
use Rattle.px_outside.specs.Standing.{StandsIn}
use Rattle.px_outside.specs.declared.disk.Disk.{Ghosts}
use Rattle.px_outside.proofs.Lengths.{within_kept, within_now}
use Rattle.px_outside.proofs.Moments.{touches_more}
use Rattle.px_outside.proofs.Standing.{stands_now}
use Rattle.px_gatelog.specs.First.{segment_size}
use Rattle.px_gatelog.specs.Format.{AllRecordsFit, IsNextRecord, LogRecord}
use Rattle.px_gatelog.specs.GateLog.{IsLaid, IsNewestFile, IsSameLog, file_at, is_newest_file, is_next_file, next_shut, next_side, room_in, steps_by}
use Rattle.px_gatelog.specs.Records.{HasLog}
use Rattle.px_gatelog.specs.Steps.{Commits, IsAppend, IsRollStep, LogReaches}
use Rattle.px_gatelog.specs.declared.gate_log.GateLog.{GateLog}
use Rattle.px_gatelog.specs.declared.roll.Rolled.{Rolled}
use Rattle.px_gatelog.specs.declared.roll.Rolled.TheVariants as step
use Rattle.px_gatelog.specs.declared.segment.Segment.{Segment}
use Rattle.px_gatelog.proofs.LogRecords.{appended_leaves, appended_records, next_leaves, next_records, records_kept, records_stand, some_records}
use Rattle.px_schema.specs.Format.{standing_piece}
use Rattle.px_schema.specs.Fresh.{fresh_standing}
use Rattle.px_schema.specs.Records.{IsRightCatalogItem}
use Rattle.px_schema.specs.Spelled.{standing_bytes}
use Rattle.px_schema.specs.Stands.{stands_after}
use Rattle.px_schema.specs.declared.item.CatalogItem.{CatalogItem}
use Rattle.px_schema.specs.declared.standing.Standing.{Standing}
use Rattle.px_schema.proofs.StaysRight.{after_right}
use Rattle.px_catalog.specs.Reading.{catalogue_form, item_record, next_of, read_behind, snapshot_record, value_of, wrong_of}
use Rattle.px_catalog.specs.Catalogue.{CatalogueStands, HasCatalogue, IsCatalogueFull, catalogue_files, catalogue_steps_left, is_catalogue_open, standing_of}
use Rattle.px_catalog.specs.declared.catalog.Catalog.{Catalog}
use Rattle.px_catalog.proofs.Values.{alone_fits, behind_some, next_item, no_records, not_nil, value_alone, value_more}

-- ---- the files of the log

side_of : (log : GateLog) → log.first ≡ 0 → log.second ≡ 1 → (side : Bool) (file : ℕ) → file ≡ file_at log side → catalogue_files file
side_of log one two false file own = inl (own ∙ one)
side_of log one two true file own = inr (own ∙ two)

newest_side : (log : GateLog) → log.first ≡ 0 → log.second ≡ 1 → (newest : Option Segment) (file : ℕ) → IsNewestFile log newest file → catalogue_files file
newest_side log one two None file own = absurd own
newest_side log one two (Some s) file own = side_of log one two s.in_second file own

pub not_some : (newest : Option Segment) → (IsSome newest → ⊥) → newest ≡ None
not_some None closed = refl
not_some (Some s) closed = absurd (closed refl)

-- ---- what isn't full

opened_by : (newest : Option Segment) → (room_in newest < 32768 → ⊥) → IsSome newest
opened_by None room = absurd (room (omega arith))
opened_by (Some s) room = refl

pub not_full : (c : Catalog) (b : Bool) → (IsTrue b ↔ IsCatalogueFull c) → b ≡ false → is_catalogue_open c × (catalogue_steps_left c ≡ 1 → ⊥)
not_full c b told is =
    let not : IsCatalogueFull c → ⊥ = λ full. false≢true (sym is ∙ told.1 full) in
    (opened_by c.log.newest (λ room. not (inl room)), λ laid. not (inr laid))

-- ---- how many steps are left

steps_within : (laid : Option ℕ) (shut : Bool) → (1 ≤ steps_by laid shut) × (steps_by laid shut ≤ 3)
steps_within (Some end) shut = (omega arith, omega arith)
steps_within None true = (omega arith, omega arith)
steps_within None false = (omega arith, omega arith)

pub steps_are : (c : Catalog) → (1 ≤ catalogue_steps_left c) × (catalogue_steps_left c ≤ 3)
steps_are c = steps_within c.log.laid (next_shut c.log)

-- a segment that is laid out now was laid out by this step
pub laid_next : {P : Type 0} (r : Rolled) (old new : ℕ) → (r ≡ step.More → new + 1 ≡ old) → (r ≡ step.Rolled → 1 < new) → (old ≡ 2 → P) → new ≡ 1 → P
laid_next step.More old new more rolled laid is = laid (let m = more refl in omega arith)
laid_next step.Rolled old new more rolled laid is = absurd (let m = rolled refl in omega arith)

fresh_size : segment_size (snapshot_record fresh_standing ∷ []) ≡ 57
fresh_size = refl

module _ {D : Type 0} (d : Ghosts D) (old : Catalog) (disk : D) (has : HasCatalogue d old disk) where
  pub touches_newest : (disk' : D) → TouchesOnly d disk disk' (is_newest_file old.log) → TouchesOnly d disk disk' catalogue_files
  touches_newest disk' touches = touches_more d.calls d.left d.seen disk disk' (is_newest_file old.log) catalogue_files (λ file own. newest_side old.log has.log.first_is has.log.second_is old.log.newest file own) touches

  pub touches_next : (disk' : D) → TouchesOnly d disk disk' (is_next_file old.log) → TouchesOnly d disk disk' catalogue_files
  touches_next disk' touches = touches_more d.calls d.left d.seen disk disk' (is_next_file old.log) catalogue_files (λ file own. side_of old.log has.log.first_is has.log.second_is (next_side old.log.newest) file own) touches

  -- its files stand for what it has, whatever a stop leaves of them
  pub catalogue_stands : StandsIn d disk catalogue_files (λ image. CatalogueStands image (standing_of old))
  catalogue_stands =
      let stand = records_stand d catalogue_form 0 1 disk old.log has.records has.log in
      record {
        each = λ image left. record {
          records = has.records;
          stand = stand.each image left;
          value = has.value;
          short = λ none. let within = has.short none in (within.0 (image 0) (left 0 (inl refl)), within.1 (image 1) (left 1 (inr refl)));
        };
      }

  -- so do they where no call is made
  pub leaves_now : ((x : D) (moment file : ℕ) (bytes : List ℕ) → d.left x moment file bytes → moment ≤ d.calls x) → LeavesOnly d disk disk (λ moment image. CatalogueStands image (standing_of old))
  leaves_now up_to_now = record { each = λ moment image since left. stands_now d disk catalogue_files (λ i. CatalogueStands i (standing_of old)) up_to_now catalogue_stands moment image since left }

  pub leaves_now_or : (Q : Image → Type 0) → ((x : D) (moment file : ℕ) (bytes : List ℕ) → d.left x moment file bytes → moment ≤ d.calls x) → LeavesOnly d disk disk (λ moment image. CatalogueStands image (standing_of old) ⊎ Q image)
  leaves_now_or Q up_to_now = record { each = λ moment image since left. inl ((leaves_now up_to_now).each moment image since left) }

  -- calls on other files leave it so
  pub catalogue_kept : (disk' : D) (touched : ℕ → Type 0) → TouchesOnly d disk disk' touched → ((file : ℕ) → catalogue_files file → touched file → ⊥) → HasCatalogue d old disk'
  catalogue_kept disk' touched touches apart = record {
    records = has.records;
    log = records_kept d catalogue_form 0 1 disk disk' old.log has.records has.log touched touches apart;
    value = has.value;
    right = has.right;
    short = λ none. let within = has.short none in (
      within_now d 0 4096 disk disk' touches.later (within_kept d 0 4096 disk disk' touched touches (apart 0 (inl refl)) within.0),
      within_now d 1 4096 disk disk' touches.later (within_kept d 1 4096 disk disk' touched touches (apart 1 (inr refl)) within.1),
    );
  }

  -- ---- a definition

  module _ (item : CatalogItem) (is : IsRightCatalogItem (standing_of old) item) (open_ : is_catalogue_open old) (r : LogRecord) (record-is : r ≡ item_record item) where
    some : has.records ≡ [] → ⊥
    some = some_records d catalogue_form 0 1 disk old.log has.records refl open_ has.log

    read : read_behind has.records r ≡ Ok (stands_after (standing_of old) item)
    read = behind_some has.records r (standing_of old) some has.value ∙ ap (next_of (standing_of old)) record-is ∙ next_item (standing_of old) item is

    may : IsNextRecord catalogue_form has.log.segments r
    may = ap (λ (l : List LogRecord). wrong_of (read_behind l r)) has.log.records_are ∙ ap wrong_of read

    pub append_at : (disk' : D) → Commits d old.log disk disk' (IsAppend r) → LeavesOnly d disk disk' (λ moment image. CatalogueStands image (standing_of old) ⊎ CatalogueStands image (stands_after (standing_of old) item))
    append_at disk' commits =
        let l = appended_leaves d catalogue_form 0 1 disk disk' old.log old.log has.records r has.log open_ may commits in
        record {
          each = λ moment image since left. elim (l.each moment image since left) [
            | inl a ↦ inl (record { records = has.records; stand = a; value = has.value; short = λ none. absurd (some none) })
            | inr z ↦ inr (record { records = has.records ++ r ∷ []; stand = z; value = value_more has.records r (stands_after (standing_of old) item) read; short = λ none. absurd (not_nil has.records r none) })
          ];
        }

    pub append_done : (new : Catalog) (disk' : D) → standing_of new ≡ stands_after (standing_of old) item → (catalogue_steps_left old ≡ 1 → ⊥) → IsSameLog old.log new.log
        → ((l : List LogRecord) → IsLaid d old.log disk l → IsLaid d new.log disk' l) → catalogue_steps_left new ≡ catalogue_steps_left old → LogReaches d old.log new.log disk disk' (IsAppend r) → HasCatalogue d new disk'
    append_done new disk' named unlaid same laid steps done =
        let next = snapshot_record (standing_of new) ∷ [] in
        let open_next : HasLog d catalogue_form 0 1 disk old.log has.records next = record {
          segments = has.log.segments;
          first_is = has.log.first_is;
          second_is = has.log.second_is;
          settled = has.log.settled;
          records_are = has.log.records_are;
          laid = λ last. absurd (unlaid last);
        } in
        record {
          records = has.records ++ r ∷ [];
          log = appended_records d catalogue_form 0 1 disk disk' old.log new.log has.records r open_next open_ may done same (laid next) steps;
          value = value_more has.records r (stands_after (standing_of old) item) read ∙ sym named;
          right = subst standing_piece.right (sym named) (after_right (standing_of old) item has.right is);
          short = λ none. absurd (not_nil has.records r none);
        }

  -- ---- a step of the making of a segment

  module _ (long : length (standing_bytes (standing_of old)) ≤ 67108864) where
    next : List LogRecord
    next = snapshot_record (standing_of old) ∷ []

    pub fit : AllRecordsFit catalogue_form [] (snapshot_record (standing_of old) ∷ [])
    fit = alone_fits (standing_of old) has.right (omega (arith, long))

    closed : has.records ≡ [] → old.log.newest ≡ None
    closed none = not_some old.log.newest (λ open_. some_records d catalogue_form 0 1 disk old.log has.records refl open_ has.log none)

    -- without an open segment the next one is in file 0, and short
    pub stays_short : (disk' : D) (r : LogRecord) → r ≡ snapshot_record (standing_of old)
        → ((most : ℕ) → segment_size (r ∷ []) ≤ most → IsWithinLength d disk (file_at old.log (next_side old.log.newest)) most → StaysWithin d disk disk' (file_at old.log (next_side old.log.newest)) most)
        → TouchesOnly d disk disk' (is_next_file old.log) → has.records ≡ [] → StaysWithin d disk disk' 0 4096 × StaysWithin d disk disk' 1 4096
    stays_short disk' r record-is lengths touches none =
        let file : file_at old.log (next_side old.log.newest) ≡ 0 = ap (λ (n : Option Segment). file_at old.log (next_side n)) (closed none) ∙ has.log.first_is in
        let same : standing_of old ≡ fresh_standing = sym has.value ∙ ap value_of none ∙ no_records in
        let size : segment_size (r ∷ []) ≡ 57 = ap (λ (x : LogRecord). segment_size (x ∷ [])) (record-is ∙ ap snapshot_record same) ∙ fresh_size in
        let within = has.short none in (
          subst (λ (f : ℕ). StaysWithin d disk disk' f 4096) file (lengths 4096 (omega (arith, size)) (subst (λ (f : ℕ). IsWithinLength d disk f 4096) (sym file) within.0)),
          within_kept d 1 4096 disk disk' (is_next_file old.log) touches (λ own. (let no : 1 ≡ 0 = own ∙ file in omega (arith, no))) within.1,
        )

    pub roll_at : (disk' : D) → Commits d old.log disk disk' (IsRollStep d old.log disk) → (has.records ≡ [] → StaysWithin d disk disk' 0 4096 × StaysWithin d disk disk' 1 4096)
        → LeavesOnly d disk disk' (λ moment image. CatalogueStands image (standing_of old))
    roll_at disk' commits stays =
        let alone = snapshot_record (standing_of old) ∷ [] in
        let l = next_leaves d catalogue_form 0 1 refl disk disk' old.log old.log has.records alone has.log fit commits in
        record {
          each = λ moment image since left. elim (l.each moment image since left) [
            | inl a ↦ record {
              records = has.records;
              stand = a;
              value = has.value;
              short = λ none. let within = stays none in (within.0 moment (image 0) since (left 0), within.1 moment (image 1) since (left 1));
            }
            | inr z ↦ record { records = alone; stand = z; value = value_alone (standing_of old) has.right; short = λ none. absurd cc }
          ];
        }

    pub roll_done : (new : Catalog) (disk' : D) → standing_of new ≡ standing_of old → IsSameLog old.log new.log → (catalogue_steps_left new ≡ 1 → IsLaid d new.log disk' (snapshot_record (standing_of old) ∷ []))
        → LogReaches d old.log new.log disk disk' (IsRollStep d old.log disk) → d.calls disk ≤ d.calls disk' → (has.records ≡ [] → StaysWithin d disk disk' 0 4096 × StaysWithin d disk disk' 1 4096) → HasCatalogue d new disk'
    roll_done new disk' named same laid done later stays =
        elim (next_records d catalogue_form 0 1 refl disk disk' old.log new.log has.records (snapshot_record (standing_of old) ∷ []) has.log fit done same laid) [
          | inl log ↦
              by has.records log has.value (λ none. let within = stays none in (within_now d 0 4096 disk disk' later within.0, within_now d 1 4096 disk disk' later within.1))
          | inr log ↦ by (snapshot_record (standing_of old) ∷ []) log (value_alone (standing_of old) has.right) (λ none. absurd cc)
        ]
      where
        by : (records : List LogRecord) → HasLog d catalogue_form 0 1 disk' new.log records (snapshot_record (standing_of old) ∷ []) → value_of records ≡ standing_of old
            → (records ≡ [] → IsWithinLength d disk' 0 4096 × IsWithinLength d disk' 1 4096) → HasCatalogue d new disk'
        by records log value short = record {
          records = records;
          log = subst (λ (s : Standing). HasLog d catalogue_form 0 1 disk' new.log records (snapshot_record s ∷ [])) (sym named) log;
          value = value ∙ sym named;
          right = subst standing_piece.right (sym named) has.right;
          short = short;
        }
