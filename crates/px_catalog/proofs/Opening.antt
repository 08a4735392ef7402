-- Opening a catalogue.
use Rattle.std.proofs.Common.{◌≡◌, ◌⊎◌, inl, inr, ◌≤◌, ◌<◌, ◌+◌, ◌*◌, ◌∷◌, [], ℕ, List, length, Option, Some, None, Result, Ok, Err, refl, sym, ap, subst, ◌∙◌, arith}
use Rattle.std.specs.Prelude.{◌-◌, IsSome, if◌then◌else◌}
use Rattle.px_outside.specs.Disk.{Image}
use Rattle.px_outside.specs.OnDisk.{LeavesOnly, Passes, Rose, Stays, TouchesOnly}
use Rattle.px_outside.specs.Standing.{StandsIn}
use Rattle.px_outside.specs.declared.disk.Disk.{Ghosts}
use Rattle.px_outside.proofs.Moments.{leaves_then, rose_later, stays_touches, touches_more, touches_none, touches_then}
use Rattle.px_gatelog.specs.Damage.{IsFirstWrong}
use Rattle.px_gatelog.specs.Format.{LogPlace, LogRecord, records_of, segments_of}
use Rattle.px_gatelog.specs.GateLog.{LogGoesOnBy, generation_in, steps_left as log_steps}
use Rattle.px_gatelog.specs.Records.{HasLog, RecordsStand}
use Rattle.px_gatelog.specs.Start.{Started}
use Rattle.px_gatelog.specs.declared.gate_log.GateLog.{GateLog}
use Rattle.px_gatelog.specs.declared.segment.Segment.{Segment}
use Rattle.px_gatelog.proofs.LogRecords.{empty_records, some_records, started_records}
use Rattle.px_gatelog.proofs.Standing.{segments_same}
use Rattle.px_schema.specs.Format.{standing_piece}
use Rattle.px_schema.specs.Fresh.{fresh_standing}
use Rattle.px_schema.specs.Spelled.{standing_bytes}
use Rattle.px_schema.specs.declared.standing.Standing.{Standing}
use Rattle.px_catalog.specs.Reading.{catalogue_form, or_fresh, snapshot_record, value_of}
use Rattle.px_catalog.specs.Catalogue.{CatalogueStands, HasCatalogue, HasSameSegment, catalogue_files, catalogue_steps_left, generation_of, is_catalogue_open, standing_of}
use Rattle.px_catalog.specs.Damage.{IsFirstDamagedInCatalogue}
use Rattle.px_catalog.specs.Damage.IsFirstDamagedInCatalogue.{in_log, long_first, long_second}
use Rattle.px_catalog.specs.inner.Reader.{HasTaken}
use Rattle.px_catalog.specs.declared.catalog.Catalog.{Catalog}
use Rattle.px_catalog.proofs.Values.{no_records, taken_right, taken_value}
use Rattle.px_catalog.proofs.Holding.{catalogue_kept, leaves_now, not_some, steps_are}

-- ---- an image stands for one catalogue, or is damaged at one place

records_once : (image : Image) (a b : List LogRecord) → RecordsStand catalogue_form 0 1 image a → RecordsStand catalogue_form 0 1 image b → a ≡ b
records_once image a b one two = sym one.2 ∙ ap records_of (segments_same (segments_of catalogue_form (image 0) (image 1)) one.0 two.0 one.1 two.1) ∙ two.2

pub stands_once : (image : Image) (s t : Standing) → CatalogueStands image s → CatalogueStands image t → s ≡ t
stands_once image s t one two = sym one.value ∙ ap value_of (records_once image one.records two.records one.stand two.stand) ∙ two.value

ok_err : {T E : Type 0} (r : Result T E) (x : T) (e : E) → r ≡ Ok x → r ≡ Err e → ⊥
ok_err r x e a b = (let c : Ok x ≡ Err e = sym a ∙ b in cc)

err_same : {T E : Type 0} (r : Result T E) (x y : E) → r ≡ Err x → r ≡ Err y → x ≡ y
err_same r x y a b = (let c : Err x ≡ Err y = sym a ∙ b in cc)

pub damaged_stands : (image : Image) (file place : ℕ) (s : Standing) → IsFirstDamagedInCatalogue image file place → CatalogueStands image s → ⊥
damaged_stands image file place s (in_log wrong) stands = ok_err (segments_of catalogue_form (image 0) (image 1)) stands.stand.0 _ stands.stand.1 wrong.read
damaged_stands image file place s (long_first none long file_is place_is) stands =
    let within = stands.short (records_once image stands.records [] stands.stand none) in omega (arith, within.0, long)
damaged_stands image file place s (long_second none short long file_is place_is) stands =
    let within = stands.short (records_once image stands.records [] stands.stand none) in omega (arith, within.1, long)

damaged_in : (image : Image) (file place other at : ℕ) → IsFirstWrong catalogue_form 0 1 (image 0) (image 1) file place → IsFirstDamagedInCatalogue image other at → (file ≡ other) × (place ≡ at)
damaged_in image file place other at wrong (in_log too) =
    let same = err_same (segments_of catalogue_form (image 0) (image 1)) _ _ wrong.read too.read in
    (wrong.file_is ∙ ap (λ (p : LogPlace). if p.in_second then 1 else 0) same ∙ sym too.file_is, ap (λ (p : LogPlace). p.place) same)
damaged_in image file place other at wrong (long_first none long file_is place_is) = absurd (ok_err (segments_of catalogue_form (image 0) (image 1)) none.0 _ none.1 wrong.read)
damaged_in image file place other at wrong (long_second none short long file_is place_is) = absurd (ok_err (segments_of catalogue_form (image 0) (image 1)) none.0 _ none.1 wrong.read)

swapped : (file place other at : ℕ) → (file ≡ other) × (place ≡ at) → (other ≡ file) × (at ≡ place)
swapped file place other at same = (sym same.0, sym same.1)

pub damaged_once : (image : Image) (file place other at : ℕ) → IsFirstDamagedInCatalogue image file place → IsFirstDamagedInCatalogue image other at → (file ≡ other) × (place ≡ at)
damaged_once image file place other at (in_log wrong) two = damaged_in image file place other at wrong two
damaged_once image file place other at one (in_log wrong) = swapped other at file place (damaged_in image other at file place wrong one)
damaged_once image file place other at (long_first none long file_is place_is) (long_first none' long' file_is' place_is') = (file_is ∙ sym file_is', place_is ∙ sym place_is')
damaged_once image file place other at (long_first none long file_is place_is) (long_second none' short' long' file_is' place_is') = absurd (omega (arith, long, short'))
damaged_once image file place other at (long_second none short long file_is place_is) (long_first none' long' file_is' place_is') = absurd (omega (arith, long', short))
damaged_once image file place other at (long_second none short long file_is place_is) (long_second none' short' long' file_is' place_is') = (file_is ∙ sym file_is', place_is ∙ sym place_is')

-- a folder whose two files have no byte stands for the fresh catalogue
pub empty_stands : (image : Image) → image 0 ≡ [] → image 1 ≡ [] → CatalogueStands image fresh_standing
empty_stands image none nothing = record {
  records = [];
  stand = empty_records catalogue_form 0 1 image none nothing;
  value = no_records;
  short = λ is. (subst (λ (l : List ℕ). length l ≤ 4096) (sym none) (omega arith), subst (λ (l : List ℕ). length l ≤ 4096) (sym nothing) (omega arith));
}

-- ---- opening

module _ {D : Type 0} (d : Ghosts D) (old mid : D) (taken : Option Standing) (log : GateLog) (started : Started d catalogue_form (λ records. HasTaken taken records) 0 1 old mid log) (more : 1 < log_steps log) where
  stood : RecordsStand catalogue_form 0 1 (d.seen old) (records_of started.segments)
  stood = (
    started.segments,
    ap (λ (f : ℕ). segments_of catalogue_form (d.seen old f) (d.seen old 1)) (sym started.first_is) ∙ ap (λ (f : ℕ). segments_of catalogue_form (d.seen old log.first) (d.seen old f)) (sym started.second_is) ∙ started.stood,
    refl,
  )

  goes_on : {next : List LogRecord} → HasLog d catalogue_form 0 1 mid log (records_of started.segments) next
  goes_on = started_records d catalogue_form 0 1 (λ records. HasTaken taken records) old mid log (records_of started.segments) started more stood

  none_open : (IsSome log.newest → ⊥) → records_of started.segments ≡ []
  none_open closed = ap records_of (subst (λ (o : Option Segment). LogGoesOnBy catalogue_form o (d.seen mid log.first) (d.seen mid log.second) started.segments) (not_some log.newest closed) started.settled.state.goes_on).2

  -- with an open segment
  pub opened_with : (c : Catalog) → c.log ≡ log → IsSome log.newest → standing_of c ≡ or_fresh taken → CatalogueStands (d.seen old) (standing_of c) × HasCatalogue d c mid
  opened_with c log_is open_ named =
      let value : value_of (records_of started.segments) ≡ standing_of c = taken_value taken (records_of started.segments) started.taken ∙ sym named in
      let some : records_of started.segments ≡ [] → ⊥ = λ none. some_records d catalogue_form 0 1 mid log (records_of started.segments) refl open_ (goes_on {next = []}) none in (
        record { records = records_of started.segments; stand = stood; value = value; short = λ none. absurd (some none) },
        record {
          records = records_of started.segments;
          log = subst (λ (l : GateLog). HasLog d catalogue_form 0 1 mid l (records_of started.segments) (snapshot_record (standing_of c) ∷ [])) (sym log_is) goes_on;
          value = value;
          right = subst standing_piece.right (sym named) (taken_right taken (records_of started.segments) started.taken);
          short = λ none. absurd (some none);
        },
      )

  -- and without
  pub opened_without : (c : Catalog) → c.log ≡ log → (IsSome log.newest → ⊥) → standing_of c ≡ fresh_standing → length (d.seen mid 0) ≤ 4096 → length (d.seen mid 1) ≤ 4096 → d.seen mid ≡ d.seen old
      → CatalogueStands (d.seen old) (standing_of c) × HasCatalogue d c mid
  opened_without c log_is closed named one two same =
      let none = none_open closed in
      let value : value_of (records_of started.segments) ≡ standing_of c = ap value_of none ∙ taken_value None [] refl ∙ sym named in (
        record {
          records = records_of started.segments;
          stand = stood;
          value = value;
          short = λ is. (subst (λ (i : Image). length (i 0) ≤ 4096) same one, subst (λ (i : Image). length (i 1) ≤ 4096) same two);
        },
        record {
          records = records_of started.segments;
          log = subst (λ (l : GateLog). HasLog d catalogue_form 0 1 mid l (records_of started.segments) (snapshot_record (standing_of c) ∷ [])) (sym log_is) goes_on;
          value = value;
          right = subst standing_piece.right (sym named) (taken_right None [] refl);
          short = λ is. (
            λ bytes left. subst (λ (l : List ℕ). length l ≤ 4096) (sym (durable 0 log.first started.first_is started.settled.first_durable bytes left)) one,
            λ bytes left. subst (λ (l : List ℕ). length l ≤ 4096) (sym (durable 1 log.second started.second_is started.settled.second_durable bytes left)) two,
          );
        },
      )
    where
      durable : (file own : ℕ) → own ≡ file → ((bytes : List ℕ) → d.left mid (d.calls mid) own bytes → bytes ≡ d.seen mid own) → (bytes : List ℕ) → d.left mid (d.calls mid) file bytes → bytes ≡ d.seen mid file
      durable file own is only bytes left = only bytes (subst (λ (f : ℕ). d.left mid (d.calls mid) f bytes) (sym is) left) ∙ ap (d.seen mid) is

  pub no_record : (IsSome log.newest → ⊥) → RecordsStand catalogue_form 0 1 (d.seen old) []
  no_record closed = subst (RecordsStand catalogue_form 0 1 (d.seen old)) (none_open closed) stood

-- calls that leave nothing new
pub quiet_kept : {D : Type 0} (d : Ghosts D) (c : Catalog) (old new : D) → Stays d old new → d.seen new ≡ d.seen old → HasCatalogue d c old → HasCatalogue d c new
quiet_kept d c old new stays same has = catalogue_kept d c old has new (λ file. ⊥) (stays_touches d.calls d.left d.seen old new stays same) (λ file own touched. touched)

-- ---- the making of the first segment

generation_none : (newest : Option Segment) → newest ≡ None → generation_in newest ≡ 18446744073709551615 → ⊥
generation_none None is full = omega arith
generation_none (Some s) is full = cc

fresh_long : length (standing_bytes fresh_standing) ≡ 34
fresh_long = refl

pub never_full : (c : Catalog) → (is_catalogue_open c → ⊥) → standing_of c ≡ fresh_standing → (generation_of c ≡ 18446744073709551615) ⊎ (67108841 < length (standing_bytes (standing_of c))) → ⊥
never_full c closed named (inl last) = generation_none c.log.newest (not_some c.log.newest closed) last
never_full c closed named (inr long) = (let short : length (standing_bytes (standing_of c)) ≡ 34 = ap (λ (s : Standing). length (standing_bytes s)) named ∙ fresh_long in omega (arith, short, long))

-- the steps so far
pub record Making {D : Type 0} (d : Ghosts D) (from : Catalog) (old : D) (c : Catalog) (disk : D) : Type 0 where
  pub has : HasCatalogue d from old → HasCatalogue d c disk
  pub same : standing_of c ≡ standing_of from
  pub fresh_is : standing_of c ≡ fresh_standing
  pub closed : is_catalogue_open c → ⊥
  pub leaves : HasCatalogue d from old → LeavesOnly d old disk (λ moment image. CatalogueStands image (standing_of from))
  pub touches : HasCatalogue d from old → TouchesOnly d old disk catalogue_files
  pub counts : Passes d old disk (9 - 3 * catalogue_steps_left c)
  pub faults : d.faults disk ≡ d.faults old

module _ {D : Type 0} (d : Ghosts D) (from : Catalog) (old : D) where
  pub making_none : ((x : D) (moment file : ℕ) (bytes : List ℕ) → d.left x moment file bytes → moment ≤ d.calls x) → standing_of from ≡ fresh_standing → (is_catalogue_open from → ⊥) → Making d from old from old
  making_none up_to_now named closed = record {
    has = λ has. has;
    same = refl;
    fresh_is = named;
    closed = closed;
    leaves = λ has. leaves_now d from old has up_to_now;
    touches = λ has. touches_none d.calls d.left d.seen up_to_now old catalogue_files;
    counts = record { later = omega arith; at_most = omega arith; faults_later = omega arith; begun = refl };
    faults = refl;
  }

  module _ (c : Catalog) (disk : D) (making : Making d from old c disk) (disk' : D)
      (any : HasCatalogue d c disk → LeavesOnly d disk disk' (λ moment image. CatalogueStands image (standing_of c))) (touches : HasCatalogue d c disk → TouchesOnly d disk disk' catalogue_files) (counts : Passes d disk disk' 3) where
    pub step_leaves : HasCatalogue d from old → LeavesOnly d old disk' (λ moment image. CatalogueStands image (standing_of from))
    step_leaves has =
        leaves_then d.calls d.left d.seen old disk disk' catalogue_files (λ moment image. CatalogueStands image (standing_of from)) (λ moment image. CatalogueStands image (standing_of c)) (λ moment image. CatalogueStands image (standing_of from))
        (making.leaves has) (touches (making.has has)) (any (making.has has)) (λ moment image left stands. stands) (λ moment image since left stands. subst (CatalogueStands image) making.same stands)

    pub step_touches : HasCatalogue d from old → TouchesOnly d old disk' catalogue_files
    step_touches has = touches_then d.calls d.left d.seen old disk disk' catalogue_files (making.touches has) (touches (making.has has))

    pub step_counts : Passes d old disk' 9
    step_counts =
        let steps = steps_are c in
        record {
          later = omega (arith, making.counts.later, counts.later);
          at_most = omega (arith, making.counts.at_most, counts.at_most, steps.0, steps.1);
          faults_later = omega (arith, making.counts.faults_later, counts.faults_later);
          begun = counts.begun ∙ making.counts.begun;
        }

    pub step_failed : Rose d disk disk' → Rose d old disk'
    step_failed rose = rose_later d.calls d.faults d.first old disk disk' (9 - 3 * catalogue_steps_left c) making.counts rose

    pub making_more : (c' : Catalog) → (HasCatalogue d c disk → HasCatalogue d c' disk') → standing_of c' ≡ standing_of c → HasSameSegment c c' → catalogue_steps_left c' + 1 ≡ catalogue_steps_left c → d.faults disk' ≡ d.faults disk → Making d from old c' disk'
    making_more c' done same kept fewer unfailed =
        let steps = steps_are c in
        record {
          has = λ has. done (making.has has);
          same = same ∙ making.same;
          fresh_is = same ∙ making.fresh_is;
          closed = λ open_. making.closed (subst (λ (o : Option Segment). IsSome o) kept open_);
          leaves = step_leaves;
          touches = step_touches;
          counts = record {
            later = omega (arith, making.counts.later, counts.later);
            at_most = omega (arith, making.counts.at_most, counts.at_most, steps.0, steps.1, fewer);
            faults_later = omega (arith, making.counts.faults_later, counts.faults_later);
            begun = counts.begun ∙ making.counts.begun;
          };
          faults = unfailed ∙ making.faults;
        }

-- ---- both

pub quiet_leaves : {D : Type 0} (d : Ghosts D) (old mid : D) (s : Standing) → Stays d old mid → StandsIn d old catalogue_files (λ image. CatalogueStands image s) → LeavesOnly d old mid (λ moment image. CatalogueStands image s)
quiet_leaves d old mid s stays stands = record { each = λ moment image since left. stands.each image (λ file own. stays.now moment file (image file) since (left file)) }

module _ {D : Type 0} (d : Ghosts D) (old mid new : D) (c : Catalog) (stays : Stays d old mid) (same : d.seen mid ≡ d.seen old) (stood : CatalogueStands (d.seen old) (standing_of c)) (touches : TouchesOnly d mid new catalogue_files)
    (leaves : LeavesOnly d mid new (λ moment image. CatalogueStands image (standing_of c))) where
  pub start_leaves : (s : Standing) → CatalogueStands (d.seen old) s → StandsIn d old catalogue_files (λ image. CatalogueStands image s) → LeavesOnly d old new (λ moment image. CatalogueStands image s)
  start_leaves s told stands =
      let is : standing_of c ≡ s = stands_once (d.seen old) (standing_of c) s stood told in
      leaves_then d.calls d.left d.seen old mid new catalogue_files (λ moment image. CatalogueStands image s) (λ moment image. CatalogueStands image (standing_of c)) (λ moment image. CatalogueStands image s)
      (quiet_leaves d old mid s stays stands) touches leaves (λ moment image left stands. stands) (λ moment image since left stands. subst (CatalogueStands image) is stands)

pub quiet_touches : {D : Type 0} (d : Ghosts D) (old mid : D) → Stays d old mid → d.seen mid ≡ d.seen old → TouchesOnly d old mid catalogue_files
quiet_touches d old mid stays same = touches_more d.calls d.left d.seen old mid (λ file. ⊥) catalogue_files (λ file own. absurd own) (stays_touches d.calls d.left d.seen old mid stays same)

pub start_touches : {D : Type 0} (d : Ghosts D) (old mid new : D) → Stays d old mid → d.seen mid ≡ d.seen old → TouchesOnly d mid new catalogue_files → TouchesOnly d old new catalogue_files
start_touches d old mid new stays same touches = touches_then d.calls d.left d.seen old mid new catalogue_files (quiet_touches d old mid stays same) touches
