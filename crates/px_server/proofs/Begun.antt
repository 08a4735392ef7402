-- A batch has begun: what is true of a server stays so.
use Rattle.std.proofs.Common.{◌≡◌, ◌<◌, ◌≤◌, ◌+◌, ℕ, Bool, true, false, Option, Some, None, List, [], ◌∷◌, ◌++◌, map, length, max, min, refl, sym, ap, subst, ◌∙◌, arith}
use Rattle.std.specs.Prelude.{if◌then◌else◌, nat_le, slice_get, sum_by}
use Rattle.std.specs.Global.{Vec}
use Rattle.std.proofs.lemmas.Bool.{leb-true}
use Rattle.std.proofs.lemmas.List.Sums.{sum_by-append, sum_by-cons}
use Rattle.px_outside.specs.declared.disk.Disk.{Ghosts}
use Rattle.px_values.specs.declared.change.Change.{Change}
use Rattle.px_tables.specs.declared.table.Table.{Table}
use Rattle.px_indexed.specs.Worlds.{begin_event}
use Rattle.px_trail.specs.Batches.{change_of}
use Rattle.px_trail.specs.Legal.{IsLegal, MayCome}
use Rattle.px_trail.specs.States.{greatest_stamp}
use Rattle.px_trail.specs.Trail.{Base}
use Rattle.px_trail.specs.declared.entry.Act.TheVariants.{Begun as BegunAct}
use Rattle.px_trail.specs.declared.entry.Entry.{Entry}
use Rattle.px_trail.proofs.Orders.{WritesNone}
use Rattle.px_groupworld.specs.Group.{GroupData, GroupKept, IsTableBase, table_form}
use Rattle.px_groupworld.specs.Steps.{begun_data}
use Rattle.px_openbatches.specs.Pending.{HeldBatch}
use Rattle.px_forms.specs.Indexes.{IndexForm}
use Rattle.px_region.specs.Region.{RegionHolds}
use Rattle.px_rows.specs.Spelled.{row_form}
use Rattle.px_phases.specs.Batch.{AllFit, BatchData}
use Rattle.px_turns.specs.Turns.{drawn_at, drawn_stamp}
use Rattle.px_defined.specs.Defined.{AreOnceIn, HasOnce}
use Rattle.px_group.specs.Group.{IsRightGroup, IsShownBy, IsTallied, form_of}
use Rattle.px_group.specs.declared.group.Begun.{Begun}
use Rattle.px_group.specs.declared.group.Group.{Group}
use Rattle.px_group.specs.declared.group.IndexRegion.{IndexRegion}
use Rattle.px_reading.specs.Doubts.{IsToldBy}
use Rattle.px_tablereads.specs.Told.{AreTold}
use Rattle.px_tablereads.proofs.Tells.{quiet_written, told_same}
use Rattle.px_recovery.specs.Folder.{FolderData}
use Rattle.px_beginning.specs.Admits.{Admits, met_by}
use Rattle.px_beginning.specs.Begins.{IsBatchOf, held_with_begun}
use Rattle.px_beginning.specs.Leaves.{LeavesGroup}
use Rattle.px_beginning.specs.Rooms.{fresh_batch}
use Rattle.px_beginning.proofs.Begun.{shows, steps, tallied}
use Rattle.px_beginning.proofs.Leaves.{shown_after, tallied_after}
use Rattle.px_server.specs.Kept.{AreBuilt, HasTallied, IsOnDisk, owed, owed_by}
use Rattle.px_server.proofs.Acted.{IsActed}
use Rattle.px_server.proofs.Built.{IsUnbased, built_table, built_told, run_begin}
use Rattle.px_server.proofs.Unbegun.{left_disk, left_once, left_owed, left_told, open_shut}

-- ---- what the group owes

owed_same : (cs : List Change) (ms : List Begun) → sum_by owed_by (map (met_by cs) ms) ≡ sum_by owed_by ms
owed_same cs [] = refl
owed_same cs (m ∷ ms) =
    let met = sum_by-cons owed_by (met_by cs m) (map (met_by cs) ms) in
    let one = sum_by-cons owed_by m ms in
    let same : owed_by (met_by cs m) ≡ owed_by m = refl in
    let rest = owed_same cs ms in
    omega (arith, met, one, same, rest)

owed_met : (cs : List Change) (n : ℕ) (bd : BatchData) (ms : List Begun) → sum_by owed_by (map (met_by cs) ms ++ fresh_batch n bd ∷ []) ≡ sum_by owed_by ms + 4
owed_met cs n bd ms =
    let all = sum_by-append owed_by (map (met_by cs) ms) (fresh_batch n bd ∷ []) in
    let one = sum_by-cons owed_by (fresh_batch n bd) [] in
    let fresh : owed_by (fresh_batch n bd) ≡ 4 = refl in
    let none : sum_by owed_by [] ≡ 0 = refl in
    let same = owed_same cs ms in
    omega (arith, all, one, fresh, none, same)

pub owed_begun : (g taken g' : Group) (bd : BatchData) → LeavesGroup g taken → Admits taken bd g' → owed g' ≡ owed g + 4
owed_begun g taken g' bd l a =
    let points : length g'.points.items ≡ length taken.points.items = ap (λ ps. length ps.items) a.points in
    let batches : sum_by owed_by g'.batches.items ≡ sum_by owed_by taken.batches.items + 4 = ap (λ (ms : List Begun). sum_by owed_by ms) a.batches ∙ owed_met bd.changes (length taken.indexes.items) bd taken.batches.items in
    let same = left_owed g taken l in
    omega (arith, points, batches, same)

-- ---- the group that let it in

module _ (g taken g' : Group) (l : LeavesGroup g taken) (s : ℕ) (cs : List Change) (bd : BatchData) (p : IsBatchOf taken s cs bd) (a : Admits taken bd g') (before : IsRightGroup taken) (after : IsRightGroup g') (fit : AllFit taken.table cs) (early : s ≤ greatest_stamp)
    (b : Base) (es : List Entry) (e : Entry) (may : MayCome b es e) (is : e.act ≡ BegunAct taken.table.id s cs) (base : IsTableBase b taken.table.id.0) where
  abbrev es' : List Entry
  es' = es ++ e ∷ []

  begun_once : HasOnce g → HasOnce g'
  begun_once k = subst (λ (xs : Vec IndexRegion). AreOnceIn xs.items) (sym a.indexes) (left_once g taken l k)

  begun_tallied : IsLegal b es → (hs : List HeldBatch) → IsTallied b es g hs → IsTallied b es' g' (held_with_begun taken s cs bd p hs)
  begun_tallied legal hs t = tallied b es taken hs e s cs may is bd p g' a base legal (tallied_after g taken l b es hs t)

  begun_shown : (index : ℕ → IndexForm) (v : GroupData) (hs : List HeldBatch) → IsTallied b es g hs → IsShownBy b index es g v hs → IsShownBy b index es' g' (begun_data s v) (held_with_begun taken s cs bd p hs)
  begun_shown index v hs t shown = shows b es taken hs e s cs may is bd p g' a index v before fit early (tallied_after g taken l b es hs t) (shown_after g taken l b es hs index v shown)

  quiet : WritesNone e.act
  quiet = subst WritesNone (sym is) tt

  begun_told : (index : ℕ → IndexForm) (v : GroupData) (hs : List HeldBatch) → IsTallied b es g hs → IsShownBy b index es g v hs → IsToldBy b index es g v → IsToldBy b index es' g' (begun_data s v)
  begun_told index v hs t shown told =
      let here = left_told g taken l b index es v told in
      let was = shown_after g taken l b es hs index v shown in
      let now = begun_shown index v hs t shown in
      let f = table_form b taken.table.id index (row_form taken.table) in
      let kept = subst (λ (u : Table). GroupKept (table_form b u.id index (row_form u)) es' (begun_data s v)) a.table now.kept.group in
      record {
        told = subst (λ (u : Table). AreTold (table_form b u.id index (row_form u)) es' (begun_data s v)) (sym a.table)
            (told_same f es v was.kept.group es' (begun_data s v) kept here.told refl refl (quiet_written f es v was.kept.group e quiet));
        own = λ i x at. here.own i x (ap (λ (xs : Vec IndexRegion). slice_get xs.items i) (sym a.indexes) ∙ at);
      }

  begun_built : (index : ℕ → IndexForm) (v : GroupData) (hs : List HeldBatch) → IsTallied b es g hs → IsShownBy b index es g v hs → AreBuilt (form_of b index g) es v → AreBuilt (form_of b index g') es' (begun_data s v)
  begun_built index v hs t shown built =
      let was = shown_after g taken l b es hs index v shown in
      let here = steps b es taken hs e s cs may is bd p g' a index v before fit early (tallied_after g taken l b es hs t) was in
      built_table b index es' (begun_data s v) taken.table g'.table (sym a.table)
      (built_told (form_of b index taken) es v was.kept.group (λ i r. begin_event s (change_of cs r)) e (begun_data s v) here.does (λ i r. run_begin s (change_of cs r)) (λ i at. refl) (λ n. subst (IsUnbased n) (sym is) tt)
      (built_table b index es v g.table taken.table (sym l.table) built))

  begun_disk : {D : Type 0} (d : Ghosts D) (disk : D) (f : FolderData) → IsOnDisk d disk f g → IsOnDisk d disk f g'
  begun_disk d disk f k = (let
      on = left_disk g taken l d disk f k
      in record {
        rows = subst (λ r. RegionHolds d r disk (f.regions r.number)) (sym a.rows) on.rows;
        indexes = λ i x at. on.indexes i x (ap (λ (xs : Vec IndexRegion). slice_get xs.items i) (sym a.indexes) ∙ at);
      })

  pub begun_acted : {D : Type 0} (d : Ghosts D) (disk : D) (closed : Option ℕ) → closed ≡ None → IsLegal b es → HasTallied b es g → HasOnce g → IsActed d disk b es es' closed g g'
  begun_acted d disk closed running legal t once = (let
      now = begun_tallied legal t.held t.tallied
      in record {
        table = a.table ∙ l.table;
        points = now.points;
        right = λ run. after;
        tallied = λ run. record { held = held_with_begun taken s cs bd p t.held; tallied = now };
        once = λ run. begun_once once;
        traced = λ call shut. absurd (open_shut closed running call shut);
        begun = λ call shut. absurd (open_shut closed running call shut);
        shown = λ run index v hs tallied shown told built. record {
          after = begun_data s v;
          held = held_with_begun taken s cs bd p hs;
          tallied = begun_tallied legal hs tallied;
          shown = begun_shown index v hs tallied shown;
          told = begun_told index v hs tallied shown told;
          built = begun_built index v hs tallied shown built;
          high = omega arith;
          low = refl;
          cells = refl;
          indexes = refl;
        };
        on_disk = λ run f k. begun_disk d disk f k;
      })

-- ---- the stamp

drawn_some : (n s : ℕ) (v : Bool) → nat_le n 9223372036854775807 ≡ v → drawn_at n ≡ Some s → (n ≡ s) × (n ≤ 9223372036854775807)
drawn_some n s true le is = (let z : Some n ≡ Some s = ap (λ (v : Bool). if v then Some n else None) (sym le) ∙ is in cc, leb-true n 9223372036854775807 le)
drawn_some n s false le is = absurd (let z : None ≡ Some s = ap (λ (v : Bool). if v then Some n else None) (sym le) ∙ is in cc)

pub drawn_above : (last clock s : ℕ) → drawn_stamp last clock ≡ Some s → (last < s) × (s ≤ 9223372036854775807)
drawn_above last clock s is = (let w = drawn_some (max (last + 1) (min clock 4611686018427387904)) s (nat_le (max (last + 1) (min clock 4611686018427387904)) 9223372036854775807) refl is in (omega (arith, w.0), omega (arith, w.0, w.1)))
