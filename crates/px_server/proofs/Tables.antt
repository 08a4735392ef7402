-- A table is made, or dropped: what is true of a server stays so.
use Rattle.std.proofs.Common.{◌≡◌, ◌≢◌, ◌<◌, ◌≤◌, ◌⊎◌, ◌+◌, inl, inr, ℕ, Bool, true, false, cond, Option, Some, None, List, [], ◌∷◌, ◌++◌, length, map, refl, sym, ap, subst, ◌∙◌, arith}
use Rattle.std.specs.Prelude.{IsSome, IsTrue, filter, if◌then◌else◌, not, nat_eq, slice_get, sum_by, ◌==◌, ◌||◌}
use Rattle.std.specs.List.{AllByRecursion}
use Rattle.std.proofs.lemmas.Bool.{cases_Bool, eq-eqb, eqb-true, false≢true, ne_eqb}
use Rattle.std.proofs.lemmas.List.{map-append}
use Rattle.std.proofs.lemmas.List.Sums.{sum_by-cons}
use Rattle.px_outside.specs.OnDisk.{LeavesOnly, Passes, TouchesOnly}
use Rattle.px_outside.specs.Parts.{with_part}
use Rattle.px_outside.specs.declared.disk.Disk.{Ghosts}
use Rattle.px_outside.proofs.Parts.{with_part-here, with_part-other}
use Rattle.px_values.specs.declared.name.TableId.{TableId}
use Rattle.px_tables.specs.declared.index.Index.{Index}
use Rattle.px_tables.specs.declared.table.NewTable.{NewTable}
use Rattle.px_tables.specs.declared.table.Table.{Table}
use Rattle.px_tables.specs.declared.table.TableRegion.{TableRegion}
use Rattle.px_trail.specs.Batches.{Batch, batch_of}
use Rattle.px_trail.specs.Legal.{Follows, IsQuiet, MayCome}
use Rattle.px_trail.specs.Recorded.{Recorded}
use Rattle.px_trail.specs.Trail.{Base, Catalogue, calls_of, catalogue_of, closing_call, last_of, made_table, table_of}
use Rattle.px_trail.proofs.Growth.{catalogue-snoc}
use Rattle.px_trail.proofs.Standing.{catalogue-stands}
use Rattle.px_trail.specs.declared.entry.Act.TheVariants.{Dropped, Made}
use Rattle.px_trail.specs.declared.entry.Entry.{Entry}
use Rattle.px_world.specs.World.{Unbegun, Written, is_written as is_written_fate}
use Rattle.px_history.specs.Rows.{fate_by, row_in}
use Rattle.px_indexed.specs.Worlds.{history_at}
use Rattle.px_groupworld.specs.Group.{GroupData, GroupKept, TableForm}
use Rattle.px_groupworld.specs.Sound.{made_data}
use Rattle.px_groupworld.proofs.Entries.{rows_of_group}
use Rattle.px_tablereads.specs.Told.{AreTold}
use Rattle.px_region.specs.Fresh.{IsRegionBlank}
use Rattle.px_region.specs.Region.{RegionData, RegionHolds}
use Rattle.px_region.proofs.Fresh.{fresh_holds}
use Rattle.px_schema.specs.Stands.{other_tables, put_table, stands_after}
use Rattle.px_schema.specs.declared.item.CatalogItem.TheVariants.{TableGone, TableIs}
use Rattle.px_schema.specs.declared.standing.Standing.{Standing}
use Rattle.px_catalog.specs.Catalogue.{CatalogueStands, HasCatalogue, catalogue_files, standing_of}
use Rattle.px_catalog.specs.declared.catalog.Catalog.{Catalog}
use Rattle.px_group.specs.Group.{IsRightGroup, IsShownBy, IsTallied, form_of, region_of}
use Rattle.px_group.specs.declared.group.Begun.{Begun}
use Rattle.px_group.specs.declared.group.Group.{Group}
use Rattle.px_group.specs.declared.group.IndexRegion.{IndexRegion}
use Rattle.px_group.specs.declared.group.OpenPoint.{OpenPoint}
use Rattle.px_reading.specs.Doubts.{IsToldBy}
use Rattle.px_calls.specs.Requires.{IsNewTable}
use Rattle.px_defined.specs.Defined.{IsNewGroup}
use Rattle.px_defined.proofs.News.{new_table_right, one_region}
use Rattle.px_defined.proofs.Once.{once_new}
use Rattle.px_defined.proofs.Right.{right_new}
use Rattle.px_defined.proofs.ShownTable.{shown_new}
use Rattle.px_defined.proofs.TalliedTable.{tallied_new, unknown}
use Rattle.px_recovery.specs.Folder.{AreFresh, AreUnmade, FolderData, IsNumberAmong, region_numbers, regions_of, with_standing}
use Rattle.px_recovery.specs.Stands.{Explains}
use Rattle.px_recovery.proofs.Drops.{table_gone as explains_gone}
use Rattle.px_recovery.proofs.Makes.{table_made as explains_made}
use Rattle.px_recovery.proofs.Server.{newest_early}
use Rattle.px_standing.specs.Agrees.{Agrees, IsUnused, opened_standing}
use Rattle.px_standing.proofs.Defined.{table_gone as agrees_gone, table_made as agrees_made}
use Rattle.px_standing.proofs.Looked.{free as is_free, tables_below}
use Rattle.px_server.specs.inner.Making.{table_made}
use Rattle.px_server.specs.Kept.{AreBuilt, HasFailed, HasShown, HasTrailRoom, IsKept, IsOnDisk, IsShutAt, forms_in, number_in, owed, owed_by, table_in_group}
use Rattle.px_server.specs.Others.{Beginning}
use Rattle.px_server.proofs.Built.{none_built}
use Rattle.px_server.proofs.Catalogued.{define_failed, define_kept}
use Rattle.px_server.proofs.Drawn.{regions_in}
use Rattle.px_server.proofs.Lists.{all_weaker}
use Rattle.px_server.proofs.SameStanding.{same_after}

-- ---- lists

among_one : (m n : ℕ) → IsNumberAmong n (m ∷ []) → n ≡ m
among_one m n is = elim (cases_Bool (nat_eq m n)) [
  | inl e ↦ sym (eqb-true m n e)
  | inr e ↦ absurd (false≢true (sym (ap (λ (v : Bool). v || false) e) ∙ is))
]

region_is : (r s : TableRegion) → r ∷ [] ≡ s ∷ [] → r.number ≡ s.number
region_is r s is = cc

pub all_end : {A : Type 0} (Q : A → Type 0) (xs : List A) (y : A) → AllByRecursion Q xs → Q y → AllByRecursion Q (xs ++ y ∷ [])
all_end Q [] y all own = (own, tt)
all_end Q (x ∷ xs) y all own = (all.0, all_end Q xs y all.1 own)

pub all_mapped : {A B : Type 0} (f : A → B) (P : B → Type 0) (xs : List A) → AllByRecursion P (map f xs) → AllByRecursion (λ x. P (f x)) xs
all_mapped f P [] all = tt
all_mapped f P (x ∷ xs) all = (all.0, all_mapped f P xs all.1)

module _ (n : ℕ) where
  -- one more, of another number than all
  pub carries_end : (g : Group) (gs : List Group) → AllByRecursion (λ h. number_in h ≢ n) gs → (P Q : Group → Type 0) → ((h : Group) → number_in h ≢ n → P h → Q h) → Q g → AllByRecursion P gs → AllByRecursion Q (gs ++ g ∷ [])
  carries_end g [] away P Q others own all = (own, tt)
  carries_end g (h ∷ gs) away P Q others own all = (others h away.0 all.0, carries_end g gs away.1 P Q others own all.1)

  abbrev pub keeps : Group → Bool
  keeps h = not (h.table.id.0 == n)

  other_if : (h : Group) → keeps h ≡ true → number_in h ≢ n
  other_if h is same = false≢true (sym (ap not (eq-eqb h.table.id.0 n same)) ∙ is)

  -- all of that number gone
  pub carries_less : (gs : List Group) (P Q : Group → Type 0) → ((h : Group) → number_in h ≢ n → P h → Q h) → Unit {0} → AllByRecursion P gs → AllByRecursion Q (filter keeps gs)
  carries_less [] P Q others own all = tt
  carries_less (h ∷ gs) P Q others own all = by (keeps h) refl (carries_less gs P Q others own all.1)
    where
      by : (v : Bool) → keeps h ≡ v → AllByRecursion Q (filter keeps gs) → AllByRecursion Q (cond v (h ∷ filter keeps gs) (filter keeps gs))
      by true is rest = (others h (other_if h is) all.0, rest)
      by false is rest = rest

  pub map_less : (gs : List Group) → map table_in_group (filter keeps gs) ≡ other_tables n (map table_in_group gs)
  map_less [] = refl
  map_less (h ∷ gs) = by (keeps h) (map_less gs)
    where
      by : (v : Bool) → map table_in_group (filter keeps gs) ≡ other_tables n (map table_in_group gs) → map table_in_group (cond v (h ∷ filter keeps gs) (filter keeps gs)) ≡ cond v (h.table ∷ other_tables n (map table_in_group gs)) (other_tables n (map table_in_group gs))
      by true rest = ap (λ ts. h.table ∷ ts) rest
      by false rest = rest

  pub owed_less : (gs : List Group) → sum_by owed (filter keeps gs) ≤ sum_by owed gs
  owed_less [] = omega arith
  owed_less (h ∷ gs) = by (keeps h) (owed_less gs)
    where
      by : (v : Bool) → sum_by owed (filter keeps gs) ≤ sum_by owed gs → sum_by owed (cond v (h ∷ filter keeps gs) (filter keeps gs)) ≤ sum_by owed (h ∷ gs)
      by true rest = (let a = sum_by-cons owed h (filter keeps gs) in let z = sum_by-cons owed h gs in omega (arith, a, z, rest))
      by false rest = (let z = sum_by-cons owed h gs in omega (arith, z, rest))

  pub put_last : (ts : List Table) (y : Table) → y.id.0 ≡ n → AllByRecursion (λ x. x.id.0 ≢ n) ts → put_table ts y ≡ ts ++ y ∷ []
  put_last [] y own away = refl
  put_last (x ∷ ts) y own away =
      ap (λ (v : Bool). if v then y ∷ ts else x ∷ put_table ts y) (ne_eqb x.id.0 y.id.0 (λ same. away.0 (same ∙ own))) ∙ ap (λ zs. x ∷ zs) (put_last ts y own away.1)

pub owed_end : (gs : List Group) (g : Group) → owed g ≡ 0 → sum_by owed (gs ++ g ∷ []) ≡ sum_by owed gs
owed_end [] g none = (let a = sum_by-cons owed g [] in omega (arith, a, none))
owed_end (h ∷ gs) g none = (let a = sum_by-cons owed h (gs ++ g ∷ []) in let z = sum_by-cons owed h gs in let more = owed_end gs g none in omega (arith, a, z, more))

pub owed_new : (t : Table) (g : Group) → IsNewGroup t g → owed g ≡ 0
owed_new t g new = ap (λ (ps : List OpenPoint). length ps + sum_by owed_by g.batches.items) new.points ∙ ap (λ (ms : List Begun). 0 + sum_by owed_by ms) new.batches

-- ---- a new table's rows: none is written

unbegun : (v : Bool) → v ≡ false → is_written_fate (cond v Written Unbegun) ≡ false
unbegun true is = absurd (false≢true (sym is))
unbegun false is = refl

changed_not : (o : Bool) → (o ≡ true → ⊥) → o ≡ false
changed_not true not = absurd (not refl)
changed_not false not = refl

pub new_told : (f : TableForm) (es : List Entry) (v : GroupData) → GroupKept f es v → v.low ≡ 0 → f.base.last f.id.0 ≡ 0 → ((s : ℕ) → batch_of f.id.0 s es ≡ None) → AreTold f es v
new_told f es v k low last none = record {
  each = λ r s above is. absurd (let
      tie = (rows_of_group f es v k).tied r
      in let
      still : f.base.changed f.id.0 r s ≡ false = changed_not (f.base.changed f.id.0 r s) (λ changed. (let le = (k.base.rows r).within s changed in omega (arith, le, last, above, low)))
      in let
      fate : is_written_fate ((history_at f.rows.shape f.base es f.id.0 r).fate s) ≡ false = ap is_written_fate (tie.fates s) ∙ (ap (λ (o : Option Batch). is_written_fate (cond (f.base.changed f.id.0 r s) Written (fate_by (row_in o r)))) (none s) ∙ unbegun (f.base.changed f.id.0 r s) still)
      in false≢true (sym fate ∙ is));
}

-- ---- a table is made

module _ {D : Type 0} (d : Ghosts D) (tells_left : (x : D) (moment file : ℕ) (bytes : List ℕ) → d.left x moment file bytes → IsTrue d.tells)
    (up_to_now : (x : D) (moment file : ℕ) (bytes : List ℕ) → d.left x moment file bytes → moment ≤ d.calls x) (b : Base) (sound premise : Type 0) (began : Beginning)
    (disk : D) (catalog : Catalog) (standing : Standing) (groups : List Group) (trail : Recorded) (late : Option Entry) (closed : Option ℕ) (k : IsKept d b sound premise began disk catalog standing groups trail late closed) (running : closed ≡ None) where
  abbrev es : List Entry
  es = trail.entries

  same_next : (standing_of catalog).next ≡ standing.next
  same_next = ap (λ (s : Standing). s.next) (k.told.same running)

  same_tables : (standing_of catalog).tables ≡ standing.tables
  same_tables = ap (λ (s : Standing). s.tables) (k.told.same running)

  running_now : closing_call es ≡ None
  running_now = k.told.closing ∙ running

  calls_within : (disk' : D) → d.calls disk ≤ d.calls disk' → calls_of es ≤ d.calls disk'
  calls_within disk' later = (let n = newest_early (d.calls disk) 0 es (omega arith) k.server.early in omega (arith, n, later))

  module _ (disk' : D) (passes : Passes d disk disk' 4) (touches : HasCatalogue d catalog disk → TouchesOnly d disk disk' catalogue_files) (seat : ℕ) where
    module _ (what : NewTable) (new : IsNewTable what) (free : IsUnused standing what.name)
        (leaves : HasCatalogue d catalog disk → LeavesOnly d disk disk' (λ moment image. CatalogueStands image (standing_of catalog) ⊎ CatalogueStands image (stands_after (standing_of catalog) (TableIs (table_made standing what))))) where
      abbrev made : Table
      made = table_made standing what

      abbrev t : TableId
      t = made.id

      abbrev e : Entry
      e = record { seat = seat; calls = d.calls disk'; act = Made t what }

      number : t.0 ≡ (catalogue_of b es).next + length what.least_keys
      number = ap (λ (n : ℕ). n + length what.least_keys) k.told.agrees.next

      made_may : MayCome b es e
      unfolding Follows
      made_may = record { follows = (number, (is_free standing (catalogue_of b es) k.told.agrees what.name).0 free); shut = λ past. running_now; calls = calls_within disk' passes.later }

      one : made.regions ≡ record { number = standing.next; least_key = [] } ∷ []
      one = one_region standing.next t what new.one

      is_next : (n : ℕ) → IsNumberAmong n (regions_of made) → n ≡ standing.next
      is_next n among = among_one standing.next n (subst (λ (rs : List TableRegion). IsNumberAmong n (map (λ (r : TableRegion). r.number) rs)) one among)

      regions : (n : ℕ) → IsNumberAmong n (regions_in (TableIs made)) → IsNumberAmong n (region_numbers (standing_of catalog)) ⊎ ((standing_of catalog).next ≤ n)
      regions n among = inr (let z = is_next n among in let s = same_next in omega (arith, z, s))

      abbrev moved : (ℕ → GroupData) → ℕ → GroupData
      moved v = with_part v t.0 made_data

      explains : sound → (f : FolderData) (v : ℕ → GroupData) → f.standing ≡ standing_of catalog → AreUnmade f → AllByRecursion (HasShown b es f.standing.indexes v) groups → AllByRecursion (IsOnDisk d disk f) groups → Explains b es f v → Explains b (es ++ e ∷ []) (with_standing (stands_after f.standing (TableIs made)) f) (moved v)
      explains given f v stands unmade shown on told =
          subst (λ (n : ℕ). Explains b (es ++ e ∷ []) (with_standing (stands_after f.standing (TableIs (made_table n t what))) f) (moved v)) (ap (λ (s : Standing). s.next) stands ∙ same_next)
          (explains_made b k.told.base es f unmade v told e made_may t what refl)

      pub table_failed : (shut : Entry) (call : ℕ) → IsShutAt shut call → call ≡ d.calls disk' → HasFailed d disk' → (catalog' : Catalog) (trail' : Recorded) → trail'.entries ≡ es ++ shut ∷ [] → HasTrailRoom (Some call) groups trail'
          → IsKept d b sound premise began disk' catalog' standing groups trail' (Some e) (Some call)
      table_failed = define_failed d tells_left up_to_now b sound premise began disk catalog standing groups trail late closed k running disk' (TableIs made) passes touches leaves regions t e refl made_may refl moved explains

      -- the group
      away : AllByRecursion (λ h. number_in h ≢ t.0) groups
      away = all_mapped table_in_group (λ (x : Table). x.id.0 ≢ t.0) groups (subst (λ (ts : List Table). AllByRecursion (λ (x : Table). x.id.0 ≢ t.0) ts) (sym k.each.stand)
          (all_weaker (λ (x : Table). x.id.0 < standing.next) (λ (x : Table). x.id.0 ≢ t.0) (λ x low same. omega (arith, low, same)) standing.tables (tables_below standing.next standing.next standing.tables refl k.told.agrees.order.below.tables)))

      tables_away : AllByRecursion (λ (x : Table). x.id.0 ≢ t.0) standing.tables
      tables_away = all_weaker (λ (x : Table). x.id.0 < standing.next) (λ (x : Table). x.id.0 ≢ t.0) (λ x low same. omega (arith, low, same)) standing.tables (tables_below standing.next standing.next standing.tables refl k.told.agrees.order.below.tables)

      abbrev now : List Entry
      now = es ++ e ∷ []

      module _ (g : Group) (fresh : IsNewGroup made g) where
        own : g.table.id ≡ t
        own = ap (λ (x : Table). x.id) fresh.table

        tallied : IsTallied b now g []
        tallied = tallied_new b k.told.base es k.told.legal e made_may t what refl made (ap (λ (n : ℕ). made_table n t what) k.told.agrees.next) g fresh

        right : IsRightGroup g
        right = right_new made g (new_table_right standing.next t what new) fresh

        shown : (xs : List Index) → IsShownBy b (forms_in xs g.table) now g made_data []
        shown xs = shown_new b k.told.base es k.told.legal e made_may t what refl (forms_in xs g.table) made (ap (λ (n : ℕ). made_table n t what) k.told.agrees.next) g fresh

        told_now : (xs : List Index) → IsToldBy b (forms_in xs g.table) now g made_data
        told_now xs = record {
          told = new_told (form_of b (forms_in xs g.table) g) now made_data (shown xs).kept.group refl
              (let last : last_of b t.0 now ≡ b.last t.0 = (unknown b k.told.base es k.told.legal e made_may t what refl).last in ap (λ (x : TableId). b.last x.0) own ∙ (sym last ∙ (ap (λ (x : TableId). last_of b x.0 now) (sym own) ∙ (tallied.last ∙ fresh.last))))
              (λ s. ap (λ (x : TableId). batch_of x.0 s now) own ∙ (unknown b k.told.base es k.told.legal e made_may t what refl).batches s);
          own = λ i x at. absurd (let none : None ≡ Some x = ap (λ (l : List IndexRegion). slice_get l i) (sym fresh.indexes) ∙ at in cc);
        }

        has_shown : (xs : List Index) (v : ℕ → GroupData) → HasShown b now xs (moved v) g
        has_shown xs v = (let
            here : moved v g.table.id.0 ≡ made_data = ap (λ (x : TableId). moved v x.0) own ∙ with_part-here v t.0 made_data
            in record {
              held = [];
              tallied = tallied;
              shown = subst (λ (w : GroupData). IsShownBy b (forms_in xs g.table) now g w []) (sym here) (shown xs);
              told = subst (λ (w : GroupData). IsToldBy b (forms_in xs g.table) now g w) (sym here) (told_now xs);
              built = subst (λ (w : GroupData). AreBuilt (form_of b (forms_in xs g.table) g) now w) (sym here) (none_built (form_of b (forms_in xs g.table) g) now made_data refl);
            })

        its_region : g.rows.number ≡ standing.next
        its_region = region_is (region_of g.rows) (record { number = standing.next; least_key = [] }) (sym fresh.region ∙ one)

        on_disk : IsTrue d.tells → (f : FolderData) → f.standing ≡ standing_of catalog → AreFresh d disk' f.standing.next → AreUnmade f → IsOnDisk d disk' (with_standing (stands_after f.standing (TableIs made)) f) g
        on_disk tells f stands blank unmade = (let
            up : f.standing.next ≤ g.rows.number = (let n : f.standing.next ≡ standing.next = ap (λ (s : Standing). s.next) stands ∙ same_next in let m = its_region in omega (arith, n, m))
            in let
            is_blank : IsRegionBlank d g.rows.number disk' = record {
              tells = tells;
              only = λ file mine. blank.on_disk file (let at = mine.is in omega (arith, up, at));
              none = λ file mine. blank.empty file (let at = mine.is in omega (arith, up, at));
            }
            in record {
              rows = subst (λ (s : RegionData). RegionHolds d g.rows disk' s) (sym (unmade g.rows.number up)) (fresh_holds d g.rows.number g.rows disk' fresh.fresh is_blank);
              indexes = λ i x at. absurd (let none : None ≡ Some x = ap (λ (l : List IndexRegion). slice_get l i) (sym fresh.indexes) ∙ at in cc);
            })

        standing_then : Standing
        standing_then = stands_after standing (TableIs made)

        pub table_kept : (catalog' : Catalog) → (HasCatalogue d catalog disk → HasCatalogue d catalog' disk') → standing_of catalog' ≡ stands_after (standing_of catalog) (TableIs made) → (trail' : Recorded) → trail'.entries ≡ es ++ e ∷ [] → HasTrailRoom closed (groups ++ g ∷ []) trail'
            → IsKept d b sound premise began disk' catalog' (stands_after standing (TableIs made)) (groups ++ g ∷ []) trail' late closed
        table_kept catalog' stored defined trail' entries room =
            define_kept d tells_left up_to_now b sound premise began disk catalog standing groups trail late closed k running disk' (TableIs made) passes touches leaves regions t e refl made_may refl moved explains
            catalog' stored defined (stands_after standing (TableIs made))
            (subst (λ (c : Catalogue). Agrees (stands_after standing (TableIs made)) c) (sym (catalogue-snoc b es e)) (agrees_made standing (catalogue_of b es) k.told.agrees (catalogue-stands b es k.told.base.catalogue k.told.legal) t what refl))
            (ap opened_standing defined ∙ same_after (standing_of catalog) standing (TableIs made) (k.told.same running))
            (groups ++ g ∷ [])
            (map-append table_in_group groups (g ∷ []) ∙ (ap (λ (ts : List Table). ts ++ g.table ∷ []) k.each.stand ∙ (ap (λ (x : Table). standing.tables ++ x ∷ []) fresh.table ∙ sym (put_last t.0 standing.tables made refl tables_away))))
            (λ P Q. Q g) (carries_end t.0 g groups away) (λ v q other. with_part-other v t.0 made_data q other)
            tallied.points right (once_new made g fresh) (record { held = []; tallied = tallied }) (λ given xs xs' forms forms' v. has_shown xs' v) on_disk trail' entries room

    -- ---- a table is dropped

    module _ (t : TableId) (stands : IsSome (table_of b trail.entries t.0)) (quiet : IsQuiet trail.entries t.0)
        (leaves : HasCatalogue d catalog disk → LeavesOnly d disk disk' (λ moment image. CatalogueStands image (standing_of catalog) ⊎ CatalogueStands image (stands_after (standing_of catalog) (TableGone t)))) where
      abbrev gone : Entry
      gone = record { seat = seat; calls = d.calls disk'; act = Dropped t None }

      gone_may : MayCome b es gone
      unfolding Follows
      gone_may = record { follows = (stands, quiet); shut = λ past. running_now; calls = calls_within disk' passes.later }

      no_region : (n : ℕ) → IsNumberAmong n (regions_in (TableGone t)) → IsNumberAmong n (region_numbers (standing_of catalog)) ⊎ ((standing_of catalog).next ≤ n)
      no_region n among = absurd (false≢true among)

      explains_less : sound → (f : FolderData) (v : ℕ → GroupData) → f.standing ≡ standing_of catalog → AreUnmade f → AllByRecursion (HasShown b es f.standing.indexes v) groups → AllByRecursion (IsOnDisk d disk f) groups → Explains b es f v → Explains b (es ++ gone ∷ []) (with_standing (stands_after f.standing (TableGone t)) f) v
      explains_less given f v is unmade shown on told = explains_gone b es f v told gone gone_may t refl

      pub gone_failed : (shut : Entry) (call : ℕ) → IsShutAt shut call → call ≡ d.calls disk' → HasFailed d disk' → (catalog' : Catalog) (trail' : Recorded) → trail'.entries ≡ es ++ shut ∷ [] → HasTrailRoom (Some call) groups trail'
          → IsKept d b sound premise began disk' catalog' standing groups trail' (Some gone) (Some call)
      gone_failed = define_failed d tells_left up_to_now b sound premise began disk catalog standing groups trail late closed k running disk' (TableGone t) passes touches leaves no_region t gone refl gone_may refl (λ v. v) explains_less

      pub gone_kept : (catalog' : Catalog) → (HasCatalogue d catalog disk → HasCatalogue d catalog' disk') → standing_of catalog' ≡ stands_after (standing_of catalog) (TableGone t) → (trail' : Recorded) → trail'.entries ≡ es ++ gone ∷ [] → HasTrailRoom closed (filter (keeps t.0) groups) trail'
          → IsKept d b sound premise began disk' catalog' (stands_after standing (TableGone t)) (filter (keeps t.0) groups) trail' late closed
      gone_kept catalog' stored defined trail' entries room =
          define_kept d tells_left up_to_now b sound premise began disk catalog standing groups trail late closed k running disk' (TableGone t) passes touches leaves no_region t gone refl gone_may refl (λ v. v) explains_less
          catalog' stored defined (stands_after standing (TableGone t))
          (subst (λ (c : Catalogue). Agrees (stands_after standing (TableGone t)) c) (sym (catalogue-snoc b es gone)) (agrees_gone standing (catalogue_of b es) k.told.agrees t))
          (ap opened_standing defined ∙ same_after (standing_of catalog) standing (TableGone t) (k.told.same running))
          (filter (keeps t.0) groups) (map_less t.0 groups ∙ ap (other_tables t.0) k.each.stand)
          (λ P Q. Unit {0}) (carries_less t.0 groups) (λ v q other. refl)
          tt tt tt tt (λ given xs xs' forms forms' v. tt) (λ tells f is blank unmade. tt) trail' entries room
