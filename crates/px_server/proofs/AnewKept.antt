-- An index is built again: what is true of a server stays so.
use Rattle.std.proofs.Common.{◌≡◌, ◌<◌, ◌≤◌, ◌⊎◌, ◌+◌, inl, inr, ℕ, Option, Some, None, List, [], ◌∷◌, ◌++◌, get_or, length, slice_get, refl, sym, ap, subst, ◌∙◌, arith}
use Rattle.std.specs.Prelude.{IsTrue, nat_eq, not, sum_by, ◌==◌}
use Rattle.std.specs.List.{AllByRecursion, slice_set}
use Rattle.std.proofs.lemmas.Bool.{eqb-true}
use Rattle.px_outside.specs.OnDisk.{LeavesOnly, Passes, TouchesOnly}
use Rattle.px_outside.specs.Parts.{with_part}
use Rattle.px_outside.specs.declared.disk.Disk.{Ghosts}
use Rattle.px_values.specs.declared.name.IndexId.{IndexId}
use Rattle.px_values.specs.declared.name.TableId.{TableId}
use Rattle.px_tables.specs.declared.index.Index.{Index}
use Rattle.px_tables.specs.declared.index.IndexState.TheVariants.{Building}
use Rattle.px_tables.specs.declared.table.Table.{Table}
use Rattle.px_trail.specs.declared.entry.Act.TheVariants.{IndexState}
use Rattle.px_trail.specs.declared.entry.Entry.{Entry}
use Rattle.px_trail.specs.Legal.{MayCome}
use Rattle.px_trail.specs.Recorded.{Recorded}
use Rattle.px_trail.specs.Trail.{Base, Catalogue, catalogue_of, catalogue_step, index_of}
use Rattle.px_trail.proofs.Growth.{catalogue-snoc}
use Rattle.px_wal.specs.Files.{HasFile}
use Rattle.px_region.specs.Fresh.{IsRegionBlank, no_data}
use Rattle.px_region.specs.Region.{RegionData, RegionHolds}
use Rattle.px_region.specs.declared.region.Region.{Region}
use Rattle.px_region.proofs.Fresh.{fresh_holds}
use Rattle.px_schema.specs.Stands.{stands_after}
use Rattle.px_schema.specs.declared.item.CatalogItem.TheVariants.{IndexIs}
use Rattle.px_schema.specs.declared.standing.Standing.{Standing}
use Rattle.px_catalog.specs.Catalogue.{CatalogueStands, HasCatalogue, catalogue_files, standing_of}
use Rattle.px_catalog.specs.declared.catalog.Catalog.{Catalog}
use Rattle.px_indexrow.specs.Form.{IsRightIndex}
use Rattle.px_groupworld.specs.Group.{GroupData}
use Rattle.px_groupworld.specs.Steps.{born_data}
use Rattle.px_group.specs.Group.{IsRightGroup}
use Rattle.px_group.specs.declared.group.Group.{Group}
use Rattle.px_group.specs.declared.group.IndexRegion.{IndexRegion}
use Rattle.px_defined.specs.Defined.{HasIndexAnew, HasIndexMore, HasOnce, IsSameBeside, dropped_data}
use Rattle.px_defined.proofs.Lists.{end_cases, from_filter}
use Rattle.px_defined.proofs.Right.{right_less, right_more}
use Rattle.px_disabled.specs.Disabled.{rebuilt}
use Rattle.px_disabled.proofs.Agreeing.{agrees_rebuilt}
use Rattle.px_disabled.proofs.FolderMore.{index_rebuilt as folder_rebuilt}
use Rattle.px_disabled.proofs.Once.{once_rebuilt}
use Rattle.px_recovery.specs.Folder.{AreFresh, AreUnmade, FolderData, IsNumberAmong, from, region_numbers, with_standing}
use Rattle.px_recovery.specs.Stands.{Explains, opened_index}
use Rattle.px_recovery.specs.Tables.{index_in}
use Rattle.px_standing.specs.Agrees.{Agrees}
use Rattle.px_server.specs.Kept.{HasFailed, HasShown, HasTallied, HasTrailRoom, IsKept, IsOnDisk, IsShutAt, owed}
use Rattle.px_server.specs.Others.{Beginning}
use Rattle.px_server.proofs.BornKept.{or_none, same_owed}
use Rattle.px_server.proofs.Catalogued.{define_failed}
use Rattle.px_server.proofs.Defines.{Defines}
use Rattle.px_server.proofs.DownKept.{same_opened, shut_data}
use Rattle.px_server.proofs.Drawn.{regions_in}
use Rattle.px_server.proofs.IndexAnew.{beside_both, has_shown_anew, has_tallied_anew}
use Rattle.px_server.proofs.IndexDefined.{index_kept}
use Rattle.px_server.proofs.Lists.{all_at}

module _ {D : Type 0} (d : Ghosts D) (tells_left : (x : D) (moment file : ℕ) (bytes : List ℕ) → d.left x moment file bytes → IsTrue d.tells)
    (up_to_now : (x : D) (moment file : ℕ) (bytes : List ℕ) → d.left x moment file bytes → moment ≤ d.calls x) (b : Base) (sound premise : Type 0) (began : Beginning)
    (disk : D) (catalog : Catalog) (standing : Standing) (groups : List Group) (trail : Recorded) (late : Option Entry) (closed : Option ℕ) (k : IsKept d b sound premise began disk catalog standing groups trail late closed) (running : closed ≡ None)
    (x : Index) (place : ℕ) (g : Group) (l : place < length groups) (g_is : get_or groups place g ≡ g) (s : ℕ) (e : Entry) (is : e.act ≡ IndexState g.table.id x.id Building s) (may : MayCome b trail.entries e)
    (found : index_in standing.indexes x.id.0 ≡ Some x) (of_table : x.table ≡ g.table.id) (none : g.batches.items ≡ [])
    (disk' : D) (at : e.calls ≡ d.calls disk') (passes : Passes d disk disk' 4) (touches : HasCatalogue d catalog disk → TouchesOnly d disk disk' catalogue_files)
    (leaves : HasCatalogue d catalog disk → LeavesOnly d disk disk' (λ moment image. CatalogueStands image (standing_of catalog) ⊎ CatalogueStands image (stands_after (standing_of catalog) (IndexIs (rebuilt s standing.next x))))) where
  abbrev es : List Entry
  es = trail.entries

  abbrev es' : List Entry
  es' = es ++ e ∷ []

  abbrev t : TableId
  t = g.table.id

  abbrev i : IndexId
  i = x.id

  abbrev c : Catalogue
  c = catalogue_of b es

  abbrev y : Index
  y = rebuilt s standing.next x

  own : Defines t e.act
  own = subst (Defines t) (sym is) refl

  tallied : HasTallied b es g
  tallied = all_at (HasTallied b es) groups place g l g_is (k.each.tallied running)

  stands : index_of b es i.0 ≡ Some x
  stands = sym (k.told.agrees.indexes i.0) ∙ found

  stored_next : (standing_of catalog).next ≡ standing.next
  stored_next = ap (λ (w : Standing). w.next) (k.told.same running)

  regions : (n : ℕ) → IsNumberAmong n (regions_in (IndexIs y)) → IsNumberAmong n (region_numbers (standing_of catalog)) ⊎ ((standing_of catalog).next ≤ n)
  regions n among = inr (let one = eqb-true standing.next n (or_none (nat_eq standing.next n) among) in let same = stored_next in omega (arith, one, same))

  abbrev change : GroupData → GroupData
  change v = born_data i.0 s (dropped_data i.0 v)

  explains : sound → (f : FolderData) (v : ℕ → GroupData) → f.standing ≡ standing_of catalog → AreUnmade f → AllByRecursion (HasShown b es f.standing.indexes v) groups → AllByRecursion (IsOnDisk d disk f) groups → Explains b es f v
      → Explains b es' (with_standing (stands_after f.standing (IndexIs y)) f) (with_part v t.0 (born_data i.0 s (dropped_data i.0 (v t.0))))
  explains given f v fs unmade shown on told = (let
      z = same_opened (rebuilt s f.standing.next) (λ w. refl) (index_in f.standing.indexes i.0) x (told.catalogue.indexes i.0 ∙ ap opened_index stands)
      in let
      next : f.standing.next ≡ standing.next = ap (λ (w : Standing). w.next) fs ∙ stored_next
      in subst (λ (w : Index). Explains b es' (with_standing (stands_after f.standing (IndexIs w)) f) (with_part v t.0 (born_data i.0 s (dropped_data i.0 (v t.0))))) (z.1.1.0 ∙ ap (λ (n : ℕ). rebuilt s n x) next)
      (folder_rebuilt b es f unmade v told e may t i s is g.table (told.catalogue.tables t.0 ∙ tallied.tallied.standing.table) z.0 z.1.0 (ap (λ (u : TableId). u.0) (z.1.1.1 ∙ of_table))
      (shut_data b es f.standing.indexes v g (all_at (HasShown b es f.standing.indexes v) groups place g l g_is shown) none)))

  -- the call failed
  pub anew_failed : (shut : Entry) (call : ℕ) → IsShutAt shut call → call ≡ d.calls disk' → HasFailed d disk' → (catalog' : Catalog) (trail' : Recorded) → trail'.entries ≡ es ++ shut ∷ [] → HasTrailRoom (Some call) groups trail'
      → IsKept d b sound premise began disk' catalog' standing groups trail' (Some e) (Some call)
  anew_failed shut call shut-is shut_at failed catalog' trail' entries room =
      define_failed d tells_left up_to_now b sound premise began disk catalog standing groups trail late closed k running disk' (IndexIs y) passes touches leaves regions t e own may at (λ v. with_part v t.0 (born_data i.0 s (dropped_data i.0 (v t.0)))) explains shut call shut-is shut_at failed catalog' trail' entries room

  agrees : Agrees (stands_after standing (IndexIs y)) (catalogue_of b es')
  agrees = subst (λ (w : Catalogue). Agrees (stands_after standing (IndexIs y)) w) (sym (catalogue-snoc b es e ∙ ap (catalogue_step c) is)) (agrees_rebuilt standing c k.told.agrees t i s x found)

  module _ (g' : Group) (anew : HasIndexAnew g g' y) (right : IsRightIndex g.table y) where
    abbrev h : Group
    h = anew.without

    more : HasIndexMore h g' (rebuilt s c.next x)
    more = subst (λ (n : ℕ). HasIndexMore h g' (rebuilt s n x)) k.told.agrees.next anew.more

    beside : IsSameBeside g g'
    beside = beside_both g h g' anew.less.beside anew.more.beside

    tallied' : HasTallied b es' g'
    tallied' = has_tallied_anew b es e may t x s is stands g h g' refl anew.less more tallied

    own_right : IsRightGroup g → IsRightGroup g'
    own_right r = right_more h g' y anew.more (right_less g h i.0 anew.less none r) (subst (λ (u : Table). IsRightIndex u y) (sym anew.less.beside.table) right) (of_table ∙ sym (ap (λ (u : Table). u.id) anew.less.beside.table)) (λ q. cc)

    own_once : HasOnce g → HasOnce g'
    own_once once = once_rebuilt g h g' x s standing.next anew.less anew.more once

    own_disk : IsTrue d.tells → (f : FolderData) → f.standing ≡ standing_of catalog → AreFresh d disk' f.standing.next → AreUnmade f → IsOnDisk d disk' f g → IsOnDisk d disk' (with_standing (stands_after f.standing (IndexIs y)) f) g'
    own_disk tells f fs fresh unmade on = record {
      rows = subst (λ (w : Region). RegionHolds d w disk' (f.regions w.number)) (sym beside.rows) on.rows;
      indexes = λ j z there. elim (end_cases h.indexes.items anew.more.new j z (sym (ap (λ (zs : List IndexRegion). slice_get zs j) anew.more.indexes) ∙ there)) [
        | inl old ↦ (let back = from_filter (λ (w : IndexRegion). not (w.index.id.0 == i.0)) g.indexes.items j z (sym (ap (λ (zs : List IndexRegion). slice_get zs j) anew.less.indexes) ∙ old) in on.indexes back.0 z back.1.0)
        | inr new ↦ subst (λ (w : IndexRegion). RegionHolds d w.region disk' (f.regions w.region.number)) (sym new.1)
            (subst (λ (data_ : RegionData). RegionHolds d anew.more.new.region disk' data_) (sym nothing) (fresh_holds d y.region anew.more.new.region disk' anew.more.fresh blank))
      ];
    }
      where
        same : f.standing.next ≡ y.region
        same = ap (λ (w : Standing). w.next) fs ∙ stored_next

        nothing : f.regions anew.more.new.region.number ≡ no_data
        nothing = unmade anew.more.new.region.number (let n = same in let m = anew.more.fresh.number_is in omega (arith, n, m))

        from_next : (file : ℕ) → HasFile y.region file → from f.standing.next file
        from_next file its = (let a = its.is in let n = same in omega (arith, a, n))

        blank : IsRegionBlank d y.region disk'
        blank = record { tells = tells; only = λ file its. fresh.on_disk file (from_next file its); none = λ file its. fresh.empty file (from_next file its) }

    pub anew_kept : (catalog' : Catalog) → (HasCatalogue d catalog disk → HasCatalogue d catalog' disk') → standing_of catalog' ≡ stands_after (standing_of catalog) (IndexIs y) → (trail' : Recorded) → trail'.entries ≡ es ++ e ∷ [] → trail'.room + 1 ≡ trail.room → 2 + sum_by owed groups ≤ trail.room
        → IsKept d b sound premise began disk' catalog' (stands_after standing (IndexIs y)) (slice_set groups place g') trail' late closed
    anew_kept catalog' stored defined trail' entries room enough =
        index_kept d tells_left up_to_now b sound premise began disk catalog standing groups trail late closed k running disk' (IndexIs y) passes touches leaves regions t e own may at change explains catalog' stored defined agrees refl
        place g g' l g_is refl beside.table (same_owed g g' beside)
        (λ p. tallied'.tallied.points) own_right own_once (has_tallied_anew b es e may t x s is stands g h g' refl anew.less more) (λ given. has_shown_anew b es e may t x s is stands g h g' refl anew.less more none) own_disk
        trail' entries room enough
