-- An index is disabled: what is true of a server stays so.
use Rattle.std.proofs.Common.{◌≡◌, ◌<◌, ◌≤◌, ◌⊎◌, ◌+◌, inl, ℕ, Option, Some, None, List, [], ◌∷◌, ◌++◌, get_or, length, map, slice_get, refl, sym, ap, subst, ◌∙◌}
use Rattle.std.specs.Prelude.{IsTrue, nat_eq, not, sum_by, ◌==◌}
use Rattle.std.specs.List.{AllByRecursion, flat_map, slice_set}
use Rattle.std.proofs.lemmas.Bool.{eqb-true}
use Rattle.px_outside.specs.OnDisk.{LeavesOnly, Passes, TouchesOnly}
use Rattle.px_outside.specs.Parts.{with_part}
use Rattle.px_outside.specs.declared.disk.Disk.{Ghosts}
use Rattle.px_values.specs.declared.name.IndexId.{IndexId}
use Rattle.px_values.specs.declared.name.TableId.{TableId}
use Rattle.px_tables.specs.declared.index.Index.{Index}
use Rattle.px_tables.specs.declared.index.IndexState.TheVariants.{Disabled}
use Rattle.px_trail.specs.declared.entry.Act.TheVariants.{IndexState}
use Rattle.px_trail.specs.declared.entry.Entry.{Entry}
use Rattle.px_trail.specs.Legal.{MayCome}
use Rattle.px_trail.specs.Recorded.{Recorded}
use Rattle.px_trail.specs.Trail.{Base, Catalogue, catalogue_of, catalogue_step, index_of}
use Rattle.px_trail.proofs.Growth.{catalogue-snoc}
use Rattle.px_region.specs.Region.{RegionHolds}
use Rattle.px_region.specs.declared.region.Region.{Region}
use Rattle.px_schema.specs.Stands.{stands_after}
use Rattle.px_schema.specs.declared.item.CatalogItem.TheVariants.{IndexIs}
use Rattle.px_schema.specs.declared.standing.Standing.{Standing}
use Rattle.px_catalog.specs.Catalogue.{CatalogueStands, HasCatalogue, catalogue_files, standing_of}
use Rattle.px_catalog.specs.declared.catalog.Catalog.{Catalog}
use Rattle.px_groupworld.specs.Group.{GroupData}
use Rattle.px_openbatches.specs.Pending.{HeldBatch}
use Rattle.px_tablesteps.specs.Kept.{open_of}
use Rattle.px_group.specs.declared.group.Group.{Group}
use Rattle.px_group.specs.declared.group.IndexRegion.{IndexRegion}
use Rattle.px_defined.specs.Defined.{HasIndexLess, dropped_data}
use Rattle.px_defined.proofs.Going.{none_open}
use Rattle.px_defined.proofs.Lists.{from_filter}
use Rattle.px_defined.proofs.Once.{once_less}
use Rattle.px_defined.proofs.Right.{right_less}
use Rattle.px_disabled.specs.Disabled.{disabled}
use Rattle.px_disabled.proofs.Agreeing.{agrees_disabled}
use Rattle.px_disabled.proofs.FolderLess.{index_disabled as folder_disabled}
use Rattle.px_recovery.specs.Folder.{AreFresh, AreUnmade, FolderData, IsNumberAmong, region_numbers, regions_of, with_standing}
use Rattle.px_recovery.specs.Stands.{Explains, opened_index, opened_state}
use Rattle.px_recovery.specs.Tables.{index_in}
use Rattle.px_standing.specs.Agrees.{Agrees}
use Rattle.px_server.specs.Kept.{HasFailed, HasShown, HasTallied, HasTrailRoom, IsKept, IsOnDisk, IsShutAt, owed}
use Rattle.px_server.specs.Others.{Beginning}
use Rattle.px_server.proofs.BornKept.{or_none, same_owed}
use Rattle.px_server.proofs.Catalogued.{define_failed}
use Rattle.px_server.proofs.Defines.{Defines}
use Rattle.px_server.proofs.Drawn.{among_right, regions_in}
use Rattle.px_server.proofs.IndexDefined.{index_kept}
use Rattle.px_server.proofs.IndexDown.{has_shown_down, has_tallied_down}
use Rattle.px_server.proofs.IndexStands.{region_found, same_regions}
use Rattle.px_server.proofs.Lists.{all_at}

-- the same index, whatever state it has in the list
pub same_opened : {A : Type 0} (change : Index → A) → ((z : Index) → change (record z { state = opened_state z.state }) ≡ change z) → (o : Option Index) (x : Index) → opened_index o ≡ opened_index (Some x) → (z : Index) × ((o ≡ Some z) × ((change z ≡ change x) × (z.table ≡ x.table)))
same_opened change stays None x is = absurd cc
same_opened change stays (Some z) x is = (let same : record z { state = opened_state z.state } ≡ record x { state = opened_state x.state } = cc in (z, (refl, (sym (stays z) ∙ (ap change same ∙ stays x), ap (λ (w : Index). w.table) same))))

-- no batch of the table's data is open
pub shut_data : (b : Base) (es : List Entry) (xs : List Index) (v : ℕ → GroupData) (g : Group) → HasShown b es xs v g → g.batches.items ≡ [] → (v g.table.id.0).opens ≡ []
shut_data b es xs v g here none = here.shown.kept.same ∙ ap (λ (hs : List HeldBatch). map open_of hs) (none_open b es g here.held here.tallied none)

module _ {D : Type 0} (d : Ghosts D) (tells_left : (x : D) (moment file : ℕ) (bytes : List ℕ) → d.left x moment file bytes → IsTrue d.tells)
    (up_to_now : (x : D) (moment file : ℕ) (bytes : List ℕ) → d.left x moment file bytes → moment ≤ d.calls x) (b : Base) (sound premise : Type 0) (began : Beginning)
    (disk : D) (catalog : Catalog) (standing : Standing) (groups : List Group) (trail : Recorded) (late : Option Entry) (closed : Option ℕ) (k : IsKept d b sound premise began disk catalog standing groups trail late closed) (running : closed ≡ None)
    (x : Index) (place : ℕ) (g : Group) (l : place < length groups) (g_is : get_or groups place g ≡ g) (s : ℕ) (e : Entry) (is : e.act ≡ IndexState g.table.id x.id Disabled s) (may : MayCome b trail.entries e)
    (found : index_in standing.indexes x.id.0 ≡ Some x) (of_table : x.table ≡ g.table.id) (none : g.batches.items ≡ [])
    (disk' : D) (at : e.calls ≡ d.calls disk') (passes : Passes d disk disk' 4) (touches : HasCatalogue d catalog disk → TouchesOnly d disk disk' catalogue_files)
    (leaves : HasCatalogue d catalog disk → LeavesOnly d disk disk' (λ moment image. CatalogueStands image (standing_of catalog) ⊎ CatalogueStands image (stands_after (standing_of catalog) (IndexIs (disabled x))))) where
  abbrev es : List Entry
  es = trail.entries

  abbrev es' : List Entry
  es' = es ++ e ∷ []

  abbrev t : TableId
  t = g.table.id

  abbrev i : IndexId
  i = x.id

  abbrev c : Catalogue
  c = catalogue_of b es

  abbrev y : Index
  y = disabled x

  own : Defines t e.act
  own = subst (Defines t) (sym is) refl

  tallied : HasTallied b es g
  tallied = all_at (HasTallied b es) groups place g l g_is (k.each.tallied running)

  stands : index_of b es i.0 ≡ Some x
  stands = sym (k.told.agrees.indexes i.0) ∙ found

  regions : (n : ℕ) → IsNumberAmong n (regions_in (IndexIs y)) → IsNumberAmong n (region_numbers (standing_of catalog)) ⊎ ((standing_of catalog).next ≤ n)
  regions n among = inl (let one : x.region ≡ n = eqb-true x.region n (or_none (nat_eq x.region n) among) in
      subst (λ (r : ℕ). IsNumberAmong r (region_numbers (standing_of catalog))) one (among_right x.region (flat_map regions_of (standing_of catalog).tables) (map (λ (w : Index). w.region) (standing_of catalog).indexes)
      (subst (λ (rs : List ℕ). IsNumberAmong x.region rs) (sym (same_regions (standing_of catalog) standing (k.told.same running))) (region_found standing.indexes i.0 x found))))

  explains : sound → (f : FolderData) (v : ℕ → GroupData) → f.standing ≡ standing_of catalog → AreUnmade f → AllByRecursion (HasShown b es f.standing.indexes v) groups → AllByRecursion (IsOnDisk d disk f) groups → Explains b es f v
      → Explains b es' (with_standing (stands_after f.standing (IndexIs y)) f) (with_part v t.0 (dropped_data i.0 (v t.0)))
  explains given f v fs unmade shown on told = (let
      z = same_opened disabled (λ w. refl) (index_in f.standing.indexes i.0) x (told.catalogue.indexes i.0 ∙ ap opened_index stands)
      in subst (λ (w : Index). Explains b es' (with_standing (stands_after f.standing (IndexIs w)) f) (with_part v t.0 (dropped_data i.0 (v t.0)))) z.1.1.0
      (folder_disabled b es f v told e may t i s is g.table (told.catalogue.tables t.0 ∙ tallied.tallied.standing.table) z.0 z.1.0 (ap (λ (u : TableId). u.0) (z.1.1.1 ∙ of_table))
      (shut_data b es f.standing.indexes v g (all_at (HasShown b es f.standing.indexes v) groups place g l g_is shown) none)))

  -- the call failed
  pub down_failed : (shut : Entry) (call : ℕ) → IsShutAt shut call → call ≡ d.calls disk' → HasFailed d disk' → (catalog' : Catalog) (trail' : Recorded) → trail'.entries ≡ es ++ shut ∷ [] → HasTrailRoom (Some call) groups trail'
      → IsKept d b sound premise began disk' catalog' standing groups trail' (Some e) (Some call)
  down_failed shut call shut-is shut_at failed catalog' trail' entries room =
      define_failed d tells_left up_to_now b sound premise began disk catalog standing groups trail late closed k running disk' (IndexIs y) passes touches leaves regions t e own may at (λ v. with_part v t.0 (dropped_data i.0 (v t.0))) explains shut call shut-is shut_at failed catalog' trail' entries room

  agrees : Agrees (stands_after standing (IndexIs y)) (catalogue_of b es')
  agrees = subst (λ (w : Catalogue). Agrees (stands_after standing (IndexIs y)) w) (sym (catalogue-snoc b es e ∙ ap (catalogue_step c) is)) (agrees_disabled standing c k.told.agrees t i s x found)

  module _ (g' : Group) (less : HasIndexLess g g' i.0) where
    tallied' : HasTallied b es' g'
    tallied' = has_tallied_down b es e may t i s is g g' refl less tallied

    own_disk : IsTrue d.tells → (f : FolderData) → f.standing ≡ standing_of catalog → AreFresh d disk' f.standing.next → AreUnmade f → IsOnDisk d disk' f g → IsOnDisk d disk' (with_standing (stands_after f.standing (IndexIs y)) f) g'
    own_disk tells f fs fresh unmade on = record {
      rows = subst (λ (w : Region). RegionHolds d w disk' (f.regions w.number)) (sym less.beside.rows) on.rows;
      indexes = λ j z there.
          (let from = from_filter (λ (w : IndexRegion). not (w.index.id.0 == i.0)) g.indexes.items j z (sym (ap (λ (zs : List IndexRegion). slice_get zs j) less.indexes) ∙ there) in on.indexes from.0 z from.1.0);
    }

    pub down_kept : (catalog' : Catalog) → (HasCatalogue d catalog disk → HasCatalogue d catalog' disk') → standing_of catalog' ≡ stands_after (standing_of catalog) (IndexIs y) → (trail' : Recorded) → trail'.entries ≡ es ++ e ∷ [] → trail'.room + 1 ≡ trail.room → 2 + sum_by owed groups ≤ trail.room
        → IsKept d b sound premise began disk' catalog' (stands_after standing (IndexIs y)) (slice_set groups place g') trail' late closed
    down_kept catalog' stored defined trail' entries room enough =
        index_kept d tells_left up_to_now b sound premise began disk catalog standing groups trail late closed k running disk' (IndexIs y) passes touches leaves regions t e own may at (dropped_data i.0) explains catalog' stored defined agrees refl
        place g g' l g_is refl less.beside.table (same_owed g g' less.beside)
        (λ p. tallied'.tallied.points) (right_less g g' i.0 less none) (once_less g g' i.0 less) (has_tallied_down b es e may t i s is g g' refl less) (λ given. has_shown_down b es e may t i s is g g' refl less none) own_disk
        trail' entries room enough
