-- An index is dropped: what is true of a server stays so.
use Rattle.std.proofs.Common.{◌≡◌, ◌<◌, ◌≤◌, ◌⊎◌, ◌+◌, ℕ, Option, Some, None, List, [], ◌∷◌, ◌++◌, get_or, length, map, slice_get, refl, sym, ap, subst, ◌∙◌}
use Rattle.std.specs.Prelude.{IsTrue, not, sum_by, ◌==◌}
use Rattle.std.specs.List.{AllByRecursion, slice_set}
use Rattle.px_outside.specs.OnDisk.{LeavesOnly, Passes, TouchesOnly}
use Rattle.px_outside.specs.Parts.{with_part}
use Rattle.px_outside.specs.declared.disk.Disk.{Ghosts}
use Rattle.px_values.specs.declared.name.IndexId.{IndexId}
use Rattle.px_values.specs.declared.name.TableId.{TableId}
use Rattle.px_tables.specs.declared.index.Index.{Index}
use Rattle.px_trail.specs.declared.entry.Act.TheVariants.{Dropped}
use Rattle.px_trail.specs.declared.entry.Entry.{Entry}
use Rattle.px_trail.specs.Legal.{MayCome}
use Rattle.px_trail.specs.Recorded.{Recorded}
use Rattle.px_trail.specs.Trail.{Base, Catalogue, catalogue_of, catalogue_step, index_of}
use Rattle.px_trail.proofs.Growth.{catalogue-snoc}
use Rattle.px_region.specs.Region.{RegionHolds}
use Rattle.px_region.specs.declared.region.Region.{Region}
use Rattle.px_schema.specs.Stands.{stands_after}
use Rattle.px_schema.specs.declared.item.CatalogItem.TheVariants.{IndexGone}
use Rattle.px_schema.specs.declared.standing.Standing.{Standing}
use Rattle.px_catalog.specs.Catalogue.{CatalogueStands, HasCatalogue, catalogue_files, standing_of}
use Rattle.px_catalog.specs.declared.catalog.Catalog.{Catalog}
use Rattle.px_groupworld.specs.Group.{GroupData}
use Rattle.px_openbatches.specs.Pending.{HeldBatch}
use Rattle.px_tablesteps.specs.Kept.{open_of}
use Rattle.px_group.specs.declared.group.Group.{Group}
use Rattle.px_group.specs.declared.group.IndexRegion.{IndexRegion}
use Rattle.px_defined.specs.Defined.{HasIndexLess, dropped_data}
use Rattle.px_defined.proofs.Going.{none_open}
use Rattle.px_defined.proofs.Lists.{from_filter}
use Rattle.px_defined.proofs.Once.{once_less}
use Rattle.px_defined.proofs.Right.{right_less}
use Rattle.px_recovery.specs.Folder.{AreFresh, AreUnmade, FolderData, IsNumberAmong, region_numbers, with_standing}
use Rattle.px_recovery.specs.Stands.{Explains, opened_index, opened_state}
use Rattle.px_recovery.specs.Tables.{index_in}
use Rattle.px_recovery.proofs.IndexDrops.{index_gone as folder_gone}
use Rattle.px_standing.specs.Agrees.{Agrees}
use Rattle.px_standing.proofs.Defined.{index_gone as agrees_gone}
use Rattle.px_server.specs.Kept.{HasFailed, HasShown, HasTallied, HasTrailRoom, IsKept, IsOnDisk, IsShutAt, owed}
use Rattle.px_server.specs.Others.{Beginning}
use Rattle.px_server.proofs.BornKept.{same_owed}
use Rattle.px_server.proofs.Catalogued.{define_failed}
use Rattle.px_server.proofs.Defines.{Defines}
use Rattle.px_server.proofs.Drawn.{regions_in}
use Rattle.px_server.proofs.IndexDefined.{index_kept}
use Rattle.px_server.proofs.IndexLess.{has_shown_gone, has_tallied_gone}
use Rattle.px_server.proofs.Lists.{all_at}

-- an index of the list, of the same table whatever its state
some_table : (o : Option Index) (x : Index) → opened_index o ≡ opened_index (Some x) → (z : Index) × ((o ≡ Some z) × (z.table ≡ x.table))
some_table None x is = absurd cc
some_table (Some z) x is = (let same : record z { state = opened_state z.state } ≡ record x { state = opened_state x.state } = cc in (z, (refl, ap (λ (w : Index). w.table) same)))

module _ {D : Type 0} (d : Ghosts D) (tells_left : (x : D) (moment file : ℕ) (bytes : List ℕ) → d.left x moment file bytes → IsTrue d.tells)
    (up_to_now : (x : D) (moment file : ℕ) (bytes : List ℕ) → d.left x moment file bytes → moment ≤ d.calls x) (b : Base) (sound premise : Type 0) (began : Beginning)
    (disk : D) (catalog : Catalog) (standing : Standing) (groups : List Group) (trail : Recorded) (late : Option Entry) (closed : Option ℕ) (k : IsKept d b sound premise began disk catalog standing groups trail late closed) (running : closed ≡ None)
    (i : IndexId) (place : ℕ) (g : Group) (l : place < length groups) (g_is : get_or groups place g ≡ g) (e : Entry) (is : e.act ≡ Dropped g.table.id (Some i)) (may : MayCome b trail.entries e)
    (x : Index) (stands : index_of b trail.entries i.0 ≡ Some x) (of_table : x.table.0 ≡ g.table.id.0) (none : g.batches.items ≡ [])
    (disk' : D) (at : e.calls ≡ d.calls disk') (passes : Passes d disk disk' 4) (touches : HasCatalogue d catalog disk → TouchesOnly d disk disk' catalogue_files)
    (leaves : HasCatalogue d catalog disk → LeavesOnly d disk disk' (λ moment image. CatalogueStands image (standing_of catalog) ⊎ CatalogueStands image (stands_after (standing_of catalog) (IndexGone i)))) where
  abbrev es : List Entry
  es = trail.entries

  abbrev es' : List Entry
  es' = es ++ e ∷ []

  abbrev t : TableId
  t = g.table.id

  abbrev c : Catalogue
  c = catalogue_of b es

  own : Defines t e.act
  own = subst (Defines t) (sym is) refl

  tallied : HasTallied b es g
  tallied = all_at (HasTallied b es) groups place g l g_is (k.each.tallied running)

  regions : (n : ℕ) → IsNumberAmong n (regions_in (IndexGone i)) → IsNumberAmong n (region_numbers (standing_of catalog)) ⊎ ((standing_of catalog).next ≤ n)
  regions n among = absurd cc

  explains : sound → (f : FolderData) (v : ℕ → GroupData) → f.standing ≡ standing_of catalog → AreUnmade f → AllByRecursion (HasShown b es f.standing.indexes v) groups → AllByRecursion (IsOnDisk d disk f) groups → Explains b es f v
      → Explains b es' (with_standing (stands_after f.standing (IndexGone i)) f) (with_part v t.0 (dropped_data i.0 (v t.0)))
  explains given f v fs unmade shown on told = (let
      here : HasShown b es f.standing.indexes v g = all_at (HasShown b es f.standing.indexes v) groups place g l g_is shown
      in let
      z = some_table (index_in f.standing.indexes i.0) x (told.catalogue.indexes i.0 ∙ ap opened_index stands)
      in let
      found = told.catalogue.tables t.0 ∙ tallied.tallied.standing.table
      in let
      shut : (v t.0).opens ≡ [] = here.shown.kept.same ∙ ap (λ (hs : List HeldBatch). map open_of hs) (none_open b es g here.held here.tallied none)
      in folder_gone b es f v told e may t i is g.table found z.0 z.1.0 (ap (λ (u : TableId). u.0) z.1.1 ∙ of_table) shut)

  -- the call failed
  pub gone_failed : (shut : Entry) (call : ℕ) → IsShutAt shut call → call ≡ d.calls disk' → HasFailed d disk' → (catalog' : Catalog) (trail' : Recorded) → trail'.entries ≡ es ++ shut ∷ [] → HasTrailRoom (Some call) groups trail'
      → IsKept d b sound premise began disk' catalog' standing groups trail' (Some e) (Some call)
  gone_failed shut call shut-is shut_at failed catalog' trail' entries room =
      define_failed d tells_left up_to_now b sound premise began disk catalog standing groups trail late closed k running disk' (IndexGone i) passes touches leaves regions t e own may at (λ v. with_part v t.0 (dropped_data i.0 (v t.0))) explains shut call shut-is shut_at failed catalog' trail' entries room

  agrees : Agrees (stands_after standing (IndexGone i)) (catalogue_of b es')
  agrees = subst (λ (w : Catalogue). Agrees (stands_after standing (IndexGone i)) w) (sym (catalogue-snoc b es e ∙ ap (catalogue_step c) is)) (agrees_gone standing c k.told.agrees t i)

  module _ (g' : Group) (less : HasIndexLess g g' i.0) where
    tallied' : HasTallied b es' g'
    tallied' = has_tallied_gone b es e may t i is g g' refl less tallied

    own_disk : IsTrue d.tells → (f : FolderData) → f.standing ≡ standing_of catalog → AreFresh d disk' f.standing.next → AreUnmade f → IsOnDisk d disk' f g → IsOnDisk d disk' (with_standing (stands_after f.standing (IndexGone i)) f) g'
    own_disk tells f fs fresh unmade on = record {
      rows = subst (λ (w : Region). RegionHolds d w disk' (f.regions w.number)) (sym less.beside.rows) on.rows;
      indexes = λ j z there.
          (let from = from_filter (λ (w : IndexRegion). not (w.index.id.0 == i.0)) g.indexes.items j z (sym (ap (λ (zs : List IndexRegion). slice_get zs j) less.indexes) ∙ there) in on.indexes from.0 z from.1.0);
    }

    pub gone_kept : (catalog' : Catalog) → (HasCatalogue d catalog disk → HasCatalogue d catalog' disk') → standing_of catalog' ≡ stands_after (standing_of catalog) (IndexGone i) → (trail' : Recorded) → trail'.entries ≡ es ++ e ∷ [] → trail'.room + 1 ≡ trail.room → 2 + sum_by owed groups ≤ trail.room
        → IsKept d b sound premise began disk' catalog' (stands_after standing (IndexGone i)) (slice_set groups place g') trail' late closed
    gone_kept catalog' stored defined trail' entries room enough =
        index_kept d tells_left up_to_now b sound premise began disk catalog standing groups trail late closed k running disk' (IndexGone i) passes touches leaves regions t e own may at (dropped_data i.0) explains catalog' stored defined agrees refl
        place g g' l g_is refl less.beside.table (same_owed g g' less.beside)
        (λ p. tallied'.tallied.points) (right_less g g' i.0 less none) (once_less g g' i.0 less) (has_tallied_gone b es e may t i is g g' refl less) (λ given. has_shown_gone b es e may t i is g g' refl less none) own_disk
        trail' entries room enough
