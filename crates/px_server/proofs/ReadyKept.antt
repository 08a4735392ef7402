-- An index becomes active: what is true of a server stays so.
use Rattle.std.proofs.Common.{◌≡◌, ◌≢◌, ◌<◌, ◌≤◌, ◌⊎◌, ◌+◌, inl, inr, ℕ, true, Option, Some, None, List, [], ◌∷◌, ◌++◌, get_or, length, map, slice_get, refl, sym, ap, subst, ◌∙◌, arith}
use Rattle.std.specs.Prelude.{IsTrue, nat_eq, sum_by}
use Rattle.std.specs.List.{AllByRecursion, flat_map, slice_set}
use Rattle.std.proofs.lemmas.Bool.{eqb-true}
use Rattle.px_outside.specs.OnDisk.{LeavesOnly, Passes, TouchesOnly}
use Rattle.px_outside.specs.Parts.{with_part}
use Rattle.px_outside.specs.declared.disk.Disk.{Ghosts}
use Rattle.px_values.specs.declared.name.IndexId.{IndexId}
use Rattle.px_values.specs.declared.name.TableId.{TableId}
use Rattle.px_values.specs.declared.row.Value.{Value}
use Rattle.px_tables.specs.declared.index.Index.{Index}
use Rattle.px_tables.specs.declared.index.IndexState.TheVariants.{Active}
use Rattle.px_trail.specs.declared.entry.Act.{Act}
use Rattle.px_trail.specs.declared.entry.Act.TheVariants.{IndexState}
use Rattle.px_trail.specs.declared.entry.Entry.{Entry}
use Rattle.px_trail.specs.Batches.{IsDecided}
use Rattle.px_trail.specs.Legal.{MayCome}
use Rattle.px_trail.specs.Recorded.{Recorded}
use Rattle.px_trail.specs.States.{state_of}
use Rattle.px_trail.specs.Trail.{Base, Catalogue, catalogue_of, catalogue_step, horizon_of}
use Rattle.px_trail.proofs.Growth.{catalogue-snoc}
use Rattle.px_calls.specs.Requires.{is_based}
use Rattle.px_indexed.specs.Idle.{IsElsewhere}
use Rattle.px_region.specs.Region.{RegionHolds}
use Rattle.px_region.specs.declared.region.Region.{Region}
use Rattle.px_schema.specs.Stands.{stands_after}
use Rattle.px_schema.specs.declared.item.CatalogItem.TheVariants.{IndexIs}
use Rattle.px_schema.specs.declared.standing.Standing.{Standing}
use Rattle.px_catalog.specs.Catalogue.{CatalogueStands, HasCatalogue, catalogue_files, standing_of}
use Rattle.px_catalog.specs.declared.catalog.Catalog.{Catalog}
use Rattle.px_tablefolder.specs.Folder.{IsFilesOf}
use Rattle.px_groupworld.specs.Group.{GroupData, no_part}
use Rattle.px_groupworld.specs.Steps.{ready_data}
use Rattle.px_group.specs.Group.{IsRightGroup, IsRightPart}
use Rattle.px_group.specs.declared.group.Group.{Group}
use Rattle.px_group.specs.declared.group.IndexRegion.{IndexRegion}
use Rattle.px_defined.specs.Defined.{HasActive, HasOnce, active}
use Rattle.px_defined.proofs.Lists.{same_at, set_cases, within}
use Rattle.px_defined.proofs.Lists as placed
use Rattle.px_defined.proofs.Once.{once_active}
use Rattle.px_defined.proofs.Right.{right_active}
use Rattle.px_recovery.specs.Folder.{AreFresh, AreUnmade, FolderData, IsNumberAmong, region_numbers, regions_of, with_standing}
use Rattle.px_recovery.specs.Stands.{Explains, opened_index, opened_state}
use Rattle.px_recovery.specs.Tables.{index_files, index_in}
use Rattle.px_recovery.proofs.Readies.{index_ready as folder_ready}
use Rattle.px_standing.specs.Agrees.{Agrees}
use Rattle.px_standing.proofs.Defined.{index_ready as agrees_ready}
use Rattle.px_server.specs.Kept.{HasFailed, HasShown, HasTallied, HasTrailRoom, IsKept, IsOnDisk, IsShutAt, forms_in, owed}
use Rattle.px_server.specs.Others.{Beginning}
use Rattle.px_server.proofs.BornKept.{or_none, same_owed}
use Rattle.px_server.proofs.Catalogued.{define_failed}
use Rattle.px_server.proofs.Defines.{Defines}
use Rattle.px_server.proofs.Drawn.{among_right, regions_in}
use Rattle.px_server.proofs.IndexDefined.{index_kept}
use Rattle.px_server.proofs.IndexReady.{files_ready, has_shown_ready, has_tallied_ready, kept_ready, ready_comes}
use Rattle.px_server.proofs.Lists.{all_at}
use Rattle.px_server.proofs.IndexStands.{region_found, same_regions}

abbrev activated : Index → Index
activated x = record x { state = Active }

-- the same index, whatever state it has in the list
some_opened : (o : Option Index) (x : Index) → opened_index o ≡ opened_index (Some x) → (z : Index) × ((o ≡ Some z) × (activated z ≡ activated x))
some_opened None x is = absurd cc
some_opened (Some z) x is = (let same : record z { state = opened_state z.state } ≡ record x { state = opened_state x.state } = cc in (z, (refl, ap activated same)))

module _ {D : Type 0} (d : Ghosts D) (tells_left : (x : D) (moment file : ℕ) (bytes : List ℕ) → d.left x moment file bytes → IsTrue d.tells)
    (up_to_now : (x : D) (moment file : ℕ) (bytes : List ℕ) → d.left x moment file bytes → moment ≤ d.calls x) (b : Base) (sound premise : Type 0) (began : Beginning)
    (disk : D) (catalog : Catalog) (standing : Standing) (groups : List Group) (trail : Recorded) (late : Option Entry) (closed : Option ℕ) (k : IsKept d b sound premise began disk catalog standing groups trail late closed) (running : closed ≡ None)
    (i : IndexId) (s : ℕ) (place : ℕ) (g : Group) (l : place < length groups) (g_is : get_or groups place g ≡ g) (e : Entry) (is : e.act ≡ IndexState g.table.id i Active s) (may : MayCome b trail.entries e)
    (m : ℕ) (x : IndexRegion) (x_is : slice_get g.indexes.items m ≡ Some x) (id : x.index.id ≡ i)
    (low : horizon_of b g.table.id.0 trail.entries ≤ x.index.birth) (decided : IsDecided trail.entries g.table.id.0 x.index.birth)
    (all : sound → (r : List Value) → state_of b trail.entries g.table.id.0 r x.index.birth ≢ None → is_based trail.entries x.index.id.0 r ≡ true)
    (disk' : D) (at : e.calls ≡ d.calls disk') (passes : Passes d disk disk' 4) (touches : HasCatalogue d catalog disk → TouchesOnly d disk disk' catalogue_files)
    (leaves : HasCatalogue d catalog disk → LeavesOnly d disk disk' (λ moment image. CatalogueStands image (standing_of catalog) ⊎ CatalogueStands image (stands_after (standing_of catalog) (IndexIs (activated x.index))))) where
  abbrev es : List Entry
  es = trail.entries

  abbrev es' : List Entry
  es' = es ++ e ∷ []

  abbrev t : TableId
  t = g.table.id

  abbrev c : Catalogue
  c = catalogue_of b es

  abbrev y : Index
  y = activated x.index

  own : Defines t e.act
  own = subst (Defines t) (sym is) refl

  elsewhere : IsElsewhere g.table.id e.act
  elsewhere = subst (λ (act : Act). IsElsewhere g.table.id act) (sym is) tt

  tallied : HasTallied b es g
  tallied = all_at (HasTallied b es) groups place g l g_is (k.each.tallied running)

  right : IsRightGroup g
  right = all_at IsRightGroup groups place g l g_is (k.each.right running)

  part : IsRightPart g.table x
  part = placed.all_at (IsRightPart g.table) g.indexes.items m x x_is right.parts

  stands : c.indexes i.0 ≡ Some x.index
  stands = ap c.indexes (ap (λ (n : IndexId). n.0) (sym id)) ∙ tallied.tallied.standing.index m x x_is

  in_standing : index_in standing.indexes i.0 ≡ Some x.index
  in_standing = k.told.agrees.indexes i.0 ∙ stands

  regions : (n : ℕ) → IsNumberAmong n (regions_in (IndexIs y)) → IsNumberAmong n (region_numbers (standing_of catalog)) ⊎ ((standing_of catalog).next ≤ n)
  regions n among = inl (let one : x.index.region ≡ n = eqb-true x.index.region n (or_none (nat_eq x.index.region n) among) in
      subst (λ (r : ℕ). IsNumberAmong r (region_numbers (standing_of catalog))) one (among_right x.index.region (flat_map regions_of (standing_of catalog).tables) (map (λ (w : Index). w.region) (standing_of catalog).indexes)
      (subst (λ (rs : List ℕ). IsNumberAmong x.index.region rs) (sym (same_regions (standing_of catalog) standing (k.told.same running))) (region_found standing.indexes i.0 x.index in_standing))))

  explains : sound → (f : FolderData) (v : ℕ → GroupData) → f.standing ≡ standing_of catalog → AreUnmade f → AllByRecursion (HasShown b es f.standing.indexes v) groups → AllByRecursion (IsOnDisk d disk f) groups → Explains b es f v
      → Explains b es' (with_standing (stands_after f.standing (IndexIs y)) f) (with_part v t.0 (ready_data m (v t.0)))
  explains given f v fs unmade shown on told = (let
      here : HasShown b es f.standing.indexes v g = all_at (HasShown b es f.standing.indexes v) groups place g l g_is shown
      in let
      held : IsOnDisk d disk f g = all_at (IsOnDisk d disk f) groups place g l g_is on
      in let
      z = some_opened (index_in f.standing.indexes i.0) x.index (told.catalogue.indexes i.0 ∙ ap opened_index stands)
      in let
      index = forms_in f.standing.indexes g.table
      in let
      found = told.catalogue.tables t.0 ∙ tallied.tallied.standing.table
      in let
      inside : m < length (v t.0).indexes = (let a = within g.indexes.items m x x_is in let n = here.shown.count in omega (arith, a, n))
      in let
      comes = ready_comes b es g m x x_is low decided (all given) index (v t.0) here.held here.shown here.built
      in let
      files = files_ready b es e may g elsewhere m x x_is index (v t.0) here.held here.shown comes here.told d disk f part.number (held.indexes m x x_is)
      in let
      kept = kept_ready b es e may g elsewhere m x x_is index (v t.0) here.held here.shown comes
      in subst (λ (w : Index). Explains b es' (with_standing (stands_after f.standing (IndexIs w)) f) (with_part v t.0 (ready_data m (v t.0)))) z.1.1
      (folder_ready b es f v told e may t i s is g.table found z.0 z.1.0 (ap (λ (w : Index). w.table.0) z.1.1 ∙ ap (λ (u : TableId). u.0) part.table) m inside ((here.shown.parts m x x_is).id ∙ ap (λ (n : IndexId). n.0) id)
      (subst (λ (w : Index). IsFilesOf (record (get_or (v t.0).indexes m no_part) { is_built = true }) (index_files f.regions w)) (sym z.1.1) files) kept))

  -- the call failed
  pub ready_failed : (shut : Entry) (call : ℕ) → IsShutAt shut call → call ≡ d.calls disk' → HasFailed d disk' → (catalog' : Catalog) (trail' : Recorded) → trail'.entries ≡ es ++ shut ∷ [] → HasTrailRoom (Some call) groups trail'
      → IsKept d b sound premise began disk' catalog' standing groups trail' (Some e) (Some call)
  ready_failed shut call shut-is shut_at failed catalog' trail' entries room =
      define_failed d tells_left up_to_now b sound premise began disk catalog standing groups trail late closed k running disk' (IndexIs y) passes touches leaves regions t e own may at (λ v. with_part v t.0 (ready_data m (v t.0))) explains shut call shut-is shut_at failed catalog' trail' entries room

  agrees : Agrees (stands_after standing (IndexIs y)) (catalogue_of b es')
  agrees = subst (λ (w : Catalogue). Agrees (stands_after standing (IndexIs y)) w) (sym (catalogue-snoc b es e ∙ ap (catalogue_step c) is)) (agrees_ready standing c k.told.agrees t i s x.index in_standing)

  module _ (g' : Group) (a : HasActive g g' m) where
    same : x ≡ a.index
    same = same_at g.indexes.items m x a.index x_is a.is

    id' : a.index.index.id ≡ i
    id' = ap (λ (w : IndexRegion). w.index.id) (sym same) ∙ id

    low' : horizon_of b t.0 es ≤ a.index.index.birth
    low' = subst (λ (w : IndexRegion). horizon_of b t.0 es ≤ w.index.birth) same low

    decided' : IsDecided es t.0 a.index.index.birth
    decided' = subst (λ (w : IndexRegion). IsDecided es t.0 w.index.birth) same decided

    all' : sound → (r : List Value) → state_of b es t.0 r a.index.index.birth ≢ None → is_based es a.index.index.id.0 r ≡ true
    all' given = subst (λ (w : IndexRegion). (r : List Value) → state_of b es t.0 r w.index.birth ≢ None → is_based es w.index.id.0 r ≡ true) same (all given)

    once : HasOnce g
    once = all_at HasOnce groups place g l g_is (k.each.once running)

    tallied' : HasTallied b es' g'
    tallied' = has_tallied_ready b es e may t i s is g g' refl m a id' once tallied

    own_disk : IsTrue d.tells → (f : FolderData) → f.standing ≡ standing_of catalog → AreFresh d disk' f.standing.next → AreUnmade f → IsOnDisk d disk' f g → IsOnDisk d disk' (with_standing (stands_after f.standing (IndexIs y)) f) g'
    own_disk tells f fs fresh unmade on = record {
      rows = subst (λ (w : Region). RegionHolds d w disk' (f.regions w.number)) (sym a.beside.rows) on.rows;
      indexes = λ j z there. elim (set_cases g.indexes.items m j (active a.index) z (sym (ap (λ (zs : List IndexRegion). slice_get zs j) a.indexes) ∙ there)) [
        | inl here ↦ subst (λ (w : IndexRegion). RegionHolds d w.region disk' (f.regions w.region.number)) (sym here.1) (on.indexes m a.index a.is)
        | inr other ↦ on.indexes j z other.1
      ];
    }

    pub ready_kept : (catalog' : Catalog) → (HasCatalogue d catalog disk → HasCatalogue d catalog' disk') → standing_of catalog' ≡ stands_after (standing_of catalog) (IndexIs y) → (trail' : Recorded) → trail'.entries ≡ es ++ e ∷ [] → trail'.room + 1 ≡ trail.room → 2 + sum_by owed groups ≤ trail.room
        → IsKept d b sound premise began disk' catalog' (stands_after standing (IndexIs y)) (slice_set groups place g') trail' late closed
    ready_kept catalog' stored defined trail' entries room enough =
        index_kept d tells_left up_to_now b sound premise began disk catalog standing groups trail late closed k running disk' (IndexIs y) passes touches leaves regions t e own may at (ready_data m) explains catalog' stored defined agrees refl
        place g g' l g_is refl a.beside.table (same_owed g g' a.beside)
        (λ p. tallied'.tallied.points) (right_active g g' m a) (once_active g g' m a) (has_tallied_ready b es e may t i s is g g' refl m a id' once)
        (λ given xs xs' forms forms'. has_shown_ready b es e may t i s is g g' refl m a id' low' decided' (all' given) xs xs' forms forms' once) own_disk
        trail' entries room enough
