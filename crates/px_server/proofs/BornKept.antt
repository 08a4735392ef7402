-- An index is made: what is true of a server stays so.
use Rattle.std.proofs.Common.{◌≡◌, ◌<◌, ◌≤◌, ◌⊎◌, ◌+◌, inl, inr, ℕ, Bool, true, false, ◌||◌, Option, Some, None, List, [], ◌∷◌, ◌++◌, get_or, length, slice_get, refl, sym, ap, subst, ◌∙◌, arith}
use Rattle.std.specs.Prelude.{IsTrue, nat_eq, sum_by}
use Rattle.std.specs.List.{AllByRecursion, slice_set}
use Rattle.std.proofs.lemmas.Bool.{eqb-true}
use Rattle.px_outside.specs.OnDisk.{LeavesOnly, Passes, TouchesOnly}
use Rattle.px_outside.specs.Parts.{with_part}
use Rattle.px_outside.specs.declared.disk.Disk.{Ghosts}
use Rattle.px_values.specs.declared.name.IndexId.{IndexId}
use Rattle.px_values.specs.declared.name.TableId.{TableId}
use Rattle.px_tables.specs.declared.index.Index.{Index}
use Rattle.px_tables.specs.declared.index.NewIndex.{NewIndex}
use Rattle.px_trail.specs.declared.entry.Act.{Act}
use Rattle.px_trail.specs.declared.entry.Act.TheVariants.{IndexMade}
use Rattle.px_trail.specs.declared.entry.Entry.{Entry}
use Rattle.px_trail.specs.Legal.{Follows, MayCome}
use Rattle.px_trail.specs.Recorded.{Recorded}
use Rattle.px_trail.specs.Trail.{Base, Catalogue, catalogue_of, catalogue_step, made_index}
use Rattle.px_trail.proofs.Growth.{catalogue-snoc}
use Rattle.px_calls.specs.Requires.{IsNewIndex}
use Rattle.px_wal.specs.Files.{HasFile}
use Rattle.px_region.specs.Fresh.{IsRegionBlank, no_data}
use Rattle.px_region.specs.Region.{RegionData, RegionHolds}
use Rattle.px_region.specs.declared.region.Region.{Region}
use Rattle.px_region.proofs.Fresh.{fresh_holds}
use Rattle.px_schema.specs.Stands.{stands_after}
use Rattle.px_schema.specs.declared.item.CatalogItem.TheVariants.{IndexIs}
use Rattle.px_schema.specs.declared.standing.Standing.{Standing}
use Rattle.px_catalog.specs.Catalogue.{CatalogueStands, HasCatalogue, catalogue_files, standing_of}
use Rattle.px_catalog.specs.declared.catalog.Catalog.{Catalog}
use Rattle.px_groupworld.specs.Group.{GroupData}
use Rattle.px_groupworld.specs.Steps.{born_data}
use Rattle.px_group.specs.Group.{IsRightGroup}
use Rattle.px_group.specs.declared.group.Group.{Group}
use Rattle.px_group.specs.declared.group.IndexRegion.{IndexRegion}
use Rattle.px_defined.specs.Defined.{HasIndexMore, HasOnce, IsSameBeside}
use Rattle.px_defined.proofs.Lists.{end_cases}
use Rattle.px_defined.proofs.News.{new_index_right}
use Rattle.px_defined.proofs.Once.{once_more}
use Rattle.px_defined.proofs.Right.{right_more}
use Rattle.px_recovery.specs.Folder.{AreFresh, AreUnmade, FolderData, IsNumberAmong, from, region_numbers, with_standing}
use Rattle.px_recovery.specs.Stands.{Explains}
use Rattle.px_recovery.proofs.Births.{index_made as folder_made}
use Rattle.px_standing.specs.Agrees.{Agrees}
use Rattle.px_standing.proofs.Defined.{index_made as agrees_made}
use Rattle.px_server.specs.Kept.{HasFailed, HasShown, HasTallied, HasTrailRoom, IsKept, IsOnDisk, IsShutAt, owed, owed_by}
use Rattle.px_server.specs.Others.{Beginning}
use Rattle.px_server.proofs.Catalogued.{define_failed}
use Rattle.px_server.proofs.Defines.{Defines}
use Rattle.px_server.proofs.Drawn.{regions_in}
use Rattle.px_server.proofs.IndexBorn.{has_shown_born, has_tallied_born}
use Rattle.px_server.proofs.IndexDefined.{index_kept}
use Rattle.px_server.proofs.Lists.{all_at}

-- the same batches and points owe the same entries
pub same_owed : (g g' : Group) → IsSameBeside g g' → owed g' ≡ owed g
same_owed g g' beside = (let
    points : length g'.points.items ≡ length g.points.items = ap (λ xs. length xs.items) beside.points
    in let
    batches : sum_by owed_by g'.batches.items ≡ sum_by owed_by g.batches.items = ap (λ xs. sum_by owed_by xs.items) beside.batches
    in omega (arith, points, batches))

pub or_none : (v : Bool) → (v || false) ≡ true → v ≡ true
or_none true is = refl
or_none false is = is

module _ {D : Type 0} (d : Ghosts D) (tells_left : (x : D) (moment file : ℕ) (bytes : List ℕ) → d.left x moment file bytes → IsTrue d.tells)
    (up_to_now : (x : D) (moment file : ℕ) (bytes : List ℕ) → d.left x moment file bytes → moment ≤ d.calls x) (b : Base) (sound premise : Type 0) (began : Beginning)
    (disk : D) (catalog : Catalog) (standing : Standing) (groups : List Group) (trail : Recorded) (late : Option Entry) (closed : Option ℕ) (k : IsKept d b sound premise began disk catalog standing groups trail late closed) (running : closed ≡ None)
    (t : TableId) (i : IndexId) (s : ℕ) (what : NewIndex) (e : Entry) (is : e.act ≡ IndexMade t i s what) (may : MayCome b trail.entries e) (disk' : D) (at : e.calls ≡ d.calls disk') (passes : Passes d disk disk' 4)
    (touches : HasCatalogue d catalog disk → TouchesOnly d disk disk' catalogue_files)
    (leaves : HasCatalogue d catalog disk → LeavesOnly d disk disk' (λ moment image. CatalogueStands image (standing_of catalog) ⊎ CatalogueStands image (stands_after (standing_of catalog) (IndexIs (made_index standing.next i s what)))))
    (place : ℕ) (g : Group) (l : place < length groups) (g_is : get_or groups place g ≡ g) (mine : g.table.id ≡ t) (fits : IsNewIndex g.table what) where
  abbrev es : List Entry
  es = trail.entries

  abbrev es' : List Entry
  es' = es ++ e ∷ []

  abbrev c : Catalogue
  c = catalogue_of b es

  abbrev y : Index
  y = made_index standing.next i s what

  own : Defines t e.act
  own = subst (Defines t) (sym is) refl

  follows : Follows b es e.seat e.calls (IndexMade t i s what)
  follows = subst (λ (a : Act). Follows b es e.seat e.calls a) is may.follows

  next_is : standing.next ≡ c.next
  next_is = k.told.agrees.next

  number : i.0 ≡ standing.next + 1
  unfolding Follows
  number = (let z = follows.0 in let n = next_is in omega (arith, z, n))

  owner : what.table ≡ t
  unfolding Follows
  owner = follows.3

  stored_next : (standing_of catalog).next ≡ standing.next
  stored_next = ap (λ (x : Standing). x.next) (k.told.same running)

  regions : (n : ℕ) → IsNumberAmong n (regions_in (IndexIs y)) → IsNumberAmong n (region_numbers (standing_of catalog)) ⊎ ((standing_of catalog).next ≤ n)
  regions n among = inr (let one = eqb-true standing.next n (or_none (nat_eq standing.next n) among) in let same = stored_next in omega (arith, one, same))

  tallied : HasTallied b es g
  tallied = all_at (HasTallied b es) groups place g l g_is (k.each.tallied running)

  change : GroupData → GroupData
  change = born_data i.0 s

  explains : sound → (f : FolderData) (v : ℕ → GroupData) → f.standing ≡ standing_of catalog → AreUnmade f → AllByRecursion (HasShown b es f.standing.indexes v) groups → AllByRecursion (IsOnDisk d disk f) groups → Explains b es f v
      → Explains b es' (with_standing (stands_after f.standing (IndexIs y)) f) (with_part v t.0 (born_data i.0 s (v t.0)))
  explains given f v fs unmade shown on told = (let
      same : f.standing.next ≡ standing.next = ap (λ (x : Standing). x.next) fs ∙ stored_next
      in let
      found = told.catalogue.tables t.0 ∙ (ap c.tables (ap (λ (u : TableId). u.0) (sym mine)) ∙ tallied.tallied.standing.table)
      in subst (λ (n : ℕ). Explains b es' (with_standing (stands_after f.standing (IndexIs (made_index n i s what))) f) (with_part v t.0 (born_data i.0 s (v t.0)))) same (folder_made b es f unmade v told e may t i s what is g.table found))

  -- the call failed
  pub born_failed : (shut : Entry) (call : ℕ) → IsShutAt shut call → call ≡ d.calls disk' → HasFailed d disk' → (catalog' : Catalog) (trail' : Recorded) → trail'.entries ≡ es ++ shut ∷ [] → HasTrailRoom (Some call) groups trail'
      → IsKept d b sound premise began disk' catalog' standing groups trail' (Some e) (Some call)
  born_failed shut call shut-is shut_at failed catalog' trail' entries room =
      define_failed d tells_left up_to_now b sound premise began disk catalog standing groups trail late closed k running disk' (IndexIs y) passes touches leaves regions t e own may at (λ v. with_part v t.0 (born_data i.0 s (v t.0))) explains shut call shut-is shut_at failed catalog' trail' entries room

  agrees : Agrees (stands_after standing (IndexIs y)) (catalogue_of b es')
  agrees = subst (λ (x : Catalogue). Agrees (stands_after standing (IndexIs y)) x) (sym (catalogue-snoc b es e ∙ ap (catalogue_step c) is)) (agrees_made standing c k.told.agrees t i s what number)

  module _ (g' : Group) (more : HasIndexMore g g' y) where
    abbrev y' : Index
    y' = made_index c.next i s what

    more' : HasIndexMore g g' y'
    more' = subst (λ (n : ℕ). HasIndexMore g g' (made_index n i s what)) next_is more

    act_is : e.act ≡ IndexMade g.table.id i s what
    act_is = is ∙ ap (λ (u : TableId). IndexMade u i s what) (sym mine)

    tallied' : HasTallied b es' g'
    tallied' = has_tallied_born b k.told.base es k.told.legal e may t i s what is g g' mine more' tallied

    own_right : IsRightGroup g → IsRightGroup g'
    own_right r = right_more g g' y more r (new_index_right g.table standing.next i s what fits) (owner ∙ sym mine) (λ q. cc)

    own_once : HasOnce g → HasOnce g'
    own_once once = once_more b k.told.base es k.told.legal e may g g' y' tallied.held tallied.tallied more' i s what act_is refl once

    own_disk : IsTrue d.tells → (f : FolderData) → f.standing ≡ standing_of catalog → AreFresh d disk' f.standing.next → AreUnmade f → IsOnDisk d disk' f g → IsOnDisk d disk' (with_standing (stands_after f.standing (IndexIs y)) f) g'
    own_disk tells f fs fresh unmade on = record {
      rows = subst (λ (w : Region). RegionHolds d w disk' (f.regions w.number)) (sym more.beside.rows) on.rows;
      indexes = λ j x there. elim (end_cases g.indexes.items more.new j x (sym (ap (λ (zs : List IndexRegion). slice_get zs j) more.indexes) ∙ there)) [
        | inl old ↦ on.indexes j x old
        | inr new ↦ subst (λ (w : IndexRegion). RegionHolds d w.region disk' (f.regions w.region.number)) (sym new.1)
            (subst (λ (data_ : RegionData). RegionHolds d more.new.region disk' data_) (sym nothing) (fresh_holds d y.region more.new.region disk' more.fresh blank))
      ];
    }
      where
        same : f.standing.next ≡ y.region
        same = ap (λ (x : Standing). x.next) fs ∙ stored_next

        nothing : f.regions more.new.region.number ≡ no_data
        nothing = unmade more.new.region.number (let n = same in let m = more.fresh.number_is in omega (arith, n, m))

        from_next : (file : ℕ) → HasFile y.region file → from f.standing.next file
        from_next file its = (let a = its.is in let n = same in omega (arith, a, n))

        blank : IsRegionBlank d y.region disk'
        blank = record { tells = tells; only = λ file its. fresh.on_disk file (from_next file its); none = λ file its. fresh.empty file (from_next file its) }

    pub born_kept : (catalog' : Catalog) → (HasCatalogue d catalog disk → HasCatalogue d catalog' disk') → standing_of catalog' ≡ stands_after (standing_of catalog) (IndexIs y) → (trail' : Recorded) → trail'.entries ≡ es ++ e ∷ [] → trail'.room + 1 ≡ trail.room → 2 + sum_by owed groups ≤ trail.room
        → IsKept d b sound premise began disk' catalog' (stands_after standing (IndexIs y)) (slice_set groups place g') trail' late closed
    born_kept catalog' stored defined trail' entries room enough =
        index_kept d tells_left up_to_now b sound premise began disk catalog standing groups trail late closed k running disk' (IndexIs y) passes touches leaves regions t e own may at (born_data i.0 s) explains catalog' stored defined agrees refl
        place g g' l g_is mine more.beside.table (same_owed g g' more.beside)
        (λ p. tallied'.tallied.points) own_right own_once (has_tallied_born b k.told.base es k.told.legal e may t i s what is g g' mine more') (λ given. has_shown_born b k.told.base es k.told.legal e may t i s what is g g' mine more') own_disk
        trail' entries room enough
