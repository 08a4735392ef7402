-- A definition that changes the group of one table that stands, and no table: what is true of a server stays so.
use Rattle.std.proofs.Common.{◌≡◌, ◌≢◌, ◌<◌, ◌≤◌, ◌⊎◌, ◌+◌, ℕ, Option, None, List, [], ◌∷◌, ◌++◌, get_or, length, sym, ap, subst, ◌∙◌, arith}
use Rattle.std.specs.Prelude.{IsTrue, sum_by}
use Rattle.std.specs.List.{AllByRecursion, slice_set}
use Rattle.std.proofs.lemmas.List.Sums.{sum_by-set}
use Rattle.px_outside.specs.OnDisk.{LeavesOnly, Passes, TouchesOnly}
use Rattle.px_outside.specs.Parts.{AreDistinct, with_part}
use Rattle.px_outside.specs.declared.disk.Disk.{Ghosts}
use Rattle.px_outside.proofs.Parts.{with_part-other}
use Rattle.px_values.specs.declared.name.TableId.{TableId}
use Rattle.px_tables.specs.declared.index.Index.{Index}
use Rattle.px_trail.specs.declared.entry.Entry.{Entry}
use Rattle.px_trail.specs.Legal.{MayCome}
use Rattle.px_trail.specs.Recorded.{Recorded}
use Rattle.px_trail.specs.Trail.{Base, catalogue_of}
use Rattle.px_schema.specs.Stands.{stands_after}
use Rattle.px_schema.specs.declared.item.CatalogItem.{CatalogItem}
use Rattle.px_schema.specs.declared.standing.Standing.{Standing}
use Rattle.px_catalog.specs.Catalogue.{CatalogueStands, HasCatalogue, catalogue_files, standing_of}
use Rattle.px_catalog.specs.declared.catalog.Catalog.{Catalog}
use Rattle.px_groupworld.specs.Group.{GroupData}
use Rattle.px_group.specs.Group.{IsRightGroup}
use Rattle.px_group.specs.declared.group.Group.{Group}
use Rattle.px_defined.specs.Defined.{HasOnce}
use Rattle.px_recovery.specs.Folder.{AreFresh, AreUnmade, FolderData, IsNumberAmong, region_numbers, with_standing}
use Rattle.px_recovery.specs.Stands.{Explains}
use Rattle.px_standing.specs.Agrees.{Agrees, opened_standing}
use Rattle.px_server.specs.Kept.{HasPoints, HasShown, HasTallied, HasTrailRoom, IsKept, IsOnDisk, number_in, owed, table_in_group}
use Rattle.px_server.specs.Others.{Beginning}
use Rattle.px_server.proofs.Catalogued.{AreForms, define_kept}
use Rattle.px_server.proofs.Defines.{Defines}
use Rattle.px_server.proofs.Drawn.{regions_in}
use Rattle.px_server.proofs.Lists.{all_at, all_set, map_set}
use Rattle.px_server.proofs.Pointed.{distinct_groups}
use Rattle.px_server.proofs.SameStanding.{same_after}

module _ {D : Type 0} (d : Ghosts D) (tells_left : (x : D) (moment file : ℕ) (bytes : List ℕ) → d.left x moment file bytes → IsTrue d.tells)
    (up_to_now : (x : D) (moment file : ℕ) (bytes : List ℕ) → d.left x moment file bytes → moment ≤ d.calls x) (b : Base) (sound premise : Type 0) (began : Beginning)
    (disk : D) (catalog : Catalog) (standing : Standing) (groups : List Group) (trail : Recorded) (late : Option Entry) (closed : Option ℕ) (k : IsKept d b sound premise began disk catalog standing groups trail late closed) (running : closed ≡ None)
    (disk' : D) (item : CatalogItem) (passes : Passes d disk disk' 4) (touches : HasCatalogue d catalog disk → TouchesOnly d disk disk' catalogue_files)
    (leaves : HasCatalogue d catalog disk → LeavesOnly d disk disk' (λ moment image. CatalogueStands image (standing_of catalog) ⊎ CatalogueStands image (stands_after (standing_of catalog) item)))
    (regions : (n : ℕ) → IsNumberAmong n (regions_in item) → IsNumberAmong n (region_numbers (standing_of catalog)) ⊎ ((standing_of catalog).next ≤ n))
    (t : TableId) (e : Entry) (own : Defines t e.act) (may : MayCome b trail.entries e) (at : e.calls ≡ d.calls disk')
    -- the table's data then
    (change : GroupData → GroupData)
    (explains : sound → (f : FolderData) (v : ℕ → GroupData) → f.standing ≡ standing_of catalog → AreUnmade f → AllByRecursion (HasShown b trail.entries f.standing.indexes v) groups → AllByRecursion (IsOnDisk d disk f) groups → Explains b trail.entries f v
    → Explains b (trail.entries ++ e ∷ []) (with_standing (stands_after f.standing item) f) (with_part v t.0 (change (v t.0))))
    (catalog' : Catalog) (stored : HasCatalogue d catalog disk → HasCatalogue d catalog' disk') (defined : standing_of catalog' ≡ stands_after (standing_of catalog) item)
    (agrees : Agrees (stands_after standing item) (catalogue_of b (trail.entries ++ e ∷ []))) (tables : (stands_after standing item).tables ≡ standing.tables)
    -- its group, and what it is then
    (place : ℕ) (g g' : Group) (l : place < length groups) (is : get_or groups place g ≡ g) (mine : g.table.id ≡ t) (same : g'.table ≡ g.table) (same_owed : owed g' ≡ owed g)
    (own_points : HasPoints trail.entries g → HasPoints (trail.entries ++ e ∷ []) g') (own_right : IsRightGroup g → IsRightGroup g') (own_once : HasOnce g → HasOnce g') (own_tallied : HasTallied b trail.entries g → HasTallied b (trail.entries ++ e ∷ []) g')
    (own_shown : sound → (xs xs' : List Index) → AreForms xs (catalogue_of b trail.entries) → AreForms xs' (catalogue_of b (trail.entries ++ e ∷ [])) → (v : ℕ → GroupData) → HasShown b trail.entries xs v g → HasShown b (trail.entries ++ e ∷ []) xs' (with_part v t.0 (change (v t.0))) g')
    (own_disk : IsTrue d.tells → (f : FolderData) → f.standing ≡ standing_of catalog → AreFresh d disk' f.standing.next → AreUnmade f → IsOnDisk d disk' f g → IsOnDisk d disk' (with_standing (stands_after f.standing item) f) g') where
  abbrev es : List Entry
  es = trail.entries

  abbrev Own : (Group → Type 0) → (Group → Type 0) → Type 0
  Own P Q = P g → Q g'

  once : AreDistinct number_in groups
  once = distinct_groups groups standing (catalogue_of b es) k.told.agrees k.each.stand

  own_number : number_in g ≡ t.0
  own_number = ap (λ (x : TableId). x.0) mine

  carries : (P Q : Group → Type 0) → ((h : Group) → number_in h ≢ t.0 → P h → Q h) → Own P Q → AllByRecursion P groups → AllByRecursion Q (slice_set groups place g')
  carries P Q others here all = all_set number_in P Q groups place g g' l is once (λ h other p. others h (λ n. other (n ∙ sym own_number)) p) (here (all_at P groups place g l is all)) all

  room_then : (trail' : Recorded) → trail'.room + 1 ≡ trail.room → 2 + sum_by owed groups ≤ trail.room → HasTrailRoom closed (slice_set groups place g') trail'
  room_then trail' room enough = subst (λ (o : Option ℕ). HasTrailRoom o (slice_set groups place g') trail') (sym running) (let
      one = sum_by-set owed groups place g' g l
      in let
      was : owed (get_or groups place g) ≡ owed g = ap owed is
      in omega (arith, one, was, same_owed, room, enough))

  pub index_kept : (trail' : Recorded) → trail'.entries ≡ es ++ e ∷ [] → trail'.room + 1 ≡ trail.room → 2 + sum_by owed groups ≤ trail.room → IsKept d b sound premise began disk' catalog' (stands_after standing item) (slice_set groups place g') trail' late closed
  index_kept trail' entries room enough =
      define_kept d tells_left up_to_now b sound premise began disk catalog standing groups trail late closed k running disk' item passes touches leaves regions t e own may at (λ v. with_part v t.0 (change (v t.0))) explains
      catalog' stored defined (stands_after standing item) agrees (ap opened_standing defined ∙ same_after (standing_of catalog) standing item (k.told.same running))
      (slice_set groups place g') (map_set table_in_group groups place g g' l is same ∙ (k.each.stand ∙ sym tables)) Own carries
      (λ v q other. with_part-other v t.0 (change (v t.0)) q other)
      (λ p. own_points p.1) own_right own_once (λ p. own_tallied p.1) (λ given xs xs' forms forms' v p. own_shown given xs xs' forms forms' v p.1) own_disk
      trail' entries (room_then trail' room enough)
