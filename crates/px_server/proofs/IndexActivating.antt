-- An index becomes active, as the code makes it so.
use Rattle.std.proofs.Common.{◌≡◌, ◌≢◌, ◌<◌, ◌≤◌, ◌⊎◌, ◌+◌, ℕ, Bool, true, Option, Some, None, List, [], ◌∷◌, ◌++◌, IsSome, get_or, length, slice_get, refl, sym, ap, subst, ◌∙◌}
use Rattle.std.specs.Prelude.{IsTrue, sum_by}
use Rattle.std.specs.List.{slice_set}
use Rattle.px_outside.specs.OnDisk.{LeavesOnly, Passes, TouchesOnly}
use Rattle.px_outside.specs.declared.disk.Disk.{Ghosts}
use Rattle.px_values.specs.declared.name.IndexId.{IndexId}
use Rattle.px_values.specs.declared.name.TableId.{TableId}
use Rattle.px_values.specs.declared.row.Value.{Value}
use Rattle.px_tables.specs.declared.index.Index.{Index}
use Rattle.px_tables.specs.declared.index.IndexState.TheVariants.{Active}
use Rattle.px_tables.specs.declared.table.Table.{Table}
use Rattle.px_trail.specs.declared.entry.Act.TheVariants.{IndexState}
use Rattle.px_trail.specs.declared.entry.Entry.{Entry}
use Rattle.px_trail.specs.Batches.{IsDecided}
use Rattle.px_trail.specs.Legal.{MayCome}
use Rattle.px_trail.specs.Recorded.{Recorded}
use Rattle.px_trail.specs.States.{state_of}
use Rattle.px_trail.specs.Trail.{Base, horizon_of, index_of, table_of}
use Rattle.px_calls.specs.Calls.{DidDefine}
use Rattle.px_calls.specs.Causes.{LacksIndex}
use Rattle.px_calls.specs.Known.{Known}
use Rattle.px_calls.specs.Requires.{CanActivate, MayActivate, is_based}
use Rattle.px_calls.specs.declared.definition.Definition.TheVariants as definition
use Rattle.px_schema.specs.Stands.{stands_after}
use Rattle.px_schema.specs.declared.item.CatalogItem.TheVariants.{IndexIs}
use Rattle.px_schema.specs.declared.standing.Standing.{Standing}
use Rattle.px_catalog.specs.Catalogue.{CatalogueStands, HasCatalogue, catalogue_files, standing_of}
use Rattle.px_catalog.specs.declared.catalog.Catalog.{Catalog}
use Rattle.px_group.specs.Group.{IsRightGroup, IsRightPart}
use Rattle.px_group.specs.declared.group.Group.{Group}
use Rattle.px_group.specs.declared.group.IndexRegion.{IndexRegion}
use Rattle.px_defined.specs.Defined.{HasActive}
use Rattle.px_defined.proofs.Lists as placed
use Rattle.px_server.specs.Kept.{HasFailed, HasTallied, HasTrailRoom, IsKept, IsShutAt, owed}
use Rattle.px_server.specs.Others.{Beginning}
use Rattle.px_server.specs.declared.defining.prepared.IndexToPut.{IndexToPut}
use Rattle.px_server.specs.inner.Fitting.{IsIndexToActivate}
use Rattle.px_server.proofs.IndexAnswers.{did_activate}
use Rattle.px_server.proofs.IndexFound.{id_is, number_found}
use Rattle.px_server.proofs.IndexMay.{may_ready}
use Rattle.px_server.proofs.Lists.{all_at}
use Rattle.px_server.proofs.ReadyKept.{ready_failed, ready_kept}

-- ---- an index of the group

module _ {D : Type 0} (d : Ghosts D) (tells_left : (x : D) (moment file : ℕ) (bytes : List ℕ) → d.left x moment file bytes → IsTrue d.tells)
    (up_to_now : (x : D) (moment file : ℕ) (bytes : List ℕ) → d.left x moment file bytes → moment ≤ d.calls x) (b : Base) (damaged : ℕ → ℕ → Bool) (sound premise : Type 0) (began : Beginning)
    (disk : D) (catalog : Catalog) (standing : Standing) (groups : List Group) (trail : Recorded) (late : Option Entry) (closed : Option ℕ) (k : IsKept d b sound premise began disk catalog standing groups trail late closed) (running : closed ≡ None)
    (place : ℕ) (g : Group) (l : place < length groups) (g_is : get_or groups place g ≡ g) (seat : ℕ) (t : TableId) (mine : g.table.id ≡ t) (i : IndexId) (may : MayActivate sound (record { seat = seat; base = b; damaged = damaged; alone = true; seen = trail.entries }) t.0 i.0) where
  abbrev es : List Entry
  es = trail.entries

  abbrev before : Known
  before = record { seat = seat; base = b; damaged = damaged; alone = true; seen = es }

  tallied : HasTallied b es g
  tallied = all_at (HasTallied b es) groups place g l g_is (k.each.tallied running)

  right : IsRightGroup g
  right = all_at IsRightGroup groups place g l g_is (k.each.right running)

  stands : table_of b es t.0 ≡ Some g.table
  stands = ap (λ (u : TableId). table_of b es u.0) (sym mine) ∙ tallied.tallied.standing.table

  -- no such index
  pub no_index : ((m : ℕ) (x : IndexRegion) → slice_get g.indexes.items m ≡ Some x → x.index.id ≡ i → ⊥) → LacksIndex before t.0 i.0
  no_index not = (
    subst (λ (o : Option Table). IsSome o) (sym stands) refl,
    λ x is own. (let
        number : x.id.0 ≡ i.0 = number_found standing.indexes i.0 x (k.told.agrees.indexes i.0 ∙ is)
        in let
        here = tallied.tallied.standing.all x (ap (λ (n : ℕ). index_of b es n) number ∙ is) (own ∙ ap (λ (u : TableId). u.0) (sym mine)) (may.each x is own).state
        in not here.0 here.1.0 here.1.1.0 (ap (λ (y : Index). y.id) here.1.1.1 ∙ id_is x.id i number)),
  )

  module _ (m : ℕ) (x : IndexRegion) (x_is : slice_get g.indexes.items m ≡ Some x) (id : x.index.id ≡ i) where
    pub part : IsRightPart g.table x
    part = placed.all_at (IsRightPart g.table) g.indexes.items m x x_is right.parts

    index_is : index_of b es i.0 ≡ Some x.index
    index_is = ap (λ (n : IndexId). index_of b es n.0) (sym id) ∙ tallied.tallied.standing.index m x x_is

    owner : x.index.table.0 ≡ t.0
    owner = ap (λ (u : TableId). u.0) (part.table ∙ mine)

    can : CanActivate sound before t.0 i.0 x.index
    can = may.each x.index index_is owner

    low : horizon_of b g.table.id.0 es ≤ x.index.birth
    low = subst (λ (u : TableId). horizon_of b u.0 es ≤ x.index.birth) (sym mine) can.low

    decided : IsDecided es g.table.id.0 x.index.birth
    decided = subst (λ (u : TableId). IsDecided es u.0 x.index.birth) (sym mine) can.decided

    all : sound → (r : List Value) → state_of b es g.table.id.0 r x.index.birth ≢ None → is_based es x.index.id.0 r ≡ true
    all given = subst (λ (u : TableId). (r : List Value) → state_of b es u.0 r x.index.birth ≢ None → is_based es x.index.id.0 r ≡ true) (sym mine)
        (subst (λ (n : IndexId). (r : List Value) → state_of b es t.0 r x.index.birth ≢ None → is_based es n.0 r ≡ true) (sym id) (can.based given))

    module _ (p : IndexToPut) (made : IsIndexToActivate standing x.index p)
        (disk' : D) (passes : Passes d disk disk' 4) (touches : HasCatalogue d catalog disk → TouchesOnly d disk disk' catalogue_files)
        (leaves : HasCatalogue d catalog disk → LeavesOnly d disk disk' (λ moment image. CatalogueStands image (standing_of catalog) ⊎ CatalogueStands image (stands_after (standing_of catalog) (IndexIs p.item)))) (calls : ℕ) (at : calls ≡ d.calls disk') where
      abbrev y : Index
      y = record x.index { state = Active }

      abbrev e : Entry
      e = record { seat = seat; calls = calls; act = IndexState t i Active x.index.birth }

      act_is : e.act ≡ IndexState g.table.id i Active x.index.birth
      act_is = ap (λ (u : TableId). IndexState u i Active x.index.birth) (sym mine)

      may_come : MayCome b es e
      may_come = subst (λ (n : ℕ). MayCome b es (record { seat = seat; calls = n; act = IndexState t i Active x.index.birth })) (sym at)
          (may_ready d b sound premise began disk catalog standing groups trail late closed k running disk' passes.later seat t i x.index index_is owner)

      leaves_y : HasCatalogue d catalog disk → LeavesOnly d disk disk' (λ moment image. CatalogueStands image (standing_of catalog) ⊎ CatalogueStands image (stands_after (standing_of catalog) (IndexIs y)))
      leaves_y = subst (λ (z : Index). HasCatalogue d catalog disk → LeavesOnly d disk disk' (λ moment image. CatalogueStands image (standing_of catalog) ⊎ CatalogueStands image (stands_after (standing_of catalog) (IndexIs z)))) made.item_is leaves

      pub activate_failed : (shut : Entry) (call : ℕ) → IsShutAt shut call → call ≡ d.calls disk' → HasFailed d disk' → (catalog' : Catalog) (trail' : Recorded) → trail'.entries ≡ es ++ shut ∷ [] → HasTrailRoom (Some call) groups trail'
          → IsKept d b sound premise began disk' catalog' standing groups trail' (Some e) (Some call)
      activate_failed = ready_failed d tells_left up_to_now b sound premise began disk catalog standing groups trail late closed k running i x.index.birth place g l g_is e act_is may_come m x x_is id low decided all disk' at passes touches leaves_y

      module _ (g' : Group) (active : HasActive g g' m) (catalog' : Catalog) (stored : HasCatalogue d catalog disk → HasCatalogue d catalog' disk') (defined : standing_of catalog' ≡ stands_after (standing_of catalog) (IndexIs p.item))
          (trail' : Recorded) (entries : trail'.entries ≡ es ++ e ∷ []) (room : trail'.room + 1 ≡ trail.room) (enough : 2 + sum_by owed groups ≤ trail.room) where
        pub activate_kept : IsKept d b sound premise began disk' catalog' p.standing (slice_set groups place g') trail' late closed
        activate_kept = subst (λ (st : Standing). IsKept d b sound premise began disk' catalog' st (slice_set groups place g') trail' late closed) (sym (made.standing ∙ ap (λ (z : Index). stands_after standing (IndexIs z)) made.item_is))
            (ready_kept d tells_left up_to_now b sound premise began disk catalog standing groups trail late closed k running i x.index.birth place g l g_is e act_is may_come m x x_is id low decided all disk' at passes touches leaves_y
            g' active catalog' stored (defined ∙ ap (λ (z : Index). stands_after (standing_of catalog) (IndexIs z)) made.item_is) trail' entries room enough)

        pub activate_did : (n : ℕ) → n ≡ length trail'.entries → DidDefine before (record { seat = seat; base = b; damaged = damaged; alone = true; seen = trail'.entries }) (definition.Active t i) (record { number = i.0; stamp = x.index.birth; at = n })
        activate_did n long = did_activate before k.told.legal t i x.index.birth calls trail'.entries entries activate_kept.told.legal n long
