-- An index is dropped, as the code drops it.
use Rattle.std.proofs.Common.{◌≡◌, ◌<◌, ◌≤◌, ◌⊎◌, ◌+◌, ℕ, Bool, true, Option, Some, None, List, [], ◌∷◌, ◌++◌, IsSome, get_or, length, refl, sym, ap, subst, ◌∙◌, arith}
use Rattle.std.specs.Prelude.{IsTrue, sum_by}
use Rattle.std.specs.List.{slice_set}
use Rattle.px_outside.specs.OnDisk.{LeavesOnly, Passes, TouchesOnly}
use Rattle.px_outside.specs.declared.disk.Disk.{Ghosts}
use Rattle.px_values.specs.declared.name.IndexId.{IndexId}
use Rattle.px_values.specs.declared.name.TableId.{TableId}
use Rattle.px_tables.specs.declared.index.Index.{Index}
use Rattle.px_tables.specs.declared.table.Table.{Table}
use Rattle.px_trail.specs.declared.entry.Act.TheVariants.{Dropped}
use Rattle.px_trail.specs.declared.entry.Entry.{Entry}
use Rattle.px_trail.specs.Legal.{IsQuiet, MayCome}
use Rattle.px_trail.specs.Recorded.{Recorded}
use Rattle.px_trail.specs.Trail.{Base, index_of, table_of}
use Rattle.px_calls.specs.Calls.{DidDefine}
use Rattle.px_calls.specs.Causes.{IsInUse, LacksIndex, uses_of}
use Rattle.px_calls.specs.Known.{Known}
use Rattle.px_calls.specs.declared.definition.Definition.TheVariants as definition
use Rattle.px_standing.proofs.Looked.{stands_at}
use Rattle.px_schema.specs.Stands.{stands_after}
use Rattle.px_schema.specs.declared.item.CatalogItem.TheVariants.{IndexGone}
use Rattle.px_schema.specs.declared.standing.Standing.{Standing}
use Rattle.px_catalog.specs.Catalogue.{CatalogueStands, HasCatalogue, catalogue_files, standing_of}
use Rattle.px_catalog.specs.declared.catalog.Catalog.{Catalog}
use Rattle.px_group.specs.declared.group.Group.{Group}
use Rattle.px_defined.specs.Defined.{HasIndexLess}
use Rattle.px_server.specs.Kept.{HasFailed, HasTallied, HasTrailRoom, IsKept, IsShutAt, owed}
use Rattle.px_server.specs.Others.{Beginning}
use Rattle.px_server.proofs.GoneKept.{gone_failed, gone_kept}
use Rattle.px_server.proofs.IndexAnswers.{did_drop}
use Rattle.px_server.proofs.IndexFound.{HasIndexOf, lacks_of, stands_of}
use Rattle.px_server.proofs.IndexMay.{may_drop}
use Rattle.px_server.proofs.Lists.{all_at}
use Rattle.px_server.proofs.Uses.{is_quiet, uses_are}

no_more : {A : Type 0} (n : ℕ) (xs : List A) → n + length xs ≡ 0 → xs ≡ []
no_more n [] none = refl
no_more n (x ∷ xs) none = absurd (omega (arith, none))

module _ {D : Type 0} (d : Ghosts D) (tells_left : (x : D) (moment file : ℕ) (bytes : List ℕ) → d.left x moment file bytes → IsTrue d.tells)
    (up_to_now : (x : D) (moment file : ℕ) (bytes : List ℕ) → d.left x moment file bytes → moment ≤ d.calls x) (b : Base) (damaged : ℕ → ℕ → Bool) (sound premise : Type 0) (began : Beginning)
    (disk : D) (catalog : Catalog) (standing : Standing) (groups : List Group) (trail : Recorded) (late : Option Entry) (closed : Option ℕ) (k : IsKept d b sound premise began disk catalog standing groups trail late closed) (running : closed ≡ None)
    (place : ℕ) (g : Group) (l : place < length groups) (g_is : get_or groups place g ≡ g) (seat : ℕ) (t : TableId) (mine : g.table.id ≡ t) (i : IndexId) where
  abbrev es : List Entry
  es = trail.entries

  abbrev before : Known
  before = record { seat = seat; base = b; damaged = damaged; alone = true; seen = es }

  tallied : HasTallied b es g
  tallied = all_at (HasTallied b es) groups place g l g_is (k.each.tallied running)

  -- it is in use
  pub in_use : (count : ℕ) → count ≡ length g.points.items + length g.batches.items → 0 < count → IsInUse before t.0 count
  in_use count is some = ((let n = uses_are b es g tallied.held tallied.tallied k.told.legal in subst (λ (u : TableId). uses_of u.0 es ≡ length g.points.items + length g.batches.items) mine n ∙ sym is), some)

  module _ (has : HasIndexOf standing.indexes t i) (unused : length g.points.items + length g.batches.items ≡ 0) (disk' : D) (passes : Passes d disk disk' 4) (touches : HasCatalogue d catalog disk → TouchesOnly d disk disk' catalogue_files)
      (leaves : HasCatalogue d catalog disk → LeavesOnly d disk disk' (λ moment image. CatalogueStands image (standing_of catalog) ⊎ CatalogueStands image (stands_after (standing_of catalog) (IndexGone i)))) (calls : ℕ) (at : calls ≡ d.calls disk') where
    abbrev e : Entry
    e = record { seat = seat; calls = calls; act = Dropped t (Some i) }

    found : (x : Index) × ((index_of b es i.0 ≡ Some x) × (x.table.0 ≡ t.0))
    found = stands_of b es standing k.told.agrees t i has

    quiet : IsQuiet es t.0
    quiet = subst (λ (u : TableId). IsQuiet es u.0) mine (is_quiet b es g tallied.held tallied.tallied unused)

    may_come : MayCome b es e
    may_come = subst (λ (n : ℕ). MayCome b es (record { seat = seat; calls = n; act = Dropped t (Some i) })) (sym at)
        (may_drop d b sound premise began disk catalog standing groups trail late closed k running disk' passes.later seat t i found.0 found.1.0 found.1.1 quiet)

    act_is : e.act ≡ Dropped g.table.id (Some i)
    act_is = ap (λ (u : TableId). Dropped u (Some i)) (sym mine)

    own : found.0.table.0 ≡ g.table.id.0
    own = found.1.1 ∙ ap (λ (u : TableId). u.0) (sym mine)

    none : g.batches.items ≡ []
    none = no_more (length g.points.items) g.batches.items unused

    pub drop_failed : (shut : Entry) (call : ℕ) → IsShutAt shut call → call ≡ d.calls disk' → HasFailed d disk' → (catalog' : Catalog) (trail' : Recorded) → trail'.entries ≡ es ++ shut ∷ [] → HasTrailRoom (Some call) groups trail'
        → IsKept d b sound premise began disk' catalog' standing groups trail' (Some e) (Some call)
    drop_failed = gone_failed d tells_left up_to_now b sound premise began disk catalog standing groups trail late closed k running i place g l g_is e act_is may_come found.0 found.1.0 own none disk' at passes touches leaves

    module _ (g' : Group) (less : HasIndexLess g g' i.0) (catalog' : Catalog) (stored : HasCatalogue d catalog disk → HasCatalogue d catalog' disk') (defined : standing_of catalog' ≡ stands_after (standing_of catalog) (IndexGone i))
        (standing' : Standing) (standing_is : standing' ≡ stands_after standing (IndexGone i)) (trail' : Recorded) (entries : trail'.entries ≡ es ++ e ∷ []) (room : trail'.room + 1 ≡ trail.room) (enough : 2 + sum_by owed groups ≤ trail.room) where
      pub drop_kept : IsKept d b sound premise began disk' catalog' standing' (slice_set groups place g') trail' late closed
      drop_kept = subst (λ (st : Standing). IsKept d b sound premise began disk' catalog' st (slice_set groups place g') trail' late closed) (sym standing_is)
          (gone_kept d tells_left up_to_now b sound premise began disk catalog standing groups trail late closed k running i place g l g_is e act_is may_come found.0 found.1.0 own none disk' at passes touches leaves
          g' less catalog' stored defined trail' entries room enough)

      pub drop_did : (n : ℕ) → n ≡ length trail'.entries → DidDefine before (record { seat = seat; base = b; damaged = damaged; alone = true; seen = trail'.entries }) (definition.DropIndex t i) (record { number = i.0; stamp = 0; at = n })
      drop_did n long = did_drop before k.told.legal t i calls trail'.entries entries drop_kept.told.legal n long

-- no such index of the table at a place
pub no_index_at : {D : Type 0} (d : Ghosts D) (b : Base) (sound premise : Type 0) (began : Beginning) (disk : D) (catalog : Catalog) (standing : Standing) (groups : List Group) (trail : Recorded) (late : Option Entry) (closed : Option ℕ) → IsKept d b sound premise began disk catalog standing groups trail late closed → closed ≡ None
    → (place : ℕ) → place < length standing.tables → (t : TableId) → ((none : Table) → (get_or standing.tables place none).id ≡ t) → (i : IndexId) (seat : ℕ) (damaged : ℕ → ℕ → Bool) → (HasIndexOf standing.indexes t i → ⊥)
    → LacksIndex (record { seat = seat; base = b; damaged = damaged; alone = true; seen = trail.entries }) t.0 i.0
no_index_at d b sound premise began disk catalog standing groups trail late closed k running place l t number i seat damaged not = (let
    found = λ (x : Table). ap (λ (u : TableId). table_of b trail.entries u.0) (sym (number x)) ∙ stands_at b trail.entries standing k.told.agrees place l x
    in (some_of standing.tables place l (λ x. table_of b trail.entries t.0 ≡ Some (get_or standing.tables place x)) found (λ x is. subst (λ (o : Option Table). IsSome o) (sym is) refl), lacks_of b trail.entries standing k.told.agrees t i not))
  where
    some_of : (ts : List Table) (n : ℕ) → n < length ts → (P : Table → Type 0) → ((x : Table) → P x) → {R : Type 0} → ((x : Table) → P x → R) → R
    some_of [] n low P all then = absurd (omega (arith, low))
    some_of (y ∷ ys) n low P all then = then y (all y)
