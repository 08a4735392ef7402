-- An index is made, as the code makes it.
use Rattle.std.proofs.Common.{◌≡◌, ◌<◌, ◌≤◌, ◌⊎◌, ◌+◌, ℕ, Bool, true, Option, Some, None, List, [], ◌∷◌, ◌++◌, get_or, length, refl, sym, ap, subst, ◌∙◌, arith}
use Rattle.std.specs.Prelude.{IsTrue, sum_by}
use Rattle.std.specs.List.{slice_set}
use Rattle.px_outside.specs.OnDisk.{LeavesOnly, Passes, TouchesOnly}
use Rattle.px_outside.specs.declared.disk.Disk.{Ghosts}
use Rattle.px_values.specs.Limits.{most_of}
use Rattle.px_values.specs.declared.limit.Limit.TheVariants.{Stamps}
use Rattle.px_values.specs.declared.name.IndexId.{IndexId}
use Rattle.px_values.specs.declared.name.TableId.{TableId}
use Rattle.px_tables.specs.declared.index.Index.{Index}
use Rattle.px_tables.specs.declared.index.NewIndex.{NewIndex}
use Rattle.px_trail.specs.declared.entry.Act.{Act}
use Rattle.px_trail.specs.declared.entry.Act.TheVariants.{IndexMade}
use Rattle.px_trail.specs.declared.entry.Entry.{Entry}
use Rattle.px_trail.specs.Legal.{MayCome}
use Rattle.px_trail.specs.Recorded.{Recorded}
use Rattle.px_trail.specs.Trail.{Base, last_of, made_index, table_of}
use Rattle.px_calls.specs.Calls.{DidDefine}
use Rattle.px_calls.specs.Requires.{IsIndexFit, IsNewIndex}
use Rattle.px_calls.specs.declared.definition.Definition.TheVariants as definition
use Rattle.px_schema.specs.Stands.{stands_after}
use Rattle.px_schema.specs.declared.item.CatalogItem.TheVariants.{IndexIs}
use Rattle.px_schema.specs.declared.standing.Standing.{Standing}
use Rattle.px_catalog.specs.Catalogue.{CatalogueStands, HasCatalogue, catalogue_files, standing_of}
use Rattle.px_catalog.specs.declared.catalog.Catalog.{Catalog}
use Rattle.px_group.specs.declared.group.Group.{Group}
use Rattle.px_defined.specs.Defined.{HasIndexMore}
use Rattle.px_server.specs.Kept.{HasFailed, HasTallied, HasTrailRoom, IsKept, IsShutAt, owed}
use Rattle.px_server.specs.Others.{Beginning}
use Rattle.px_server.specs.declared.defining.prepared.IndexToMake.{IndexToMake}
use Rattle.px_server.specs.inner.Fitting.{IsIndexToMake}
use Rattle.px_server.specs.inner.Indexing.{MayMakeIndex}
use Rattle.px_server.proofs.BornKept.{born_failed, born_kept}
use Rattle.px_server.proofs.IndexAnswers.{did_make}
use Rattle.px_server.proofs.IndexMay.{may_make}
use Rattle.px_server.proofs.Lists.{all_at}

module _ {D : Type 0} (d : Ghosts D) (tells_left : (x : D) (moment file : ℕ) (bytes : List ℕ) → d.left x moment file bytes → IsTrue d.tells)
    (up_to_now : (x : D) (moment file : ℕ) (bytes : List ℕ) → d.left x moment file bytes → moment ≤ d.calls x) (b : Base) (damaged : ℕ → ℕ → Bool) (sound premise : Type 0) (began : Beginning)
    (disk : D) (catalog : Catalog) (standing : Standing) (groups : List Group) (trail : Recorded) (late : Option Entry) (closed : Option ℕ) (k : IsKept d b sound premise began disk catalog standing groups trail late closed) (running : closed ≡ None)
    (place : ℕ) (g : Group) (l : place < length groups) (g_is : get_or groups place g ≡ g) (seat : ℕ) (what : NewIndex) (mine : g.table.id ≡ what.table)
    (may : MayMakeIndex (record { seat = seat; base = b; damaged = damaged; alone = true; seen = trail.entries }) what) (fit : IsIndexFit (record { seat = seat; base = b; damaged = damaged; alone = true; seen = trail.entries }) what)
    (s : ℕ) (above : g.last < s) (most : s ≤ most_of Stamps) (p : IndexToMake) (made : IsIndexToMake standing s what p)
    (disk' : D) (passes : Passes d disk disk' 4) (touches : HasCatalogue d catalog disk → TouchesOnly d disk disk' catalogue_files)
    (leaves : HasCatalogue d catalog disk → LeavesOnly d disk disk' (λ moment image. CatalogueStands image (standing_of catalog) ⊎ CatalogueStands image (stands_after (standing_of catalog) (IndexIs p.item))))
    (calls : ℕ) (at : calls ≡ d.calls disk') where
  abbrev es : List Entry
  es = trail.entries

  abbrev e : Entry
  e = record { seat = seat; calls = calls; act = IndexMade what.table p.index.id s p.what }

  abbrev i : IndexId
  i = record { 0 = standing.next + 1 }

  abbrev y : Index
  y = made_index standing.next i s what

  item_is : p.item ≡ y
  item_is = made.item_is ∙ made.index

  act_is : e.act ≡ IndexMade what.table i s what
  act_is = λ j. IndexMade what.table (made.index j).id s (made.what_is j)

  tallied : HasTallied b es g
  tallied = all_at (HasTallied b es) groups place g l g_is (k.each.tallied running)

  last_is : last_of b what.table.0 es ≡ g.last
  last_is = ap (λ (t : TableId). last_of b t.0 es) (sym mine) ∙ tallied.tallied.last

  stands : table_of b es what.table.0 ≡ Some g.table
  stands = ap (λ (t : TableId). table_of b es t.0) (sym mine) ∙ tallied.tallied.standing.table

  fits : IsNewIndex g.table what
  fits = fit.fits g.table stands

  may_come : MayCome b es e
  may_come = subst (λ (n : ℕ). MayCome b es (record { seat = seat; calls = n; act = e.act })) (sym at)
      (subst (λ (act : Act). MayCome b es (record { seat = seat; calls = d.calls disk'; act = act })) (sym act_is)
      (may_make d b sound premise began disk catalog standing groups trail late closed k running disk' passes.later seat what.table i s what refl may.free may.stands refl (let n = last_is in omega (arith, n, above))))

  leaves_y : HasCatalogue d catalog disk → LeavesOnly d disk disk' (λ moment image. CatalogueStands image (standing_of catalog) ⊎ CatalogueStands image (stands_after (standing_of catalog) (IndexIs y)))
  leaves_y = subst (λ (x : Index). HasCatalogue d catalog disk → LeavesOnly d disk disk' (λ moment image. CatalogueStands image (standing_of catalog) ⊎ CatalogueStands image (stands_after (standing_of catalog) (IndexIs x)))) item_is leaves

  pub make_failed : (shut : Entry) (call : ℕ) → IsShutAt shut call → call ≡ d.calls disk' → HasFailed d disk' → (catalog' : Catalog) (trail' : Recorded) → trail'.entries ≡ es ++ shut ∷ [] → HasTrailRoom (Some call) groups trail'
      → IsKept d b sound premise began disk' catalog' standing groups trail' (Some e) (Some call)
  make_failed = born_failed d tells_left up_to_now b sound premise began disk catalog standing groups trail late closed k running what.table i s what e act_is may_come disk' at passes touches leaves_y place g l g_is mine fits

  module _ (g' : Group) (more : HasIndexMore g g' p.index) (catalog' : Catalog) (stored : HasCatalogue d catalog disk → HasCatalogue d catalog' disk') (defined : standing_of catalog' ≡ stands_after (standing_of catalog) (IndexIs p.item))
      (trail' : Recorded) (entries : trail'.entries ≡ es ++ e ∷ []) (room : trail'.room + 1 ≡ trail.room) (enough : 2 + sum_by owed groups ≤ trail.room) where
    pub make_kept : IsKept d b sound premise began disk' catalog' p.standing (slice_set groups place g') trail' late closed
    make_kept = subst (λ (st : Standing). IsKept d b sound premise began disk' catalog' st (slice_set groups place g') trail' late closed) (sym (made.standing ∙ ap (λ (x : Index). stands_after standing (IndexIs x)) made.index))
        (born_kept d tells_left up_to_now b sound premise began disk catalog standing groups trail late closed k running what.table i s what e act_is may_come disk' at passes touches leaves_y place g l g_is mine fits
        g' (subst (λ (x : Index). HasIndexMore g g' x) made.index more) catalog' stored (defined ∙ ap (λ (x : Index). stands_after (standing_of catalog) (IndexIs x)) item_is) trail' entries room enough)

    pub make_did : (n : ℕ) → n ≡ length trail'.entries
        → DidDefine (record { seat = seat; base = b; damaged = damaged; alone = true; seen = es }) (record { seat = seat; base = b; damaged = damaged; alone = true; seen = trail'.entries }) (definition.Index what) (record { number = p.index.id.0; stamp = s; at = n })
    make_did n long = subst (λ (x : Index). DidDefine (record { seat = seat; base = b; damaged = damaged; alone = true; seen = es }) (record { seat = seat; base = b; damaged = damaged; alone = true; seen = trail'.entries }) (definition.Index what) (record { number = x.id.0; stamp = s; at = n })) (sym made.index)
        (did_make (record { seat = seat; base = b; damaged = damaged; alone = true; seen = es }) k.told.legal what i s most calls trail'.entries
        (entries ∙ ap (λ (act : Act). es ++ record { seat = seat; calls = calls; act = act } ∷ []) act_is) make_kept.told.legal n long)
