-- The step that builds an index again, from the clauses of its calls.
use Rattle.std.proofs.Common.{◌≡◌, ◌≢◌, ◌<◌, ◌≤◌, ◌⊎◌, ◌+◌, ℕ, Bool, true, Option, Some, List, [], ◌∷◌, ◌++◌, get_or, length, refl, sym, ap, subst, ◌∙◌, arith}
use Rattle.std.specs.Prelude.{IsTrue, sum_by}
use Rattle.std.specs.List.{slice_set}
use Rattle.px_outside.specs.OnDisk.{LeavesOnly, Passes, Rose, TouchesOnly}
use Rattle.px_outside.specs.declared.disk.Disk.{Ghosts}
use Rattle.px_values.specs.Limits.{most_of}
use Rattle.px_values.specs.declared.limit.Limit.TheVariants.{Stamps}
use Rattle.px_values.specs.declared.name.IndexId.{IndexId}
use Rattle.px_values.specs.declared.name.TableId.{TableId}
use Rattle.px_tables.specs.declared.index.Index.{Index}
use Rattle.px_tables.specs.declared.index.IndexState.TheVariants.{Building}
use Rattle.px_tables.specs.declared.table.Table.{Table}
use Rattle.px_trail.specs.declared.entry.Act.{Act}
use Rattle.px_trail.specs.declared.entry.Act.TheVariants.{IndexState, Shut}
use Rattle.px_trail.specs.declared.entry.Entry.{Entry}
use Rattle.px_trail.specs.Legal.{MayCome}
use Rattle.px_trail.specs.Recorded.{Recorded}
use Rattle.px_trail.specs.Trail.{Base}
use Rattle.px_calls.specs.Calls.{DidDefine}
use Rattle.px_calls.specs.Causes.{Refuses, define_cause}
use Rattle.px_calls.specs.Known.{Known}
use Rattle.px_calls.specs.declared.definition.Definition.TheVariants as definition
use Rattle.px_calls.specs.declared.fault.StepFault.{StepFault}
use Rattle.px_calls.specs.declared.fault.StepFault.TheVariants.{NotReady, WriteFault as Failed, Memory as MemoryFault}
use Rattle.px_indexrow.specs.Form.{IsRightIndex}
use Rattle.px_schema.specs.Stands.{stands_after}
use Rattle.px_schema.specs.declared.item.CatalogItem.TheVariants.{IndexIs}
use Rattle.px_schema.specs.declared.standing.Standing.{Standing}
use Rattle.px_catalog.specs.Catalogue.{CatalogueStands, HasCatalogue, catalogue_files, standing_of}
use Rattle.px_catalog.specs.declared.catalog.Catalog.{Catalog}
use Rattle.px_catalog.specs.declared.fault.CatalogFault.{CatalogFault}
use Rattle.px_catalog.specs.declared.fault.CatalogFault.TheVariants.{Full, Memory, WriteFault}
use Rattle.px_group.specs.declared.group.Group.{Group}
use Rattle.px_recovery.specs.Tables.{index_in}
use Rattle.px_defined.specs.Defined.{HasIndexAnew, IsSameTable}
use Rattle.px_disabled.specs.Disabled.{rebuilt}
use Rattle.px_server.specs.Kept.{HasTrailRoom, IsKept, owed}
use Rattle.px_server.specs.Others.{Beginning}
use Rattle.px_server.specs.declared.defining.prepared.IndexToPut.{IndexToPut}
use Rattle.px_server.specs.declared.defining.quiet.IndexPlace.{IndexPlace}
use Rattle.px_server.specs.inner.Quiet.{IsIndexToPut, IsQuietPlace}
use Rattle.px_server.proofs.AnewKept.{anew_failed, anew_kept}
use Rattle.px_server.proofs.QuietPlaces.{found, id, low, may_rebuild, mine, none, own_group}
use Rattle.px_server.proofs.Reserved.{set_long, set_there}
use Rattle.px_server.proofs.Seen.{one_more}
use Rattle.px_server.proofs.Unwritten.{reserved, unwritten_kept, unwritten_refused}

module _ {D : Type 0} (d : Ghosts D) (tells_left : (x : D) (moment file : ℕ) (bytes : List ℕ) → d.left x moment file bytes → IsTrue d.tells)
    (up_to_now : (x : D) (moment file : ℕ) (bytes : List ℕ) → d.left x moment file bytes → moment ≤ d.calls x) (b : Base) (damaged : ℕ → ℕ → Bool) (sound premise : Type 0) (began : Beginning)
    (disk : D) (catalog : Catalog) (standing : Standing) (groups : List Group) (trail : Recorded) (late : Option Entry) (closed : Option ℕ) (k : IsKept d b sound premise began disk catalog standing groups trail late closed) (seat : ℕ) (t : TableId) (i : IndexId)
    (p : IndexPlace) (at : IsQuietPlace standing groups closed t i p) (x : Index) (x_is : get_or standing.indexes p.index x ≡ x) (g : Group) (g_is : get_or groups p.table g ≡ g)
    (s : ℕ) (above : g.last < s) (most : s ≤ most_of Stamps) (q : IndexToPut) (put : IsIndexToPut g.table standing (rebuilt s standing.next x) q) (g1 : Group) (same : IsSameTable g g1) (mid : Recorded) (mid_same : mid.entries ≡ trail.entries) (mid_room : mid.room ≡ trail.room + 1)
    (disk' : D) (catalog' : Catalog) (passes : Passes d disk disk' 4) (touches : HasCatalogue d catalog disk → TouchesOnly d disk disk' catalogue_files)
    (leaves : HasCatalogue d catalog disk → LeavesOnly d disk disk' (λ moment image. CatalogueStands image (standing_of catalog) ⊎ CatalogueStands image (stands_after (standing_of catalog) (IndexIs q.item)))) where
  abbrev known : List Entry → Known
  known es = record { seat = seat; base = b; damaged = damaged; alone = true; seen = es }

  abbrev act : Act
  act = IndexState t i Building s

  abbrev entry : ℕ → Entry
  entry calls = record { seat = seat; calls = calls; act = act }

  abbrev y : Index
  y = rebuilt s standing.next x

  abbrev groups1 : List Group
  groups1 = slice_set groups p.table g1

  l : p.table < length groups
  l = low d tells_left up_to_now b damaged sound premise began disk catalog standing groups trail late closed k seat t i p at x x_is g g_is

  l1 : p.table < length groups1
  l1 = (let n = set_long groups p.table g1 in omega (arith, n, l))

  there : (h : Group) → get_or groups1 p.table h ≡ g1
  there h = set_there groups p.table g1 h l

  id' : x.id ≡ i
  id' = id d tells_left up_to_now b damaged sound premise began disk catalog standing groups trail late closed k seat t i p at x x_is g g_is

  mine1 : g1.table.id ≡ t
  mine1 = ap (λ (u : Table). u.id) same.beside.table ∙ mine d tells_left up_to_now b damaged sound premise began disk catalog standing groups trail late closed k seat t i p at x x_is g g_is

  act_is : act ≡ IndexState g1.table.id x.id Building s
  act_is = λ j. IndexState (sym mine1 j) (sym id' j) Building s

  may : (calls : ℕ) → calls ≡ d.calls disk' → MayCome b trail.entries (entry calls)
  may calls here = subst (λ (n : ℕ). MayCome b trail.entries (entry n)) (sym here) (may_rebuild d tells_left up_to_now b damaged sound premise began disk catalog standing groups trail late closed k seat t i p at x x_is g g_is disk' passes.later s above)

  leaves_y : HasCatalogue d catalog disk → LeavesOnly d disk disk' (λ moment image. CatalogueStands image (standing_of catalog) ⊎ CatalogueStands image (stands_after (standing_of catalog) (IndexIs y)))
  leaves_y = subst (λ (w : Index). HasCatalogue d catalog disk → LeavesOnly d disk disk' (λ moment image. CatalogueStands image (standing_of catalog) ⊎ CatalogueStands image (stands_after (standing_of catalog) (IndexIs w)))) put.item leaves

  k1 : IsKept d b sound premise began disk catalog standing groups1 mid late closed
  k1 = reserved d b sound premise began disk catalog standing groups trail late closed k p.table g g1 l g_is same mid mid_same (omega (arith, mid_room))

  k0 : IsKept d b sound premise began disk catalog standing groups1 trail late closed
  k0 = reserved d b sound premise began disk catalog standing groups trail late closed k p.table g g1 l g_is same trail refl (omega arith)

  enough : 2 + sum_by owed groups1 ≤ mid.room
  enough = (let before = subst (λ (o : Option ℕ). HasTrailRoom o groups1 trail) at.running k0.room in omega (arith, before, mid_room))

  found' : index_in standing.indexes x.id.0 ≡ Some x
  found' = found d tells_left up_to_now b damaged sound premise began disk catalog standing groups trail late closed k seat t i p at x x_is g g_is

  own1 : x.table ≡ g1.table.id
  own1 = own_group d tells_left up_to_now b damaged sound premise began disk catalog standing groups trail late closed k seat t i p at x x_is g g_is ∙ ap (λ (u : Table). u.id) (sym same.beside.table)

  none1 : g1.batches.items ≡ []
  none1 = ap (λ bs. bs.items) same.beside.batches ∙ none d tells_left up_to_now b damaged sound premise began disk catalog standing groups trail late closed k seat t i p at x x_is g g_is

  right1 : IsRightIndex g1.table y
  right1 = subst (λ (u : Table). IsRightIndex u y) (sym same.beside.table) put.right

  module _ (stored : HasCatalogue d catalog disk → HasCatalogue d catalog' disk') (defined : standing_of catalog' ≡ stands_after (standing_of catalog) (IndexIs q.item)) (h : Group) (h_is : h ≡ get_or groups1 p.table h) (g2 : Group) (anew : HasIndexAnew h g2 q.index)
      (now : Standing) (now_is : now ≡ q.standing) (trail' : Recorded) (calls : ℕ) (calls_is : calls ≡ d.calls disk') (entries : trail'.entries ≡ mid.entries ++ entry calls ∷ []) (room : trail'.room + 1 ≡ mid.room) where
    anew' : HasIndexAnew g1 g2 y
    anew' = subst (λ (w : Index). HasIndexAnew g1 g2 w) put.index (subst (λ (w : Group). HasIndexAnew w g2 q.index) (h_is ∙ there h) anew)

    pub rebuilding_kept : IsKept d b sound premise began disk' catalog' now (slice_set groups1 p.table g2) trail' late closed
    rebuilding_kept = subst (λ (st : Standing). IsKept d b sound premise began disk' catalog' st (slice_set groups1 p.table g2) trail' late closed) (sym (now_is ∙ put.standing))
        (anew_kept d tells_left up_to_now b sound premise began disk catalog standing groups1 mid late closed k1 at.running x p.table g1 l1 (there g1) s (entry calls) act_is
        (subst (λ (es : List Entry). MayCome b es (entry calls)) (sym mid_same) (may calls calls_is)) found' own1 none1 disk' calls_is passes touches leaves_y
        g2 anew' right1 catalog' stored (defined ∙ ap (λ (w : Index). stands_after (standing_of catalog) (IndexIs w)) put.item) trail' entries room enough)

    pub rebuilding_did : (n : ℕ) → n ≡ length trail'.entries → DidDefine (known trail.entries) (known trail'.entries) (definition.Rebuilding t i) (record { number = i.0; stamp = s; at = n })
    rebuilding_did n long = record {
      adds = one_more (known trail.entries) trail'.entries calls act k.told.legal (entries ∙ ap (λ (es : List Entry). es ++ entry calls ∷ []) mid_same) rebuilding_kept.told.legal;
      made = (refl, most);
      at = long;
    }

  module _ (trail' : Recorded) (late' : Option Entry) (closed' : Option ℕ) (fault : CatalogFault) (untouched : (fault ≡ Full) ⊎ (fault ≡ Memory) → (disk' ≡ disk) × (catalog' ≡ catalog)) (rose : fault ≡ WriteFault → Rose d disk disk')
      (kept : fault ≢ WriteFault → (trail'.entries ≡ mid.entries) × (late' ≡ late) × (closed' ≡ closed))
      (shut : fault ≡ WriteFault → (trail'.entries ≡ mid.entries ++ record { seat = seat; calls = d.calls disk'; act = Shut (d.calls disk') } ∷ []) × (late' ≡ Some (entry (d.calls disk'))) × (closed' ≡ Some (d.calls disk')))
      (room : trail'.room + 1 ≡ mid.room) where
    pub rebuilding_failed : IsKept d b sound premise began disk' catalog' standing groups1 trail' late' closed'
    rebuilding_failed = unwritten_kept d b sound premise began disk catalog standing groups1 trail late closed k0 at.running disk' catalog' (entry (d.calls disk'))
        (anew_failed d tells_left up_to_now b sound premise began disk catalog standing groups1 trail late closed k0 at.running x p.table g1 l1 (there g1) s (entry (d.calls disk')) act_is (may (d.calls disk') refl) found' own1 none1 disk' refl passes touches leaves_y)
        trail' late' closed' seat (omega (arith, room, mid_room)) fault untouched rose
        (λ no. ((kept no).0 ∙ mid_same, (kept no).1, (kept no).2))
        (λ is. ((shut is).0 ∙ ap (λ (es : List Entry). es ++ record { seat = seat; calls = d.calls disk'; act = Shut (d.calls disk') } ∷ []) mid_same, (shut is).1, (shut is).2))

    pub rebuilding_refused : (f : StepFault) → (fault ≡ Full → f ≡ NotReady 0) → (fault ≡ Memory → f ≡ MemoryFault) → (fault ≡ WriteFault → f ≡ Failed) → Refuses (define_cause (definition.Rebuilding t i)) (known trail.entries) (known trail'.entries) f
    rebuilding_refused f full memory failed = unwritten_refused (known trail.entries) k.told.legal closed k.told.closing at.running (definition.Rebuilding t i) refl f trail'.entries (d.calls disk') rebuilding_failed.told.legal fault full memory failed
        (λ no. (kept no).0 ∙ mid_same) (λ is. (shut is).0 ∙ ap (λ (es : List Entry). es ++ record { seat = seat; calls = d.calls disk'; act = Shut (d.calls disk') } ∷ []) mid_same)
