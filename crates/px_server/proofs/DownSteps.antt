-- The step that disables an index, from the clauses of its calls.
use Rattle.std.proofs.Common.{◌≡◌, ◌≢◌, ◌<◌, ◌≤◌, ◌⊎◌, ◌+◌, ℕ, Bool, true, Option, Some, List, [], ◌∷◌, ◌++◌, get_or, length, refl, sym, ap, subst, ◌∙◌, arith}
use Rattle.std.specs.Prelude.{IsTrue, sum_by}
use Rattle.std.specs.List.{slice_set}
use Rattle.px_outside.specs.OnDisk.{LeavesOnly, Passes, Rose, TouchesOnly}
use Rattle.px_outside.specs.declared.disk.Disk.{Ghosts}
use Rattle.px_values.specs.declared.name.IndexId.{IndexId}
use Rattle.px_values.specs.declared.name.TableId.{TableId}
use Rattle.px_tables.specs.declared.index.Index.{Index}
use Rattle.px_tables.specs.declared.index.IndexState.TheVariants.{Disabled}
use Rattle.px_trail.specs.declared.entry.Act.{Act}
use Rattle.px_trail.specs.declared.entry.Act.TheVariants.{IndexState, Shut}
use Rattle.px_trail.specs.declared.entry.Entry.{Entry}
use Rattle.px_trail.specs.Legal.{MayCome}
use Rattle.px_trail.specs.Recorded.{Recorded}
use Rattle.px_trail.specs.Trail.{Base}
use Rattle.px_calls.specs.Calls.{DidDefine}
use Rattle.px_calls.specs.Causes.{Refuses, define_cause}
use Rattle.px_calls.specs.Known.{Known}
use Rattle.px_calls.specs.declared.definition.Definition.TheVariants as definition
use Rattle.px_calls.specs.declared.fault.StepFault.{StepFault}
use Rattle.px_calls.specs.declared.fault.StepFault.TheVariants.{NotReady, WriteFault as Failed, Memory as MemoryFault}
use Rattle.px_schema.specs.Stands.{stands_after}
use Rattle.px_schema.specs.declared.item.CatalogItem.TheVariants.{IndexIs}
use Rattle.px_schema.specs.declared.standing.Standing.{Standing}
use Rattle.px_catalog.specs.Catalogue.{CatalogueStands, HasCatalogue, catalogue_files, standing_of}
use Rattle.px_catalog.specs.declared.catalog.Catalog.{Catalog}
use Rattle.px_catalog.specs.declared.fault.CatalogFault.{CatalogFault}
use Rattle.px_catalog.specs.declared.fault.CatalogFault.TheVariants.{Full, Memory, WriteFault}
use Rattle.px_group.specs.declared.group.Group.{Group}
use Rattle.px_recovery.specs.Tables.{index_in}
use Rattle.px_defined.specs.Defined.{HasIndexLess}
use Rattle.px_disabled.specs.Disabled.{disabled}
use Rattle.px_server.specs.Kept.{HasTrailRoom, IsKept, owed}
use Rattle.px_server.specs.Others.{Beginning}
use Rattle.px_server.specs.declared.defining.prepared.IndexToPut.{IndexToPut}
use Rattle.px_server.specs.declared.defining.quiet.IndexPlace.{IndexPlace}
use Rattle.px_server.specs.inner.Quiet.{IsIndexToPut, IsQuietPlace}
use Rattle.px_server.proofs.DownKept.{down_failed, down_kept}
use Rattle.px_server.proofs.QuietPlaces.{found, id, low, may_disable, mine, none, own_group}
use Rattle.px_server.proofs.Reserved.{roomy}
use Rattle.px_server.proofs.Seen.{one_more}
use Rattle.px_server.proofs.Unwritten.{unwritten_kept, unwritten_refused}

module _ {D : Type 0} (d : Ghosts D) (tells_left : (x : D) (moment file : ℕ) (bytes : List ℕ) → d.left x moment file bytes → IsTrue d.tells)
    (up_to_now : (x : D) (moment file : ℕ) (bytes : List ℕ) → d.left x moment file bytes → moment ≤ d.calls x) (b : Base) (damaged : ℕ → ℕ → Bool) (sound premise : Type 0) (began : Beginning)
    (disk : D) (catalog : Catalog) (standing : Standing) (groups : List Group) (trail : Recorded) (late : Option Entry) (closed : Option ℕ) (k : IsKept d b sound premise began disk catalog standing groups trail late closed) (seat : ℕ) (t : TableId) (i : IndexId)
    (p : IndexPlace) (at : IsQuietPlace standing groups closed t i p) (x : Index) (x_is : get_or standing.indexes p.index x ≡ x) (g : Group) (g_is : get_or groups p.table g ≡ g)
    (q : IndexToPut) (put : IsIndexToPut g.table standing (disabled x) q) (mid : Recorded) (mid_same : mid.entries ≡ trail.entries) (mid_room : mid.room ≡ trail.room + 1)
    (disk' : D) (catalog' : Catalog) (passes : Passes d disk disk' 4) (touches : HasCatalogue d catalog disk → TouchesOnly d disk disk' catalogue_files)
    (leaves : HasCatalogue d catalog disk → LeavesOnly d disk disk' (λ moment image. CatalogueStands image (standing_of catalog) ⊎ CatalogueStands image (stands_after (standing_of catalog) (IndexIs q.item)))) where
  abbrev known : List Entry → Known
  known es = record { seat = seat; base = b; damaged = damaged; alone = true; seen = es }

  abbrev act : Act
  act = IndexState t i Disabled x.birth

  abbrev entry : ℕ → Entry
  entry calls = record { seat = seat; calls = calls; act = act }

  l : p.table < length groups
  l = low d tells_left up_to_now b damaged sound premise began disk catalog standing groups trail late closed k seat t i p at x x_is g g_is

  id' : x.id ≡ i
  id' = id d tells_left up_to_now b damaged sound premise began disk catalog standing groups trail late closed k seat t i p at x x_is g g_is

  mine' : g.table.id ≡ t
  mine' = mine d tells_left up_to_now b damaged sound premise began disk catalog standing groups trail late closed k seat t i p at x x_is g g_is

  act_is : act ≡ IndexState g.table.id x.id Disabled x.birth
  act_is = λ j. IndexState (sym mine' j) (sym id' j) Disabled x.birth

  may : (calls : ℕ) → calls ≡ d.calls disk' → MayCome b trail.entries (entry calls)
  may calls same = subst (λ (n : ℕ). MayCome b trail.entries (entry n)) (sym same) (may_disable d tells_left up_to_now b damaged sound premise began disk catalog standing groups trail late closed k seat t i p at x x_is g g_is disk' passes.later)

  leaves_y : HasCatalogue d catalog disk → LeavesOnly d disk disk' (λ moment image. CatalogueStands image (standing_of catalog) ⊎ CatalogueStands image (stands_after (standing_of catalog) (IndexIs (disabled x))))
  leaves_y = subst (λ (y : Index). HasCatalogue d catalog disk → LeavesOnly d disk disk' (λ moment image. CatalogueStands image (standing_of catalog) ⊎ CatalogueStands image (stands_after (standing_of catalog) (IndexIs y)))) put.item leaves

  km : IsKept d b sound premise began disk catalog standing groups mid late closed
  km = roomy d b sound premise began disk catalog standing groups trail late closed k mid mid_same (omega (arith, mid_room))

  enough : 2 + sum_by owed groups ≤ mid.room
  enough = (let before = subst (λ (o : Option ℕ). HasTrailRoom o groups trail) at.running k.room in omega (arith, before, mid_room))

  found' : index_in standing.indexes x.id.0 ≡ Some x
  found' = found d tells_left up_to_now b damaged sound premise began disk catalog standing groups trail late closed k seat t i p at x x_is g g_is

  own' : x.table ≡ g.table.id
  own' = own_group d tells_left up_to_now b damaged sound premise began disk catalog standing groups trail late closed k seat t i p at x x_is g g_is

  none' : g.batches.items ≡ []
  none' = none d tells_left up_to_now b damaged sound premise began disk catalog standing groups trail late closed k seat t i p at x x_is g g_is

  module _ (stored : HasCatalogue d catalog disk → HasCatalogue d catalog' disk') (defined : standing_of catalog' ≡ stands_after (standing_of catalog) (IndexIs q.item)) (h : Group) (h_is : h ≡ g) (g2 : Group) (less : HasIndexLess h g2 i.0)
      (now : Standing) (now_is : now ≡ q.standing) (trail' : Recorded) (calls : ℕ) (calls_is : calls ≡ d.calls disk') (entries : trail'.entries ≡ mid.entries ++ entry calls ∷ []) (room : trail'.room + 1 ≡ mid.room) where
    less' : HasIndexLess g g2 x.id.0
    less' = subst (λ (n : IndexId). HasIndexLess g g2 n.0) (sym id') (subst (λ (w : Group). HasIndexLess w g2 i.0) h_is less)

    pub disabling_kept : IsKept d b sound premise began disk' catalog' now (slice_set groups p.table g2) trail' late closed
    disabling_kept = subst (λ (st : Standing). IsKept d b sound premise began disk' catalog' st (slice_set groups p.table g2) trail' late closed) (sym (now_is ∙ put.standing))
        (down_kept d tells_left up_to_now b sound premise began disk catalog standing groups mid late closed km at.running x p.table g l g_is x.birth (entry calls) act_is
        (subst (λ (es : List Entry). MayCome b es (entry calls)) (sym mid_same) (may calls calls_is)) found' own' none' disk' calls_is passes touches leaves_y
        g2 less' catalog' stored (defined ∙ ap (λ (y : Index). stands_after (standing_of catalog) (IndexIs y)) put.item) trail' entries room enough)

    pub disabling_did : (n : ℕ) → n ≡ length trail'.entries → DidDefine (known trail.entries) (known trail'.entries) (definition.Disabled t i) (record { number = i.0; stamp = x.birth; at = n })
    disabling_did n long = record {
      adds = one_more (known trail.entries) trail'.entries calls act k.told.legal (entries ∙ ap (λ (es : List Entry). es ++ entry calls ∷ []) mid_same) disabling_kept.told.legal;
      made = refl;
      at = long;
    }

  module _ (trail' : Recorded) (late' : Option Entry) (closed' : Option ℕ) (fault : CatalogFault) (untouched : (fault ≡ Full) ⊎ (fault ≡ Memory) → (disk' ≡ disk) × (catalog' ≡ catalog)) (rose : fault ≡ WriteFault → Rose d disk disk')
      (kept : fault ≢ WriteFault → (trail'.entries ≡ mid.entries) × (late' ≡ late) × (closed' ≡ closed))
      (shut : fault ≡ WriteFault → (trail'.entries ≡ mid.entries ++ record { seat = seat; calls = d.calls disk'; act = Shut (d.calls disk') } ∷ []) × (late' ≡ Some (entry (d.calls disk'))) × (closed' ≡ Some (d.calls disk')))
      (room : trail'.room + 1 ≡ mid.room) where
    pub disabling_failed : IsKept d b sound premise began disk' catalog' standing groups trail' late' closed'
    disabling_failed = unwritten_kept d b sound premise began disk catalog standing groups trail late closed k at.running disk' catalog' (entry (d.calls disk'))
        (down_failed d tells_left up_to_now b sound premise began disk catalog standing groups trail late closed k at.running x p.table g l g_is x.birth (entry (d.calls disk')) act_is (may (d.calls disk') refl) found' own' none' disk' refl passes touches leaves_y)
        trail' late' closed' seat (omega (arith, room, mid_room)) fault untouched rose
        (λ no. ((kept no).0 ∙ mid_same, (kept no).1, (kept no).2))
        (λ is. ((shut is).0 ∙ ap (λ (es : List Entry). es ++ record { seat = seat; calls = d.calls disk'; act = Shut (d.calls disk') } ∷ []) mid_same, (shut is).1, (shut is).2))

    pub disabling_refused : (f : StepFault) → (fault ≡ Full → f ≡ NotReady 0) → (fault ≡ Memory → f ≡ MemoryFault) → (fault ≡ WriteFault → f ≡ Failed) → Refuses (define_cause (definition.Disabled t i)) (known trail.entries) (known trail'.entries) f
    disabling_refused f full memory failed = unwritten_refused (known trail.entries) k.told.legal closed k.told.closing at.running (definition.Disabled t i) refl f trail'.entries (d.calls disk') disabling_failed.told.legal fault full memory failed
        (λ no. (kept no).0 ∙ mid_same) (λ is. (shut is).0 ∙ ap (λ (es : List Entry). es ++ record { seat = seat; calls = d.calls disk'; act = Shut (d.calls disk') } ∷ []) mid_same)
