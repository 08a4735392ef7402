-- The steps that make and drop an index, from the clauses of their calls.
use Rattle.std.proofs.Common.{◌≡◌, ◌≢◌, ◌<◌, ◌≤◌, ◌⊎◌, ◌+◌, ℕ, Bool, true, Option, Some, None, List, [], ◌∷◌, ◌++◌, get_or, length, refl, sym, ap, subst, ◌∙◌, arith}
use Rattle.std.specs.Prelude.{IsTrue, sum_by}
use Rattle.std.specs.List.{slice_set}
use Rattle.px_outside.specs.OnDisk.{LeavesOnly, Passes, Rose, TouchesOnly}
use Rattle.px_outside.specs.declared.disk.Disk.{Ghosts}
use Rattle.px_values.specs.Limits.{most_of}
use Rattle.px_values.specs.declared.limit.Limit.TheVariants.{Stamps}
use Rattle.px_values.specs.declared.name.IndexId.{IndexId}
use Rattle.px_values.specs.declared.name.TableId.{TableId}
use Rattle.px_tables.specs.declared.index.NewIndex.{NewIndex}
use Rattle.px_tables.specs.declared.table.Table.{Table}
use Rattle.px_trail.specs.declared.entry.Act.TheVariants.{Dropped, IndexMade, Shut}
use Rattle.px_trail.specs.declared.entry.Entry.{Entry}
use Rattle.px_trail.specs.Recorded.{Recorded}
use Rattle.px_trail.specs.Trail.{Base}
use Rattle.px_calls.specs.Calls.{DidDefine}
use Rattle.px_calls.specs.Causes.{Refuses, define_cause}
use Rattle.px_calls.specs.Known.{Known}
use Rattle.px_calls.specs.Requires.{IsIndexFit}
use Rattle.px_calls.specs.declared.definition.Definition.TheVariants as definition
use Rattle.px_calls.specs.declared.fault.StepFault.{StepFault}
use Rattle.px_calls.specs.declared.fault.StepFault.TheVariants.{NotReady, WriteFault as Failed, Memory as MemoryFault}
use Rattle.px_schema.specs.Stands.{stands_after}
use Rattle.px_schema.specs.declared.item.CatalogItem.TheVariants.{IndexGone, IndexIs}
use Rattle.px_schema.specs.declared.standing.Standing.{Standing}
use Rattle.px_catalog.specs.Catalogue.{CatalogueStands, HasCatalogue, catalogue_files, standing_of}
use Rattle.px_catalog.specs.declared.catalog.Catalog.{Catalog}
use Rattle.px_catalog.specs.declared.fault.CatalogFault.{CatalogFault}
use Rattle.px_catalog.specs.declared.fault.CatalogFault.TheVariants.{Full, Memory, WriteFault}
use Rattle.px_group.specs.declared.group.Group.{Group}
use Rattle.px_defined.specs.Defined.{HasIndexLess, HasIndexMore, IsSameTable}
use Rattle.px_server.specs.Kept.{HasTrailRoom, IsKept, owed}
use Rattle.px_server.specs.Others.{Beginning}
use Rattle.px_server.specs.declared.defining.prepared.IndexToMake.{IndexToMake}
use Rattle.px_server.specs.inner.Fitting.{IsIndexToMake}
use Rattle.px_server.specs.inner.Indexing.{MayMakeIndex}
use Rattle.px_server.proofs.IndexDropping.{drop_did, drop_failed, drop_kept}
use Rattle.px_server.proofs.IndexFound.{HasIndexOf}
use Rattle.px_server.proofs.IndexMaking.{make_did, make_failed, make_kept}
use Rattle.px_server.proofs.Reserved.{roomy, set_long, set_there}
use Rattle.px_server.proofs.Unwritten.{reserved, unwritten_kept, unwritten_refused}

module _ {D : Type 0} (d : Ghosts D) (tells_left : (x : D) (moment file : ℕ) (bytes : List ℕ) → d.left x moment file bytes → IsTrue d.tells)
    (up_to_now : (x : D) (moment file : ℕ) (bytes : List ℕ) → d.left x moment file bytes → moment ≤ d.calls x) (b : Base) (damaged : ℕ → ℕ → Bool) (sound premise : Type 0) (began : Beginning)
    (disk : D) (catalog : Catalog) (standing : Standing) (groups : List Group) (trail : Recorded) (late : Option Entry) (closed : Option ℕ) (k : IsKept d b sound premise began disk catalog standing groups trail late closed) (running : closed ≡ None)
    (place : ℕ) (g : Group) (l : place < length groups) (g_is : get_or groups place g ≡ g) (seat : ℕ) (mid : Recorded) (mid_same : mid.entries ≡ trail.entries) (mid_room : mid.room ≡ trail.room + 1)
    (disk' : D) (catalog' : Catalog) (passes : Passes d disk disk' 4) (touches : HasCatalogue d catalog disk → TouchesOnly d disk disk' catalogue_files) where
  abbrev known : List Entry → Known
  known es = record { seat = seat; base = b; damaged = damaged; alone = true; seen = es }

  -- ---- an index is made

  module _ (what : NewIndex) (mine : g.table.id ≡ what.table) (may : MayMakeIndex (known trail.entries) what) (fit : IsIndexFit (known trail.entries) what) (s : ℕ) (above : g.last < s) (most : s ≤ most_of Stamps)
      (p : IndexToMake) (made : IsIndexToMake standing s what p) (g1 : Group) (same : IsSameTable g g1)
      (leaves : HasCatalogue d catalog disk → LeavesOnly d disk disk' (λ moment image. CatalogueStands image (standing_of catalog) ⊎ CatalogueStands image (stands_after (standing_of catalog) (IndexIs p.item)))) where
    abbrev groups1 : List Group
    groups1 = slice_set groups place g1

    k1 : IsKept d b sound premise began disk catalog standing groups1 mid late closed
    k1 = reserved d b sound premise began disk catalog standing groups trail late closed k place g g1 l g_is same mid mid_same (omega (arith, mid_room))

    k0 : IsKept d b sound premise began disk catalog standing groups1 trail late closed
    k0 = reserved d b sound premise began disk catalog standing groups trail late closed k place g g1 l g_is same trail refl (omega arith)

    l1 : place < length groups1
    l1 = (let n = set_long groups place g1 in omega (arith, n, l))

    there : (x : Group) → get_or groups1 place x ≡ g1
    there x = set_there groups place g1 x l

    mine1 : g1.table.id ≡ what.table
    mine1 = ap (λ (t : Table). t.id) same.beside.table ∙ mine

    may1 : MayMakeIndex (known mid.entries) what
    may1 = subst (λ (es : List Entry). MayMakeIndex (known es) what) (sym mid_same) may

    fit1 : IsIndexFit (known mid.entries) what
    fit1 = subst (λ (es : List Entry). IsIndexFit (known es) what) (sym mid_same) fit

    above1 : g1.last < s
    above1 = (let n = same.last in omega (arith, n, above))

    enough : 2 + sum_by owed groups1 ≤ mid.room
    enough = (let before = subst (λ (x : Option ℕ). HasTrailRoom x groups1 trail) running k0.room in omega (arith, before, mid_room))

    module _ (stored : HasCatalogue d catalog disk → HasCatalogue d catalog' disk') (defined : standing_of catalog' ≡ stands_after (standing_of catalog) (IndexIs p.item)) (h : Group) (h_is : h ≡ get_or groups1 place h) (g2 : Group) (more : HasIndexMore h g2 p.index)
        (now : Standing) (now_is : now ≡ p.standing) (trail' : Recorded) (calls : ℕ) (at : calls ≡ d.calls disk') (entries : trail'.entries ≡ mid.entries ++ record { seat = seat; calls = calls; act = IndexMade what.table p.index.id s p.what } ∷ []) (room : trail'.room + 1 ≡ mid.room) where
      more1 : HasIndexMore g1 g2 p.index
      more1 = subst (λ (x : Group). HasIndexMore x g2 p.index) (h_is ∙ there h) more

      pub making_kept : IsKept d b sound premise began disk' catalog' now (slice_set groups1 place g2) trail' late closed
      making_kept = subst (λ (st : Standing). IsKept d b sound premise began disk' catalog' st (slice_set groups1 place g2) trail' late closed) (sym now_is)
          (make_kept d tells_left up_to_now b damaged sound premise began disk catalog standing groups1 mid late closed k1 running place g1 l1 (there g1) seat what mine1 may1 fit1 s above1 most p made disk' passes touches leaves calls at
          g2 more1 catalog' stored defined trail' entries room enough)

      pub making_did : (n : ℕ) → n ≡ length trail'.entries → DidDefine (known trail.entries) (known trail'.entries) (definition.Index what) (record { number = p.index.id.0; stamp = s; at = n })
      making_did n long = subst (λ (es : List Entry). DidDefine (known es) (known trail'.entries) (definition.Index what) (record { number = p.index.id.0; stamp = s; at = n })) mid_same
          (make_did d tells_left up_to_now b damaged sound premise began disk catalog standing groups1 mid late closed k1 running place g1 l1 (there g1) seat what mine1 may1 fit1 s above1 most p made disk' passes touches leaves calls at
          g2 more1 catalog' stored defined trail' entries room enough n long)

    module _ (trail' : Recorded) (late' : Option Entry) (closed' : Option ℕ) (fault : CatalogFault) (untouched : (fault ≡ Full) ⊎ (fault ≡ Memory) → (disk' ≡ disk) × (catalog' ≡ catalog)) (rose : fault ≡ WriteFault → Rose d disk disk')
        (kept : fault ≢ WriteFault → (trail'.entries ≡ mid.entries) × (late' ≡ late) × (closed' ≡ closed))
        (shut : fault ≡ WriteFault → (trail'.entries ≡ mid.entries ++ record { seat = seat; calls = d.calls disk'; act = Shut (d.calls disk') } ∷ []) × (late' ≡ Some (record { seat = seat; calls = d.calls disk'; act = IndexMade what.table p.index.id s p.what })) × (closed' ≡ Some (d.calls disk')))
        (room : trail'.room + 1 ≡ mid.room) where
      abbrev u : Entry
      u = record { seat = seat; calls = d.calls disk'; act = IndexMade what.table p.index.id s p.what }

      pub making_failed : IsKept d b sound premise began disk' catalog' standing groups1 trail' late' closed'
      making_failed = unwritten_kept d b sound premise began disk catalog standing groups1 trail late closed k0 running disk' catalog' u
          (make_failed d tells_left up_to_now b damaged sound premise began disk catalog standing groups1 trail late closed k0 running place g1 l1 (there g1) seat what mine1 may fit s above1 most p made disk' passes touches leaves (d.calls disk') refl)
          trail' late' closed' seat (omega (arith, room, mid_room)) fault untouched rose
          (λ no. ((kept no).0 ∙ mid_same, (kept no).1, (kept no).2))
          (λ is. ((shut is).0 ∙ ap (λ (es : List Entry). es ++ record { seat = seat; calls = d.calls disk'; act = Shut (d.calls disk') } ∷ []) mid_same, (shut is).1, (shut is).2))

      pub making_refused : (f : StepFault) → (fault ≡ Full → f ≡ NotReady 0) → (fault ≡ Memory → f ≡ MemoryFault) → (fault ≡ WriteFault → f ≡ Failed) → Refuses (define_cause (definition.Index what)) (known trail.entries) (known trail'.entries) f
      making_refused f full memory failed = unwritten_refused (known trail.entries) k.told.legal closed k.told.closing running (definition.Index what) refl f trail'.entries (d.calls disk') making_failed.told.legal fault full memory failed
          (λ no. (kept no).0 ∙ mid_same) (λ is. (shut is).0 ∙ ap (λ (es : List Entry). es ++ record { seat = seat; calls = d.calls disk'; act = Shut (d.calls disk') } ∷ []) mid_same)

  -- ---- an index is dropped

  module _ (t : TableId) (mine : g.table.id ≡ t) (i : IndexId) (has : HasIndexOf standing.indexes t i) (unused : length g.points.items + length g.batches.items ≡ 0)
      (leaves : HasCatalogue d catalog disk → LeavesOnly d disk disk' (λ moment image. CatalogueStands image (standing_of catalog) ⊎ CatalogueStands image (stands_after (standing_of catalog) (IndexGone i)))) where
    km : IsKept d b sound premise began disk catalog standing groups mid late closed
    km = roomy d b sound premise began disk catalog standing groups trail late closed k mid mid_same (omega (arith, mid_room))

    spare_enough : 2 + sum_by owed groups ≤ mid.room
    spare_enough = (let before = subst (λ (x : Option ℕ). HasTrailRoom x groups trail) running k.room in omega (arith, before, mid_room))

    module _ (stored : HasCatalogue d catalog disk → HasCatalogue d catalog' disk') (defined : standing_of catalog' ≡ stands_after (standing_of catalog) (IndexGone i)) (h : Group) (h_is : h ≡ g) (g2 : Group) (less : HasIndexLess h g2 i.0)
        (now : Standing) (now_is : now ≡ stands_after standing (IndexGone i)) (trail' : Recorded) (calls : ℕ) (at : calls ≡ d.calls disk') (entries : trail'.entries ≡ mid.entries ++ record { seat = seat; calls = calls; act = Dropped t (Some i) } ∷ []) (room : trail'.room + 1 ≡ mid.room) where
      less1 : HasIndexLess g g2 i.0
      less1 = subst (λ (x : Group). HasIndexLess x g2 i.0) h_is less

      pub dropping_kept : IsKept d b sound premise began disk' catalog' now (slice_set groups place g2) trail' late closed
      dropping_kept = drop_kept d tells_left up_to_now b damaged sound premise began disk catalog standing groups mid late closed km running place g l g_is seat t mine i has unused disk' passes touches leaves calls at
          g2 less1 catalog' stored defined now now_is trail' entries room spare_enough

      pub dropping_did : (n : ℕ) → n ≡ length trail'.entries → DidDefine (known trail.entries) (known trail'.entries) (definition.DropIndex t i) (record { number = i.0; stamp = 0; at = n })
      dropping_did n long = subst (λ (es : List Entry). DidDefine (known es) (known trail'.entries) (definition.DropIndex t i) (record { number = i.0; stamp = 0; at = n })) mid_same
          (drop_did d tells_left up_to_now b damaged sound premise began disk catalog standing groups mid late closed km running place g l g_is seat t mine i has unused disk' passes touches leaves calls at
          g2 less1 catalog' stored defined now now_is trail' entries room spare_enough n long)

    module _ (trail' : Recorded) (late' : Option Entry) (closed' : Option ℕ) (fault : CatalogFault) (untouched : (fault ≡ Full) ⊎ (fault ≡ Memory) → (disk' ≡ disk) × (catalog' ≡ catalog)) (rose : fault ≡ WriteFault → Rose d disk disk')
        (kept : fault ≢ WriteFault → (trail'.entries ≡ mid.entries) × (late' ≡ late) × (closed' ≡ closed))
        (shut : fault ≡ WriteFault → (trail'.entries ≡ mid.entries ++ record { seat = seat; calls = d.calls disk'; act = Shut (d.calls disk') } ∷ []) × (late' ≡ Some (record { seat = seat; calls = d.calls disk'; act = Dropped t (Some i) })) × (closed' ≡ Some (d.calls disk')))
        (room : trail'.room + 1 ≡ mid.room) where
      pub dropping_failed : IsKept d b sound premise began disk' catalog' standing groups trail' late' closed'
      dropping_failed = unwritten_kept d b sound premise began disk catalog standing groups trail late closed k running disk' catalog' (record { seat = seat; calls = d.calls disk'; act = Dropped t (Some i) })
          (drop_failed d tells_left up_to_now b damaged sound premise began disk catalog standing groups trail late closed k running place g l g_is seat t mine i has unused disk' passes touches leaves (d.calls disk') refl)
          trail' late' closed' seat (omega (arith, room, mid_room)) fault untouched rose
          (λ no. ((kept no).0 ∙ mid_same, (kept no).1, (kept no).2))
          (λ is. ((shut is).0 ∙ ap (λ (es : List Entry). es ++ record { seat = seat; calls = d.calls disk'; act = Shut (d.calls disk') } ∷ []) mid_same, (shut is).1, (shut is).2))

      pub dropping_refused : (f : StepFault) → (fault ≡ Full → f ≡ NotReady 0) → (fault ≡ Memory → f ≡ MemoryFault) → (fault ≡ WriteFault → f ≡ Failed) → Refuses (define_cause (definition.DropIndex t i)) (known trail.entries) (known trail'.entries) f
      dropping_refused f full memory failed = unwritten_refused (known trail.entries) k.told.legal closed k.told.closing running (definition.DropIndex t i) refl f trail'.entries (d.calls disk') dropping_failed.told.legal fault full memory failed
          (λ no. (kept no).0 ∙ mid_same) (λ is. (shut is).0 ∙ ap (λ (es : List Entry). es ++ record { seat = seat; calls = d.calls disk'; act = Shut (d.calls disk') } ∷ []) mid_same)
