-- The step that makes an index active, from the clauses of its calls.
use Rattle.std.proofs.Common.{◌≡◌, ◌≢◌, ◌<◌, ◌≤◌, ◌⊎◌, ◌^◌, ◌+◌, ℕ, Bool, true, Option, Some, None, List, [], ◌∷◌, ◌++◌, zero, suc, slice_get, get_or, length, refl, sym, ap, subst, ◌∙◌, arith}
use Rattle.std.specs.Prelude.{IsTrue, sum_by}
use Rattle.std.specs.List.{slice_set}
use Rattle.px_outside.specs.OnDisk.{LeavesOnly, Passes, Rose, TouchesOnly}
use Rattle.px_outside.specs.declared.disk.Disk.{Ghosts}
use Rattle.px_values.specs.declared.name.IndexId.{IndexId}
use Rattle.px_values.specs.declared.name.TableId.{TableId}
use Rattle.px_trail.specs.declared.entry.Act.TheVariants.{IndexState, Shut}
use Rattle.px_trail.specs.declared.entry.Entry.{Entry}
use Rattle.px_trail.specs.Recorded.{Recorded}
use Rattle.px_trail.specs.Trail.{Base}
use Rattle.px_calls.specs.Calls.{DidDefine}
use Rattle.px_calls.specs.Causes.{Refuses, define_cause}
use Rattle.px_calls.specs.Known.{Known}
use Rattle.px_calls.specs.declared.definition.Definition.TheVariants as definition
use Rattle.px_calls.specs.declared.fault.StepFault.{StepFault}
use Rattle.px_calls.specs.declared.fault.StepFault.TheVariants.{NotReady, WriteFault as Failed, Memory as MemoryFault}
use Rattle.px_schema.specs.Stands.{stands_after}
use Rattle.px_schema.specs.declared.item.CatalogItem.TheVariants.{IndexIs}
use Rattle.px_schema.specs.declared.standing.Standing.{Standing}
use Rattle.px_catalog.specs.Catalogue.{CatalogueStands, HasCatalogue, catalogue_files, standing_of}
use Rattle.px_catalog.specs.declared.catalog.Catalog.{Catalog}
use Rattle.px_catalog.specs.declared.fault.CatalogFault.{CatalogFault}
use Rattle.px_catalog.specs.declared.fault.CatalogFault.TheVariants.{Full, Memory, WriteFault}
use Rattle.px_group.specs.declared.group.Group.{Group}
use Rattle.px_defined.specs.Defined.{HasActive}
use Rattle.px_server.specs.Kept.{HasTrailRoom, IsKept, owed}
use Rattle.px_server.specs.Others.{Beginning}
use Rattle.px_server.specs.inner.Fitting.{IsIndexToActivate}
use Rattle.px_server.proofs.Reserved.{roomy}
use Rattle.px_server.proofs.Unwritten.{unwritten_kept, unwritten_refused}
use Rattle.px_tables.specs.declared.index.Index.{Index}
use Rattle.px_tables.specs.declared.index.IndexState.TheVariants.{Active}
use Rattle.px_group.specs.Group.{IsRightGroup}
use Rattle.px_group.specs.declared.group.IndexRegion.{IndexRegion}
use Rattle.px_calls.specs.Requires.{MayActivate}
use Rattle.px_schema.specs.Records.{IsRightCatalogItem}
use Rattle.px_server.specs.declared.defining.prepared.IndexToPut.{IndexToPut}
use Rattle.px_server.proofs.IndexActivating.{activate_did, activate_failed, activate_kept, part}
use Rattle.px_server.proofs.IndexFits.{fits_index}
use Rattle.px_server.proofs.Lists.{all_at}
use Rattle.px_indexrow.specs.Form.{IsRightIndex}

pub got_at : {A : Type 0} (xs : List A) (m : ℕ) (x : A) → m < length xs → x ≡ get_or xs m x → slice_get xs m ≡ Some x
got_at [] m x l is = absurd (omega (arith, l))
got_at (y ∷ ys) zero x l is = ap Some (sym is)
got_at (y ∷ ys) (suc m) x l is = got_at ys m x (omega (arith, l)) is

module _ {D : Type 0} (d : Ghosts D) (tells_left : (x : D) (moment file : ℕ) (bytes : List ℕ) → d.left x moment file bytes → IsTrue d.tells)
    (up_to_now : (x : D) (moment file : ℕ) (bytes : List ℕ) → d.left x moment file bytes → moment ≤ d.calls x) (b : Base) (damaged : ℕ → ℕ → Bool) (sound premise : Type 0) (began : Beginning)
    (disk : D) (catalog : Catalog) (standing : Standing) (groups : List Group) (trail : Recorded) (late : Option Entry) (closed : Option ℕ) (k : IsKept d b sound premise began disk catalog standing groups trail late closed) (running : closed ≡ None)
    (place : ℕ) (g : Group) (l : place < length groups) (g_is : get_or groups place g ≡ g) (seat : ℕ) (t : TableId) (mine : g.table.id ≡ t) (i : IndexId) (may : MayActivate sound (record { seat = seat; base = b; damaged = damaged; alone = true; seen = trail.entries }) t.0 i.0)
    (m : ℕ) (x : IndexRegion) (x_is : slice_get g.indexes.items m ≡ Some x) (id : x.index.id ≡ i) (p : IndexToPut) (made : IsIndexToActivate standing x.index p) where
  abbrev known : List Entry → Known
  known es = record { seat = seat; base = b; damaged = damaged; alone = true; seen = es }

  right : IsRightGroup g
  right = all_at IsRightGroup groups place g l g_is (k.each.right running)

  -- its record may be written
  pub fits_active : x.index.table.0 < 256 ^ 4 → IsRightCatalogItem (standing_of catalog) (IndexIs p.item)
  fits_active short = (let
      here = part d tells_left up_to_now b damaged sound premise began disk catalog standing groups trail late closed k running place g l g_is seat t mine i may m x x_is id
      in
      fits_index d b sound premise began disk catalog standing groups trail late closed k running place g l g_is p.item
      (subst (λ (z : Index). IsRightIndex g.table z) (sym made.item_is) (record { parts = here.index.parts; within = here.index.within; once = here.index.once }))
      (ap (λ (z : Index). z.table) made.item_is ∙ here.table) (subst (λ (z : Index). z.table.0 < 256 ^ 4) (sym made.item_is) short) made.can)

  module _ (mid : Recorded) (mid_same : mid.entries ≡ trail.entries) (mid_room : mid.room ≡ trail.room + 1) (disk' : D) (catalog' : Catalog) (passes : Passes d disk disk' 4) (touches : HasCatalogue d catalog disk → TouchesOnly d disk disk' catalogue_files)
      (leaves : HasCatalogue d catalog disk → LeavesOnly d disk disk' (λ moment image. CatalogueStands image (standing_of catalog) ⊎ CatalogueStands image (stands_after (standing_of catalog) (IndexIs p.item)))) where
    k1 : IsKept d b sound premise began disk catalog standing groups mid late closed
    k1 = roomy d b sound premise began disk catalog standing groups trail late closed k mid mid_same (omega (arith, mid_room))

    may1 : MayActivate sound (known mid.entries) t.0 i.0
    may1 = subst (λ (es : List Entry). MayActivate sound (known es) t.0 i.0) (sym mid_same) may

    enough : 2 + sum_by owed groups ≤ mid.room
    enough = (let before = subst (λ (z : Option ℕ). HasTrailRoom z groups trail) running k.room in omega (arith, before, mid_room))

    module _ (stored : HasCatalogue d catalog disk → HasCatalogue d catalog' disk') (defined : standing_of catalog' ≡ stands_after (standing_of catalog) (IndexIs p.item)) (h : Group) (h_is : h ≡ g) (g2 : Group) (active : HasActive h g2 m)
        (now : Standing) (now_is : now ≡ p.standing) (trail' : Recorded) (calls : ℕ) (at : calls ≡ d.calls disk') (entries : trail'.entries ≡ mid.entries ++ record { seat = seat; calls = calls; act = IndexState t i Active x.index.birth } ∷ []) (room : trail'.room + 1 ≡ mid.room) where
      active1 : HasActive g g2 m
      active1 = subst (λ (z : Group). HasActive z g2 m) h_is active

      pub activating_kept : IsKept d b sound premise began disk' catalog' now (slice_set groups place g2) trail' late closed
      activating_kept = subst (λ (st : Standing). IsKept d b sound premise began disk' catalog' st (slice_set groups place g2) trail' late closed) (sym now_is)
          (activate_kept d tells_left up_to_now b damaged sound premise began disk catalog standing groups mid late closed k1 running place g l g_is seat t mine i may1 m x x_is id p made disk' passes touches leaves calls at
          g2 active1 catalog' stored defined trail' entries room enough)

      pub activating_did : (n : ℕ) → n ≡ length trail'.entries → DidDefine (known trail.entries) (known trail'.entries) (definition.Active t i) (record { number = i.0; stamp = x.index.birth; at = n })
      activating_did n long = subst (λ (es : List Entry). DidDefine (known es) (known trail'.entries) (definition.Active t i) (record { number = i.0; stamp = x.index.birth; at = n })) mid_same
          (activate_did d tells_left up_to_now b damaged sound premise began disk catalog standing groups mid late closed k1 running place g l g_is seat t mine i may1 m x x_is id p made disk' passes touches leaves calls at
          g2 active1 catalog' stored defined trail' entries room enough n long)

    module _ (trail' : Recorded) (late' : Option Entry) (closed' : Option ℕ) (fault : CatalogFault) (untouched : (fault ≡ Full) ⊎ (fault ≡ Memory) → (disk' ≡ disk) × (catalog' ≡ catalog)) (rose : fault ≡ WriteFault → Rose d disk disk')
        (kept : fault ≢ WriteFault → (trail'.entries ≡ mid.entries) × (late' ≡ late) × (closed' ≡ closed))
        (shut : fault ≡ WriteFault → (trail'.entries ≡ mid.entries ++ record { seat = seat; calls = d.calls disk'; act = Shut (d.calls disk') } ∷ []) × (late' ≡ Some (record { seat = seat; calls = d.calls disk'; act = IndexState t i Active x.index.birth })) × (closed' ≡ Some (d.calls disk')))
        (room : trail'.room + 1 ≡ mid.room) where
      pub activating_failed : IsKept d b sound premise began disk' catalog' standing groups trail' late' closed'
      activating_failed = unwritten_kept d b sound premise began disk catalog standing groups trail late closed k running disk' catalog' (record { seat = seat; calls = d.calls disk'; act = IndexState t i Active x.index.birth })
          (activate_failed d tells_left up_to_now b damaged sound premise began disk catalog standing groups trail late closed k running place g l g_is seat t mine i may m x x_is id p made disk' passes touches leaves (d.calls disk') refl)
          trail' late' closed' seat (omega (arith, room, mid_room)) fault untouched rose
          (λ no. ((kept no).0 ∙ mid_same, (kept no).1, (kept no).2))
          (λ is. ((shut is).0 ∙ ap (λ (es : List Entry). es ++ record { seat = seat; calls = d.calls disk'; act = Shut (d.calls disk') } ∷ []) mid_same, (shut is).1, (shut is).2))

      pub activating_refused : (f : StepFault) → (fault ≡ Full → f ≡ NotReady 0) → (fault ≡ Memory → f ≡ MemoryFault) → (fault ≡ WriteFault → f ≡ Failed) → Refuses (define_cause (definition.Active t i)) (known trail.entries) (known trail'.entries) f
      activating_refused f full memory failed = unwritten_refused (known trail.entries) k.told.legal closed k.told.closing running (definition.Active t i) refl f trail'.entries (d.calls disk') activating_failed.told.legal fault full memory failed
          (λ no. (kept no).0 ∙ mid_same) (λ is. (shut is).0 ∙ ap (λ (es : List Entry). es ++ record { seat = seat; calls = d.calls disk'; act = Shut (d.calls disk') } ∷ []) mid_same)
