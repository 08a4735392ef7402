-- The steps that make and drop a table, from the clauses of their calls.
use Rattle.std.proofs.Common.{◌≡◌, ◌≢◌, ◌<◌, ◌≤◌, ◌⊎◌, ◌+◌, inl, inr, ℕ, Option, None, Some, List, [], ◌∷◌, ◌++◌, length, get_or, refl, sym, ap, subst, ◌∙◌, arith}
use Rattle.std.specs.Prelude.{Err, IsSome, IsTrue, Ok, OnOk, Result, filter}
use Rattle.std.specs.Option.{is_some}
use Rattle.px_outside.specs.OnDisk.{LeavesOnly, Passes, Rose, TouchesOnly}
use Rattle.px_outside.specs.declared.disk.Disk.{Ghosts}
use Rattle.px_values.specs.declared.name.TableId.{TableId}
use Rattle.px_tables.specs.declared.table.NewTable.{NewTable}
use Rattle.px_tables.specs.declared.table.Table.{Table}
use Rattle.px_trail.specs.Legal.{IsLegal, IsQuiet}
use Rattle.px_trail.specs.Recorded.{Recorded}
use Rattle.px_trail.specs.Trail.{Base, closing_call, table_of}
use Rattle.px_trail.specs.declared.entry.Act.TheVariants.{Dropped, Made as MadeAct, Shut}
use Rattle.px_trail.specs.declared.entry.Entry.{Entry}
use Rattle.px_calls.specs.Causes.{Refuses, define_cause, uses_of}
use Rattle.px_calls.specs.Known.{Known}
use Rattle.px_calls.specs.Requires.{IsNewTable}
use Rattle.px_calls.specs.declared.definition.Definition.{Definition}
use Rattle.px_calls.specs.declared.fault.StepFault.{StepFault}
use Rattle.px_calls.specs.declared.fault.StepFault.TheVariants.{NotReady, WriteFault as Failed, Memory as MemoryFault}
use Rattle.px_schema.specs.Stands.{stands_after}
use Rattle.px_schema.specs.declared.item.CatalogItem.TheVariants.{TableGone, TableIs}
use Rattle.px_schema.specs.declared.standing.Standing.{Standing}
use Rattle.px_catalog.specs.Catalogue.{CatalogueStands, HasCatalogue, catalogue_files, standing_of}
use Rattle.px_catalog.specs.declared.catalog.Catalog.{Catalog}
use Rattle.px_catalog.specs.declared.fault.CatalogFault.{CatalogFault}
use Rattle.px_catalog.specs.declared.fault.CatalogFault.TheVariants.{Full, Memory, WriteFault}
use Rattle.px_group.specs.declared.group.Group.{Group}
use Rattle.px_standing.proofs.Looked.{stands_at}
use Rattle.px_server.specs.Kept.{HasFailed, HasTallied, HasTrailRoom, IsKept, IsShutAt}
use Rattle.px_server.specs.Others.{Beginning}
use Rattle.px_server.specs.inner.Making.{AreParts, MayMake, table_made}
use Rattle.px_server.proofs.Blamed.{failed_rose}
use Rattle.px_server.proofs.Lists.{all_at}
use Rattle.px_server.proofs.Released.{group_of, place_in}
use Rattle.px_server.proofs.TableCauses.{kept_again, refused_write}
use Rattle.px_server.proofs.Tables.{gone_failed, gone_kept, keeps, owed_end, owed_less, owed_new, table_failed, table_kept}
use Rattle.px_server.proofs.Uses.{is_quiet, uses_are}

-- ---- a definition that wasn't written

module _ {D : Type 0} (d : Ghosts D) (b : Base) (sound premise : Type 0) (began : Beginning) (disk : D) (catalog : Catalog) (standing : Standing) (groups : List Group) (trail : Recorded) (late : Option Entry) (closed : Option ℕ)
    (k : IsKept d b sound premise began disk catalog standing groups trail late closed) (disk' : D) (catalog' : Catalog) (u : Entry)
    (failed_kept : (shut : Entry) (call : ℕ) → IsShutAt shut call → call ≡ d.calls disk' → HasFailed d disk' → (c : Catalog) (t : Recorded) → t.entries ≡ trail.entries ++ shut ∷ [] → HasTrailRoom (Some call) groups t
    → IsKept d b sound premise began disk' c standing groups t (Some u) (Some call))
    (groups' : List Group) (same : groups' ≡ groups) (mid : Recorded) (mid_same : mid.entries ≡ trail.entries) (mid_room : mid.room ≡ trail.room + 1) (trail' : Recorded) (late' : Option Entry) (closed' : Option ℕ) (seat : ℕ) where
  untouched_kept : (disk' ≡ disk) × (catalog' ≡ catalog) → (trail'.entries ≡ mid.entries) × (late' ≡ late) × (closed' ≡ closed) → trail'.room + 1 ≡ mid.room → IsKept d b sound premise began disk' catalog' standing groups' trail' late' closed'
  untouched_kept is kept room =
      subst (λ (x : D). IsKept d b sound premise began x catalog' standing groups' trail' late' closed') (sym is.0)
      (subst (λ (x : Catalog). IsKept d b sound premise began disk x standing groups' trail' late' closed') (sym is.1)
      (subst (λ (x : Option Entry). IsKept d b sound premise began disk catalog standing groups' trail' x closed') (sym kept.1)
      (subst (λ (x : Option ℕ). IsKept d b sound premise began disk catalog standing groups' trail' late x) (sym kept.2)
      (kept_again d b sound premise began disk catalog standing groups trail late closed k groups' trail' same (kept.0 ∙ mid_same) (omega (arith, room, mid_room))))))

  shut_kept : HasFailed d disk' → (trail'.entries ≡ mid.entries ++ record { seat = seat; calls = d.calls disk'; act = Shut (d.calls disk') } ∷ []) × (late' ≡ Some u) × (closed' ≡ Some (d.calls disk')) → trail'.room + 1 ≡ mid.room
      → IsKept d b sound premise began disk' catalog' standing groups' trail' late' closed'
  shut_kept failed is room = (let
      shut : Entry = record { seat = seat; calls = d.calls disk'; act = Shut (d.calls disk') }
      in let
      before = k.room
      in
      subst (λ (x : List Group). IsKept d b sound premise began disk' catalog' standing x trail' late' closed') (sym same)
      (subst (λ (x : Option Entry). IsKept d b sound premise began disk' catalog' standing groups trail' x closed') (sym is.1)
      (subst (λ (x : Option ℕ). IsKept d b sound premise began disk' catalog' standing groups trail' (Some u) x) (sym is.2)
      (failed_kept shut (d.calls disk') refl refl failed catalog' trail' (is.0 ∙ ap (λ (es : List Entry). es ++ shut ∷ []) mid_same) (omega (arith, room, mid_room, before))))))

  pub unwritten_kept : (fault : CatalogFault) → ((fault ≡ Full) ⊎ (fault ≡ Memory) → (disk' ≡ disk) × (catalog' ≡ catalog)) → (fault ≡ WriteFault → Rose d disk disk')
      → (fault ≢ WriteFault → (trail'.entries ≡ mid.entries) × (late' ≡ late) × (closed' ≡ closed))
      → (fault ≡ WriteFault → (trail'.entries ≡ mid.entries ++ record { seat = seat; calls = d.calls disk'; act = Shut (d.calls disk') } ∷ []) × (late' ≡ Some u) × (closed' ≡ Some (d.calls disk')))
      → trail'.room + 1 ≡ mid.room → IsKept d b sound premise began disk' catalog' standing groups' trail' late' closed'
  unwritten_kept Full untouched rose kept shut room = untouched_kept (untouched (inl refl)) (kept (λ is. absurd cc)) room
  unwritten_kept Memory untouched rose kept shut room = untouched_kept (untouched (inr refl)) (kept (λ is. absurd cc)) room
  unwritten_kept WriteFault untouched rose kept shut room = shut_kept (failed_rose d disk disk' (rose refl)) (shut refl) room

-- and what is told of it
module _ (k : Known) (legal : IsLegal k.base k.seen) (closed : Option ℕ) (closing : closing_call k.seen ≡ closed) (x : Definition)
    (full : Refuses (define_cause x) k k (NotReady 0)) (memory : Refuses (define_cause x) k k MemoryFault) (f : StepFault) (es : List Entry) (calls : ℕ) (legal' : IsLegal k.base es) where
  same_known : es ≡ k.seen → Refuses (define_cause x) k k f → Refuses (define_cause x) k (record k { seen = es }) f
  same_known is r = subst (λ (ys : List Entry). Refuses (define_cause x) k (record k { seen = ys }) f) (sym is) r

  pub unwritten_refused : (fault : CatalogFault) → (fault ≡ Full → f ≡ NotReady 0) → (fault ≡ Memory → f ≡ MemoryFault) → (fault ≡ WriteFault → f ≡ Failed) → (fault ≢ WriteFault → es ≡ k.seen)
      → (fault ≡ WriteFault → es ≡ k.seen ++ record { seat = k.seat; calls = calls; act = Shut calls } ∷ []) → Refuses (define_cause x) k (record k { seen = es }) f
  unwritten_refused Full is_full is_memory is_failed kept shut = same_known (kept (λ is. absurd cc)) (subst (λ (g : StepFault). Refuses (define_cause x) k k g) (sym (is_full refl)) full)
  unwritten_refused Memory is_full is_memory is_failed kept shut = same_known (kept (λ is. absurd cc)) (subst (λ (g : StepFault). Refuses (define_cause x) k k g) (sym (is_memory refl)) memory)
  unwritten_refused WriteFault is_full is_memory is_failed kept shut =
      subst (λ (g : StepFault). Refuses (define_cause x) k (record k { seen = es }) g) (sym (is_failed refl)) (refused_write k legal closed closing es calls legal' x calls (shut refl))

-- ---- a table is made

module _ {D : Type 0} (d : Ghosts D) (tells_left : (x : D) (moment file : ℕ) (bytes : List ℕ) → d.left x moment file bytes → IsTrue d.tells)
    (up_to_now : (x : D) (moment file : ℕ) (bytes : List ℕ) → d.left x moment file bytes → moment ≤ d.calls x) (b : Base) (sound premise : Type 0) (began : Beginning)
    (disk : D) (catalog : Catalog) (standing : Standing) (groups : List Group) (trail : Recorded) (late : Option Entry) (closed : Option ℕ) (k : IsKept d b sound premise began disk catalog standing groups trail late closed)
    (disk' : D) (catalog' : Catalog) (passes : Passes d disk disk' 4) (touches : HasCatalogue d catalog disk → TouchesOnly d disk disk' catalogue_files) (seat : ℕ)
    (mid : Recorded) (mid_same : mid.entries ≡ trail.entries) (mid_room : mid.room ≡ trail.room + 1) (groups' : List Group) (same : groups' ≡ groups) where
  module _ (what : NewTable) (new : IsNewTable what) (may : MayMake standing closed what) (item : Table) (group : Group) (now : Standing) (copy : NewTable) (parts : AreParts standing what item group now copy)
      (leaves : HasCatalogue d catalog disk → LeavesOnly d disk disk' (λ moment image. CatalogueStands image (standing_of catalog) ⊎ CatalogueStands image (stands_after (standing_of catalog) (TableIs item)))) where
    leaves_made : HasCatalogue d catalog disk → LeavesOnly d disk disk' (λ moment image. CatalogueStands image (standing_of catalog) ⊎ CatalogueStands image (stands_after (standing_of catalog) (TableIs (table_made standing what))))
    leaves_made = subst (λ (i : Table). HasCatalogue d catalog disk → LeavesOnly d disk disk' (λ moment image. CatalogueStands image (standing_of catalog) ⊎ CatalogueStands image (stands_after (standing_of catalog) (TableIs i)))) parts.item_is leaves

    abbrev entry : Entry
    entry = record { seat = seat; calls = d.calls disk'; act = MadeAct (table_made standing what).id what }

    entry_is : record { seat = seat; calls = d.calls disk'; act = MadeAct group.table.id copy } ≡ entry
    entry_is = λ i. record { seat = seat; calls = d.calls disk'; act = MadeAct ((parts.group_is.table i).id) (parts.copy_is i) }

    pub making_kept : (stored : HasCatalogue d catalog disk → HasCatalogue d catalog' disk') → standing_of catalog' ≡ stands_after (standing_of catalog) (TableIs item) → (then_ : Standing) → then_ ≡ now → (gs : List Group) → gs ≡ groups' ++ group ∷ []
        → (trail' : Recorded) (calls : ℕ) → calls ≡ d.calls disk' → trail'.entries ≡ mid.entries ++ record { seat = seat; calls = calls; act = MadeAct group.table.id copy } ∷ [] → trail'.room + 1 ≡ mid.room
        → IsKept d b sound premise began disk' catalog' then_ gs trail' late closed
    making_kept stored defined then_ is_now gs gs_are trail' calls at entries room =
        subst (λ (s : Standing). IsKept d b sound premise began disk' catalog' s gs trail' late closed) (sym (is_now ∙ parts.standing_is))
        (subst (λ (xs : List Group). IsKept d b sound premise began disk' catalog' (stands_after standing (TableIs (table_made standing what))) xs trail' late closed) (sym (gs_are ∙ ap (λ (xs : List Group). xs ++ group ∷ []) same))
        (table_kept d tells_left up_to_now b sound premise began disk catalog standing groups trail late closed k may.running disk' passes touches seat what new may.free leaves_made group parts.group_is
        catalog' stored (defined ∙ ap (λ (i : Table). stands_after (standing_of catalog) (TableIs i)) parts.item_is) trail'
        (entries ∙ (ap (λ (es : List Entry). es ++ record { seat = seat; calls = calls; act = MadeAct group.table.id copy } ∷ []) mid_same
        ∙ (ap (λ (n : ℕ). trail.entries ++ record { seat = seat; calls = n; act = MadeAct group.table.id copy } ∷ []) at ∙ ap (λ (e : Entry). trail.entries ++ e ∷ []) entry_is)))
        (let before = k.room in let n = owed_end groups group (owed_new (table_made standing what) group parts.group_is) in omega (arith, before, n, room, mid_room))))

    pub making_failed : (trail' : Recorded) (late' : Option Entry) (closed' : Option ℕ) (fault : CatalogFault) → ((fault ≡ Full) ⊎ (fault ≡ Memory) → (disk' ≡ disk) × (catalog' ≡ catalog)) → (fault ≡ WriteFault → Rose d disk disk')
        → (fault ≢ WriteFault → (trail'.entries ≡ mid.entries) × (late' ≡ late) × (closed' ≡ closed))
        → (fault ≡ WriteFault → (trail'.entries ≡ mid.entries ++ record { seat = seat; calls = d.calls disk'; act = Shut (d.calls disk') } ∷ []) × (late' ≡ Some (record { seat = seat; calls = d.calls disk'; act = MadeAct group.table.id copy })) × (closed' ≡ Some (d.calls disk')))
        → trail'.room + 1 ≡ mid.room → IsKept d b sound premise began disk' catalog' standing groups' trail' late' closed'
    making_failed trail' late' closed' fault untouched rose kept shut room =
        unwritten_kept d b sound premise began disk catalog standing groups trail late closed k disk' catalog' entry
        (table_failed d tells_left up_to_now b sound premise began disk catalog standing groups trail late closed k may.running disk' passes touches seat what new may.free leaves_made)
        groups' same mid mid_same mid_room trail' late' closed' seat fault untouched rose kept (λ is. (let s = shut is in (s.0, s.1 ∙ ap (λ (e : Entry). Some e) entry_is, s.2))) room

  -- ---- a table is dropped

  module _ (running : closed ≡ None) (t : TableId) (place : ℕ) (inside : place < length standing.tables) (number : (none : Table) → (get_or standing.tables place none).id ≡ t) (g : Group) (is : get_or groups place g ≡ g) (unused : length g.points.items + length g.batches.items ≡ 0) where
    its : g.table.id ≡ t
    its = group_of groups standing.tables k.each.stand place g (place_in groups standing.tables k.each.stand place inside) is t number

    stands : IsSome (table_of b trail.entries t.0)
    stands = (let none = g.table in let at = stands_at b trail.entries standing k.told.agrees place inside none in
        subst (λ (n : ℕ). IsSome (table_of b trail.entries n)) (ap (λ (y : TableId). y.0) (number none)) (ap is_some at))

    quiet : IsQuiet trail.entries t.0
    quiet = (let own = all_at (HasTallied b trail.entries) groups place g (place_in groups standing.tables k.each.stand place inside) is (k.each.tallied running) in
        subst (λ (n : ℕ). IsQuiet trail.entries n) (ap (λ (y : TableId). y.0) its) (is_quiet b trail.entries g own.held own.tallied unused))

    module _ (leaves : HasCatalogue d catalog disk → LeavesOnly d disk disk' (λ moment image. CatalogueStands image (standing_of catalog) ⊎ CatalogueStands image (stands_after (standing_of catalog) (TableGone t)))) where
      abbrev gone : Entry
      gone = record { seat = seat; calls = d.calls disk'; act = Dropped t None }

      pub dropping_kept : (stored : HasCatalogue d catalog disk → HasCatalogue d catalog' disk') → standing_of catalog' ≡ stands_after (standing_of catalog) (TableGone t) → (then_ : Standing) → then_ ≡ stands_after standing (TableGone t) → (gs : List Group) → gs ≡ filter (keeps t.0) groups'
          → (trail' : Recorded) (calls : ℕ) → calls ≡ d.calls disk' → trail'.entries ≡ mid.entries ++ record { seat = seat; calls = calls; act = Dropped t None } ∷ [] → trail'.room + 1 ≡ mid.room
          → IsKept d b sound premise began disk' catalog' then_ gs trail' late closed
      dropping_kept stored defined then_ is_now gs gs_are trail' calls at entries room =
          subst (λ (s : Standing). IsKept d b sound premise began disk' catalog' s gs trail' late closed) (sym is_now)
          (subst (λ (xs : List Group). IsKept d b sound premise began disk' catalog' (stands_after standing (TableGone t)) xs trail' late closed) (sym (gs_are ∙ ap (λ (xs : List Group). filter (keeps t.0) xs) same))
          (gone_kept d tells_left up_to_now b sound premise began disk catalog standing groups trail late closed k running disk' passes touches seat t stands quiet leaves
          catalog' stored defined trail'
          (entries ∙ (ap (λ (es : List Entry). es ++ record { seat = seat; calls = calls; act = Dropped t None } ∷ []) mid_same ∙ ap (λ (n : ℕ). trail.entries ++ record { seat = seat; calls = n; act = Dropped t None } ∷ []) at))
          (let before = k.room in let n = owed_less t.0 groups in omega (arith, before, n, room, mid_room))))

      pub dropping_failed : (trail' : Recorded) (late' : Option Entry) (closed' : Option ℕ) (fault : CatalogFault) → ((fault ≡ Full) ⊎ (fault ≡ Memory) → (disk' ≡ disk) × (catalog' ≡ catalog)) → (fault ≡ WriteFault → Rose d disk disk')
          → (fault ≢ WriteFault → (trail'.entries ≡ mid.entries) × (late' ≡ late) × (closed' ≡ closed))
          → (fault ≡ WriteFault → (trail'.entries ≡ mid.entries ++ record { seat = seat; calls = d.calls disk'; act = Shut (d.calls disk') } ∷ []) × (late' ≡ Some gone) × (closed' ≡ Some (d.calls disk')))
          → trail'.room + 1 ≡ mid.room → IsKept d b sound premise began disk' catalog' standing groups' trail' late' closed'
      dropping_failed trail' late' closed' fault untouched rose kept shut room =
          unwritten_kept d b sound premise began disk catalog standing groups trail late closed k disk' catalog' gone
          (gone_failed d tells_left up_to_now b sound premise began disk catalog standing groups trail late closed k running disk' passes touches seat t stands quiet leaves)
          groups' same mid mid_same mid_room trail' late' closed' seat fault untouched rose kept shut room

-- in use are exactly as many points and batches as the group has
pub table_uses : {D : Type 0} (d : Ghosts D) (b : Base) (sound premise : Type 0) (began : Beginning) (disk : D) (catalog : Catalog) (standing : Standing) (groups : List Group) (trail : Recorded) (late : Option Entry) (closed : Option ℕ) → IsKept d b sound premise began disk catalog standing groups trail late closed → closed ≡ None
    → (t : TableId) (place : ℕ) → place < length standing.tables → ((none : Table) → (get_or standing.tables place none).id ≡ t) → (g : Group) → get_or groups place g ≡ g → uses_of t.0 trail.entries ≡ length g.points.items + length g.batches.items
table_uses d b sound premise began disk catalog standing groups trail late closed k running t place inside number g is = (let
    there = place_in groups standing.tables k.each.stand place inside
    in let
    own = all_at (HasTallied b trail.entries) groups place g there is (k.each.tallied running)
    in ap (λ (y : TableId). uses_of y.0 trail.entries) (sym (group_of groups standing.tables k.each.stand place g there is t number)) ∙ uses_are b trail.entries g own.held own.tallied k.told.legal)

pub on_ok : {T E : Type 0} (r : Result T E) (P : Type 0) → OnOk r P → ((e : E) → r ≡ Err e → ⊥) → P
on_ok (Ok x) P is never = is
on_ok (Err e) P is never = absurd (never e refl)
