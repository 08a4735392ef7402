-- An index whose table nothing uses: what the trail tells of it, and why one isn't changed.
use Rattle.std.proofs.Common.{◌≡◌, ◌<◌, ◌≤◌, ◌+◌, ◌^◌, ℕ, Bool, true, Option, Some, None, List, [], ◌∷◌, get_or, length, refl, sym, ap, subst, ◌∙◌, arith}
use Rattle.std.specs.Prelude.{IsTrue}
use Rattle.px_outside.specs.declared.disk.Disk.{Ghosts}
use Rattle.px_values.specs.Limits.{most_of}
use Rattle.px_values.specs.declared.limit.Limit.TheVariants as bound
use Rattle.px_values.specs.declared.name.IndexId.{IndexId}
use Rattle.px_values.specs.declared.name.TableId.{TableId}
use Rattle.px_tables.specs.declared.index.Index.{Index}
use Rattle.px_tables.specs.declared.index.IndexState.TheVariants.{Building, Disabled}
use Rattle.px_trail.specs.Answers.{IsAmong}
use Rattle.px_trail.specs.declared.entry.Act.TheVariants.{IndexState}
use Rattle.px_trail.specs.declared.entry.Entry.{Entry}
use Rattle.px_trail.specs.Legal.{Follows, IsOf, IsQuiet, MayCome, MayState}
use Rattle.px_trail.specs.Recorded.{Recorded}
use Rattle.px_trail.specs.Trail.{Base, index_of, last_of}
use Rattle.px_calls.specs.Causes.{IsInUse, LacksIndex, LacksTable, Refuses, define_cause}
use Rattle.px_calls.specs.Known.{Known}
use Rattle.px_calls.specs.declared.definition.Definition.{Definition}
use Rattle.px_calls.specs.declared.definition.Definition.TheVariants as definition
use Rattle.px_calls.specs.declared.fault.StepFault.{StepFault}
use Rattle.px_calls.specs.declared.fault.StepFault.TheVariants as fault
use Rattle.px_indexrow.specs.Form.{IsRightIndex}
use Rattle.px_schema.specs.Counts.{HasNumbers}
use Rattle.px_schema.specs.Records.{IsRightCatalogItem}
use Rattle.px_schema.specs.declared.item.CatalogItem.TheVariants.{IndexIs}
use Rattle.px_schema.specs.declared.standing.Standing.{Standing}
use Rattle.px_catalog.specs.Catalogue.{standing_of}
use Rattle.px_catalog.specs.declared.catalog.Catalog.{Catalog}
use Rattle.px_group.specs.declared.group.Begun.{Begun}
use Rattle.px_group.specs.declared.group.Group.{Group}
use Rattle.px_recovery.specs.Tables.{index_in, number_of_index}
use Rattle.px_standing.proofs.Counted.{runs_out}
use Rattle.px_standing.proofs.Finder.{among_found, place_among}
use Rattle.px_standing.proofs.Looked.{index_finder, lacks}
use Rattle.px_server.specs.Kept.{HasTallied, IsKept}
use Rattle.px_server.specs.Others.{Beginning}
use Rattle.px_server.specs.inner.Fitting.{CanRecord}
use Rattle.px_server.specs.inner.Quiet.{IsQuietPlace, IsUnquiet, IsUsed}
use Rattle.px_server.specs.declared.defining.quiet.IndexPlace.{IndexPlace}
use Rattle.px_server.proofs.Found.{closed_by}
use Rattle.px_server.proofs.IndexDropping.{in_use as table_in_use, no_index_at}
use Rattle.px_server.proofs.IndexFits.{fits_index}
use Rattle.px_server.proofs.IndexFound.{has_none}
use Rattle.px_server.proofs.IndexMay.{may_follow}
use Rattle.px_server.proofs.Lists.{all_at}
use Rattle.px_server.proofs.Released.{group_of, place_in}
use Rattle.px_server.proofs.Seen.{stays}
use Rattle.px_server.proofs.Uses.{is_quiet}

no_more : (n : ℕ) (xs : List Begun) → n + length xs ≡ 0 → xs ≡ []
no_more n [] none = refl
no_more n (x ∷ xs) none = absurd (omega (arith, none))

module _ {D : Type 0} (d : Ghosts D) (tells_left : (x : D) (moment file : ℕ) (bytes : List ℕ) → d.left x moment file bytes → IsTrue d.tells)
    (up_to_now : (x : D) (moment file : ℕ) (bytes : List ℕ) → d.left x moment file bytes → moment ≤ d.calls x) (b : Base) (damaged : ℕ → ℕ → Bool) (sound premise : Type 0) (began : Beginning)
    (disk : D) (catalog : Catalog) (standing : Standing) (groups : List Group) (trail : Recorded) (late : Option Entry) (closed : Option ℕ) (k : IsKept d b sound premise began disk catalog standing groups trail late closed) (seat : ℕ) (t : TableId) (i : IndexId) where
  abbrev es : List Entry
  es = trail.entries

  abbrev known : Known
  known = record { seat = seat; base = b; damaged = damaged; alone = true; seen = es }

  -- ---- why it isn't changed

  used : closed ≡ None → (count : ℕ) (u : IsUsed standing groups t count) → IsInUse known t.0 count
  used running count u =
      let l = place_in groups standing.tables k.each.stand u.place u.table.low in
      table_in_use d tells_left up_to_now b damaged sound premise began disk catalog standing groups trail late closed k running u.place u.group l u.is seat t (group_of groups standing.tables k.each.stand u.place u.group l u.is t u.table.is) i count u.count_is u.some

  -- what a definition says of these four causes
  unquiet : (x : Definition) → (LacksTable known t.0 → define_cause x fault.NoTable known) → (LacksIndex known t.0 i.0 → define_cause x fault.NoIndex known) → ((count : ℕ) → IsInUse known t.0 count → define_cause x (fault.InUse count) known)
      → (f : StepFault) → IsUnquiet standing groups closed t i f → Refuses (define_cause x) known known f
  unquiet x no_table no_index in_use (fault.Closed call) is = closed_by known k.told.legal closed k.told.closing call is
  unquiet x no_table no_index in_use fault.NoTable is = (no_table (lacks b es standing k.told.agrees t.0 is.1), stays known k.told.legal, k.told.closing ∙ is.0)
  unquiet x no_table no_index in_use fault.NoIndex is = (
    no_index (no_index_at d b sound premise began disk catalog standing groups trail late closed k is.0 is.1.0 is.1.1.low t is.1.1.is i seat damaged (has_none standing.indexes t i is.2)),
    stays known k.told.legal,
    k.told.closing ∙ is.0,
  )
  unquiet x no_table no_index in_use (fault.InUse count) is = (in_use count (used is.0 count is.1), stays known k.told.legal, k.told.closing ∙ is.0)
  unquiet x no_table no_index in_use fault.NameExists is = absurd is
  unquiet x no_table no_index in_use (fault.Limit which count) is = absurd is
  unquiet x no_table no_index in_use (fault.Busy region cells bytes) is = absurd is
  unquiet x no_table no_index in_use (fault.NotReady region) is = absurd is
  unquiet x no_table no_index in_use (fault.NotYet stamp) is = absurd is
  unquiet x no_table no_index in_use (fault.BelowHorizon horizon) is = absurd is
  unquiet x no_table no_index in_use fault.ReadFault is = absurd is
  unquiet x no_table no_index in_use fault.WriteFault is = absurd is
  unquiet x no_table no_index in_use (fault.Damaged file place) is = absurd is
  unquiet x no_table no_index in_use fault.Memory is = absurd is

  pub unquiet_disabled : (f : StepFault) → IsUnquiet standing groups closed t i f → Refuses (define_cause (definition.Disabled t i)) known known f
  unquiet_disabled = unquiet (definition.Disabled t i) (λ c. c) (λ c. c) (λ n c. c)

  pub unquiet_rebuilding : (f : StepFault) → IsUnquiet standing groups closed t i f → Refuses (define_cause (definition.Rebuilding t i)) known known f
  unquiet_rebuilding = unquiet (definition.Rebuilding t i) (λ c. c) (λ c. c) (λ n c. c)

  pub unquiet_dropping : (f : StepFault) → IsUnquiet standing groups closed t i f → Refuses (define_cause (definition.DropIndex t i)) known known f
  unquiet_dropping = unquiet (definition.DropIndex t i) (λ c. c) (λ c. c) (λ n c. c)

  -- ---- where it is quiet

  module _ (p : IndexPlace) (at : IsQuietPlace standing groups closed t i p) (x : Index) (x_is : get_or standing.indexes p.index x ≡ x) (g : Group) (g_is : get_or groups p.table g ≡ g) where
    pub low : p.table < length groups
    low = place_in groups standing.tables k.each.stand p.table at.table.low

    pub mine : g.table.id ≡ t
    mine = group_of groups standing.tables k.each.stand p.table g low g_is t at.table.is

    pub id : x.id ≡ i
    id = ap (λ (w : Index). w.id) (sym x_is) ∙ at.id x

    pub own : x.table ≡ t
    own = ap (λ (w : Index). w.table) (sym x_is) ∙ at.own x

    pub own_group : x.table ≡ g.table.id
    own_group = own ∙ sym mine

    pub found : index_in standing.indexes x.id.0 ≡ Some x
    found = among_found number_of_index index_in index_finder standing.indexes x k.told.agrees.order.indexes (subst (λ (w : Index). IsAmong w standing.indexes) x_is (place_among standing.indexes p.index x at.low))

    stands : index_of b es i.0 ≡ Some x
    stands = ap (index_of b es) (ap (λ (n : IndexId). n.0) (sym id)) ∙ (sym (k.told.agrees.indexes x.id.0) ∙ found)

    unused : length g.points.items + length g.batches.items ≡ 0
    unused = at.unused g g_is

    pub none : g.batches.items ≡ []
    none = no_more (length g.points.items) g.batches.items unused

    tallied : HasTallied b es g
    tallied = all_at (HasTallied b es) groups p.table g low g_is (k.each.tallied at.running)

    pub quiet : IsQuiet es t.0
    quiet = subst (λ (u : TableId). IsQuiet es u.0) mine (is_quiet b es g tallied.held tallied.tallied unused)

    pub last_is : last_of b t.0 es ≡ g.last
    last_is = ap (λ (u : TableId). last_of b u.0 es) (sym mine) ∙ tallied.tallied.last

    is_of : IsOf b es t.0 i.0
    is_of = record { index = x; is = stands; owner = ap (λ (u : TableId). u.0) own }

    pub may_disable : (disk' : D) → d.calls disk ≤ d.calls disk' → MayCome b es (record { seat = seat; calls = d.calls disk'; act = IndexState t i Disabled x.birth })
    unfolding Follows MayState
    may_disable disk' later = may_follow d b sound premise began disk catalog standing groups trail late closed k at.running disk' later seat t i (IndexState t i Disabled x.birth)
        (is_of, ((λ z is. (let one : Some x ≡ Some z = sym stands ∙ is in let same : x ≡ z = cc in ap (λ (w : Index). w.birth) same)), quiet))

    pub may_rebuild : (disk' : D) → d.calls disk ≤ d.calls disk' → (s : ℕ) → g.last < s → MayCome b es (record { seat = seat; calls = d.calls disk'; act = IndexState t i Building s })
    unfolding Follows MayState
    may_rebuild disk' later s above = may_follow d b sound premise began disk catalog standing groups trail late closed k at.running disk' later seat t i (IndexState t i Building s)
        (is_of, ((let n = last_is in omega (arith, n, above)), quiet))

    -- its new record is one that the catalogue may have
    pub fits_put : (y : Index) → y.table ≡ x.table → IsRightIndex g.table y → CanRecord standing y → x.table.0 < 256 ^ 4 → IsRightCatalogItem (standing_of catalog) (IndexIs y)
    fits_put y same right can short =
        fits_index d b sound premise began disk catalog standing groups trail late closed k at.running p.table g low g_is y right (same ∙ own_group) (subst (λ (u : TableId). u.0 < 256 ^ 4) (sym same) short) can

    -- the limits
    pub no_stamp : most_of bound.Stamps ≤ g.last → Refuses (define_cause (definition.Rebuilding t i)) known known (fault.Limit bound.Stamps (most_of bound.Stamps))
    no_stamp past = ((refl, (let n = last_is in omega (arith, n, past))), stays known k.told.legal, k.told.closing ∙ at.running)

    pub no_number : (HasNumbers standing 1 → ⊥) → Refuses (define_cause (definition.Rebuilding t i)) known known (fault.Limit bound.Ids (most_of bound.Ids))
    no_number past = ((refl, runs_out known standing k.told.agrees 1 past), stays known k.told.legal, k.told.closing ∙ at.running)
