-- An index that is disabled or built again: where it stands, and its new record.
use Rattle.std.specs.Prelude.{◌≡◌, ◌≢◌, ◌<◌, ◌+◌, ℕ, List, Option, None, Some, get_or, length}
use Rattle.std.specs.List.{AllByRecursion}
use Rattle.px_values.specs.declared.name.IndexId.{IndexId}
use Rattle.px_values.specs.declared.name.TableId.{TableId}
use Rattle.px_tables.specs.declared.index.Index.{Index}
use Rattle.px_tables.specs.declared.table.Table.{Table}
use Rattle.px_indexrow.specs.Form.{IsRightIndex}
use Rattle.px_schema.specs.Stands.{stands_after}
use Rattle.px_schema.specs.declared.item.CatalogItem.TheVariants.{IndexIs}
use Rattle.px_schema.specs.declared.standing.Standing.{Standing}
use Rattle.px_group.specs.declared.group.Group.{Group}
use Rattle.px_calls.specs.declared.fault.StepFault.{StepFault}
use Rattle.px_calls.specs.declared.fault.StepFault.TheVariants.{Closed, InUse, NoIndex, NoTable}
use Rattle.px_server.specs.declared.defining.prepared.IndexToPut.{IndexToPut}
use Rattle.px_server.specs.declared.defining.quiet.IndexPlace.{IndexPlace}
use Rattle.px_server.specs.inner.Fitting.{CanRecord}

-- it isn't the index of this number of this table
abbrev pub IsOther : TableId → IndexId → Index → Type 0
IsOther t i x = (x.id ≡ i) × (x.table ≡ t) → ⊥

-- the table of this number stands there
pub record IsTableAt (s : Standing) (t : TableId) (place : ℕ) : Type 0 where
  pub low : place < length s.tables
  pub is : (none : Table) → (get_or s.tables place none).id ≡ t

-- so many points and batches of it are open
abbrev pub uses_in : Group → ℕ
uses_in g = length g.points.items + length g.batches.items

-- the index of the table stands there, and no point and no batch of its table is open
pub record IsQuietPlace (s : Standing) (groups : List Group) (closed : Option ℕ) (t : TableId) (i : IndexId) (p : IndexPlace) : Type 0 where
  pub running : closed ≡ None
  pub table : IsTableAt s t p.table
  pub low : p.index < length s.indexes
  pub id : (none : Index) → (get_or s.indexes p.index none).id ≡ i
  pub own : (none : Index) → (get_or s.indexes p.index none).table ≡ t
  pub unused : (g : Group) → get_or groups p.table g ≡ g → uses_in g ≡ 0

-- some are open
pub record IsUsed (s : Standing) (groups : List Group) (t : TableId) (count : ℕ) : Type 0 where
  pub place : ℕ
  pub table : IsTableAt s t place
  pub group : Group
  pub is : get_or groups place group ≡ group
  pub count_is : count ≡ uses_in group
  pub some : 0 < count

-- why it isn't to be changed
abbrev pub IsUnquiet : Standing → List Group → Option ℕ → TableId → IndexId → StepFault → Type 0
IsUnquiet s groups closed t i (Closed call) = closed ≡ Some call
IsUnquiet s groups closed t i NoTable = (closed ≡ None) × AllByRecursion (λ x. x.id.0 ≢ t.0) s.tables
IsUnquiet s groups closed t i NoIndex = (closed ≡ None) × ((place : ℕ) × IsTableAt s t place) × AllByRecursion (IsOther t i) s.indexes
IsUnquiet s groups closed t i (InUse count) = (closed ≡ None) × IsUsed s groups t count
IsUnquiet s groups closed t i f = ⊥

-- The index with its new record: it is right for its table, the catalogue has room for it, and it is there once for the group and once for the
-- catalogue, with what stands then.
pub record IsIndexToPut (t : Table) (s : Standing) (y : Index) (p : IndexToPut) : Type 0 where
  pub index : p.index ≡ y
  pub item : p.item ≡ y
  pub right : IsRightIndex t y
  pub can : CanRecord s y
  pub standing : p.standing ≡ stands_after s (IndexIs y)
