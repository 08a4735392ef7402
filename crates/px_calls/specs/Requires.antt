-- What calls ask of their callers. Each stays true while others' entries come.
use Rattle.std.specs.Prelude.{ℕ, ◌≡◌, ◌≢◌, ◌⊎◌, ◌<◌, ◌≤◌, ◌==◌, Bool, true, false, if◌then◌else◌, ◌||◌, List, [], ◌∷◌, map, length, Option, None, Some}
use Rattle.std.specs.List.{AllByRecursion, slice_get}
use Rattle.std.specs.Cmp.Lexicographic.{slice_cmp}
use Rattle.std.specs.Ordering.{is_lt, nat_cmp}
use Rattle.px_values.specs.Limits.{most_of}
use Rattle.px_values.specs.Types.{HasType}
use Rattle.px_values.specs.declared.change.Assignment.{Assignment}
use Rattle.px_values.specs.declared.change.Change.{Change}
use Rattle.px_values.specs.declared.change.What.{What}
use Rattle.px_values.specs.declared.change.What.TheVariants.{Set, Gone}
use Rattle.px_values.specs.declared.limit.Limit.TheVariants.{Columns, Name, Regions}
use Rattle.px_values.specs.declared.row.Value.{Value}
use Rattle.px_values.specs.declared.row.Value.TheVariants.{Null}
use Rattle.px_keys.specs.Reading.{IsKey}
use Rattle.px_keys.specs.Spelling.{Fits}
use Rattle.px_values.specs.Limits.{most_key}
use Rattle.px_tables.specs.declared.found.Found.{Found}
use Rattle.px_tables.specs.declared.index.Index.{Index}
use Rattle.px_tables.specs.declared.index.IndexState.TheVariants.{Building, Active, Disabled}
use Rattle.px_tables.specs.declared.index.IndexState.TheVariants as states
use Rattle.px_tables.specs.declared.index.NewIndex.{NewIndex}
use Rattle.px_tables.specs.declared.table.NewTable.{NewTable}
use Rattle.px_tables.specs.declared.table.Table.{Table}
use Rattle.px_paths.specs.Paths.{columns_on, index_path, is_keyed, key_on, table_path, type_in}
pub use Rattle.px_paths.specs.Paths.{AreOfTypes, FitsRow}
use Rattle.px_trail.specs.declared.entry.Act.{Act}
use Rattle.px_trail.specs.declared.entry.Act.TheVariants.{Based, IndexMade, IndexState}
use Rattle.px_trail.specs.declared.entry.Entry.{Entry}
use Rattle.px_trail.specs.Batches.{BatchPhase, IsDecided, IsBatchIn, Closing, Marking, Verifying, Writing, has, is_distinct}
use Rattle.px_trail.specs.States.{key_in, state_of}
use Rattle.px_trail.specs.Trail.{catalogue_of, closing_call, horizon_of, index_of, last_of, open_points, table_of, table_shape}
use Rattle.px_calls.specs.declared.definition.Definition.{Definition}
use Rattle.px_calls.specs.declared.query.BaseRow.{BaseRow}
use Rattle.px_calls.specs.declared.definition.Definition.TheVariants as d
use Rattle.px_calls.specs.declared.query.By.{By}
use Rattle.px_calls.specs.declared.query.By.TheVariants as by
use Rattle.px_calls.specs.declared.query.Doubt.{Doubt}
use Rattle.px_calls.specs.declared.query.Path.{Path}
use Rattle.px_calls.specs.declared.query.Point.{Point}
use Rattle.px_calls.specs.declared.ticket.Ticket.{Ticket}
use Rattle.px_calls.specs.Known.{Known}

-- 1. Tables and indexes

-- no number stands twice
unfoldable pub AreOnce : List ℕ → Type 0
AreOnce [] = Unit {0}
AreOnce (n ∷ ns) = AllByRecursion (λ m. m ≢ n) ns × AreOnce ns

-- no name stands twice
unfoldable pub AreDistinctNames : List (List ℕ) → Type 0
AreDistinctNames [] = Unit {0}
AreDistinctNames (n ∷ ns) = AllByRecursion (λ m. m ≢ n) ns × AreDistinctNames ns

-- each key is below the next
unfoldable pub AreAscending : List (List ℕ) → Type 0
AreAscending [] = Unit {0}
AreAscending (k ∷ ks) = AllByRecursion (λ m. is_lt (slice_cmp nat_cmp k m) ≡ true) ks × AreAscending ks

-- a table as a CREATE TABLE makes one: names and places stand once and within their limits, and the least keys ascend from the
-- empty one, which is the only one while no table is split
pub record IsNewTable (what : NewTable) : Type 0 where
  pub name : length what.name ≤ most_of Name
  pub columns : length what.columns ≤ most_of Columns
  pub names : AllByRecursion (λ c. length c.name ≤ most_of Name) what.columns
  pub apart : AreDistinctNames (map (λ c. c.name) what.columns)
  pub key : what.key ≢ []
  pub places : AllByRecursion (λ p. p.column < length what.columns) what.key
  pub once : AreOnce (map (λ p. p.column) what.key)
  pub first : slice_get what.least_keys 0 ≡ Some []
  pub ascending : AreAscending what.least_keys
  pub short : AllByRecursion (λ k. length k ≤ most_key) what.least_keys
  pub regions : length what.least_keys ≤ most_of Regions
  pub one : what.least_keys ≡ [] ∷ []

-- an index of the table as a CREATE INDEX makes one
pub record IsNewIndex (t : Table) (what : NewIndex) : Type 0 where
  pub name : length what.name ≤ most_of Name
  pub parts : what.parts ≢ []
  pub places : AllByRecursion (λ p. p.column < length t.columns) what.parts
  pub once : AreOnce (map (λ p. p.column) what.parts)
  pub included : AllByRecursion (λ c. c < length t.columns) what.included
  pub included_once : AreOnce what.included
  pub included_alone : AllByRecursion (λ c. (is_keyed what.parts c ≡ false) × (is_keyed t.key c ≡ false)) what.included

-- the number was drawn
abbrev pub IsDrawn : Known → ℕ → Type 0
IsDrawn k n = n < (catalogue_of k.base k.seen).next

-- what the index was made from fits its table, if that stands
pub record IsIndexFit (k : Known) (what : NewIndex) : Type 0 where
  pub drawn : IsDrawn k what.table.0
  pub fits : (t : Table) → table_of k.base k.seen what.table.0 ≡ Some t → IsNewIndex t what

-- 2. Indexes that are built

-- a Based entry of the index since its birth has the row
abbrev pub base_step : ℕ → List Value → Bool → Act → Bool
base_step i r v (IndexMade t i' s what) = if i'.0 == i then false else v
base_step i r v (IndexState t i' states.Building s) = if i'.0 == i then false else v
base_step i r v (Based i' rows) = if i'.0 == i then has rows r || v else v
base_step i r v act = v

unfoldable pub base_from : ℕ → List Value → Bool → List Entry → Bool
base_from i r v [] = v
base_from i r v (e ∷ es) = base_from i r (base_step i r v e.act) es

abbrev pub is_based : List Entry → ℕ → List Value → Bool
is_based es i r = base_from i r false es

-- the index may become active: it isn't disabled; the seat has a point open at or below its birth, so that no row's state there is
-- forgotten; and at its birth, which was drawn, all is written, and each row was based, if what was opened is sound
pub record CanActivate (sound : Type 0) (k : Known) (t i : ℕ) (x : Index) : Type 0 where
  pub state : x.state ≢ Disabled
  pub stamp : ℕ
  pub below : stamp ≤ x.birth
  pub known : x.birth ≤ last_of k.base t k.seen
  pub guarded : 0 < open_points k.seat t stamp k.seen
  pub low : horizon_of k.base t k.seen ≤ x.birth
  pub decided : IsDecided k.seen t x.birth
  pub based : sound → (r : List Value) → state_of k.base k.seen t r x.birth ≢ None → is_based k.seen i r ≡ true

-- the numbers were drawn, and if the index stands and is of that table, it may become active
pub record MayActivate (sound : Type 0) (k : Known) (t i : ℕ) : Type 0 where
  pub index : IsDrawn k i
  pub table : IsDrawn k t
  pub each : (x : Index) → index_of k.base k.seen i ≡ Some x → x.table.0 ≡ t → CanActivate sound k t i x

-- the row is one as the table may have it, with its key in the index, which isn't too long
pub record IsBaseRowOf (t : Table) (x : Index) (f : BaseRow) : Type 0 where
  pub fits : FitsRow t f.row
  pub key : key_on (index_path t x) f.row ≡ f.key
  pub short : length f.key ≤ most_key

-- their primary keys
abbrev pub base_owners : Table → List BaseRow → List (List Value)
base_owners t xs = map (λ f. key_in (table_shape t) f.row) xs

-- Rows may be given their base versions in an index. The numbers were drawn; table and index stand, the index isn't disabled and was born at the
-- point, and at or below the point nothing is forgotten or undecided; the rows are rows of the table with their keys in the index, no two with one
-- primary key, and the table has them at the point, if what was opened is sound
pub record MayBase (sound : Type 0) (k : Known) (p : Point) (i : ℕ) (xs : List BaseRow) : Type 0 where
  pub table_drawn : IsDrawn k p.table.0
  pub index_drawn : IsDrawn k i
  pub table : Table
  pub table_is : table_of k.base k.seen p.table.0 ≡ Some table
  pub index : Index
  pub index_is : index_of k.base k.seen i ≡ Some index
  pub owner : index.table.0 ≡ p.table.0
  pub state : index.state ≢ Disabled
  pub birth : index.birth ≡ p.stamp
  pub known : p.stamp ≤ last_of k.base p.table.0 k.seen
  pub low : horizon_of k.base p.table.0 k.seen ≤ p.stamp
  pub decided : IsDecided k.seen p.table.0 p.stamp
  pub each : AllByRecursion (IsBaseRowOf table index) xs
  pub distinct : is_distinct (base_owners table xs) ≡ true
  pub there : sound → AllByRecursion (λ f. state_of k.base k.seen p.table.0 (key_in (table_shape table) f.row) p.stamp ≡ Some f.row) xs

-- a definition is one that may be asked for
abbrev pub CanDefine : Type 0 → Known → Definition → Type 0
CanDefine sound k (d.Table what) = IsNewTable what
CanDefine sound k (d.Index what) = IsIndexFit k what
CanDefine sound k (d.Active t i) = MayActivate sound k t.0 i.0
CanDefine sound k (d.Disabled t i) = Unit {0}
CanDefine sound k (d.Rebuilding t i) = Unit {0}
CanDefine sound k (d.DropTable t) = Unit {0}
CanDefine sound k (d.DropIndex t i) = Unit {0}

-- 3. Changes

-- the assignments name columns outside the key, with values of their types or NULL
abbrev pub AssignsTo : Table → List Assignment → Type 0
AssignsTo t assignments =
    AllByRecursion (λ a. (a.column < length t.columns) × (is_keyed t.key a.column ≡ false) × ((a.value ≡ Null) ⊎ HasType (type_in (slice_get t.columns a.column)) a.value)) assignments

-- each column once
abbrev pub AssignsOnce : Table → What → Type 0
AssignsOnce t (Set assignments) = AssignsTo t assignments × AreOnce (map (λ a. a.column) assignments)
AssignsOnce t Gone = Unit {0}

-- the change is one of this table's rows
pub record IsChangeOf (t : Table) (c : Change) : Type 0 where
  pub row : Fits (columns_on (table_path t)) c.row
  pub what : AssignsOnce t c.what

-- the changes are of rows of the table, if it stands
pub record AreFitting (k : Known) (t : ℕ) (cs : List Change) : Type 0 where
  pub drawn : IsDrawn k t
  pub each : (x : Table) → table_of k.base k.seen t ≡ Some x → AllByRecursion (IsChangeOf x) cs

-- 4. Tickets: each condition on earlier answers is told by the trail that the seat has seen

-- the seat's own batch is in this phase
abbrev pub TicketIn : Known → Ticket → BatchPhase → Type 0
TicketIn k t phase = IsBatchIn k.seen k.seat t.table.0 t.stamp phase

abbrev pub IsServerShut : Known → Type 0
IsServerShut k = closing_call k.seen ≢ None

-- all is done, or all is written and the server is closed
abbrev pub CanEnd : Known → Ticket → Type 0
CanEnd k t = TicketIn k t Closing ⊎ (IsServerShut k × TicketIn k t Verifying)

-- the server is closed, and not all is written
abbrev pub CanAbandon : Known → Ticket → Type 0
CanAbandon k t = IsServerShut k × (TicketIn k t Marking ⊎ TicketIn k t Writing)

-- 5. Points

-- the seat has the point open
abbrev pub HasOpen : Known → Point → Type 0
HasOpen k p = 0 < open_points k.seat p.table.0 p.stamp k.seen

-- a greatest SCN is one above the greatest stamp
abbrev pub IsScn : Option ℕ → Type 0
IsScn None = Unit {0}
IsScn (Some scn) = (0 < scn) × (scn ≤ 9223372036854775808)

-- the index of a number among the point's definitions
unfoldable pub index_among : ℕ → List Index → Option Index
index_among i [] = None
index_among i (x ∷ xs) = if x.id.0 == i then Some x else index_among i xs

abbrev pub index_of_found : Found → ℕ → Option Index
index_of_found f i = index_among i f.indexes

-- the index is one of the point's definitions, active, and born at or below the point
abbrev pub IsReadable : Point → Option Index → Type 0
IsReadable p None = ⊥
IsReadable p (Some x) = (x.state ≡ Active) × (x.birth ≤ p.stamp)

-- the table may be read by these keys at the point
abbrev pub CanReadBy : Point → By → Type 0
CanReadBy p by.Table = Unit {0}
CanReadBy p (by.Index i) = IsReadable p (index_of_found p.found i.0)

-- the path may be read at the point
abbrev pub CanLook : Point → Path → Type 0
CanLook p path = CanReadBy p path.by

-- the doubt is of an index among the point's definitions, and has a key of that index
pub record CanConsult (p : Point) (d : Doubt) : Type 0 where
  pub index : Index
  pub is : index_of_found p.found d.index.0 ≡ Some index
  pub key : IsKey most_key (columns_on (index_path p.found.table index)) d.key
