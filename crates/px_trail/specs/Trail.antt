-- A trail: a base and a list of entries. What it tells of tables and indexes, stamps, horizons, points and device calls.
use Rattle.std.specs.Prelude.{◌≡◌, ◌≢◌, ◌<◌, ◌≤◌, ◌+◌, ◌-◌, ◌∷◌, [], ℕ, Bool, true, false, ◌&&◌, ◌==◌, if◌then◌else◌, max, map, length, List, Option, Some, None}
use Rattle.std.proofs.Common.{suc}
use Rattle.px_values.specs.declared.row.Value.{Value}
use Rattle.px_values.specs.declared.name.TableId.{TableId}
use Rattle.px_values.specs.declared.name.IndexId.{IndexId}
use Rattle.px_values.specs.States.{RowState, Shape}
use Rattle.px_tables.specs.declared.table.Table.{Table}
use Rattle.px_tables.specs.declared.table.NewTable.{NewTable}
use Rattle.px_tables.specs.declared.table.TableRegion.{TableRegion}
use Rattle.px_tables.specs.declared.index.Index.{Index}
use Rattle.px_tables.specs.declared.index.NewIndex.{NewIndex}
use Rattle.px_tables.specs.declared.index.IndexState.{IndexState as BuildState}
use Rattle.px_tables.specs.declared.index.IndexState.TheVariants.{Building, Active, Disabled}
use Rattle.px_trail.specs.declared.entry.Act.{Act}
use Rattle.px_trail.specs.declared.entry.Act.TheVariants.{Made, IndexMade, IndexState, Dropped, Begun, Opened, Released, Raised, Missed, Shut}
use Rattle.px_trail.specs.declared.entry.Entry.{Entry}

-- 1. The base

-- What stands before the first entry: the tables and indexes by their numbers, and the next number; of each table its
-- last stamp, its horizon and its data horizon; the state that the row of a key has at a point from the data horizon
-- on, and at which stamps it changes.
pub record Base : Type 0 where
  pub tables : ℕ → Option Table
  pub indexes : ℕ → Option Index
  pub next : ℕ
  pub last : ℕ → ℕ
  pub horizon : ℕ → ℕ
  pub data_horizon : ℕ → ℕ
  pub state : ℕ → List Value → ℕ → RowState
  pub changed : ℕ → List Value → ℕ → Bool

-- the states of a row change at stamps of changes alone, which are above 0 and at most the last
pub record IsBase (b : Base) (t : ℕ) (r : List Value) : Type 0 where
  pub above : b.changed t r 0 ≡ false
  pub within : (s : ℕ) → b.changed t r s ≡ true → s ≤ b.last t
  pub same : (p : ℕ) → b.changed t r (suc p) ≡ false → b.state t r (suc p) ≡ b.state t r p

-- 2. Tables and indexes

-- those that stand, by their numbers, and the next number
pub record Catalogue : Type 0 where
  pub tables : ℕ → Option Table
  pub indexes : ℕ → Option Index
  pub next : ℕ

-- f, but v at the number n
abbrev pub set_number : {A : Type 0} → ℕ → A → (ℕ → A) → ℕ → A
set_number n v f = λ m. if n == m then v else f m

-- regions with these least keys, numbered from n on
unfoldable pub numbered_regions : ℕ → List (List ℕ) → List TableRegion
numbered_regions n [] = []
numbered_regions n (k ∷ keys) = record { number = n; least_key = k } ∷ numbered_regions (n + 1) keys

-- a table takes a number for each of its regions, and then its own
abbrev pub made_table : ℕ → TableId → NewTable → Table
made_table n id what = record { id = id; name = what.name; columns = what.columns; key = what.key; regions = numbered_regions n what.least_keys }

-- an index takes a number for its region, and then its own
abbrev pub made_index : ℕ → IndexId → ℕ → NewIndex → Index
made_index n id stamp what = record { id = id; table = what.table; name = what.name; state = Building; birth = stamp; region = n; parts = what.parts; included = what.included }

-- an index in another state: one that is building again has a new birth and a new region
abbrev pub with_state : BuildState → ℕ → ℕ → Option Index → Option Index
with_state state stamp n None = None
with_state Building stamp n (Some x) = Some (record x { state = Building; birth = stamp; region = n })
with_state Active stamp n (Some x) = Some (record x { state = Active })
with_state Disabled stamp n (Some x) = Some (record x { state = Disabled })

-- how many numbers such an act takes
abbrev pub numbers_for : BuildState → ℕ
numbers_for Building = 1
numbers_for Active = 0
numbers_for Disabled = 0

-- the index, unless it is of that table
abbrev pub of_others : ℕ → Option Index → Option Index
of_others t None = None
of_others t (Some x) = if x.table.0 == t then None else Some x

-- what stands after one act more
unfoldable pub catalogue_step : Catalogue → Act → Catalogue
catalogue_step c (Made t what) = record c { tables = set_number t.0 (Some (made_table c.next t what)) c.tables; next = c.next + length what.least_keys + 1 }
catalogue_step c (IndexMade t i s what) = record c { indexes = set_number i.0 (Some (made_index c.next i s what)) c.indexes; next = c.next + 2 }
catalogue_step c (IndexState t i state s) = record c { indexes = set_number i.0 (with_state state s c.next (c.indexes i.0)) c.indexes; next = c.next + numbers_for state }
catalogue_step c (Dropped t None) = record c { tables = set_number t.0 None c.tables; indexes = λ i. of_others t.0 (c.indexes i) }
catalogue_step c (Dropped t (Some i)) = record c { indexes = set_number i.0 None c.indexes }
catalogue_step c act = c

-- the same after several entries
unfoldable pub catalogue_from : Catalogue → List Entry → Catalogue
catalogue_from c [] = c
catalogue_from c (e ∷ es) = catalogue_from (catalogue_step c e.act) es

-- the base's tables and indexes
abbrev pub base_catalogue : Base → Catalogue
base_catalogue b = record { tables = b.tables; indexes = b.indexes; next = b.next }

-- the tables and indexes that stand now
abbrev pub catalogue_of : Base → List Entry → Catalogue
catalogue_of b es = catalogue_from (base_catalogue b) es

-- the table of a number
abbrev pub table_of : Base → List Entry → ℕ → Option Table
table_of b es t = (catalogue_of b es).tables t

-- the index of a number
abbrev pub index_of : Base → List Entry → ℕ → Option Index
index_of b es i = (catalogue_of b es).indexes i

-- no table and no index has the name
pub record IsFreeName (c : Catalogue) (name : List ℕ) : Type 0 where
  pub tables : (t : ℕ) (x : Table) → c.tables t ≡ Some x → x.name ≢ name
  pub indexes : (i : ℕ) (x : Index) → c.indexes i ≡ Some x → x.name ≢ name

-- what stands has its number, below the next one, and each index is of a table that stands
pub record IsCatalogue (c : Catalogue) : Type 0 where
  pub tables : (t : ℕ) (x : Table) → c.tables t ≡ Some x → (x.id.0 ≡ t) × (t < c.next)
  pub indexes : (i : ℕ) (x : Index) → c.indexes i ≡ Some x → (x.id.0 ≡ i) × (i < c.next)
  pub owners : (i : ℕ) (x : Index) → c.indexes i ≡ Some x → (y : Table) × (c.tables x.table.0 ≡ Some y)

-- Of a base: what stands is right, the states of rows change at stamps of changes alone, and of a table that doesn't
-- stand nothing is known, so that one that is made begins with no stamp, no horizon and no row.
pub record IsRightBase (b : Base) : Type 0 where
  pub catalogue : IsCatalogue (base_catalogue b)
  pub rows : (t : ℕ) (r : List Value) → IsBase b t r
  pub last : (t : ℕ) → b.tables t ≡ None → b.last t ≡ 0
  pub horizon : (t : ℕ) → b.tables t ≡ None → (b.horizon t ≡ 0) × (b.data_horizon t ≡ 0)
  pub state : (t : ℕ) (r : List Value) (p : ℕ) → b.tables t ≡ None → b.state t r p ≡ None

-- 3. Shapes

-- the shape of a table, which it keeps
abbrev pub table_shape : Table → Shape
table_shape x = record { columns = length x.columns; key_columns = map (λ p. p.column) x.key }

-- the shape of a table that is made
abbrev pub new_shape : NewTable → Shape
new_shape what = record { columns = length what.columns; key_columns = map (λ p. p.column) what.key }

abbrev pub no_shape : Shape
no_shape = record { columns = 0; key_columns = [] }

-- the shape of the base's table
abbrev pub base_shape : Option Table → Shape
base_shape None = no_shape
base_shape (Some x) = table_shape x

-- a number is never used again, so a shape is found also where the table was dropped
unfoldable pub shape_step : ℕ → Shape → Act → Shape
shape_step t shape (Made t' what) = if t'.0 == t then new_shape what else shape
shape_step t shape act = shape

unfoldable pub shape_from : ℕ → Shape → List Entry → Shape
shape_from t shape [] = shape
shape_from t shape (e ∷ es) = shape_from t (shape_step t shape e.act) es

-- the shape of a table's rows
abbrev pub shape_of : Base → List Entry → ℕ → Shape
shape_of b es t = shape_from t (base_shape (b.tables t)) es

-- 4. Stamps and horizons

-- an index that is building draws a stamp
abbrev pub draws : BuildState → Bool
draws Building = true
draws Active = false
draws Disabled = false

abbrev pub last_step : ℕ → ℕ → Act → ℕ
last_step t l (Begun t' s cs) = if t'.0 == t then max l s else l
last_step t l (IndexMade t' i s what) = if t'.0 == t then max l s else l
last_step t l (IndexState t' i state s) = if (t'.0 == t) && draws state then max l s else l
last_step t l act = l

unfoldable pub last_from : ℕ → ℕ → List Entry → ℕ
last_from t l [] = l
last_from t l (e ∷ es) = last_from t (last_step t l e.act) es

-- the greatest stamp that was drawn of a table
abbrev pub last_of : Base → ℕ → List Entry → ℕ
last_of b t es = last_from t (b.last t) es

abbrev pub horizon_step : ℕ → ℕ → Act → ℕ
horizon_step t h (Raised t' h') = if t'.0 == t then h' else h
horizon_step t h act = h

unfoldable pub horizon_from : ℕ → ℕ → List Entry → ℕ
horizon_from t h [] = h
horizon_from t h (e ∷ es) = horizon_from t (horizon_step t h e.act) es

-- the latest horizon of a table
abbrev pub horizon_of : Base → ℕ → List Entry → ℕ
horizon_of b t es = horizon_from t (b.horizon t) es

-- 5. Points

unfoldable pub points_step : ℕ → ℕ → ℕ → ℕ → ℕ → Act → ℕ
points_step seat t s n seat' (Opened t' s' scn) = if (seat' == seat) && ((t'.0 == t) && (s' == s)) then n + 1 else n
points_step seat t s n seat' (Released t' s') = if (seat' == seat) && ((t'.0 == t) && (s' == s)) then n - 1 else n
points_step seat t s n seat' act = n

unfoldable pub points_from : ℕ → ℕ → ℕ → ℕ → List Entry → ℕ
points_from seat t s n [] = n
points_from seat t s n (e ∷ es) = points_from seat t s (points_step seat t s n e.seat e.act) es

-- how many points of this seat, table and stamp are open
abbrev pub open_points : ℕ → ℕ → ℕ → List Entry → ℕ
open_points seat t s es = points_from seat t s 0 es

-- 6. Device calls

-- the device calls finished before the newest entry
unfoldable pub calls_from : ℕ → List Entry → ℕ
calls_from n [] = n
calls_from n (e ∷ es) = calls_from e.calls es

abbrev pub calls_of : List Entry → ℕ
calls_of es = calls_from 0 es

abbrev pub closing_step : Option ℕ → Act → Option ℕ
closing_step None (Shut call) = Some call
closing_step o act = o

unfoldable pub closing_from : Option ℕ → List Entry → Option ℕ
closing_from o [] = o
closing_from o (e ∷ es) = closing_from (closing_step o e.act) es

-- the device call whose failure closed the server
abbrev pub closing_call : List Entry → Option ℕ
closing_call es = closing_from None es

abbrev pub missed_step : ℕ → Act → ℕ
missed_step n (Missed call) = call
missed_step n act = n

unfoldable pub missed_from : ℕ → List Entry → ℕ
missed_from n [] = n
missed_from n (e ∷ es) = missed_from (missed_step n e.act) es

-- the device call of the newest failed read, or 0
abbrev pub missed_call : List Entry → ℕ
missed_call es = missed_from 0 es

-- 7. Seats

-- the acts of a seat, in order
unfoldable pub acts_by : ℕ → List Entry → List Act
acts_by seat [] = []
acts_by seat (e ∷ es) = if e.seat == seat then e.act ∷ acts_by seat es else acts_by seat es
