-- What stands in the tables, as one session alone sees it: each batch is done at once.
use Rattle.std.specs.Prelude.{ℕ, ◌≡◌, ◌≢◌, ◌<◌, ◌≤◌, ◌-◌, ◌++◌, ◌↔◌, min, List, [], ◌∷◌, Option, None, Some}
use Rattle.px_values.specs.States.{RowState, Shape}
use Rattle.px_values.specs.declared.row.Value.{Value}
use Rattle.px_tables.specs.declared.found.Found.{Found}
use Rattle.px_tables.specs.declared.index.Index.{Index}
use Rattle.px_tables.specs.declared.table.Table.{Table}
use Rattle.px_trail.specs.Answers.{IsAmong}
use Rattle.px_trail.specs.States.{Dated, applied, begun_by, greatest_stamp, key_in}
use Rattle.px_trail.specs.Trail.{Base, Catalogue, base_catalogue, base_shape, catalogue_step, horizon_step, last_step, shape_step}
use Rattle.px_trail.specs.declared.entry.Act.{Act}
use Rattle.px_trail.specs.declared.entry.Act.TheVariants.{Made, IndexMade, IndexState, Dropped, Begun, Raised}
use Rattle.px_calls.specs.Calls.{AreRising}

-- ---- 1. What stands

-- What stood at first; the tables and indexes; the shape of each table's rows, its last stamp and its horizon; and the changes of each row since then,
-- each with its stamp, in order
pub record Tables : Type 0 where
  pub first : Base
  pub catalogue : Catalogue
  pub shapes : ℕ → Shape
  pub last : ℕ → ℕ
  pub horizon : ℕ → ℕ
  pub changes : ℕ → List Value → List Dated

-- what stands at first
abbrev pub tables_first : Base → Tables
tables_first b = record { first = b; catalogue = base_catalogue b; shapes = λ t. base_shape (b.tables t); last = b.last; horizon = b.horizon; changes = λ t r. [] }

-- after a definition
abbrev pub defined : Tables → Act → Tables
defined x act = record x { catalogue = catalogue_step x.catalogue act; shapes = λ t. shape_step t (x.shapes t) act; last = λ t. last_step t (x.last t) act }

-- after a batch: each of its rows has its change
abbrev pub changed : Tables → Act → Tables
changed x act = record x { last = λ t. last_step t (x.last t) act; changes = λ t r. x.changes t r ++ begun_by t r act }

-- after a horizon that rose
abbrev pub raised : Tables → Act → Tables
raised x act = record x { horizon = λ t. horizon_step t (x.horizon t) act }

-- After an act: a batch that begins is done at once, and all that it does later is nothing more. No other act changes what stands
abbrev pub after : Tables → Act → Tables
after x (Made t what) = defined x (Made t what)
after x (IndexMade t i s what) = defined x (IndexMade t i s what)
after x (IndexState t i state s) = defined x (IndexState t i state s)
after x (Dropped t i) = defined x (Dropped t i)
after x (Begun t s cs) = changed x (Begun t s cs)
after x (Raised t h) = raised x (Raised t h)
after x act = x

-- after some acts
unfoldable pub after_all : Tables → List Act → Tables
after_all x [] = x
after_all x (act ∷ acts) = after_all (after x act) acts

-- ---- 2. What is read of it

-- a table of this name, with all of its indexes in order of number
pub record HasTable (x : Tables) (f : Found) (name : List ℕ) : Type 0 where
  pub table : x.catalogue.tables f.table.id.0 ≡ Some f.table
  pub named : f.table.name ≡ name
  pub indexes : (i : Index) → IsAmong i f.indexes ↔ ((x.catalogue.indexes i.id.0 ≡ Some i) × (i.table.0 ≡ f.table.id.0))
  pub rising : AreRising f.indexes

-- no table has this name
abbrev pub HasNoTable : Tables → List ℕ → Type 0
HasNoTable x name = (t : ℕ) (y : Table) → x.catalogue.tables t ≡ Some y → y.name ≢ name

-- the state of a row as of a stamp: its first one after the changes up to the stamp
abbrev pub state_in : Tables → ℕ → List Value → ℕ → RowState
state_in x t r p = applied (x.shapes t) r p (x.first.state t r p) (x.changes t r)

-- the row is in the table as of a stamp
abbrev pub IsIn : Tables → ℕ → ℕ → List Value → Type 0
IsIn x t p row = state_in x t (key_in (x.shapes t) row) p ≡ Some row

-- The stamp as of which a SELECT is answered: under an SCN the lesser of the one below it and the last one; and else now
abbrev pub stamp_of : Tables → ℕ → Option ℕ → ℕ
stamp_of x t None = greatest_stamp
stamp_of x t (Some scn) = min (scn - 1) (x.last t)

-- and that of its point, at which its path is chosen
abbrev pub point_stamp : Tables → ℕ → Option ℕ → ℕ
point_stamp x t None = x.last t
point_stamp x t (Some scn) = min (scn - 1) (x.last t)

-- it isn't below the horizon
abbrev pub IsKept : Tables → ℕ → Option ℕ → Type 0
IsKept x t None = Unit {0}
IsKept x t (Some scn) = x.horizon t ≤ scn - 1

-- the stamp is behind the last one of the table
abbrev pub IsStampDrawn : Tables → ℕ → ℕ → Type 0
IsStampDrawn x t s = x.last t < s
