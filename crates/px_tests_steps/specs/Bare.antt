-- A server without a table.
use Rattle.std.specs.Prelude.{true, false, List, [], ◌∷◌, None, Some, pos}
use Rattle.px_values.specs.declared.change.Change.{Change}
use Rattle.px_values.specs.declared.change.What.TheVariants.{Gone}
use Rattle.px_values.specs.declared.row.Value.TheVariants.{Number}
use Rattle.px_tables.specs.declared.table.Table.{Table}
use Rattle.px_trail.specs.Trail.{Base}
use Rattle.px_calls.specs.declared.query.By.TheVariants as bys
use Rattle.px_calls.specs.Known.{Known}
use Rattle.px_gather.specs.Query.{Query}

-- no table stands, and four numbers were drawn
abbrev pub empty : Base
empty = record {
  tables = λ t. None;
  indexes = λ i. None;
  next = 4;
  last = λ t. 0;
  horizon = λ t. 0;
  data_horizon = λ t. 0;
  state = λ t r p. None;
  changed = λ t r p. false;
}

abbrev pub bare : Known
bare = record { seat = 1; base = empty; damaged = λ file place. false; alone = true; seen = [] }

-- the table that a query was bound to, which doesn't stand
abbrev pub gone : Table
gone = record { id = record { 0 = 3 }; name = []; columns = []; key = []; regions = [] }

-- all rows of it
abbrev pub all_rows : Query
all_rows = record { table = 3; bound = gone; meets = λ row. true; named = λ row. row; limit = None; joins = λ found stamp. false; takes = λ found stamp. Some bys.Table }

-- one change: the row with key 1 goes
abbrev pub one_gone : List Change
one_gone = record { row = Number (pos 1) ∷ []; what = Gone } ∷ []
