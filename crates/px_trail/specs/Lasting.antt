-- Which acts last in a folder, and when two trails tell a folder the same.
use Rattle.std.specs.Prelude.{◌≡◌, ℕ, Bool, true, false, List}
use Rattle.px_values.specs.declared.row.Value.{Value}
use Rattle.px_trail.specs.declared.entry.Act.{Act}
use Rattle.px_trail.specs.declared.entry.Act.TheVariants.{Made, IndexMade, IndexState, Dropped, Wrote}
use Rattle.px_trail.specs.declared.entry.Entry.{Entry}
use Rattle.px_trail.specs.Trail.{Base, catalogue_of}
use Rattle.px_trail.specs.States.{state_of}

-- a folder shows that the act came
abbrev pub lasts_by : Act → Bool
lasts_by (Made t what) = true
lasts_by (IndexMade t i s what) = true
lasts_by (IndexState t i state s) = true
lasts_by (Dropped t i) = true
lasts_by (Wrote t s rows) = true
lasts_by act = false

abbrev pub lasting : Entry → Bool
lasting e = lasts_by e.act

-- the trails tell the same of tables and indexes, and of the states of rows
pub record TellSame (b : Base) (es es' : List Entry) : Type 0 where
  pub catalogue : catalogue_of b es' ≡ catalogue_of b es
  pub states : (t : ℕ) (r : List Value) (p : ℕ) → state_of b es' t r p ≡ state_of b es t r p
