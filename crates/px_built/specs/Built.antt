-- What stays true of an index while it is built: the rows that were given their base versions have them.
use Rattle.std.specs.Prelude.{◌≡◌, ℕ, ◌≤◌, true, List, get_or, Option, None, Some}
use Rattle.px_values.specs.declared.row.Value.{Value}
use Rattle.px_trail.specs.declared.entry.Entry.{Entry}
use Rattle.px_calls.specs.Requires.{is_based}
use Rattle.px_world.specs.Shape.{WorldShape, has_key}
use Rattle.px_world.specs.World.{IsWorldDecided, Verified, World, st}
use Rattle.px_world.specs.Events.{Event, Begin, Mark, Write, Verify, End, Raise, Forget, Fix, Birth, Base, Ready, Stop}
use Rattle.px_groupworld.specs.Group.{GroupData, TableForm, no_part, shape_in, world_in}

-- at or below the birth nothing is undecided; and while the table's horizon isn't above it, a verified version stands there at the row's key
pub record HasBase {K S X A : Type 0} (n : WorldShape K S X A) (w : World K S X) : Type 0 where
  pub decided : IsWorldDecided w w.birth
  pub version : w.raised ≤ w.birth → (k : K) → has_key n k (st w w.birth) ≡ true → w.status k w.birth ≡ Verified

-- each row that an entry says was given its base version, since the birth of the index at the place
pub record IsBuiltBy (f : TableForm) (es : List Entry) (v : GroupData) (i : ℕ) : Type 0 where
  pub each : (r : List Value) → is_based es (get_or v.indexes i no_part).id r ≡ true → HasBase (shape_in f v i r) (world_in f es v i r)

-- the event is one of a run: it makes no index, and is no stop
abbrev pub IsOfRun : {K A : Type 0} → Option (Event K A) → Type 0
IsOfRun None = Unit {0}
IsOfRun (Some (Begin t a)) = Unit {0}
IsOfRun (Some (Mark t)) = Unit {0}
IsOfRun (Some (Write t)) = Unit {0}
IsOfRun (Some (Verify t)) = Unit {0}
IsOfRun (Some (End t)) = Unit {0}
IsOfRun (Some (Raise h)) = Unit {0}
IsOfRun (Some (Forget own)) = Unit {0}
IsOfRun (Some (Fix k t)) = Unit {0}
IsOfRun (Some (Birth b)) = ⊥
IsOfRun (Some Base) = Unit {0}
IsOfRun (Some Ready) = Unit {0}
IsOfRun (Some (Stop o h)) = ⊥
