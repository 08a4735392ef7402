-- The stamps of a trail, by the clock, and its horizons, by the lookback.
use Rattle.std.specs.Prelude.{◌≡◌, ◌<◌, ◌≤◌, ◌-◌, ◌+◌, ◌++◌, ◌∷◌, [], ℕ, IsTrue, if◌then◌else◌, List, Option, None, Some}
use Rattle.px_outside.specs.declared.clock.Clock.{Ghosts}
use Rattle.px_trail.specs.Trail.{Base, draws, last_of}
use Rattle.px_trail.specs.declared.entry.Act.{Act}
use Rattle.px_trail.specs.declared.entry.Act.TheVariants.{Begun, IndexMade, IndexState, Raised}
use Rattle.px_trail.specs.declared.entry.Entry.{Entry}
use Rattle.px_turns.specs.Turns.{drawn_stamp}

-- a stamp that is drawn of a table
pub record Draw : Type 0 where
  pub table : ℕ
  pub stamp : ℕ

abbrev pub draw : ℕ → ℕ → Draw
draw table stamp = record { table = table; stamp = stamp }

-- The stamp that an act draws: of a batch that begins, or of an index that is built from there on. All others name a stamp that was drawn before, or none.
abbrev pub draw_of : Act → Option Draw
draw_of (Begun table stamp changes) = Some (draw table.0 stamp)
draw_of (IndexMade table index stamp what) = Some (draw table.0 stamp)
draw_of (IndexState table index state stamp) = if draws state then Some (draw table.0 stamp) else None
draw_of act = None

-- A stamp that is drawn is the one behind its table's last by a number that the clock told, and the rest holds from the number behind it on.
abbrev pub IsStamped : (times : ℕ → ℕ) → (last : ℕ → ℕ) → (from to : ℕ) → Option Draw → (rest : ℕ → Type 0) → Type 0
IsStamped times last from to None rest = rest from
IsStamped times last from to (Some d) rest = (i : ℕ) × (from ≤ i) × (i < to) × (drawn_stamp (last d.table) (times i) ≡ Some d.stamp) × rest (i + 1)

-- Each stamp that these entries draw, behind those before, is the one behind its table's last by a number that the clock told: each by a later one, of
-- those at the places from one up to below another. A batch that is refused may have used up a number, so some are skipped.
unfoldable pub AreStamped : (times : ℕ → ℕ) → Base → (before : List Entry) → (from to : ℕ) → List Entry → Type 0
AreStamped times base before from to [] = from ≤ to
AreStamped times base before from to (e ∷ es) = IsStamped times (λ t. last_of base t before) from to (draw_of e.act) (λ n. AreStamped times base (before ++ e ∷ []) n to es)

-- A horizon that rises is at most the table's last stamp less the lookback
abbrev pub IsBack : ℕ → (last : ℕ → ℕ) → Act → Type 0
IsBack lookback last (Raised t h) = h ≤ last t.0 - lookback
IsBack lookback last act = Unit {0}

-- So is each of these entries, behind those before
unfoldable pub AreBack : ℕ → Base → (before : List Entry) → List Entry → Type 0
AreBack lookback base before [] = Unit {0}
AreBack lookback base before (e ∷ es) = IsBack lookback (λ t. last_of base t before) e.act × AreBack lookback base (before ++ e ∷ []) es

-- So far all stamps are by the clock, which had these numbers to tell at the beginning, and has told some of them; and all horizons are by the lookback
-- that was asked for.
pub record IsByClock {C : Type 0} (c : Ghosts C) (times : ℕ → ℕ) (base : Base) (asked lookback : ℕ) (clock : C) (es : List Entry) : Type 0 where
  pub stamped : IsTrue c.tells → (n : ℕ) × AreStamped times base [] 0 n es × ((m : ℕ) → c.times clock m ≡ times (m + n))
  pub back : AreBack asked base [] es
  pub as_asked : lookback ≡ asked
