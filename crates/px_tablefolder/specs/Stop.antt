-- A stop of a table, as an event of the world of each row and index.
use Rattle.std.specs.Prelude.{◌≡◌, ℕ, ◌<◌, ◌≤◌, false, List, [], length, get_or, Option}
use Rattle.px_values.specs.declared.row.Value.{Value}
use Rattle.px_trail.specs.declared.entry.Entry.{Entry}
use Rattle.px_trail.specs.States.{state_of}
use Rattle.px_trail.specs.Trail.{Base, last_of}
use Rattle.px_world.specs.Shape.{WorldShape}
use Rattle.px_world.specs.World.{World, Written, is_undecided, st}
use Rattle.px_world.specs.Events.{Stop, happens, May}
use Rattle.px_world.specs.IndexCells.{world_index}
use Rattle.px_groupworld.specs.Group.{TableForm, GroupData, no_part, shape_in, world_in}
use Rattle.px_groupworld.specs.Sound.{IsSoundTable}
use Rattle.px_tablefolder.specs.Folder.{TableFiles, IsFolderBase, IsFolderOf, IsOpened, folder_high, folder_last}

-- what stays known of a world after a stop: its cells, its written changes with the states round them, and the states from `kept` on
pub record IsKnown {K S X : Type 0} (w w' : World K S X) : Type 0 where
  pub cells : world_index w' ≡ world_index w
  pub birth : w'.birth ≡ w.birth
  pub floor : w'.floor ≡ w.floor
  pub kept : w'.kept ≡ w.kept
  pub none : (s : ℕ) → is_undecided (w'.fate s) ≡ false
  pub changes : (s : ℕ) → w'.fate s ≡ Written → (w.fate s ≡ Written) × ((w'.old s ≡ w.old s) × (w'.new s ≡ w.new s))
  pub states : (p : ℕ) → w.kept ≤ p → st w' p ≡ st w p

-- the world stops, and goes on as what is known of it
pub record IsStop {K S X A : Type 0} (n : WorldShape K S X A) (o : Option ℕ) (h : ℕ) (w w' : World K S X) : Type 0 where
  pub may : May n w (Stop o h)
  pub known : IsKnown (happens n w (Stop o h)) w'
  pub raised : w'.raised ≡ h

-- the form of the table over the base of the next run
abbrev pub over_base : TableForm → Base → TableForm
over_base f b = record f { base = b }

-- for each index that is opened and each row, the stop is a stop of the world, at which the change that the row is given counts as written
pub record IsRestart (f : TableForm) (b : Base) (es : List Entry) (v u : GroupData) (n : TableFiles) (o : List Value → Option ℕ) : Type 0 where
  pub each : (i : ℕ) → i < length u.indexes → (j : ℕ) × ((j < length v.indexes) × (((get_or v.indexes j no_part).id ≡ (get_or u.indexes i no_part).id) × ((r : List Value) → IsStop (shape_in f v j r) (o r) (folder_high n) (world_in f es v j r) (world_in (over_base f b) [] u i r))))

-- the folder stands for the trail
pub record TableRecovers (f : TableForm) (b : Base) (es : List Entry) (high : ℕ) (n : TableFiles) : Type 0 where
  -- each row has the trail's states from the data horizon on
  pub states : (r : List Value) (p : ℕ) → n.horizon ≤ p → state_of b [] f.id.0 r p ≡ state_of f.base es f.id.0 r p
  pub high_falls : folder_high n ≤ high
  -- its last stamp is none that the trail doesn't have
  pub last_falls : folder_last n ≤ last_of f.base f.id.0 es

-- The table is sound over the base of the next run, which stands for the trail es', and the worlds after es stop
pub record Restarted (f : TableForm) (b : Base) (es : List Entry) (v u : GroupData) (n : TableFiles) (o : List Value → Option ℕ) (es' : List Entry) : Type 0 where
  pub sound : IsSoundTable (over_base f b) u
  pub stands : TableRecovers f b es' v.high n
  pub worlds : IsRestart f b es v u n o

-- Whatever the folder of the table `now` after es' is, and whatever is opened from it over whatever base of that folder: the
-- worlds of the table v after es stop, and the next run begins with what the trail es' tells
pub record Leaves (f : TableForm) (es : List Entry) (v now : GroupData) (o : List Value → Option ℕ) (es' : List Entry) : Type 0 where
  pub each : (n : TableFiles) (u : GroupData) (b : Base) → IsFolderOf f es' now n → IsOpened n u → IsFolderBase b f.id.0 f.rows n → Restarted f b es v u n o es'
