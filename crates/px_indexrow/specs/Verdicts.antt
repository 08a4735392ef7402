-- What a repair of a version does, by what is told of the version and its row.
use Rattle.std.specs.Prelude.{◌≡◌, ℕ, ◌<◌, ◌≤◌, Bool, true, false, cond, not, nat_eq, nat_lt, List, Option, None, length, get_or}
use Rattle.std.specs.Cmp.Lexicographic.{pointwise}
use Rattle.std.specs.Option.{option_copied}
use Rattle.px_world.specs.Shape.{all_below, is_key_there, same_cell}
use Rattle.px_values.specs.States.{RowState}
use Rattle.px_values.specs.declared.row.Value.{Value}
use Rattle.px_world.specs.Events.{Verdict, Leave, ToVerify, ToRetire, ToErase}
use Rattle.px_world.specs.World.{Fate, Unbegun, Undecided, Written, Lost, World, horizon, is_undecided, st, vis}
use Rattle.px_forms.specs.Indexes.{IndexForm}
use Rattle.px_indexrow.specs.declared.doubt.ChangeFate.{ChangeFate}
use Rattle.px_indexrow.specs.declared.doubt.ChangeFate.TheVariants as fates
use Rattle.px_indexrow.specs.declared.doubt.Repair.{Repair}
use Rattle.px_indexrow.specs.declared.doubt.Repair.TheVariants as repairs
use Rattle.px_indexrow.specs.declared.doubt.Told.{Told}
use Rattle.px_indexrow.specs.declared.doubt.Version.{Version}

-- the world's name of a repair
abbrev pub verdict_of : Repair → Verdict
verdict_of repairs.Leave = Leave
verdict_of repairs.Verify = ToVerify
verdict_of repairs.Retire = ToRetire
verdict_of repairs.Erase = ToErase

-- what became of a change; one that never began is as one that was lost
abbrev pub fate_of : Fate → ChangeFate
fate_of Unbegun = fates.Lost
fate_of Undecided = fates.Undecided
fate_of Written = fates.Written
fate_of Lost = fates.Lost

-- the change is undecided
abbrev pub is_open : ChangeFate → Bool
is_open fates.Undecided = true
is_open fates.Written = false
is_open fates.Lost = false

-- the version's key is this one
abbrev pub is_key : Version → Option (List ℕ) → Bool
is_key v k = is_key_there (pointwise nat_eq) v.key.now k

-- This is told of the version and its row in the world of the row and the index. At or below the horizon only whether the
-- change is undecided has to be known of it, and above it nothing that the horizon sees.
pub record Tells (f : IndexForm) (r : List Value) (w : World (List ℕ) RowState (List ℕ)) (v : Version) (x : Told) : Type 0 where
  pub undecided : is_undecided (w.fate v.stamp) ≡ is_open x.fate
  pub fate : x.horizon < v.stamp → fate_of (w.fate v.stamp) ≡ x.fate
  pub horizon : horizon w ≡ x.horizon
  pub floor : w.floor ≡ x.floor
  pub new_key : x.horizon < v.stamp → w.fate v.stamp ≡ Written → is_key v (f.key_of r (w.new v.stamp)) ≡ is_key v (option_copied x.new_key)
  pub horizon_key : v.stamp ≤ x.horizon → is_key v (f.key_of r (st w x.horizon)) ≡ is_key v (option_copied x.horizon_key)
  pub count : v.stamp ≤ x.horizon → length v.values.now ≡ f.columns
  pub values : v.stamp ≤ x.horizon → (c : ℕ) → c < f.columns → get_or v.values.now c None ≡ vis w v.key.now x.horizon c
  pub horizon_values : v.stamp ≤ x.horizon → (c : ℕ) → c < f.columns → get_or x.horizon_values.now c None ≡ f.col (st w x.horizon) c

-- at or below the horizon: the row's state there decides
abbrev pub due_below : Version → Told → Verdict
due_below v x =
    cond (not (is_key v (option_copied x.horizon_key))) ToRetire
    (cond (all_below (length v.values.now) (λ c. same_cell (pointwise nat_eq) (get_or v.values.now c None) (get_or x.horizon_values.now c None))) ToVerify
    (cond (nat_lt x.floor v.stamp) ToErase ToVerify))

-- what is due by what is told
abbrev pub due_told : ChangeFate → Version → Told → Verdict
due_told fates.Undecided v x = Leave
due_told fates.Written v x = cond (nat_lt x.horizon v.stamp) (cond (is_key v (option_copied x.new_key)) ToVerify ToRetire) (due_below v x)
due_told fates.Lost v x = cond (nat_lt x.horizon v.stamp) ToErase (due_below v x)
