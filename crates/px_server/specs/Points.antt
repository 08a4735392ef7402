-- Where a point may be opened.
use Rattle.std.specs.Prelude.{◌≡◌, ℕ, ◌<◌, ◌≤◌, ◌-◌, ◌&&◌, Bool, true, false, min, nat_le, Option, None, Some, is_some, slice_get}
use Rattle.px_phases.specs.Batch.{BatchData}
use Rattle.px_group.specs.declared.group.Begun.{Begun}
use Rattle.px_group.specs.declared.group.Group.{Group}
use Rattle.px_calls.specs.declared.fault.StepFault.{StepFault}
use Rattle.px_calls.specs.declared.fault.StepFault.TheVariants.{BelowHorizon, NotYet}

-- the batch is at or below the point, and is still to write its rows
abbrev pub is_left_at : ℕ → BatchData → Bool
is_left_at p b = nat_le b.stamp p && is_some b.puts

-- an open batch of this stamp is
pub record HasBatchLeft (g : Group) (p s : ℕ) : Type 0 where
  pub place : ℕ
  pub batch : Begun
  pub is : slice_get g.batches.items place ≡ Some batch
  pub stamp : batch.batch.stamp ≡ s
  pub left : is_left_at p batch.batch ≡ true

-- none is
abbrev pub HasNoneLeft : Group → ℕ → Type 0
HasNoneLeft g p = (n : ℕ) (x : Begun) → slice_get g.batches.items n ≡ Some x → is_left_at p x.batch ≡ false

-- the point of an SCN is at most the one below it
abbrev pub point_under : Group → ℕ → ℕ
point_under g scn = min (scn - 1) g.last

-- the stamp of a point: the last one, or under an SCN one at which all is written
abbrev pub IsPointOf : Group → Option ℕ → ℕ → Type 0
IsPointOf g None s = s ≡ g.last
IsPointOf g (Some scn) s = (s ≡ point_under g scn) × (g.horizon ≤ scn - 1) × HasNoneLeft g s

-- why there is none under the SCN
abbrev pub IsNoPointOf : Group → Option ℕ → StepFault → Type 0
IsNoPointOf g (Some scn) (BelowHorizon h) = (h ≡ g.horizon) × (scn - 1 < g.horizon)
IsNoPointOf g (Some scn) (NotYet s) = (g.horizon ≤ scn - 1) × HasBatchLeft g (point_under g scn) s
IsNoPointOf g scn f = ⊥
