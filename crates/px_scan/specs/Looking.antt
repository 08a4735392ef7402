-- How many rows of tables a query by an index looks at.
use Rattle.std.specs.Prelude.{ℕ, ◌≡◌, ◌≤◌, ◌<◌, ◌+◌, ◌*◌, ◌⊎◌, Bool, List, [], ◌∷◌}
use Rattle.px_values.specs.declared.name.IndexId.{IndexId}
use Rattle.px_calls.specs.declared.query.By.TheVariants as by
use Rattle.px_calls.specs.declared.query.Chunk.{Chunk}
use Rattle.px_calls.specs.declared.query.FoundKey.{FoundKey}
use Rattle.px_calls.specs.declared.query.FoundKey.TheVariants.{InDoubt, Sure}
use Rattle.px_calls.specs.declared.query.Point.{Point}
use Rattle.px_calls.specs.Calls.{DidLook}
use Rattle.px_calls.specs.Doubtful.{AreDoubtful, IndexVersion}
use Rattle.px_calls.specs.Known.{Known}
use Rattle.px_scan.specs.declared.keys.Stop.{Stop}
use Rattle.px_scan.specs.declared.keys.Stop.TheVariants as stop
use Rattle.px_scan.specs.declared.machine.QueryState.{QueryState}
use Rattle.px_scan.specs.declared.machine.QueryState.TheVariants as state
use Rattle.px_scan.specs.Chains.{QueryStep}

-- how many of the keys are in doubt
abbrev pub doubts_in : List FoundKey → ℕ
doubts_in [] = 0
doubts_in (Sure f ∷ fs) = doubts_in fs
doubts_in (InDoubt d ∷ fs) = 1 + doubts_in fs

-- where the sure keys end at a doubt, that one is gone through too
abbrev pub HasFewerDoubts : List FoundKey → List FoundKey → Stop → Type 0
HasFewerDoubts old new (stop.Doubt d) = doubts_in new < doubts_in old
HasFewerDoubts old new s = Unit {0}

-- where the next step is a look, it is by an index
abbrev pub IsByIndex : QueryState → Type 0
IsByIndex (state.Looking x after) = (i : IndexId) × (x.path.by ≡ by.Index i)
IsByIndex s = Unit {0}

-- the rows that the next step may look at, where it is by an index: one where it asks the row of a doubt, or repairs its index row
abbrev pub asked_by : QueryState → ℕ
asked_by (state.Consulting x rest d) = 1
asked_by (state.Fixing x rest d) = 1
asked_by s = 0

-- the rows that are still to be looked at while no more doubts are found and no repair is refused: two for each doubt, one once it was consulted
abbrev pub to_look : QueryState → ℕ
to_look (state.Consulting x rest d) = 2 + 2 * doubts_in rest.keys.items
to_look (state.Fixing x rest d) = 1 + 2 * doubts_in rest.keys.items
to_look (state.Settling x rest d) = 1 + 2 * doubts_in rest.keys.items
to_look s = 0

-- a repair was refused until upkeep is idle
abbrev pub refused_to : QueryState → QueryState → ℕ
refused_to (state.Fixing x rest d) (state.Settling y rest' d') = 1
refused_to old new = 0

-- So many doubts were found by the step, after which these versions are in doubt: those of a chunk, if it made a look that wasn't refused. Each of them is
-- of a version that is in doubt at the point
abbrev pub HasFoundDoubts : Type 0 → QueryState → Known → Known → (Point → IndexVersion → Bool) → ℕ → Type 0
HasFoundDoubts sound (state.Looking x after) k k' f n = (n ≡ 0) ⊎ ((c : Chunk) × DidLook sound k k' x.point x.path after c × (sound → AreDoubtful f x.point c.found) × (n ≡ doubts_in c.found))
HasFoundDoubts sound s k k' f n = n ≡ 0

-- a step by an index before which m rows were looked at, and n after it, when these versions are in doubt
pub record Looks (sound : Type 0) (old : QueryState) (k : Known) (m : ℕ) (new : QueryState) (k' : Known) (n : ℕ) (f : Point → IndexVersion → Bool) : Type 0 where
  pub asked : n ≤ m + asked_by old
  pub doubts : ℕ
  pub found : HasFoundDoubts sound old k k' f doubts
  pub left : n + to_look new ≤ m + to_look old + 2 * doubts + refused_to old new

-- each of the steps is one of a query by an index, with no step of others between them
abbrev pub AreLooking : Type 0 → ℕ → QueryState → List QueryStep → Type 0
AreLooking sound m s [] = Unit {0}
AreLooking sound m s (o ∷ os) = Looks sound s o.before m o.state o.after o.looked o.doubtful × AreLooking sound o.looked o.state os

-- how many rows were looked at in the end
abbrev pub looked_after : ℕ → List QueryStep → ℕ
looked_after m [] = m
looked_after m (o ∷ os) = looked_after o.looked os

-- how many repairs were refused
abbrev pub refused_in : QueryState → List QueryStep → ℕ
refused_in s [] = 0
refused_in s (o ∷ os) = refused_to s o.state + refused_in o.state os

-- so many doubts were found in all
abbrev pub HaveFoundDoubts : Type 0 → QueryState → List QueryStep → ℕ → Type 0
HaveFoundDoubts sound s [] n = n ≡ 0
HaveFoundDoubts sound s (o ∷ os) n = (one : ℕ) × (others : ℕ) × HasFoundDoubts sound s o.before o.after o.doubtful one × HaveFoundDoubts sound o.state os others × (n ≡ one + others)
