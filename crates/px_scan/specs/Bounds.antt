-- How many steps a query has left.
use Rattle.std.specs.Prelude.{ℕ, ◌≡◌, ◌≤◌, ◌<◌, ◌+◌, ◌*◌, ◌⊎◌, Option, None, Some, List, [], ◌∷◌, length}
use Rattle.px_calls.specs.declared.query.Chunk.{Chunk}
use Rattle.px_calls.specs.declared.query.FoundKey.{FoundKey}
use Rattle.px_calls.specs.Calls.{DidLook}
use Rattle.px_calls.specs.Known.{Known}
use Rattle.px_scan.specs.declared.answer.QueryTurn.{QueryTurn}
use Rattle.px_scan.specs.declared.answer.QueryTurn.TheVariants as turn
use Rattle.px_scan.specs.declared.keys.Stop.{Stop}
use Rattle.px_scan.specs.declared.keys.Stop.TheVariants as stop
use Rattle.px_scan.specs.declared.machine.QueryState.{QueryState}
use Rattle.px_scan.specs.declared.machine.QueryState.TheVariants as state
use Rattle.px_scan.specs.Chains.{QueryStep}

-- behind the keys of a chunk: a look where there are more keys, and the closing
abbrev pub behind : Option (List ℕ) → ℕ
behind None = 1
behind (Some last) = 2

-- behind these keys of a chunk, each of which may be in doubt, and is then consulted and fixed
abbrev pub through : List FoundKey → Option (List ℕ) → ℕ
through keys next = 2 * length keys + behind next

-- the steps that are left at most while no more keys are found, but those that don't count
abbrev pub left_of : QueryState → ℕ
left_of (state.Opening rows) = 3
left_of (state.Looking x after) = 2
left_of (state.Consulting x rest d) = 2 + through rest.keys.items rest.next
left_of (state.Fixing x rest d) = 1 + through rest.keys.items rest.next
left_of (state.Settling x rest d) = 1 + through rest.keys.items rest.next
left_of (state.Closing p end) = 1
left_of state.Over = 0

-- A step counts unless it waits, is one of upkeep, or is a repair that is refused until upkeep is idle
abbrev pub counted : QueryState → QueryState → QueryTurn → ℕ
counted (state.Settling x rest d) new t = 0
counted (state.Fixing x rest d) (state.Settling y rest' d') t = 0
counted (state.Opening rows) new (turn.Waiting stamp) = 0
counted old new t = 1

-- so many keys were found by the step: those of a chunk, if it made a look that wasn't refused
abbrev pub HasFound : Type 0 → QueryState → Known → Known → ℕ → Type 0
HasFound sound (state.Looking x after) k k' n = (n ≡ 0) ⊎ ((c : Chunk) × DidLook sound k k' x.point x.path after c × (n ≡ length c.found))
HasFound sound s k k' n = n ≡ 0

-- a step that counts takes one of the steps that are left, and each key that it finds brings three at most
pub record Spends (sound : Type 0) (old : QueryState) (k : Known) (new : QueryState) (k' : Known) (t : QueryTurn) : Type 0 where
  pub keys : ℕ
  pub found : HasFound sound old k k' keys
  pub left : left_of new + counted old new t ≤ left_of old + 3 * keys

-- where the sure keys end at a doubt, that key is gone through too
abbrev pub AreFewer : List FoundKey → List FoundKey → Stop → Type 0
AreFewer old new (stop.Doubt d) = length new < length old
AreFewer old new s = Unit {0}

-- each of the steps is one of a query
abbrev pub AreSpending : Type 0 → QueryState → List QueryStep → Type 0
AreSpending sound s [] = Unit {0}
AreSpending sound s (o ∷ os) = Spends sound s o.before o.state o.after o.turn × AreSpending sound o.state os

-- how many of the steps count
abbrev pub counted_in : QueryState → List QueryStep → ℕ
counted_in s [] = 0
counted_in s (o ∷ os) = counted s o.state o.turn + counted_in o.state os

-- so many keys were found in all
abbrev pub HaveFound : Type 0 → QueryState → List QueryStep → ℕ → Type 0
HaveFound sound s [] n = n ≡ 0
HaveFound sound s (o ∷ os) n = (one : ℕ) × (others : ℕ) × HasFound sound s o.before o.after one × HaveFound sound o.state os others × (n ≡ one + others)
