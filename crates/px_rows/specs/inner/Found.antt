-- What is found in the sorted list of a row's cells.
use Rattle.std.specs.Prelude.{◌≡◌, ℕ, ◌<◌, ◌≤◌, Bool, false, cond, nat_le, ◌&&◌, ◌||◌, nat_eq, nat_lt, List, Option, Some, None, MatchOption}
use Rattle.std.specs.Borrow.{Bor}
use Rattle.std.specs.List.{AllByRecursion}
use Rattle.px_values.specs.declared.row.Value.{Value}
use Rattle.px_cells.specs.declared.kind.CellKind.{CellKind}
use Rattle.px_cells.specs.declared.kind.CellKind.TheVariants.{Put, DeleteFamily}
use Rattle.px_cells.specs.CellData.{CellData}
use Rattle.px_cells.specs.Contents.{Contents, value_at}
use Rattle.px_cells.specs.Kind.{code_of}
use Rattle.px_cells.specs.Sight.{seen_at}

-- the cell stands before those of the column at or below the point
abbrev pub is_before : ℕ → ℕ → CellData → Bool
is_before q p c = nat_lt c.qualifier q || (nat_eq c.qualifier q && nat_lt p c.stamp)

-- the newest cell of a column at or below a point, and of those of one stamp the first
pub record IsNewestCell (g : Contents) (k : List ℕ) (q p : ℕ) (c : CellData) : Type 0 where
  pub within : c.stamp ≤ p
  pub stands : g k q c.stamp c.kind ≡ Some c.value
  pub above : (u : ℕ) (d : CellKind) → c.stamp < u → u ≤ p → g k q u d ≡ None
  pub first : (d : CellKind) → code_of c.kind < code_of d → g k q c.stamp d ≡ None

-- the column has no cell at or below the point
pub record HasNoCell (g : Contents) (k : List ℕ) (q p : ℕ) : Type 0 where
  pub each : (u : ℕ) (d : CellKind) → u ≤ p → g k q u d ≡ None

-- all cells have the key
abbrev pub AreOf : List ℕ → List CellData → Type 0
AreOf k cells = AllByRecursion (λ c. c.key ≡ k) cells

-- it is the newest cell of the column, if there is one
abbrev pub FindsNewest : List CellData → List ℕ → ℕ → ℕ → Option (Bor CellData) → Type 0
FindsNewest cells k q p found = MatchOption found (HasNoCell (value_at cells) k q p) (λ c. IsNewestCell (value_at cells) k q p c.now)

-- the stamp of the newest DeleteFamily at or below the point
abbrev pub IsFamily : Contents → List ℕ → ℕ → Option ℕ → Type 0
IsFamily g k p None = (u : ℕ) → u ≤ p → g k 0 u DeleteFamily ≡ None
IsFamily g k p (Some s) = (s ≤ p) × ((v : List ℕ) × (g k 0 s DeleteFamily ≡ Some v)) × ((u : ℕ) → s < u → u ≤ p → g k 0 u DeleteFamily ≡ None)

-- the put of the column that the point sees
pub record IsSeen (g : Contents) (k : List ℕ) (q p : ℕ) (c : CellData) : Type 0 where
  pub seen : seen_at g k q p ≡ Some c.stamp
  pub value : g k q c.stamp Put ≡ Some c.value

abbrev pub FindsSeen : List CellData → List ℕ → ℕ → ℕ → Option (Bor CellData) → Type 0
FindsSeen cells k q p found = MatchOption found (seen_at (value_at cells) k q p ≡ None) (λ c. IsSeen (value_at cells) k q p c.now)

-- a DeleteFamily of this stamp hides a put
abbrev pub hidden_by : Option ℕ → ℕ → Bool
hidden_by None s = false
hidden_by (Some t) s = nat_le s t

-- the values of the first columns alone
abbrev pub first_of : ℕ → (ℕ → Option Value) → ℕ → Option Value
first_of n o c = cond (nat_lt c n) (o c) None
