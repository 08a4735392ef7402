-- Which path a query takes.
use Rattle.std.specs.Prelude.{◌≡◌, ◌⊎◌, ◌<◌, ℕ, Bool, true, false, if◌then◌else◌, ◌&&◌, nat_eq, nat_le, List, [], ◌∷◌, ◌++◌, map, length, drop, Option, Some, None}
use Rattle.std.specs.List.{All, filter}
use Rattle.std.specs.Option.{is_some}
use Rattle.std.specs.Str.{bytes_eq}
use Rattle.px_values.specs.declared.order.Direction.{Direction}
use Rattle.px_values.specs.declared.order.Direction.TheVariants.{Ascending, Descending}
use Rattle.px_expr.specs.declared.bound.Bound.{Bound}
use Rattle.px_tables.specs.declared.index.Index.{Index}
use Rattle.px_tables.specs.declared.index.IndexState.{IndexState}
use Rattle.px_tables.specs.declared.index.IndexState.TheVariants.{Active}
use Rattle.px_tables.specs.declared.table.KeyPlace.{KeyPlace}
use Rattle.px_tables.specs.declared.table.Table.{Table}
use Rattle.px_bind.specs.declared.request.Hint.{Hint}
use Rattle.px_bind.specs.declared.request.Hint.TheVariants as hints
use Rattle.px_ranges.specs.declared.leading.Leading.{Leading}
use Rattle.px_paths.specs.declared.path.PathColumn.{PathColumn}
use Rattle.px_conjuncts.specs.Paths.{leading_of}
use Rattle.px_plan.specs.PathColumns.{path_of}
use Rattle.px_plan.specs.Naming.{holds_all}
use Rattle.px_plan.specs.declared.rank.Rank.{Rank}

-- ---- candidates. The point is a stamp; a current one has none

abbrev pub is_active : IndexState → Bool
is_active Active = true
is_active state = false

abbrev pub is_born : Option ℕ → ℕ → Bool
is_born None birth = true
is_born (Some point) birth = nat_le birth point

abbrev pub is_usable : Option ℕ → Index → Bool
is_usable point i = is_active i.state && is_born point i.birth

-- the data table first, then the usable indexes that hold these columns, in order of number
abbrev pub candidates : Table → Option ℕ → List ℕ → List Index → List (Option Index)
candidates t point columns indexes = None ∷ map Some (filter (λ i. is_usable point i && holds_all t i columns) indexes)

-- ---- which of two is better

abbrev pub same_direction : Direction → Direction → Bool
same_direction Ascending Ascending = true
same_direction Descending Descending = true
same_direction a b = false

-- these columns begin with those of an ORDER BY, in the same directions
abbrev pub begins_with : List PathColumn → List KeyPlace → Bool
begins_with path [] = true
begins_with [] (o ∷ order) = false
begins_with (p ∷ path) (o ∷ order) = nat_eq p.place o.column && (same_direction p.column.direction o.direction && begins_with path order)

-- what the conjuncts say of a path
abbrev pub leading_by : Table → List Bound → Option Index → Leading
leading_by t conjuncts by = leading_of (path_of t by) conjuncts

-- how many leading columns have a value, whether the next has bounds, and whether the columns behind the equal ones have
-- the ORDER BY's order
abbrev pub rank_on : List PathColumn → List Bound → List KeyPlace → Rank
rank_on path conjuncts order =
    let l = leading_of path conjuncts in record { equal = length l.equal; bounded = is_some l.span; ordered = begins_with (drop (length l.equal) path) order }

abbrev pub rank_of : Table → List Bound → List KeyPlace → Option Index → Rank
rank_of t conjuncts order by = rank_on (path_of t by) conjuncts order

abbrev pub OnlyTheFirst : Bool → Bool → Type 0
OnlyTheFirst a b = (a ≡ true) × (b ≡ false)

-- more EQUAL, else RANGE, else the order of the ORDER BY
abbrev pub IsBetter : Rank → Rank → Type 0
IsBetter a b =
    (b.equal < a.equal)
    ⊎ ((a.equal ≡ b.equal) × (OnlyTheFirst a.bounded b.bounded ⊎ ((a.bounded ≡ b.bounded) × OnlyTheFirst a.ordered b.ordered)))

-- the first of these than which none is better
pub record IsBest (rank : Option Index → Rank) (choices : List (Option Index)) (by : Option Index) : Type 0 where
  pub before : List (Option Index)
  pub behind : List (Option Index)
  pub stands : choices ≡ before ++ by ∷ behind
  pub best : All (λ c. IsBetter (rank c) (rank by) → ⊥) choices
  pub first : All (λ c. IsBetter (rank by) (rank c)) before

-- ---- hints

-- the index of this name
abbrev pub index_named : List Index → List ℕ → Option Index
index_named [] name = None
index_named (i ∷ indexes) name = if bytes_eq i.name name then Some i else index_named indexes name

abbrev pub if_usable : Option ℕ → Option Index → Option (Option Index)
if_usable point None = None
if_usable point (Some i) = if is_usable point i then Some (Some i) else None

-- where a hint leads, if it can be followed
abbrev pub followed_hint : List Index → Option ℕ → Hint → Option (Option Index)
followed_hint indexes point hints.NoIndex = Some None
followed_hint indexes point (hints.Index name) = if_usable point (index_named indexes name)

abbrev pub path_or_else : Option (Option Index) → Option (Option Index) → Option (Option Index)
path_or_else (Some by) other = Some by
path_or_else None other = other

-- of several the first that can be followed
abbrev pub hinted : List Index → Option ℕ → List Hint → Option (Option Index)
hinted indexes point [] = None
hinted indexes point (h ∷ hs) = path_or_else (followed_hint indexes point h) (hinted indexes point hs)

-- ---- the choice

-- a hinted index holds the columns
abbrev pub HoldsAll : Table → List ℕ → Option Index → Type 0
HoldsAll t columns None = Unit {0}
HoldsAll t columns (Some i) = holds_all t i columns ≡ true

-- the hinted path, where one can be followed, and else the best candidate
abbrev pub TakesPath : (hint : Option (Option Index)) → Table → List ℕ → (best : Option Index → Type 0) → Option Index → Type 0
TakesPath None t columns best by = best by
TakesPath (Some hinted) t columns best by = (by ≡ hinted) × HoldsAll t columns by

-- the hinted index lacks a column
abbrev pub Lacks : (hint : Option (Option Index)) → Table → List ℕ → Type 0
Lacks (Some (Some i)) t columns = holds_all t i columns ≡ false
Lacks hint t columns = ⊥
