-- The turns of a table, and what each call makes of them.
use Rattle.std.specs.Prelude.{◌≡◌, ◌⊎◌, ◌<◌, ◌≤◌, ◌+◌, ◌-◌, ◌++◌, ◌∷◌, [], ℕ, Bool, true, false, nat_eq, if◌then◌else◌, max, min, nat_le, nat_lt, List, Option, Some, None, length, take, drop, slice_index}
use Rattle.std.specs.Cmp.Lexicographic.{pointwise}

-- the last stamp, the horizon, of each row the stamps of the batches that are still to write it, the batches that
-- are undecided and those that are unclosed, and how many points are open at each stamp
pub record Turning : Type 0 where
  pub last : ℕ
  pub horizon : ℕ
  pub pending : List ℕ → List ℕ
  pub undecided : ℕ → Bool
  pub unclosed : ℕ → Bool
  pub points : ℕ → ℕ

-- f, but v at the row
abbrev pub at_row : {A : Type 0} → List ℕ → A → (List ℕ → A) → List ℕ → A
at_row key v f = λ k. if pointwise nat_eq key k then v else f k

-- f, but v at the stamp
abbrev pub at_stamp : {A : Type 0} → ℕ → A → (ℕ → A) → ℕ → A
at_stamp s v f = λ u. if nat_eq s u then v else f u

-- one batch more is to write the row
abbrev pub stamp_added : List ℕ → ℕ → (List ℕ → List ℕ) → List ℕ → List ℕ
stamp_added key stamp f = at_row key (f key ++ stamp ∷ []) f

-- the first of those that are to write it has done so
abbrev pub first_dropped : List ℕ → (List ℕ → List ℕ) → List ℕ → List ℕ
first_dropped key f = at_row key (drop 1 (f key)) f

abbrev pub last_dropped : List ℕ → (List ℕ → List ℕ) → List ℕ → List ℕ
last_dropped key f = at_row key (take (length (f key) - 1) (f key)) f

abbrev pub greatest_stamp : ℕ
greatest_stamp = 9223372036854775807

-- the stamp that is drawn: the greater of the next one and the clock, which counts as at most 2 ^ 62
abbrev pub drawn_at : ℕ → Option ℕ
drawn_at n = if nat_le n greatest_stamp then Some n else None

abbrev pub drawn_stamp : ℕ → ℕ → Option ℕ
drawn_stamp last clock = drawn_at (max (last + 1) (min clock 4611686018427387904))

-- the greatest of the numbers, or 0
abbrev pub greatest : List ℕ → ℕ
greatest [] = 0
greatest (x ∷ xs) = max x (greatest xs)

-- one batch more is to write these rows
unfoldable pub rows_added : List (List ℕ) → ℕ → (List ℕ → List ℕ) → List ℕ → List ℕ
rows_added [] stamp f = f
rows_added (k ∷ keys) stamp f = rows_added keys stamp (stamp_added k stamp f)

-- the first of those that are to write these rows has done so
unfoldable pub rows_dropped : List (List ℕ) → (List ℕ → List ℕ) → List ℕ → List ℕ
rows_dropped [] f = f
rows_dropped (k ∷ keys) f = rows_dropped keys (first_dropped k f)

-- the number is in the list
unfoldable pub IsIn : {A : Type 0} → A → List A → Type 0
IsIn x [] = ⊥
IsIn x (y ∷ ys) = (y ≡ x) ⊎ IsIn x ys

-- no batch with an earlier stamp is to write one of the rows
pub record IsFree (f : List ℕ → List ℕ) (stamp : ℕ) (keys : List (List ℕ)) : Type 0 where
  pub each : (k : List ℕ) → IsIn k keys → (s : ℕ) → IsIn s (f k) → stamp ≤ s

-- the batch of the stamp b is the earliest of those with an earlier stamp that are to write one of the rows
pub record IsBlockedBy (f : List ℕ → List ℕ) (stamp : ℕ) (keys : List (List ℕ)) (b : ℕ) : Type 0 where
  pub earlier : b < stamp
  pub key : List ℕ
  pub among : IsIn key keys
  pub there : IsIn b (f key)
  pub least : (k : List ℕ) → IsIn k keys → (s : ℕ) → IsIn s (f k) → b ≤ s

-- the horizon may be as high as h: not above what is looked back on, below each unclosed batch, at most at each open point
pub record IsAllowedHorizon (t : Turning) (lookback h : ℕ) : Type 0 where
  pub back : h ≤ t.last - lookback
  pub unclosed : (s : ℕ) → t.unclosed s ≡ true → h < s
  pub points : (s : ℕ) → 0 < t.points s → h ≤ s

-- h is the greater of the horizon and the greatest number that is allowed
pub record IsRaise (t : Turning) (lookback h : ℕ) : Type 0 where
  pub stays : t.horizon ≤ h
  pub allowed : (h ≡ t.horizon) ⊎ IsAllowedHorizon t lookback h
  pub greatest : (h' : ℕ) → IsAllowedHorizon t lookback h' → h' ≤ h

-- none of the numbers is above a later one
abbrev pub NeverFalls : List ℕ → Type 0
NeverFalls xs = (i j : ℕ) → i < j → j < length xs → slice_index xs i ≤ slice_index xs j

-- of each row the stamps rise, and are at most the last
abbrev pub IsKept : ℕ → (List ℕ → List ℕ) → Type 0
IsKept last f = (k : List ℕ) → NeverFalls (f k) × ((i : ℕ) → i < length (f k) → slice_index (f k) i ≤ last)

-- no stamp above the last is marked
abbrev pub IsMarkedUpTo : ℕ → (ℕ → Bool) → Type 0
IsMarkedUpTo last f = (s : ℕ) → last < s → f s ≡ false

-- a batch begins, which is to write these rows
abbrev pub batch_began : ℕ → List (List ℕ) → Turning → Turning
batch_began stamp keys t = record t { last = stamp; pending = rows_added keys stamp t.pending; undecided = at_stamp stamp true t.undecided; unclosed = at_stamp stamp true t.unclosed }

-- the first of the batches that are to write these rows has done so
abbrev pub wrote : List (List ℕ) → Turning → Turning
wrote keys t = record t { pending = rows_dropped keys t.pending }

-- all rows of the batch are written
abbrev pub decided : ℕ → Turning → Turning
decided stamp t = record t { undecided = at_stamp stamp false t.undecided }

-- the batch ends
abbrev pub ended : ℕ → Turning → Turning
ended stamp t = record t { unclosed = at_stamp stamp false t.unclosed }

-- a stamp is drawn for an index
abbrev pub drew : ℕ → Turning → Turning
drew stamp t = record t { last = stamp }

-- the horizon is raised
abbrev pub raised : ℕ → Turning → Turning
raised h t = record t { horizon = h }

-- a point is opened, and closed
abbrev pub opened : ℕ → Turning → Turning
opened stamp t = record t { points = at_stamp stamp (t.points stamp + 1) t.points }

abbrev pub released : ℕ → Turning → Turning
released stamp t = record t { points = at_stamp stamp (t.points stamp - 1) t.points }

-- the table's turns where nothing is begun
abbrev pub fresh : ℕ → ℕ → Turning
fresh last horizon = record { last = last; horizon = horizon; pending = λ k. []; undecided = λ s. false; unclosed = λ s. false; points = λ s. 0 }

-- what the batch of the stamp, if there is one, says of whether rows may be written
abbrev pub IsVerdict : (List ℕ → List ℕ) → ℕ → List (List ℕ) → Option ℕ → Type 0
IsVerdict f stamp keys None = IsFree f stamp keys
IsVerdict f stamp keys (Some b) = IsBlockedBy f stamp keys b

-- the lesser of a stamp below this one and another batch's
abbrev pub earliest_of : Option ℕ → Option ℕ → ℕ → Option ℕ
earliest_of None b stamp = b
earliest_of (Some a) None stamp = if nat_lt a stamp then Some a else None
earliest_of (Some a) (Some b) stamp = if nat_lt a b then Some a else Some b

-- the least stamp that the test holds of, or none
abbrev pub IsLeast : (ℕ → Bool) → Option ℕ → Type 0
IsLeast f None = (s : ℕ) → f s ≡ false
IsLeast f (Some a) = (f a ≡ true) × ((s : ℕ) → f s ≡ true → a ≤ s)

-- the least stamp up to the point that the test holds of, or none
abbrev pub IsLeastTo : (ℕ → Bool) → ℕ → Option ℕ → Type 0
IsLeastTo f p None = (s : ℕ) → s ≤ p → f s ≡ false
IsLeastTo f p (Some a) = (a ≤ p) × ((f a ≡ true) × ((s : ℕ) → f s ≡ true → a ≤ s))

abbrev pub lowered : ℕ → Option ℕ → ℕ
lowered h None = h
lowered h (Some a) = min h a

abbrev pub before : Option ℕ → Option ℕ
before None = None
before (Some a) = Some (a - 1)

abbrev pub least_to : Option ℕ → ℕ → Option ℕ
least_to None p = None
least_to (Some a) p = if nat_le a p then Some a else None
