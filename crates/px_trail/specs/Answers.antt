-- When an answer to a query is current, or exact as of a point.
use Rattle.std.specs.Prelude.{◌≡◌, ◌⊎◌, ◌<◌, ◌≤◌, ◌∷◌, [], ℕ, Bool, true, false, List, Option, Some, None, length, take}
use Rattle.px_values.specs.declared.row.Value.{Value}
use Rattle.px_trail.specs.declared.entry.Entry.{Entry}
use Rattle.px_trail.specs.Trail.{Base, shape_of}
use Rattle.px_trail.specs.States.{key_in, state_now, state_of}

-- 1. What is asked

-- a table, which rows meet the condition and are on the path, what is named of a row, its key on the path, and which
-- row comes before which in the answer
pub record Asked : Type 0 where
  pub table : ℕ
  pub meets : List Value → Bool
  pub named : List Value → List Value
  pub path_key : List Value → List ℕ
  pub before : List Value → List Value → Bool
  pub limit : Option ℕ

-- a row that was given: the whole row, and after how many entries it was held
pub record Given : Type 0 where
  pub row : List Value
  pub at : ℕ

unfoldable pub IsAmong : {A : Type 0} → A → List A → Type 0
IsAmong x [] = ⊥
IsAmong x (y ∷ ys) = (y ≡ x) ⊎ IsAmong x ys

-- 2. Rows that are held

-- the row stands in the table after the first n entries
abbrev pub HeldNow : Base → List Entry → ℕ → List Value → ℕ → Type 0
HeldNow b es t row n = state_now b (take n es) t (key_in (shape_of b (take n es) t) row) ≡ Some row

-- it is held after each number of entries from the first to the last
pub record StoodNow (b : Base) (es : List Entry) (t : ℕ) (row : List Value) (first last : ℕ) : Type 0 where
  pub all : (n : ℕ) → first ≤ n → n ≤ last → HeldNow b es t row n

-- 3. Answers

-- each row comes before those behind it, and no path key comes twice
unfoldable pub AreInOrder : Asked → List Given → Type 0
AreInOrder q [] = Unit {0}
AreInOrder q (x ∷ xs) = ((y : Given) → IsAmong y xs → (q.before y.row x.row ≡ false) × (q.path_key y.row ≡ q.path_key x.row → ⊥)) × AreInOrder q xs

-- LIMIT rows were given, and the row doesn't come before the last of them
pub record IsCutByLimit (q : Asked) (xs : List Given) (row : List Value) : Type 0 where
  pub limit : ℕ
  pub is : q.limit ≡ Some limit
  pub full : limit ≤ length xs
  pub behind : (x : Given) → IsAmong x xs → q.before row x.row ≡ false

abbrev pub IsWithinLimit : Option ℕ → ℕ → Type 0
IsWithinLimit None n = Unit {0}
IsWithinLimit (Some limit) n = n ≤ limit

-- a row with these named values is given
pub record IsRowGiven (q : Asked) (xs : List Given) (row : List Value) : Type 0 where
  pub given : Given
  pub among : IsAmong given xs
  pub same : q.named given.row ≡ q.named row

-- each row was held at its place and meets the condition, they are in order, and each row that stood throughout and
-- meets it is given
pub record IsCurrent (b : Base) (es : List Entry) (q : Asked) (first last : ℕ) (xs : List Given) : Type 0 where
  pub held : (x : Given) → IsAmong x xs → (first ≤ x.at) × (x.at ≤ last) × HeldNow b es q.table x.row x.at × (q.meets x.row ≡ true)
  pub ordered : AreInOrder q xs
  pub within : IsWithinLimit q.limit (length xs)
  pub whole : (row : List Value) → StoodNow b es q.table row first last → q.meets row ≡ true → IsRowGiven q xs row ⊎ IsCutByLimit q xs row

-- exactly the rows at a point that meet the condition, in order, up to LIMIT
pub record IsExact (b : Base) (es : List Entry) (q : Asked) (p : ℕ) (xs : List Given) : Type 0 where
  pub held : (x : Given) → IsAmong x xs → (state_of b es q.table (key_in (shape_of b es q.table) x.row) p ≡ Some x.row) × (q.meets x.row ≡ true)
  pub ordered : AreInOrder q xs
  pub within : IsWithinLimit q.limit (length xs)
  pub whole : (row : List Value) → state_of b es q.table (key_in (shape_of b es q.table) row) p ≡ Some row → q.meets row ≡ true → IsRowGiven q xs row ⊎ IsCutByLimit q xs row
