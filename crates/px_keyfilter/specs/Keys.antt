-- The bits of keys.
use Rattle.std.specs.Prelude.{◌≡◌, ℕ, ◌+◌, ◌*◌, ◌/◌, ◌%◌, ◌^◌, List, length, min, fold, bit_or, slice_index, slice_set}
use Rattle.std.specs.Int.{bit_at}
use Rattle.std.specs.List.{AllByRecursion}
use Rattle.px_cells.specs.CellData.{CellData}

-- so many words have room for so many cells: sixteen bits each, up to 8 MiB
abbrev pub words_for : ℕ → ℕ
words_for cells = min (cells / 4 + 1) 1048576

-- a byte more
abbrev pub mixed : (number byte : ℕ) → ℕ
mixed number byte = (number * 6364136223846793005 + byte) % 2 ^ 64

-- the number of a key
unfoldable pub number_of : List ℕ → ℕ
number_of key = fold mixed 1442695040888963407 key

-- one of so many bits, by the upper half of a product
unfoldable pub bit_of : (number factor bits : ℕ) → ℕ
bit_of number factor bits = number * factor % 2 ^ 64 / 2 ^ 32 % bits

-- the two bits of a key
abbrev pub first_bit : (words key : List ℕ) → ℕ
first_bit words key = bit_of (number_of key) 11400714819323198485 (64 * length words)

abbrev pub second_bit : (words key : List ℕ) → ℕ
second_bit words key = bit_of (number_of key) 14029467366897019727 (64 * length words)

-- a bit is set
unfoldable pub HasBit : List ℕ → ℕ → Type 0
HasBit words n = bit_at (slice_index words (n / 64)) (n % 64) ≡ 1

-- the words with one bit set
unfoldable pub with_bit : List ℕ → ℕ → List ℕ
with_bit words n = slice_set words (n / 64) (bit_or (slice_index words (n / 64)) (2 ^ (n % 64)))

-- both bits of a key are set
unfoldable pub HasKeyBits : (words key : List ℕ) → Type 0
HasKeyBits words key = HasBit words (first_bit words key) × HasBit words (second_bit words key)

-- the words with a key more
unfoldable pub with_key : (words key : List ℕ) → List ℕ
with_key words key = with_bit (with_bit words (first_bit words key)) (second_bit words key)

-- with those of cells
abbrev pub with_keys : List ℕ → List CellData → List ℕ
with_keys words cells = fold (λ (before : List ℕ) (c : CellData). with_key before c.key) words cells

-- the keys of all these cells are there
abbrev pub HasAll : List ℕ → List CellData → Type 0
HasAll words cells = AllByRecursion (λ (c : CellData). HasKeyBits words c.key) cells
