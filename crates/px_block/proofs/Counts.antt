-- The count of a block.
use Rattle.std.proofs.Common.{◌≡◌, ℕ, zero, suc, ◌+◌, ◌^◌, ◌<◌, ◌≤◌, List, [], ◌∷◌, ◌++◌, length, take, drop, get_or, refl, ap, ◌∙◌, arith, length-append}
use Rattle.std.specs.Int.{w32, from_be_bytes, to_be_bytes}
use Rattle.std.proofs.lemmas.List.{append-nil, length-take-le}
use Rattle.std.proofs.Math.Seq.{take-append-add}
use Rattle.std.proofs.lemmas.Nat.{be_bytes_4, from_be_bytes-to_be_bytes_4}
use Rattle.px_cells.specs.CellData.{CellData}
use Rattle.px_cellbytes.specs.Spelling.{all_bytes}
use Rattle.px_block.specs.Block.{block_bytes, count_bytes}
use Rattle.px_block.specs.Reading.{count_in}

pub length-count_bytes : (n : ℕ) → length (count_bytes n) ≡ 4
unfolding count_bytes
length-count_bytes n = refl

pub length-block_bytes : (cells : List CellData) → length (block_bytes cells) ≡ 4 + length (all_bytes cells)
length-block_bytes cells = (let a = length-append (count_bytes (length cells)) (all_bytes cells) in let b = length-count_bytes (length cells) in omega arith)

small_take : (n : ℕ) (bytes : List ℕ) → ((i : ℕ) → get_or bytes i 0 < 256) → (i : ℕ) → get_or (take n bytes) i 0 < 256
small_take zero bytes small i = omega arith
small_take (suc n) [] small i = omega arith
small_take (suc n) (b ∷ bytes) small zero = small 0
small_take (suc n) (b ∷ bytes) small (suc i) = small_take n bytes (λ k. small (suc k)) i

pub count_spelled : (bytes : List ℕ) (n : ℕ) → ((i : ℕ) → get_or bytes i 0 < 256) → 4 ≤ length bytes → n ≡ from_be_bytes w32 (take 4 bytes) → count_bytes n ≡ take 4 bytes
unfolding count_bytes
count_spelled bytes n small long is = be_bytes_4 (take 4 bytes) n (length-take-le 4 bytes long) (small_take 4 bytes small) is

pub count_in_front : (n : ℕ) (rest : List ℕ) → n < 2 ^ 32 → count_in (count_bytes n ++ rest) ≡ n
unfolding count_bytes count_in
count_in_front n rest small = ap (λ (l : List ℕ). from_be_bytes w32 l) (take-append-add (to_be_bytes w32 n) rest 0 ∙ append-nil (to_be_bytes w32 n)) ∙ from_be_bytes-to_be_bytes_4 n small

pub drop_count : (n : ℕ) (rest : List ℕ) → drop 4 (count_bytes n ++ rest) ≡ rest
unfolding count_bytes
drop_count n rest = refl
