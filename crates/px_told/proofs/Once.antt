-- Bytes are a file of one list of blocks at most.
use Rattle.std.proofs.Common.{◌≡◌, ℕ, ◌+◌, List, [], ◌∷◌, ◌++◌, length, drop, refl, sym, ap, subst, ◌∙◌, append_assoc}
use Rattle.std.specs.List.{AllByRecursion}
use Rattle.px_cells.specs.CellData.{CellData}
use Rattle.px_cellbytes.specs.Spelling.{size_bytes}
use Rattle.px_cellbytes.specs.declared.fault.CellFault.TheVariants.{Short}
use Rattle.px_block.specs.Block.{IsBlock, block_bytes}
use Rattle.px_block.specs.Reading.{HasCount, IsFront, count_in}
use Rattle.px_block.specs.Reading.IsFrontFault.{of_head}
use Rattle.px_block.proofs.OneBlock.{front_or_fault, one_front}
use Rattle.px_file.specs.Format.{AreBlocks, block_index, blocks_bytes, blocks_end, cells_in, entries_bytes, file_bytes, first_key, footer_bytes, greatest_stamp_in, half_word_bytes, last_letters, letters, tail_bytes, tail_of, word_bytes}

-- ---- blocks

front : (b : List CellData) (rest bytes : List ℕ) → IsBlock b → bytes ≡ block_bytes b ++ rest → IsFront [] bytes b rest
front b rest bytes is spelled = record { spelled = spelled; block = is; after = λ f l none. absurd (not_none f l none) }
  where
    not_none : (f : List CellData) (l : CellData) → [] ≡ f ++ l ∷ [] → ⊥
    not_none [] l e = cc
    not_none (x ∷ f) l e = cc

blocks_once : (xs ys : List (List CellData)) (tx ty : List ℕ) → AllByRecursion IsBlock xs → AllByRecursion IsBlock ys → (HasCount tx → ⊥) → (HasCount ty → ⊥) → blocks_bytes xs ++ tx ≡ blocks_bytes ys ++ ty → xs ≡ ys
blocks_once [] [] tx ty each each' nx ny e = refl
blocks_once [] (y ∷ ys) tx ty each each' nx ny e =
    absurd (front_or_fault [] tx y (blocks_bytes ys ++ ty) (Short 0) (front y (blocks_bytes ys ++ ty) tx each'.0 (e ∙ append_assoc (block_bytes y) (blocks_bytes ys) ty)) (of_head nx refl))
blocks_once (x ∷ xs) [] tx ty each each' nx ny e =
    absurd (front_or_fault [] ty x (blocks_bytes xs ++ tx) (Short 0) (front x (blocks_bytes xs ++ tx) ty each.0 (sym e ∙ append_assoc (block_bytes x) (blocks_bytes xs) tx)) (of_head ny refl))
blocks_once (x ∷ xs) (y ∷ ys) tx ty each each' nx ny e =
    let whole = blocks_bytes (x ∷ xs) ++ tx in
    let one = one_front [] whole x y (blocks_bytes xs ++ tx) (blocks_bytes ys ++ ty) (front x (blocks_bytes xs ++ tx) whole each.0 (append_assoc (block_bytes x) (blocks_bytes xs) tx)) (front y (blocks_bytes ys ++ ty) whole each'.0 (e ∙ append_assoc (block_bytes y) (blocks_bytes ys) ty)) in
    let rest = blocks_once xs ys tx ty each.1 each'.1 nx ny one.1 in
    ap (λ (b : List CellData). b ∷ xs) one.0 ∙ ap (λ (l : List (List CellData)). y ∷ l) rest

-- ---- no block begins where the index does

eight : (rest : List ℕ) → HasCount (word_bytes 8 ++ rest) → ⊥
unfolding word_bytes count_in
eight rest h = h.1 refl

tail_begins : (blocks : List (List CellData)) → (rest : List ℕ) × (tail_of blocks ≡ word_bytes 8 ++ rest)
unfolding tail_bytes
tail_begins [] = (half_word_bytes 0 ++ (word_bytes 0 ++ (word_bytes 0 ++ last_letters)), refl)
tail_begins (b ∷ blocks) =
    let own = half_word_bytes (length (block_bytes b)) ++ (size_bytes (length (first_key b)) ++ first_key b) in
    let others = entries_bytes (block_index (8 + length (block_bytes b)) blocks) in
    let foot = footer_bytes (blocks_end (b ∷ blocks)) (length (block_index 8 (b ∷ blocks))) (length (cells_in (b ∷ blocks))) (greatest_stamp_in (cells_in (b ∷ blocks))) in
    (own ++ (others ++ foot), ap (λ (l : List ℕ). l ++ foot) (append_assoc (word_bytes 8) own others) ∙ append_assoc (word_bytes 8) (own ++ others) foot ∙ ap (λ (l : List ℕ). word_bytes 8 ++ l) (append_assoc own others foot))

no_count : (blocks : List (List CellData)) → HasCount (tail_of blocks) → ⊥
no_count blocks h = (let t = tail_begins blocks in eight t.0 (subst HasCount t.1 h))

-- ---- files

behind_letters : (xs ys : List ℕ) → letters ++ xs ≡ letters ++ ys → xs ≡ ys
behind_letters xs ys e = ap (drop 8) e

pub same_blocks : (xs ys : List (List CellData)) → AreBlocks xs → AreBlocks ys → file_bytes xs ≡ file_bytes ys → xs ≡ ys
same_blocks xs ys one two same =
    blocks_once xs ys (tail_of xs) (tail_of ys) one.each two.each (no_count xs) (no_count ys) (behind_letters (blocks_bytes xs ++ tail_of xs) (blocks_bytes ys ++ tail_of ys) same)
