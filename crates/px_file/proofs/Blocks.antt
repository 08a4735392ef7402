-- Blocks, one behind the others.
use Rattle.std.proofs.Common.{◌≡◌, ℕ, zero, suc, ◌+◌, ◌<◌, ◌≤◌, List, [], ◌∷◌, ◌++◌, length, take, get_or, refl, sym, ap, subst, ◌∙◌, arith, append_assoc, length-append, inl, inr}
use Rattle.std.specs.Prelude.{max}
use Rattle.std.specs.List.{AllByRecursion}
use Rattle.std.proofs.lemmas.List.{append-nil, take_more}
use Rattle.px_cells.specs.CellData.{CellData}
use Rattle.px_cellbytes.specs.Spelling.{IsShortEnough, all_bytes, cell_bytes}
use Rattle.px_cellbytes.proofs.Bytes.{all_bytes-push, length-cell_bytes}
use Rattle.px_cellbytes.proofs.NextFaults.{last_of}
use Rattle.px_block.specs.Block.{IsBlock, IsClosedBlock, block_bytes}
use Rattle.px_block.proofs.Counts.{length-block_bytes}
use Rattle.px_block.proofs.OneBlock.{no_longer}
use Rattle.px_file.specs.Format.{block_index, blocks_bytes, blocks_end, cells_in, entry_of, greatest_stamp_in}

pub greatest_append : (xs ys : List CellData) → greatest_stamp_in (xs ++ ys) ≡ max (greatest_stamp_in xs) (greatest_stamp_in ys)
greatest_append [] ys = omega arith
greatest_append (x ∷ xs) ys = (let r = greatest_append xs ys in omega arith)

pub greatest_more : (cells : List CellData) (i : ℕ) (c : CellData) → i < length cells → c ≡ get_or cells i c → greatest_stamp_in (take (i + 1) cells) ≡ max (greatest_stamp_in (take i cells)) c.stamp
greatest_more cells i c lt e =
    let a = ap greatest_stamp_in (take_more cells i c lt) ∙ ap (λ (x : CellData). greatest_stamp_in (take i cells ++ x ∷ [])) (sym e) in
    let b = greatest_append (take i cells) (c ∷ []) in
    omega arith

pub bytes_more : (cells : List CellData) (i : ℕ) (c : CellData) → i < length cells → c ≡ get_or cells i c → length (all_bytes (take (i + 1) cells)) ≡ length (all_bytes (take i cells)) + length (cell_bytes c)
bytes_more cells i c lt e =
    let a = ap (λ (l : List CellData). length (all_bytes l)) (take_more cells i c lt) ∙ ap (λ (x : CellData). length (all_bytes (take i cells ++ x ∷ []))) (sym e) in
    let b = ap (λ (l : List ℕ). length l) (all_bytes-push (take i cells) c) in
    let d = length-append (all_bytes (take i cells)) (cell_bytes c) in
    omega arith

pub cell_small : (c : CellData) → IsShortEnough c → length (cell_bytes c) ≤ 131084
cell_small c s = (let l = length-cell_bytes c in let k = s.key in let v = s.value in omega arith)

pub length-index_of : (place : ℕ) (blocks : List (List CellData)) → length (block_index place blocks) ≡ length blocks
length-index_of place [] = refl
length-index_of place (b ∷ blocks) = (let r = length-index_of (place + length (block_bytes b)) blocks in omega arith)

pub cells_push : (blocks : List (List CellData)) (b : List CellData) → cells_in (blocks ++ b ∷ []) ≡ cells_in blocks ++ b
cells_push [] b = append-nil b
cells_push (x ∷ blocks) b = ap (λ (l : List CellData). x ++ l) (cells_push blocks b) ∙ sym (append_assoc x (cells_in blocks) b)

pub bytes_push : (blocks : List (List CellData)) (b : List CellData) → blocks_bytes (blocks ++ b ∷ []) ≡ blocks_bytes blocks ++ block_bytes b
bytes_push [] b = append-nil (block_bytes b)
bytes_push (x ∷ blocks) b = ap (λ (l : List ℕ). block_bytes x ++ l) (bytes_push blocks b) ∙ sym (append_assoc (block_bytes x) (blocks_bytes blocks) (block_bytes b))

pub end_push : (blocks : List (List CellData)) (b : List CellData) → blocks_end (blocks ++ b ∷ []) ≡ blocks_end blocks + length (block_bytes b)
end_push blocks b = (let e = ap (λ (l : List ℕ). length l) (bytes_push blocks b) in let a = length-append (blocks_bytes blocks) (block_bytes b) in omega arith)

index_push : (place : ℕ) (blocks : List (List CellData)) (b : List CellData) → block_index place (blocks ++ b ∷ []) ≡ block_index place blocks ++ entry_of (place + length (blocks_bytes blocks)) b ∷ []
index_push place [] b = (let e : place ≡ place + 0 = omega arith in ap (λ (n : ℕ). entry_of n b ∷ []) e)
index_push place (x ∷ blocks) b =
    let a = length-append (block_bytes x) (blocks_bytes blocks) in
    let e : place + length (block_bytes x) + length (blocks_bytes blocks) ≡ place + length (blocks_bytes (x ∷ blocks)) = omega arith in
    ap (λ l. entry_of place x ∷ l) (index_push (place + length (block_bytes x)) blocks b ∙ ap (λ (n : ℕ). block_index (place + length (block_bytes x)) blocks ++ entry_of n b ∷ []) e)

pub index_more : (blocks : List (List CellData)) (b : List CellData) → block_index 8 (blocks ++ b ∷ []) ≡ block_index 8 blocks ++ entry_of (blocks_end blocks) b ∷ []
index_more blocks b = index_push 8 blocks b

-- the last cell is short, and all before it fit a block that isn't full
pub block_longest : (b : List CellData) → IsBlock b → length (block_bytes b) ≤ 163855
block_longest b is =
    let e = ap (λ (l : List CellData). length (all_bytes l)) is.closed.ends in
    let p = ap (λ (l : List ℕ). length l) (all_bytes-push is.closed.front is.closed.last) in
    let a = length-append (all_bytes is.closed.front) (cell_bytes is.closed.last) in
    let s : IsShortEnough is.closed.last = last_short is.closed.front is.closed.last (subst (AllByRecursion IsShortEnough) is.closed.ends is.written.short) in
    let k = s.key in
    let v = s.value in
    let c = length-cell_bytes is.closed.last in
    let l = length-block_bytes b in
    let w = is.closed.before in
    omega arith
  where
    last_short : (front : List CellData) (last : CellData) → AllByRecursion IsShortEnough (front ++ last ∷ []) → IsShortEnough last
    last_short [] last all = all.0
    last_short (c ∷ front) last all = last_short front last all.1

pub block_cells : (b : List CellData) → IsBlock b → length b ≤ 32768
block_cells b is =
    let e = ap (λ (l : List CellData). length l) is.closed.ends in
    let a = length-append is.closed.front (is.closed.last ∷ []) in
    let n = no_longer is.closed.front in
    let w = is.closed.before in
    omega arith

pub short_at : (cells : List CellData) (i : ℕ) (c : CellData) → AllByRecursion IsShortEnough cells → i < length cells → c ≡ get_or cells i c → IsShortEnough c
short_at [] i c all lt e = absurd (omega arith)
short_at (x ∷ cells) zero c all lt e = subst IsShortEnough (sym e) all.0
short_at (x ∷ cells) (suc i) c all lt e = short_at cells i c all.1 (omega arith) e

-- cells that aren't full are a block
pub closed_all : (cells : List CellData) → 1 ≤ length cells → length (all_bytes cells) < 32768 → IsClosedBlock cells
closed_all cells some under = elim (last_of cells) [
  | inl none ↦ absurd (let l = ap (λ (l : List CellData). length l) none in omega arith)
  | inr l ↦ record {
    front = l.front;
    last = l.last;
    ends = l.is;
    before = (let e = ap (λ (l : List CellData). length (all_bytes l)) l.is in let p = ap (λ (l : List ℕ). length l) (all_bytes-push l.front l.last) in let a = length-append (all_bytes l.front) (cell_bytes l.last) in omega arith);
  }
]
