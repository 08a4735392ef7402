-- The index of one more block.
use Rattle.std.proofs.Common.{◌≡◌, ℕ, ◌+◌, List, [], ◌∷◌, ◌++◌, length, sym, ap, ◌∙◌, arith, length-append}
use Rattle.std.specs.Prelude.{max}
use Rattle.px_cells.specs.CellData.{CellData}
use Rattle.px_block.specs.Block.{block_bytes}
use Rattle.px_file.specs.Format.{EntryData, block_index, blocks_end, cells_in, entry_of, first_key, greatest_stamp_in}
use Rattle.px_file.specs.IndexOf.{IsIndex}
use Rattle.px_file.specs.declared.index.Index.{Index}
use Rattle.px_file.proofs.Blocks.{cells_push, end_push, greatest_append, index_more}

pub index_added : (old new : Index) (blocks : List (List CellData)) (b : List CellData) (len : ℕ) (key : List ℕ) → IsIndex old blocks → len ≡ length (block_bytes b) → key ≡ first_key b
    → new.entries.items ≡ old.entries.items ++ (record { place = old.end; len = len; key = key }) ∷ [] → new.end ≡ old.end + len → new.cells ≡ old.cells + length b → new.stamp ≡ max old.stamp (greatest_stamp_in b)
    → IsIndex new (blocks ++ b ∷ [])
index_added old new blocks b len key is l k items end cells stamp = record {
  entries = items ∙ ap (λ (es : List EntryData). es ++ (record { place = old.end; len = len; key = key }) ∷ []) is.entries ∙ ap (λ (e : EntryData). block_index 8 blocks ++ e ∷ []) entry ∙ sym (index_more blocks b);
  end = (let e = end_push blocks b in let f = is.end in omega arith);
  cells = (let e = ap (λ (l : List CellData). length l) (cells_push blocks b) in let a = length-append (cells_in blocks) b in let f = is.cells in omega arith);
  stamp = (let e = ap greatest_stamp_in (cells_push blocks b) in let a = greatest_append (cells_in blocks) b in let f = is.stamp in omega arith);
}
  where
    entry : (record { place = old.end; len = len; key = key }) ≡ entry_of (blocks_end blocks) b
    entry = ap (λ (n : ℕ). record { place = n; len = len; key = key }) is.end ∙ ap (λ (n : ℕ). record { place = blocks_end blocks; len = n; key = key }) l ∙ ap (λ (n : List ℕ). record { place = blocks_end blocks; len = length (block_bytes b); key = n }) k
