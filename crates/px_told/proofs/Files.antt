-- A file tells the cells of its blocks.
use Rattle.std.proofs.Common.{◌≡◌, ℕ, ◌+◌, List, [], ◌∷◌, ◌++◌, length, take, drop, refl, sym, ap, ◌∙◌, append_assoc}
use Rattle.std.specs.Prelude.{IsTrue}
use Rattle.std.specs.List.{AllByRecursion}
use Rattle.std.proofs.lemmas.List.{drop-drop, drop_at, take_at}
use Rattle.px_outside.specs.declared.disk.Disk.{Ghosts}
use Rattle.px_cells.specs.CellData.{CellData}
use Rattle.px_block.specs.Block.{IsBlock, block_bytes}
use Rattle.px_file.specs.Files.{HasBlocks}
use Rattle.px_file.specs.Format.{EntryData, block_index, blocks_bytes, cells_in, letters, tail_of}
use Rattle.px_file.specs.declared.region_file.RegionFile.{RegionFile}
use Rattle.px_told.specs.Told.{file_told}
use Rattle.px_told.proofs.Cells.{block_is}

-- blocks that stand one behind the other from a place on
blocks_are : (blocks : List (List CellData)) (place : ℕ) (bytes rest : List ℕ) → AllByRecursion IsBlock blocks → drop place bytes ≡ blocks_bytes blocks ++ rest → file_told (block_index place blocks) bytes ≡ cells_in blocks
blocks_are [] place bytes rest each at = refl
blocks_are (b ∷ blocks) place bytes rest each at =
    let n = length (block_bytes b) in
    let more = blocks_bytes blocks ++ rest in
    let here : drop place bytes ≡ block_bytes b ++ more = at ∙ append_assoc (block_bytes b) (blocks_bytes blocks) rest in
    let spelled : take n (drop place bytes) ≡ block_bytes b = ap (take n) here ∙ take_at (block_bytes b) more n refl in
    let next : drop (place + n) bytes ≡ more = sym (drop-drop n place bytes) ∙ ap (drop n) here ∙ drop_at (block_bytes b) more n refl in
    ap (λ (l : List CellData). l ++ file_told (block_index (place + n) blocks) bytes) (block_is (take n (drop place bytes)) b (record { spelled = spelled; block = each.0 }))
    ∙ ap (λ (l : List CellData). b ++ l) (blocks_are blocks (place + n) bytes rest each.1 next)

pub file_is : {D : Type 0} (d : Ghosts D) (disk : D) (file : RegionFile) (blocks : List (List CellData)) → IsTrue d.tells → HasBlocks d file disk blocks → file_told file.index.entries.items (d.seen disk file.file) ≡ cells_in blocks
file_is d disk file blocks tells has =
    let bytes = d.seen disk file.file in
    let behind = blocks_bytes blocks ++ tail_of blocks in
    let at : drop 8 bytes ≡ behind = ap (drop 8) (has.seen tells) ∙ drop_at letters behind 8 refl in
    ap (λ (es : List EntryData). file_told es bytes) has.index.entries ∙ blocks_are blocks 8 bytes (tail_of blocks) has.right.each at
