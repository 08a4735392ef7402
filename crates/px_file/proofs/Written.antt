-- What stands in a file while it is made.
use Rattle.std.proofs.Common.{◌≡◌, ℕ, ◌+◌, ◌^◌, ◌<◌, true, List, [], ◌∷◌, ◌++◌, length, take, drop, sym, ap, subst, ◌∙◌, arith, append_assoc, length-append}
use Rattle.std.specs.Prelude.{IsTrue}
use Rattle.std.proofs.lemmas.List.{append-nil, drop_all, take_all}
use Rattle.px_outside.specs.Disk.{after_write}
use Rattle.px_outside.specs.declared.disk.Disk.{Ghosts}
use Rattle.px_outside.specs.OnDisk.{Only}
use Rattle.px_outside.proofs.Written.{written_inside}
use Rattle.px_cells.specs.CellData.{CellData}
use Rattle.px_block.specs.Block.{IsBlock, IsBlockFull, block_bytes}
use Rattle.px_block.specs.Reading.{ComesAfter}
use Rattle.px_file.specs.Format.{blocks_bytes, cells_in, letters, tail_bytes, tail_of}
use Rattle.px_file.specs.IndexOf.{IsIndex}
use Rattle.px_file.specs.Files.{HasBlocks, HasWrittenBlocks}
use Rattle.px_file.specs.declared.index.Index.{Index}
use Rattle.px_file.specs.declared.region_file.RegionFile.{RegionFile}
use Rattle.px_file.specs.declared.writer.FileWriter.{FileWriter}
use Rattle.px_file.proofs.Blocks.{bytes_push, length-index_of}
use Rattle.px_file.proofs.Growing.{all_append, blocks_more}

pub written_end : (at : ℕ) (bytes file : List ℕ) → at ≡ length file → after_write at bytes file ≡ file ++ bytes
written_end at bytes file is =
    let front : take at file ≡ file = take_all at file (omega arith) in
    let none : drop (at + length bytes) file ≡ [] = drop_all (at + length bytes) file (omega arith) in
    written_inside at bytes file (omega arith) ∙ ap (λ (l : List ℕ). l ++ (bytes ++ drop (at + length bytes) file)) front ∙ ap (λ (l : List ℕ). file ++ (bytes ++ l)) none ∙ ap (λ (l : List ℕ). file ++ l) (append-nil bytes)

pub index_few : (index : Index) (blocks : List (List CellData)) → IsIndex index blocks → length blocks < 2 ^ 32
index_few index blocks is = (let l = length-index_of 8 blocks in let e = ap length is.entries in let c = index.count in omega arith)

pub tail_is : (index : Index) (blocks : List (List CellData)) → IsIndex index blocks → tail_bytes index.entries.items index.end index.cells index.stamp ≡ tail_of blocks
tail_is index blocks is = (let a = is.entries in let b = is.end in let c = is.cells in let e = is.stamp in cc)

module _ {D : Type 0} (d : Ghosts D) (old new : D) where
  pub file_finished : (writer : FileWriter) (file : RegionFile) (blocks : List (List CellData)) (bytes : List ℕ) → HasWrittenBlocks d writer old blocks → file.file ≡ writer.file → file.index ≡ writer.index
      → bytes ≡ tail_bytes writer.index.entries.items writer.index.end writer.index.cells writer.index.stamp
      → (IsTrue d.tells → d.seen new writer.file ≡ after_write writer.index.end bytes (d.seen old writer.file)) → Only d new writer.file → HasBlocks d file new blocks
  file_finished writer file blocks bytes has same index is sees only = record {
    right = has.right;
    index = subst (λ (i : Index). IsIndex i blocks) (sym index) has.index;
    seen = λ tells. (
        let before = has.seen tells in
        let long : writer.index.end ≡ length (d.seen old writer.file) = (let a = has.index.end in let b = ap (λ (l : List ℕ). length l) before in let c = length-append letters (blocks_bytes blocks) in omega arith) in
        ap (d.seen new) same ∙ sees tells ∙ written_end writer.index.end bytes (d.seen old writer.file) long ∙ ap (λ (l : List ℕ). l ++ bytes) before
        ∙ append_assoc letters (blocks_bytes blocks) bytes ∙ ap (λ (l : List ℕ). letters ++ (blocks_bytes blocks ++ l)) (is ∙ tail_is writer.index blocks has.index));
    only = subst (Only d new) (sym same) only;
  }

  pub block_written : (writer after : FileWriter) (blocks : List (List CellData)) (b : List CellData) (bytes : List ℕ) → HasWrittenBlocks d writer old blocks → writer.full ≡ true → IsBlock b → ComesAfter (cells_in blocks) b
      → after.file ≡ writer.file → IsIndex after.index (blocks ++ b ∷ []) → (after.full ≡ true → IsBlockFull b) → bytes ≡ block_bytes b
      → (IsTrue d.tells → d.seen new writer.file ≡ after_write writer.index.end bytes (d.seen old writer.file)) → HasWrittenBlocks d after new (blocks ++ b ∷ [])
  block_written writer after blocks b bytes has full block behind same index fuller is sees = record {
    right = blocks_more blocks b has.right (has.full full) block behind (index_few after.index (blocks ++ b ∷ []) index);
    full = λ yes. all_append IsBlockFull blocks (b ∷ []) (has.full full) (fuller yes, tt);
    index = index;
    seen = λ tells. (
        let before = has.seen tells in
        let long : writer.index.end ≡ length (d.seen old writer.file) = (let a = has.index.end in let b = ap (λ (l : List ℕ). length l) before in let c = length-append letters (blocks_bytes blocks) in omega arith) in
        ap (d.seen new) same ∙ sees tells ∙ written_end writer.index.end bytes (d.seen old writer.file) long ∙ ap (λ (l : List ℕ). l ++ bytes) before
        ∙ append_assoc letters (blocks_bytes blocks) bytes ∙ ap (λ (l : List ℕ). letters ++ (blocks_bytes blocks ++ l)) is ∙ ap (λ (l : List ℕ). letters ++ l) (sym (bytes_push blocks b)));
  }
