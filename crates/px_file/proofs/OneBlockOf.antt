-- One block of a file.
use Rattle.std.proofs.Common.{◌≡◌, ◌≢◌, ℕ, zero, suc, ◌+◌, ◌<◌, ◌≤◌, List, [], ◌∷◌, ◌++◌, length, take, drop, get_or, Ok, Err, refl, sym, ap, subst, ◌∙◌, arith, append_assoc, length-append}
use Rattle.std.specs.Prelude.{IsTrue}
use Rattle.std.specs.List.{AllByRecursion}
use Rattle.std.proofs.lemmas.List.{drop-drop, drop_at, take_at}
use Rattle.px_outside.specs.declared.disk.Disk.{Ghosts}
use Rattle.px_cells.specs.CellData.{CellData}
use Rattle.px_cellbytes.specs.declared.fault.CellFault.{CellFault}
use Rattle.px_cellbytes.specs.declared.fault.CellFault.TheVariants.{Short, BadKind, OutOfOrder, Memory}
use Rattle.px_cellbytes.specs.Reading.{place_of_fault}
use Rattle.px_block.specs.Block.{IsBlock, block_bytes}
use Rattle.px_block.specs.Reading.{AreBlock, IsBlockFault}
use Rattle.px_block.specs.Reading.IsBlockFault.{of_front, of_rest}
use Rattle.px_block.proofs.OneBlock.{front_within, one_reading}
use Rattle.px_file.specs.Format.{EntryData, block_index, blocks_bytes, file_bytes, letters, tail_of}
use Rattle.px_file.specs.Files.{HasBlocks}
use Rattle.px_file.specs.declared.region_file.RegionFile.{RegionFile}
use Rattle.px_file.proofs.Blocks.{length-index_of}

all_at : (P : List CellData → Type 0) (blocks : List (List CellData)) (i : ℕ) → AllByRecursion P blocks → i < length blocks → P (get_or blocks i [])
all_at P [] i all lt = absurd (omega arith)
all_at P (b ∷ blocks) zero all lt = all.0
all_at P (b ∷ blocks) (suc i) all lt = all_at P blocks i all.1 (omega arith)

-- what the index says of it
pub record IsEntry (e : EntryData) (from : ℕ) (blocks : List (List CellData)) (i : ℕ) : Type 0 where
  pub place : e.place ≡ from + length (blocks_bytes (take i blocks))
  pub len : e.len ≡ length (block_bytes (get_or blocks i []))

pub entry_at : (place : ℕ) (blocks : List (List CellData)) (i : ℕ) (e : EntryData) → i < length blocks → e ≡ get_or (block_index place blocks) i e → IsEntry e place blocks i
entry_at place [] i e lt is = absurd (omega arith)
entry_at place (b ∷ blocks) zero e lt is = record { place = (let p = ap (λ (x : EntryData). x.place) is in omega arith); len = ap (λ (x : EntryData). x.len) is }
entry_at place (b ∷ blocks) (suc i) e lt is =
    let r = entry_at (place + length (block_bytes b)) blocks i e (omega arith) is in
    record { place = (let p = r.place in let a = length-append (block_bytes b) (blocks_bytes (take i blocks)) in omega arith); len = r.len }

-- its bytes stand there
pub bytes_at : (blocks : List (List CellData)) (i : ℕ) (rest : List ℕ) → i < length blocks
    → (more : List ℕ) × (drop (length (blocks_bytes (take i blocks))) (blocks_bytes blocks ++ rest) ≡ block_bytes (get_or blocks i []) ++ more)
bytes_at [] i rest lt = absurd (omega arith)
bytes_at (b ∷ blocks) zero rest lt = (blocks_bytes blocks ++ rest, append_assoc (block_bytes b) (blocks_bytes blocks) rest)
bytes_at (b ∷ blocks) (suc i) rest lt =
    let r = bytes_at blocks i rest (omega arith) in
    let here = length (blocks_bytes (take i blocks)) in
    let long : length (blocks_bytes (take (suc i) (b ∷ blocks))) ≡ length (block_bytes b) + here = length-append (block_bytes b) (blocks_bytes (take i blocks)) in (
      r.0,
      ap (λ (n : ℕ). drop n ((block_bytes b ++ blocks_bytes blocks) ++ rest)) long ∙ sym (drop-drop here (length (block_bytes b)) ((block_bytes b ++ blocks_bytes blocks) ++ rest))
          ∙ ap (λ (l : List ℕ). drop here (drop (length (block_bytes b)) l)) (append_assoc (block_bytes b) (blocks_bytes blocks) rest)
          ∙ ap (drop here) (drop_at (block_bytes b) (blocks_bytes blocks ++ rest) (length (block_bytes b)) refl) ∙ r.1,
    )

block_within : (bytes : List ℕ) (fault : CellFault) → IsBlockFault bytes fault → place_of_fault fault ≤ length bytes
block_within bytes fault (of_front f) = front_within [] bytes fault f
block_within bytes fault (of_rest cells rest f some e) = (let a = ap place_of_fault e in let l = ap (λ (l : List ℕ). length l) f.spelled in let b = length-append (block_bytes cells) rest in omega arith)

pub block_fault_small : (bytes : List ℕ) (fault : CellFault) → (fault ≢ Memory → IsBlockFault bytes fault) → place_of_fault fault ≤ length bytes
block_fault_small bytes (Short p) is = block_within bytes (Short p) (is (λ e. cc))
block_fault_small bytes (BadKind p) is = block_within bytes (BadKind p) (is (λ e. cc))
block_fault_small bytes (OutOfOrder p) is = block_within bytes (OutOfOrder p) (is (λ e. cc))
block_fault_small bytes Memory is = omega arith

module _ {D : Type 0} (d : Ghosts D) (file : RegionFile) (disk : D) (blocks : List (List CellData)) (has : HasBlocks d file disk blocks) (tells : IsTrue d.tells) (i : ℕ) (e : EntryData)
    (lt : i < length file.index.entries.items) (is : e ≡ get_or file.index.entries.items i e) (bytes : List ℕ) (read : bytes ≡ take e.len (drop e.place (d.seen disk file.file))) where
  inside : i < length blocks
  inside = (let l = length-index_of 8 blocks in let k = ap length has.index.entries in omega arith)

  entry : IsEntry e 8 blocks i
  entry = entry_at 8 blocks i e inside (subst (λ (es : List EntryData). e ≡ get_or es i e) has.index.entries is)

  abbrev at : ℕ
  at = length (blocks_bytes (take i blocks))

  stands : (more : List ℕ) × (drop at (blocks_bytes blocks ++ tail_of blocks) ≡ block_bytes (get_or blocks i []) ++ more)
  stands = bytes_at blocks i (tail_of blocks) inside

  -- the bytes that are read are those of the block,
  pub are_block : AreBlock bytes (get_or blocks i [])
  are_block = record {
    spelled =
        read ∙ ap (λ (l : List ℕ). take e.len (drop e.place l)) (has.seen tells) ∙ ap (λ (n : ℕ). take e.len (drop n (file_bytes blocks))) (let p = entry.place in let q : e.place ≡ 8 + at = omega arith in q)
        ∙ ap (take e.len) (sym (drop-drop at 8 (file_bytes blocks)) ∙ ap (drop at) (drop_at letters (blocks_bytes blocks ++ tail_of blocks) 8 refl) ∙ stands.1)
        ∙ take_at (block_bytes (get_or blocks i [])) stands.0 e.len (sym entry.len);
    block = all_at IsBlock blocks i has.right.each inside;
  }

  -- and so are its cells,
  pub cells_are : (cells : List CellData) → AreBlock bytes cells → cells ≡ get_or blocks i []
  cells_are cells a = (let same = one_reading bytes (Ok cells) (Ok (get_or blocks i [])) a are_block in cc)

  -- with no fault
  pub no_block_fault : (fault : CellFault) → IsBlockFault bytes fault → ⊥
  no_block_fault fault f = (let same = one_reading bytes (Ok (get_or blocks i [])) (Err fault) are_block f in cc)

pub only_memory : (fault : CellFault) → ((fault ≢ Memory) → ⊥) → fault ≡ Memory
only_memory (Short p) none = absurd (none (λ e. cc))
only_memory (BadKind p) none = absurd (none (λ e. cc))
only_memory (OutOfOrder p) none = absurd (none (λ e. cc))
only_memory Memory none = refl
