-- A cell that begins the bytes is the one that they tell.
use Rattle.std.proofs.Common.{◌≡◌, ℕ, ◌+◌, ◌^◌, ◌<◌, List, [], ◌∷◌, ◌++◌, length, take, drop, refl, sym, ap, ◌∙◌, arith, append_assoc}
use Rattle.std.specs.Int.{w64, from_be_bytes}
use Rattle.std.specs.List.{AllByRecursion}
use Rattle.std.proofs.lemmas.List.{append-nil, drop_at, take_at}
use Rattle.std.proofs.lemmas.Nat.{from_be_bytes-to_be_bytes_8}
use Rattle.px_cells.specs.declared.kind.CellKind.{CellKind}
use Rattle.px_cells.specs.CellData.{CellData}
use Rattle.px_cells.specs.Kind.{code_of}
use Rattle.px_cellbytes.specs.Reading.{IsInRange, IsWritten, key_size, value_size}
use Rattle.px_cellbytes.specs.Spelling.{IsShortEnough, all_bytes, cell_bytes, size_bytes, stamp_bytes}
use Rattle.px_cellbytes.specs.inner.Fields.{PieceStandsAt}
use Rattle.px_cellbytes.proofs.Bytes.{length-cell_bytes, length-size_bytes, length-stamp_bytes}
use Rattle.px_cellbytes.proofs.Pieces.{stands_front, stands_left, stands_right}
use Rattle.px_cellbytes.proofs.Whole.{TellsCell, cell_tells}
use Rattle.px_block.specs.Reading.{AreBlock, count_in}
use Rattle.px_block.specs.Block.{block_bytes, count_bytes}
use Rattle.px_block.proofs.Counts.{count_in_front, drop_count}
use Rattle.px_block.proofs.OneBlock.{block_count}
use Rattle.px_told.specs.Told.{block_told, cell_told, cells_told, kind_or_put, kind_told, qualifier_told, size_told, stamp_told}

-- what is taken where a piece stands
taken : (bytes : List ℕ) (place : ℕ) (piece : List ℕ) → PieceStandsAt bytes place piece → take (length piece) (drop place bytes) ≡ piece
taken bytes place piece s = ap (take (length piece)) s.spelled ∙ take_at piece (drop (place + length piece) bytes) (length piece) refl

stamp_is : (n : ℕ) → n < 2 ^ 64 → from_be_bytes w64 (stamp_bytes n) ≡ n
unfolding stamp_bytes
stamp_is n small = from_be_bytes-to_be_bytes_8 n small

-- where the fields stand
record Stand (bytes : List ℕ) (c : CellData) : Type 0 where
  key : PieceStandsAt bytes 2 c.key
  stamp : PieceStandsAt bytes (3 + length c.key) (stamp_bytes c.stamp)
  value : PieceStandsAt bytes (14 + length c.key) c.value

stand : (bytes : List ℕ) (c : CellData) → PieceStandsAt bytes 0 (cell_bytes c) → Stand bytes c
unfolding cell_bytes
stand bytes c s =
    let k = length c.key in
    let size = size_bytes k in
    let stamp = stamp_bytes c.stamp in
    let long = size_bytes (length c.value) in
    let ls : length size ≡ 2 = length-size_bytes k in
    let lt : length stamp ≡ 8 = length-stamp_bytes c.stamp in
    let lv : length long ≡ 2 = length-size_bytes (length c.value) in
    let behind_key = c.qualifier ∷ (stamp ++ (code_of c.kind ∷ (long ++ c.value))) in
    let behind_stamp = code_of c.kind ∷ (long ++ c.value) in
    let two = stands_right bytes 0 2 size (c.key ++ behind_key) s (omega arith) in
    let q = stands_right bytes 2 (2 + k) c.key behind_key two refl in
    let three = stands_right bytes (2 + k) (3 + k) (c.qualifier ∷ []) (stamp ++ behind_stamp) q (omega arith) in
    let kind = stands_right bytes (3 + k) (11 + k) stamp behind_stamp three (omega arith) in
    let twelve = stands_right bytes (11 + k) (12 + k) (code_of c.kind ∷ []) (long ++ c.value) kind (omega arith) in
    record {
      key = stands_left bytes 2 c.key behind_key two;
      stamp = stands_left bytes (3 + k) stamp behind_stamp three;
      value = stands_right bytes (12 + k) (14 + k) long c.value twelve (omega arith);
    }

module _ (bytes : List ℕ) (c : CellData) (short : IsShortEnough c) (ranged : IsInRange c) (s : PieceStandsAt bytes 0 (cell_bytes c)) where
  tells : TellsCell bytes c
  tells = cell_tells bytes c short s

  stands : Stand bytes c
  stands = stand bytes c s

  key_is : take (key_size bytes) (drop 2 bytes) ≡ c.key
  key_is = ap (λ (n : ℕ). take n (drop 2 bytes)) tells.head.key_size_is ∙ taken bytes 2 c.key stands.key

  stamp_at : stamp_told bytes ≡ c.stamp
  stamp_at =
      let l : 8 ≡ length (stamp_bytes c.stamp) = sym (length-stamp_bytes c.stamp) in
      ap (λ (n : ℕ). from_be_bytes w64 (take 8 (drop (3 + n) bytes))) tells.head.key_size_is
      ∙ ap (λ (n : ℕ). from_be_bytes w64 (take n (drop (3 + length c.key) bytes))) l
      ∙ ap (from_be_bytes w64) (taken bytes (3 + length c.key) (stamp_bytes c.stamp) stands.stamp)
      ∙ stamp_is c.stamp ranged.stamp

  value_is : take (value_size bytes) (drop (14 + key_size bytes) bytes) ≡ c.value
  value_is = ap (λ (n : ℕ). take n (drop (14 + key_size bytes) bytes)) tells.value_size_is ∙ ap (λ (n : ℕ). take (length c.value) (drop (14 + n) bytes)) tells.head.key_size_is ∙ taken bytes (14 + length c.key) c.value stands.value

  pub cell_is : cell_told bytes ≡ c
  cell_is =
      let s0 = stamp_told bytes in
      let k0 = kind_told bytes in
      let v0 = take (value_size bytes) (drop (14 + key_size bytes) bytes) in
      ap (λ (k : List ℕ). record { key = k; qualifier = qualifier_told bytes; stamp = s0; kind = k0; value = v0 }) key_is
      ∙ ap (λ (q : ℕ). record { key = c.key; qualifier = q; stamp = s0; kind = k0; value = v0 }) tells.head.qualifier_is
      ∙ ap (λ (n : ℕ). record { key = c.key; qualifier = c.qualifier; stamp = n; kind = k0; value = v0 }) stamp_at
      ∙ ap (λ (k : CellKind). record { key = c.key; qualifier = c.qualifier; stamp = c.stamp; kind = k; value = v0 }) (ap kind_or_put tells.head.kind_is)
      ∙ ap (λ (v : List ℕ). record { key = c.key; qualifier = c.qualifier; stamp = c.stamp; kind = c.kind; value = v }) value_is

  pub size_is : size_told bytes ≡ length (cell_bytes c)
  size_is = (let l = length-cell_bytes c in omega (arith, tells.value_size_is, tells.head.key_size_is))

-- cells one behind the other
pub cells_are : (cells : List CellData) (rest : List ℕ) → AllByRecursion IsShortEnough cells → AllByRecursion IsInRange cells → cells_told (length cells) (all_bytes cells ++ rest) ≡ cells
unfolding cells_told
cells_are [] rest short ranged = refl
cells_are (c ∷ cells) rest short ranged =
    let bytes = (cell_bytes c ++ all_bytes cells) ++ rest in
    let more = all_bytes cells ++ rest in
    let cut : bytes ≡ cell_bytes c ++ more = append_assoc (cell_bytes c) (all_bytes cells) rest in
    let s : PieceStandsAt bytes 0 (cell_bytes c) = stands_front bytes (cell_bytes c) more cut in
    let left : drop (size_told bytes) bytes ≡ more = ap (λ (n : ℕ). drop n bytes) (size_is bytes c short.0 ranged.0 s) ∙ ap (drop (length (cell_bytes c))) cut ∙ drop_at (cell_bytes c) more (length (cell_bytes c)) refl in
    ap (λ (x : CellData). x ∷ cells_told (length cells) (drop (size_told bytes) bytes)) (cell_is bytes c short.0 ranged.0 s)
    ∙ ap (λ (l : List ℕ). c ∷ cells_told (length cells) l) left
    ∙ ap (λ (l : List CellData). c ∷ l) (cells_are cells rest short.1 ranged.1)

pub written_are : (cells : List CellData) (rest : List ℕ) → IsWritten cells → cells_told (length cells) (all_bytes cells ++ rest) ≡ cells
written_are cells rest w = cells_are cells rest w.short w.ranged

-- the cells of a block
pub block_is : (bytes : List ℕ) (cells : List CellData) → AreBlock bytes cells → block_told bytes ≡ cells
block_is bytes cells a =
    let n = length cells in
    let front = count_bytes n in
    let count : count_in (block_bytes cells) ≡ n = count_in_front n (all_bytes cells) (block_count cells a.block.closed) in
    ap block_told a.spelled
    ∙ ap (λ (k : ℕ). cells_told k (drop 4 (block_bytes cells))) count
    ∙ ap (cells_told n) (drop_count n (all_bytes cells) ∙ sym (append-nil (all_bytes cells)))
    ∙ written_are cells [] a.block.written
