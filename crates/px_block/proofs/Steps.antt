-- Reading the cells of a block one after the other.
use Rattle.std.proofs.Common.{◌≡◌, ◌≢◌, ◌⊎◌, ℕ, ◌+◌, ◌<◌, ◌≤◌, List, [], ◌∷◌, ◌++◌, length, drop, Result, Ok, Err, refl, sym, ap, subst, ◌∙◌, arith, inl, inr}
use Rattle.std.specs.Prelude.{IfErr}
use Rattle.std.proofs.lemmas.List.{length-drop}
use Rattle.px_cells.specs.CellData.{CellData}
use Rattle.px_cells.specs.Order.{Below}
use Rattle.px_cellbytes.specs.declared.fault.CellFault.{CellFault}
use Rattle.px_cellbytes.specs.declared.fault.CellFault.TheVariants.{OutOfOrder, Memory}
use Rattle.px_cellbytes.specs.Spelling.{all_bytes, cell_bytes}
use Rattle.px_cellbytes.specs.Reading.{IsLeastFault, moved}
use Rattle.px_cellbytes.specs.inner.Fields.{IsNextCell}
use Rattle.px_cellbytes.proofs.NextFaults.{none_last}
use Rattle.px_cellbytes.proofs.Steps.{HasRead, read_more, read_none}
use Rattle.px_block.specs.Block.{IsClosedBlock, block_bytes}
use Rattle.px_block.specs.Reading.{BeginWith, ComesAfter, HasCount, IsBlockFault, IsBodyFault, IsFront, IsFrontFault, behind, count_in}
use Rattle.px_block.specs.Reading.IsBlockFault.{of_rest}
use Rattle.px_block.specs.Reading.IsFrontFault.{of_body}
use Rattle.px_block.specs.Reading.IsNextBlockFault.{of_cell, of_count}

-- these cells were read, behind others, and they end at a place
pub record HasBegun (before : List CellData) (bytes : List ℕ) (cells : List CellData) (at : ℕ) : Type 0 where
  pub read : HasRead bytes cells at
  pub after : ComesAfter before cells
  pub closed : (cells ≡ []) ⊎ IsClosedBlock cells

pub begun_none : (before : List CellData) (bytes : List ℕ) → HasBegun before bytes [] 0
begun_none before bytes = record { read = read_none bytes; after = λ front last is c more e. cc; closed = inl refl }

alone : (before cells : List CellData) (rest : List ℕ) (c : CellData) → IsNextCell (behind before cells) rest c → IsNextCell cells rest c
alone before [] rest c n = record { stands = n.stands; short = n.short; ranged = n.ranged; placed = n.placed; bare = n.bare; above = λ front last is. absurd (none_last front last is) }
alone before (x ∷ cells) rest c n = n

after_more : (before cells : List CellData) (rest : List ℕ) (c : CellData) → ComesAfter before cells → IsNextCell (behind before cells) rest c → ComesAfter before (cells ++ c ∷ [])
after_more before [] rest c after n = λ front last is d more e. (let same : c ≡ d = cc in subst (λ (x : CellData). Below last x) same (n.above front last is))
after_more before (x ∷ cells) rest c after n = λ front last is d more e. (let same : x ≡ d = cc in subst (λ (y : CellData). Below last y) same (after front last is x cells refl))

-- one round of the loop, by what the calls in it answer
module _ (before : List CellData) (bytes : List ℕ) (cells : List CellData) (at : ℕ) (begun : HasBegun before bytes cells at) (ahead : List CellData) (rest : List ℕ)
    (same : ahead ≡ behind before cells) (is : rest ≡ drop at bytes) where
  pub begun_more : (c : CellData) (pushed : List CellData) (size : ℕ) → at < 32768 → IsNextCell ahead rest c → pushed ≡ cells ++ c ∷ [] → size ≡ length (cell_bytes c) → HasBegun before bytes pushed (at + size)
  begun_more c pushed size lt next p q =
      let n0 : IsNextCell (behind before cells) (drop at bytes) c = subst (λ (l : List CellData). IsNextCell l (drop at bytes) c) same (subst (λ (l : List ℕ). IsNextCell ahead l c) is next) in
      subst (λ (l : List CellData). HasBegun before bytes l (at + size)) (sym p) (subst (λ (n : ℕ). HasBegun before bytes (cells ++ c ∷ []) (at + n)) (sym q) (record {
        read = read_more bytes cells at c begun.read (alone before cells (drop at bytes) c n0);
        after = after_more before cells (drop at bytes) c begun.after n0;
        closed = inr (record { front = cells; last = c; ends = refl; before = (let e = begun.read.ends in omega arith) });
      }))

  started : BeginWith before bytes cells (drop at bytes)
  started = record { spelled = begun.read.spelled; written = begun.read.written; after = begun.after }

  pub begun_fault : (count : ℕ) (fault told : CellFault) → length cells < count → at < 32768 → (fault ≢ Memory → IsLeastFault ahead rest fault) → told ≡ moved at fault → told ≢ Memory → IsBodyFault before count bytes told
  begun_fault count fault told lt under least t other =
      let here = least (λ e. other (t ∙ ap (moved at) e)) in
      record {
        cells = cells;
        rest = drop at bytes;
        begin = started;
        fewer = lt;
        next = of_cell fault (let e = begun.read.ends in omega arith) (subst (λ (l : List CellData). IsLeastFault l (drop at bytes) fault) same (subst (λ (l : List ℕ). IsLeastFault ahead l fault) is here))
            (t ∙ ap (λ (n : ℕ). moved n fault) begun.read.ends);
      }

-- there is a cell where the block is full
pub begun_full : (before : List CellData) (bytes : List ℕ) (cells : List CellData) (at count : ℕ) → HasBegun before bytes cells at → length cells < count → 32768 ≤ at → IsBodyFault before count bytes (OutOfOrder at)
begun_full before bytes cells at count begun lt full = record {
  cells = cells;
  rest = drop at bytes;
  begin = record { spelled = begun.read.spelled; written = begun.read.written; after = begun.after };
  fewer = lt;
  next = of_count (closed begun.closed) (let e = begun.read.ends in omega arith) (ap (λ (n : ℕ). OutOfOrder n) begun.read.ends);
}
  where
    closed : (cells ≡ []) ⊎ IsClosedBlock cells → IsClosedBlock cells
    closed (inl none) = absurd (let e = begun.read.ends in let n = ap (λ (l : List CellData). length (all_bytes l)) none in omega arith)
    closed (inr is) = is

-- all were read
pub begun_closed : (before : List CellData) (bytes : List ℕ) (cells : List CellData) (at count : ℕ) → HasBegun before bytes cells at → length cells ≡ count → count ≢ 0 → IsClosedBlock cells
begun_closed before bytes cells at count begun counted some = by begun.closed
  where
    by : (cells ≡ []) ⊎ IsClosedBlock cells → IsClosedBlock cells
    by (inl none) = absurd (some (let n = ap (λ (l : List CellData). length l) none in omega arith))
    by (inr is) = is

-- the fault of the cells is one of the block
pub front_fault : (before : List CellData) (bytes rest : List ℕ) (count : ℕ) (inner told : CellFault) → rest ≡ drop 4 bytes → count ≡ count_in bytes → HasCount bytes
    → (inner ≢ Memory → IsBodyFault before count rest inner) → told ≡ moved 4 inner → told ≢ Memory → IsFrontFault before bytes told
front_fault before bytes rest count inner told is counted has fault t other =
    of_body inner has (subst (λ (n : ℕ). IsBodyFault before n (drop 4 bytes) inner) counted (subst (λ (l : List ℕ). IsBodyFault before count l inner) is (fault (λ e. other (t ∙ ap (moved 4) e))))) t

-- bytes are left behind the block
pub whole_fault : (bytes : List ℕ) (cells : List CellData) (end : ℕ) → IsFront [] bytes cells (drop end bytes) → end ≡ length (block_bytes cells) → (r : Result (List CellData) CellFault)
    → IfErr r (λ fault. (fault ≡ OutOfOrder end) × (end < length bytes)) → IfErr r (λ fault. fault ≢ Memory → IsBlockFault bytes fault)
whole_fault bytes cells end front ends (Ok x) is = tt
whole_fault bytes cells end front ends (Err fault) is = λ other. of_rest cells (drop end bytes) front (λ none. (let l = length-drop end bytes in let n = ap (λ (l : List ℕ). length l) none in let lt = is.1 in omega arith)) (is.0 ∙ ap (λ (n : ℕ). OutOfOrder n) ends)
