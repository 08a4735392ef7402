-- Which cells can be written.
use Rattle.std.proofs.Common.{◌≡◌, ℕ, ◌+◌, ◌<◌, Bool, List, [], ◌∷◌, ◌++◌, length, take, get_or, sym, ap, subst, ◌∙◌, arith, inl, inr}
use Rattle.std.specs.Prelude.{filter, zero, suc}
use Rattle.std.specs.List.{AllByRecursion}
use Rattle.std.proofs.lemmas.Bool.{cases_Bool}
use Rattle.std.proofs.lemmas.List.{take_more}
use Rattle.px_cells.specs.CellData.{CellData}
use Rattle.px_cells.specs.Order.{GoesWith, IsCellList}
use Rattle.px_cells.proofs.Among.{all_has, has_all, has_from_reads, reads_from_has}
use Rattle.px_cellbytes.specs.Reading.{IsBare, IsInRange, IsWritten}
use Rattle.px_cellbytes.specs.Spelling.{IsShortEnough}
use Rattle.px_merge.specs.Settle.{settle}
use Rattle.px_merge.proofs.Settling.{settle_is, settle_placed}
use Rattle.px_wal.specs.Batches.{LogBatch, later_first}
use Rattle.px_wal.specs.Form.{IsLogBatch}
use Rattle.px_wal.proofs.Cuts.{all_later}
use Rattle.px_frozen.specs.inner.Fit.{IsFit, IsWhole}

pub each_of : {T : Type 0} (P Q : T → Type 0) → ((c : T) → P c → Q c) → (cells : List T) → AllByRecursion P cells → AllByRecursion Q cells
each_of P Q f [] all = tt
each_of P Q f (c ∷ cells) all = (f c all.0, each_of P Q f cells all.1)

-- ---- a list and its cells

pub written_by : (cells : List CellData) → AllByRecursion IsWhole cells → IsCellList cells → IsWritten cells
written_by cells all listed = record {
  listed = listed;
  bare = each_of IsWhole IsBare (λ c w. w.fit.bare) cells all;
  short = each_of IsWhole IsShortEnough (λ c w. w.fit.short) cells all;
  ranged = each_of IsWhole IsInRange (λ c w. w.ranged) cells all;
}

pub fit_in : (cells : List CellData) (i : ℕ) (d : CellData) → AllByRecursion IsBare cells → AllByRecursion IsShortEnough cells → i < length cells → IsFit (get_or cells i d)
fit_in [] i d bare short lt = absurd (omega arith)
fit_in (c ∷ cells) zero d bare short lt = record { bare = bare.0; short = short.0 }
fit_in (c ∷ cells) (suc i) d bare short lt = fit_in cells i d bare.1 short.1 (omega arith)

all_push : (cells : List CellData) (c : CellData) → AllByRecursion IsWhole cells → IsWhole c → AllByRecursion IsWhole (cells ++ c ∷ [])
all_push [] c all is = (is, tt)
all_push (x ∷ cells) c all is = (all.0, all_push cells c all.1 is)

-- one cell more
pub whole_next : (cells : List CellData) (i : ℕ) (c : CellData) → i < length cells → c ≡ get_or cells i c → AllByRecursion IsWhole (take i cells) → IsWhole c → AllByRecursion IsWhole (take (i + 1) cells)
whole_next cells i c lt is all whole = subst (AllByRecursion IsWhole) (ap (λ (x : CellData). take i cells ++ x ∷ []) is ∙ sym (take_more cells i c lt)) (all_push (take i cells) c all whole)

-- ---- what is read of batches

-- each cell of the sorted list is one of the list
pub settled_all : (P : CellData → Type 0) (cells : List CellData) → AllByRecursion P cells → AllByRecursion P (settle cells)
settled_all P cells all = has_all P (settle cells) (λ c has. all_has P cells c all (has_from_reads cells c (((settle_is cells).same c).0 (reads_from_has (settle cells) c (settle_is cells).ascending has))))

pub filtered : {T : Type 0} (P : T → Type 0) (keep : T → Bool) (xs : List T) → AllByRecursion P xs → AllByRecursion P (filter keep xs)
filtered P keep [] all = tt
filtered P keep (x ∷ xs) all = elim (cases_Bool (keep x)) [
  | inl e ↦ rw e (all.0, filtered P keep xs all.1)
  | inr e ↦ rw e (filtered P keep xs all.1)
]

pub settled_written : (batches : List LogBatch) → AllByRecursion IsLogBatch batches → IsWritten (settle (later_first batches))
settled_written batches all =
    let goes = all_later GoesWith batches (each_of IsLogBatch (λ b. AllByRecursion GoesWith b.cells) (λ b is. is.written.listed.placed) batches all) in
    let bare = all_later IsBare batches (each_of IsLogBatch (λ b. AllByRecursion IsBare b.cells) (λ b is. is.written.bare) batches all) in
    let short = all_later IsShortEnough batches (each_of IsLogBatch (λ b. AllByRecursion IsShortEnough b.cells) (λ b is. is.written.short) batches all) in
    let ranged = all_later IsInRange batches (each_of IsLogBatch (λ b. AllByRecursion IsInRange b.cells) (λ b is. is.written.ranged) batches all) in
    record {
      listed = settle_placed (later_first batches) goes;
      bare = settled_all IsBare (later_first batches) bare;
      short = settled_all IsShortEnough (later_first batches) short;
      ranged = settled_all IsInRange (later_first batches) ranged;
    }
