-- One block after the other is written.
use Rattle.std.proofs.Common.{◌≡◌, ◌⊎◌, ℕ, zero, suc, ◌+◌, ◌-◌, ◌<◌, ◌≤◌, true, List, [], ◌∷◌, ◌++◌, length, take, drop, refl, sym, ap, subst, ◌∙◌, arith, inr}
use Rattle.std.specs.List.{AllByRecursion}
use Rattle.std.proofs.lemmas.List.{length-drop, take_all, take_rest, take-append-drop}
use Rattle.px_outside.specs.declared.disk.Disk.{Ghosts}
use Rattle.px_cells.specs.CellData.{CellData}
use Rattle.px_cells.specs.Order.{GoesWith, IsAscending}
use Rattle.px_cells.proofs.Among.{ascending_right}
use Rattle.px_cellbytes.specs.Spelling.{IsShortEnough}
use Rattle.px_cellbytes.specs.Reading.{IsBare, IsInRange, IsWritten}
use Rattle.px_block.specs.Reading.{ComesAfter}
use Rattle.px_file.specs.Files.{HasWrittenBlocks}
use Rattle.px_file.specs.Format.{cells_in}
use Rattle.px_file.specs.declared.writer.FileWriter.{FileWriter}
use Rattle.px_file.proofs.Blocks.{cells_push}
use Rattle.px_file.proofs.Growing.{after_parts}
use Rattle.px_making.specs.Making.{HasCells, IsMaking}
use Rattle.px_making.specs.declared.making.Making.{Making}

all_right : {T : Type 0} (P : T → Type 0) (xs ys : List T) → AllByRecursion P (xs ++ ys) → AllByRecursion P ys
all_right P [] ys a = a
all_right P (x ∷ xs) ys a = all_right P xs ys a.1

written_right : (xs ys : List CellData) → IsWritten (xs ++ ys) → IsWritten ys
written_right xs ys w = record {
  listed = record { ascending = ascending_right xs ys w.listed.ascending; placed = all_right GoesWith xs ys w.listed.placed };
  bare = all_right IsBare xs ys w.bare;
  short = all_right IsShortEnough xs ys w.short;
  ranged = all_right IsInRange xs ys w.ranged;
}

-- the rest of cells, as a slice to the end gives it
pub written_rest : (cells : List CellData) (n : ℕ) → IsWritten cells → IsWritten (take (length cells - n) (drop n cells))
written_rest cells n w = subst IsWritten (sym (take_rest cells n)) (written_right (take n cells) (drop n cells) (subst IsWritten (sym (take-append-drop n cells)) w))

pub after_rest : (cells first : List CellData) (n : ℕ) → IsWritten cells → first ≡ take n cells → ComesAfter first (take (length cells - n) (drop n cells))
after_rest cells first n w is =
    subst (λ (l : List CellData). ComesAfter l (take (length cells - n) (drop n cells))) (sym is)
    (subst (ComesAfter (take n cells)) (sym (take_rest cells n)) (after_parts (take n cells) (drop n cells) (subst IsAscending (sym (take-append-drop n cells)) w.listed.ascending)))

abbrev no_cells : List CellData
no_cells = []

take_none : (n : ℕ) → take n no_cells ≡ no_cells
take_none zero = refl
take_none (suc n) = refl

take_more_of : (n m : ℕ) (cells : List CellData) → take (n + m) cells ≡ take n cells ++ take m (drop n cells)
take_more_of zero m cells = (let e : zero + m ≡ m = omega arith in ap (λ (k : ℕ). take k cells) e)
take_more_of (suc n) m [] = take_none (suc n + m) ∙ sym (take_none m)
take_more_of (suc n) m (c ∷ cells) = (let e : suc n + m ≡ suc (n + m) = omega arith in ap (λ (k : ℕ). take k (c ∷ cells)) e ∙ ap (λ (l : List CellData). c ∷ l) (take_more_of n m cells))

module _ {D : Type 0} (d : Ghosts D) where
  pub made_more : (old new : Making) (disk disk' : D) (cells : List CellData) (making : IsMaking d old disk cells) (n : ℕ) → HasWrittenBlocks d new.writer disk' (making.blocks ++ take n (take (length cells - old.done) (drop old.done cells)) ∷ [])
      → n ≤ length (take (length cells - old.done) (drop old.done cells)) → (n < length (take (length cells - old.done) (drop old.done cells)) → new.writer.full ≡ true) → new.done ≡ old.done + n → IsMaking d new disk' cells
  made_more old new disk disk' cells making n written le full done =
      let rest = take_rest cells old.done in
      let long : length (take (length cells - old.done) (drop old.done cells)) ≡ length cells - old.done = ap (λ (l : List CellData). length l) rest ∙ length-drop old.done cells in
      record {
        blocks = making.blocks ++ take n (take (length cells - old.done) (drop old.done cells)) ∷ [];
        written = written;
        within = (let w = making.within in omega arith);
        first =
            cells_push making.blocks (take n (take (length cells - old.done) (drop old.done cells))) ∙ ap (λ (l : List CellData). l ++ take n (take (length cells - old.done) (drop old.done cells))) making.first
            ∙ ap (λ (l : List CellData). take old.done cells ++ take n l) rest ∙ sym (take_more_of old.done n cells) ∙ ap (λ (k : ℕ). take k cells) (sym done);
        full = λ lt. full (let w = making.within in omega arith);
      }

  pub made_all : (making : Making) (disk : D) (cells : List CellData) → IsMaking d making disk cells → (length cells ≤ making.done) → HasCells d making disk cells
  made_all making disk cells is le = record { blocks = is.blocks; written = is.written; all = is.first ∙ take_all making.done cells le }
