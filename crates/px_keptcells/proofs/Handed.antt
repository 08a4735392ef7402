-- What is handed out is what a log takes, and the same is read of it.
use Rattle.std.proofs.Common.{◌≡◌, ◌∙◌, Bool, List, [], ◌∷◌, ap, length, subst, sym}
use Rattle.std.specs.List.{AllByRecursion}
use Rattle.std.specs.List.Sorted.{IsPermutation}
use Rattle.std.proofs.lemmas.List.Sorted.{length_permutation}
use Rattle.px_cells.specs.CellData.{CellData}
use Rattle.px_cells.specs.Order.{GoesWith, IsApart, IsAscending, ReadsSame}
use Rattle.px_cellbytes.specs.Reading.{IsBare, IsInRange, IsWritten}
use Rattle.px_cellbytes.specs.Spelling.{IsShortEnough, all_bytes}
use Rattle.px_keptcells.specs.Kept.{IsFitting, but, laid}
use Rattle.px_keptcells.proofs.Parts.{but_all, but_apart}
use Rattle.px_keptcells.proofs.Sorted.{moved_all, moved_bytes, sorted_reads}

each_of : (Q : CellData → Type 0) → ((c : CellData) → IsFitting c → Q c) → (cells : List CellData) → AllByRecursion IsFitting cells → AllByRecursion Q cells
each_of Q f [] a = tt
each_of Q f (c ∷ cells) a = (f c a.0, each_of Q f cells a.1)

written_of : (cells : List CellData) → IsAscending cells → AllByRecursion IsFitting cells → IsWritten cells
written_of cells s a = record {
  listed = record { ascending = s; placed = each_of GoesWith (λ c w. w.placed) cells a };
  bare = each_of IsBare (λ c w. w.bare) cells a;
  short = each_of IsShortEnough (λ c w. w.short) cells a;
  ranged = each_of IsInRange (λ c w. w.ranged) cells a;
}

-- the cells of the rows that stay, sorted
module _ (vs : List Bool) (parts : List (List CellData)) (put sorted : List CellData) (is : put ≡ laid (but vs parts)) (apart : IsApart (laid parts)) (fitting : AllByRecursion IsFitting (laid parts)) (moved : IsPermutation put sorted) (order : IsApart put → IsAscending sorted) where
  put_apart : IsApart put
  put_apart = subst IsApart (sym is) (but_apart vs parts apart)

  pub handed_written : IsWritten sorted
  handed_written = written_of sorted (order put_apart) (moved_all IsFitting put sorted moved (subst (AllByRecursion IsFitting) (sym is) (but_all IsFitting vs parts fitting)))

  pub handed_reads : ReadsSame sorted (laid (but vs parts))
  handed_reads = subst (ReadsSame sorted) is (sorted_reads put sorted put_apart moved (order put_apart))

  pub handed_count : length sorted ≡ length (laid (but vs parts))
  handed_count = length_permutation put sorted moved ∙ ap (λ (x : List CellData). length x) is

  pub handed_bytes : length (all_bytes sorted) ≡ length (all_bytes (laid (but vs parts)))
  handed_bytes = moved_bytes put sorted moved ∙ ap (λ (x : List CellData). length (all_bytes x)) is
