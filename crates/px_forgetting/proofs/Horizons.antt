-- What two horizons keep.
use Rattle.std.proofs.Common.{◌≡◌, ℕ, ◌≤◌, ◌⊎◌, List, inl, inr, arith}
use Rattle.std.proofs.lemmas.Bool.{cases_lt}
use Rattle.px_cells.specs.declared.kind.CellKind.TheVariants.{Put}
use Rattle.px_cells.specs.CellData.{CellData}
use Rattle.px_cells.specs.Order.{Reads}
use Rattle.px_cells.proofs.Among.{has_all, all_has, has_from_reads, reads_from_has}
use Rattle.px_cells.proofs.Sights.{same_reads}
use Rattle.px_cellbytes.specs.Reading.{IsBare, IsInRange, IsWritten}
use Rattle.px_cellbytes.specs.Spelling.{IsShortEnough}
use Rattle.std.specs.List.{AllByRecursion}
use Rattle.px_merge.specs.Kept.{IsKeptList, IsWanted}
use Rattle.px_merge.proofs.Sight.{sight_same}

-- what is kept is one list
pub kept_one : (cells a b : List CellData) (h : ℕ) → IsKeptList cells h a → IsKeptList cells h b → a ≡ b
kept_one cells a b h ka kb = same_reads a b ka.list.ascending kb.list.ascending (λ c. (λ r. (kb.exact c).1 ((ka.exact c).0 r), λ r. (ka.exact c).1 ((kb.exact c).0 r)))

-- each of the kept cells is one of the cells
pub kept_all : (P : CellData → Type 0) (cells kept : List CellData) (h : ℕ) → IsKeptList cells h kept → AllByRecursion P cells → AllByRecursion P kept
kept_all P cells kept h k all = has_all P kept (λ c g. all_has P cells c all (has_from_reads cells c ((k.exact c).0 (reads_from_has kept c k.list.ascending g)).0))

pub kept_written : (cells kept : List CellData) (h : ℕ) → IsWritten cells → IsKeptList cells h kept → IsWritten kept
kept_written cells kept h w k = record {
  listed = k.list;
  bare = kept_all IsBare cells kept h k w.bare;
  short = kept_all IsShortEnough cells kept h k w.short;
  ranged = kept_all IsInRange cells kept h k w.ranged;
}

pub kept_puts : (cells kept : List CellData) (h : ℕ) (c : CellData) → IsKeptList cells h kept → Reads kept c → c.stamp ≤ h → c.kind ≡ Put
kept_puts cells kept h c k r le = by ((k.exact c).0 r).1
  where
    by : IsWanted cells h c → c.kind ≡ Put
    by (inl l) = absurd (omega arith)
    by (inr v) = v.live.put

module _ (cells kept more : List CellData) (h k : ℕ) (first : IsKeptList cells h kept) (le : h ≤ k) where
  -- what the later one wants, the earlier one wants too
  wanted_first : (c : CellData) → IsWanted cells k c → Reads cells c → Reads kept c
  wanted_first c (inl l) r = (first.exact c).1 (r, inl (omega arith))
  wanted_first c (inr v) r = ((sight_same cells kept h k c first.exact le).1 v).live.among

  wanted_to : (c : CellData) → IsWanted kept k c → IsWanted cells k c
  wanted_to c (inl l) = inl l
  wanted_to c (inr v) = inr ((sight_same cells kept h k c first.exact le).0 v)

  wanted_of : (c : CellData) → IsWanted cells k c → IsWanted kept k c
  wanted_of c (inl l) = inl l
  wanted_of c (inr v) = inr ((sight_same cells kept h k c first.exact le).1 v)

  pub kept_twice : IsKeptList kept k more → IsKeptList cells k more
  kept_twice m = record {
    list = m.list;
    exact = λ c. (
      λ r. (let z = (m.exact c).0 r in (((first.exact c).0 z.0).0, wanted_to c z.1)),
      λ z. (m.exact c).1 (wanted_first c z.1 z.0, wanted_of c z.1),
    );
  }

  pub kept_once : IsKeptList cells k more → IsKeptList kept k more
  kept_once m = record {
    list = m.list;
    exact = λ c. (
      λ r. (let z = (m.exact c).0 r in (wanted_first c z.1 z.0, wanted_of c z.1)),
      λ z. (m.exact c).1 (((first.exact c).0 z.0).0, wanted_to c z.1),
    );
  }

-- what is kept is kept again
pub kept_again : (cells kept : List CellData) (h : ℕ) → IsKeptList cells h kept → IsKeptList kept h kept
kept_again cells kept h k = kept_once cells kept kept h h k (omega arith) k

-- what isn't kept is at or below the horizon
pub kept_stamps : (cells kept : List CellData) (h : ℕ) (c : CellData) → IsKeptList cells h kept → Reads cells c → Reads kept c ⊎ (c.stamp ≤ h)
kept_stamps cells kept h c k r = elim (cases_lt h c.stamp) [
  | inl l ↦ inl ((k.exact c).1 (r, inl l))
  | inr l ↦ inr l
]
