-- Lists of cells that are read alike, and the sorted list of what is read of them.
use Rattle.std.proofs.Common.{◌≡◌, ℕ, List, [], ◌++◌, refl, subst, inl, inr}
use Rattle.std.specs.List.{AllByRecursion}
use Rattle.std.proofs.lemmas.List.{append-nil}
use Rattle.px_cells.specs.CellData.{CellData}
use Rattle.px_cells.specs.Order.{GoesWith, IsAscending, IsCellList, IsSettled, ReadsSame}
use Rattle.px_cells.proofs.Among.{all_has, has_all, has_from_reads, reads_behind, reads_from_has}
use Rattle.px_cells.proofs.Sights.{one_settled, visible_same}
use Rattle.px_merge.specs.Kept.{IsWanted, KeepsWanted}
use Rattle.px_merge.proofs.Merges.{merge_settled}
use Rattle.px_merge.proofs.Reading.{reads_before, reads_to_same, reads_trans}
use Rattle.px_merge.specs.Settle.{settle}

pub settle_is : (cells : List CellData) → IsSettled cells (settle cells)
settle_is cells = subst (λ (l : List CellData). IsSettled l (settle cells)) (append-nil cells) (merge_settled cells [] tt)

pub reads_back : (xs ys : List CellData) → ReadsSame xs ys → ReadsSame ys xs
reads_back xs ys same c = ((same c).1, (same c).0)

-- lists that are read alike have one sorted list
pub settle_same : (xs ys : List CellData) → ReadsSame xs ys → settle xs ≡ settle ys
settle_same xs ys same =
    one_settled ys (settle xs) (settle ys) (record { ascending = (settle_is xs).ascending; same = reads_trans (settle xs) xs ys (settle_is xs).same same }) (settle_is ys)

-- the sorted list of cells is the one that any sorted list of them is
pub settled_is : (cells settled : List CellData) → IsSettled cells settled → settled ≡ settle cells
settled_is cells settled is = one_settled cells settled (settle cells) is (settle_is cells)

-- a sorted list is its own
pub settle_sorted : (cells : List CellData) → IsAscending cells → settle cells ≡ cells
settle_sorted cells sorted = one_settled cells (settle cells) cells (settle_is cells) (record { ascending = sorted; same = reads_to_same cells cells refl })

-- a part may be settled before the whole
pub settle_part : (front part back : List CellData) → settle (front ++ (settle part ++ back)) ≡ settle (front ++ (part ++ back))
settle_part front part back =
    settle_same (front ++ (settle part ++ back)) (front ++ (part ++ back)) (reads_behind front (settle part ++ back) (part ++ back) (reads_before (settle part) part back (settle_is part).same))

pub settle_back : (front part : List CellData) → settle (front ++ settle part) ≡ settle (front ++ part)
settle_back front part = settle_same (front ++ settle part) (front ++ part) (reads_behind front (settle part) part (settle_is part).same)

pub settle_front : (part back : List CellData) → settle (settle part ++ back) ≡ settle (part ++ back)
settle_front part back = settle_same (settle part ++ back) (part ++ back) (reads_before (settle part) part back (settle_is part).same)

-- what is kept depends on what is read alone
pub keeps_same : (xs ys ks ls : List CellData) (h : ℕ) → ReadsSame xs ys → ReadsSame ks ls → KeepsWanted xs h ks → KeepsWanted ys h ls
keeps_same xs ys ks ls h same kept_same keeps c = (
  λ r. (let z = (keeps c).0 ((kept_same c).1 r) in ((same c).0 z.0, wanted xs ys same z.1)),
  λ z. (kept_same c).0 ((keeps c).1 ((same c).1 z.0, wanted ys xs (reads_back xs ys same) z.1)),
)
  where
    wanted : (us vs : List CellData) → ReadsSame us vs → IsWanted us h c → IsWanted vs h c
    wanted us vs alike (inl l) = inl l
    wanted us vs alike (inr v) = inr ((visible_same us vs h c alike).0 v)

-- a sorted list of cells that are each right is a list as it is kept
pub settle_placed : (cells : List CellData) → AllByRecursion GoesWith cells → IsCellList (settle cells)
settle_placed cells placed = record {
  ascending = (settle_is cells).ascending;
  placed = has_all GoesWith (settle cells) (λ c h. all_has GoesWith cells c placed (has_from_reads cells c (((settle_is cells).same c).0 (reads_from_has (settle cells) c (settle_is cells).ascending h))));
}
