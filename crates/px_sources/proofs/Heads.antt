-- The first of what several lists have together.
use Rattle.std.proofs.Common.{◌≡◌, List, [], ◌∷◌, ◌++◌, refl, sym, ap, subst, ◌∙◌, Some, None}
use Rattle.std.specs.Prelude.{Option}
use Rattle.std.specs.Borrow.{Bor}
use Rattle.std.specs.List.{AllByRecursion}
use Rattle.std.specs.declared.cmp.Ordering.TheVariants.{Less, Equal, Greater}
use Rattle.px_cells.specs.CellData.{CellData}
use Rattle.px_cells.specs.Order.{cell_cmp, Below, IsAscending}
use Rattle.px_cells.proofs.Among.{all_has, has_all}
use Rattle.px_cells.proofs.Orders.{below_left, below_trans}
use Rattle.px_cells.proofs.Sights.{place_from_equal}
use Rattle.px_merge.specs.Merged.{joined}
use Rattle.px_merge.specs.Settle.{settle}
use Rattle.px_merge.specs.Taking.{IsHead, merge}
use Rattle.px_merge.proofs.Merges.{below_from_greater, merge_both, merge_first, merge_second, merge_settled}
use Rattle.px_merge.proofs.Settling.{settle_back, settle_is, settled_is}

-- what a list and others have together
pub settle_first : (cells rest : List CellData) → settle (cells ++ rest) ≡ merge cells (settle rest)
settle_first cells rest = sym (settled_is (cells ++ settle rest) (merge cells (settle rest)) (merge_settled cells (settle rest) (settle_is rest).ascending) ∙ settle_back cells rest)

-- a cell below the first of a sorted list is below all of it
below_list : (c d : CellData) (ys rest : List CellData) → ys ≡ d ∷ rest → IsAscending ys → Below c d → AllByRecursion (Below c) ys
below_list c d ys rest e a b = subst (AllByRecursion (Below c)) (sym e) (b, has_all (Below c) rest (λ m h. below_trans c d m b (all_has (Below d) rest m (subst IsAscending e a).0 h)))

merge_none : (ys : List CellData) → merge [] ys ≡ ys
unfolding merge
merge_none ys = refl

-- nothing stands in the second list,
pub head_alone : (xs ys : List CellData) (first : Option (Bor CellData)) → IsAscending xs → IsHead first xs → ys ≡ [] → IsHead first (merge xs ys)
head_alone xs ys None a h none = ap (λ (l : List CellData). merge l ys) h ∙ merge_none ys ∙ none
head_alone xs ys (Some c) a h none =
    (merge h.0 ys, ap (λ (l : List CellData). merge l ys) h.1 ∙ merge_first c.now h.0 ys (subst IsAscending h.1 a).0 (subst (AllByRecursion (Below c.now)) (sym none) tt))

-- or in the first,
pub head_second : (xs ys : List CellData) (second : Option (Bor CellData)) → IsHead second ys → xs ≡ [] → IsHead second (merge xs ys)
head_second xs ys second g none = subst (IsHead second) (sym (ap (λ (l : List CellData). merge l ys) none ∙ merge_none ys)) g

-- or the lesser of both heads comes first
pub head_less : (c d : Bor CellData) (xs ys : List CellData) → IsAscending xs → IsAscending ys → IsHead (Some c) xs → IsHead (Some d) ys → cell_cmp c.now d.now ≡ Less → IsHead (Some c) (merge xs ys)
head_less c d xs ys a b h g e =
    (merge h.0 ys, ap (λ (l : List CellData). merge l ys) h.1 ∙ merge_first c.now h.0 ys (subst IsAscending h.1 a).0 (below_list c.now d.now ys g.0 g.1 b e))

pub head_equal : (c d : Bor CellData) (xs ys : List CellData) → IsAscending xs → IsAscending ys → IsHead (Some c) xs → IsHead (Some d) ys → cell_cmp c.now d.now ≡ Equal → IsHead (Some c) (merge xs ys)
head_equal c d xs ys a b h g e = (
  merge h.0 g.0,
  ap (λ (l : List CellData). merge l ys) h.1 ∙ ap (merge (c.now ∷ h.0)) g.1
      ∙ merge_both c.now d.now h.0 g.0 e (has_all (Below d.now) h.0 (λ m k. below_left c.now d.now m (place_from_equal c.now d.now e) (all_has (Below c.now) h.0 m (subst IsAscending h.1 a).0 k))),
)

pub head_greater : (c d : Bor CellData) (xs ys : List CellData) → IsAscending xs → IsAscending ys → IsHead (Some c) xs → IsHead (Some d) ys → cell_cmp c.now d.now ≡ Greater → IsHead (Some d) (merge xs ys)
head_greater c d xs ys a b h g e =
    (merge xs g.0, ap (merge xs) g.1 ∙ merge_second d.now xs g.0 (below_list d.now c.now xs h.0 h.1 a (below_from_greater c.now d.now e)))
