-- What several lists have together behind a cell.
use Rattle.std.proofs.Common.{◌≡◌, List, [], ◌∷◌, ◌++◌, refl, sym, ap, subst, ◌∙◌, inl, inr}
use Rattle.std.specs.Prelude.{map}
use Rattle.std.specs.List.{AllByRecursion}
use Rattle.std.specs.declared.cmp.Ordering.{Ordering}
use Rattle.std.specs.declared.cmp.Ordering.TheVariants.{Less, Equal, Greater}
use Rattle.px_cells.specs.CellData.{CellData}
use Rattle.px_cells.specs.Among.{Has}
use Rattle.px_cells.specs.Order.{cell_cmp, Below, IsAscending, Reads, SamePlace}
use Rattle.px_cells.proofs.Among.{all_has, has_all, has_append, has_from_reads, has_left, has_right, reads_append, reads_from_has, reads_left, reads_right}
use Rattle.px_cells.proofs.Orders.{apart, below_left, below_right, below_trans, not_below_itself}
use Rattle.px_cells.proofs.Sights.{equal_from_place, place_back, place_from_equal, place_trans}
use Rattle.px_merge.specs.Merged.{AreSorted, joined}
use Rattle.px_merge.specs.Settle.{settle}
use Rattle.px_merge.proofs.Merges.{below_from_greater}
use Rattle.px_merge.proofs.Reading.{read_at}
use Rattle.px_merge.proofs.Settling.{settle_is, settled_is}
use Rattle.px_sources.specs.Passed.{behind, behind_by}

-- ---- one list

-- how a place stands to the first of a list, and what stands behind the place
data Cases (place c : CellData) (cells : List CellData) : Type 0 where
  at : SamePlace place c → behind place (c ∷ cells) ≡ cells → Cases place c cells
  below : Below place c → behind place (c ∷ cells) ≡ c ∷ cells → Cases place c cells
  above : Below c place → behind place (c ∷ cells) ≡ c ∷ cells → Cases place c cells

cases : (place c : CellData) (cells : List CellData) → Cases place c cells
cases place c cells = by (cell_cmp place c) refl
  where
    by : (o : Ordering) → cell_cmp place c ≡ o → Cases place c cells
    by Less e = below e (ap (λ (o : Ordering). behind_by o c cells) e)
    by Equal e = at (place_from_equal place c e) (ap (λ (o : Ordering). behind_by o c cells) e)
    by Greater e = above (below_from_greater place c e) (ap (λ (o : Ordering). behind_by o c cells) e)

pub behind_at : (place c : CellData) (cells : List CellData) → SamePlace place c → behind place (c ∷ cells) ≡ cells
behind_at place c cells same = ap (λ (o : Ordering). behind_by o c cells) (equal_from_place place c same)

pub behind_not : (place c : CellData) (cells : List CellData) → (SamePlace place c → ⊥) → behind place (c ∷ cells) ≡ c ∷ cells
behind_not place c cells other = elim (cases place c cells) [ at s e ↦ absurd (other s) | below b e ↦ e | above b e ↦ e ]

pub behind_sorted : (place : CellData) (cells : List CellData) → IsAscending cells → IsAscending (behind place cells)
behind_sorted place [] a = tt
behind_sorted place (c ∷ cells) a = elim (cases place c cells) [ at s e ↦ subst IsAscending (sym e) a.1 | below b e ↦ subst IsAscending (sym e) a | above b e ↦ subst IsAscending (sym e) a ]

-- ---- what is read elsewhere

more_behind : (xs ys zs : List CellData) (d : CellData) → (Reads ys d → Reads zs d) → Reads (xs ++ ys) d → Reads (xs ++ zs) d
more_behind xs ys zs d f r = elim (reads_append xs ys d r) [ inl a ↦ reads_left xs zs d a | inr b ↦ reads_right xs zs d b.0 (f b.1) ]

module _ (place d : CellData) (other : SamePlace place d → ⊥) where
  pub reads_to : (lists : List (List CellData)) → Reads (joined lists) d → Reads (joined (map (behind place) lists)) d
  reads_to [] r = r
  reads_to ([] ∷ lists) r = reads_to lists r
  reads_to ((c ∷ cells) ∷ lists) r =
      let rest = joined (map (behind place) lists) in
      elim (cases place c cells) [
        | at s e ↦ subst (λ (l : List CellData). Reads (l ++ rest) d) (sym e) (elim r [
          | inl same ↦ absurd (other (subst (SamePlace place) same s))
          | inr more ↦ more_behind cells (joined lists) rest d (reads_to lists) more.1
        ])
        | below b e ↦ subst (λ (l : List CellData). Reads (l ++ rest) d) (sym e) (more_behind (c ∷ cells) (joined lists) rest d (reads_to lists) r)
        | above b e ↦ subst (λ (l : List CellData). Reads (l ++ rest) d) (sym e) (more_behind (c ∷ cells) (joined lists) rest d (reads_to lists) r)
      ]

  pub reads_of : (lists : List (List CellData)) → Reads (joined (map (behind place) lists)) d → Reads (joined lists) d
  reads_of [] r = r
  reads_of ([] ∷ lists) r = reads_of lists r
  reads_of ((c ∷ cells) ∷ lists) r =
      let rest = joined (map (behind place) lists) in
      elim (cases place c cells) [
        | at s e ↦ inr (
          λ same. other (place_trans place c d s same),
          more_behind cells rest (joined lists) d (reads_of lists) (subst (λ (l : List CellData). Reads (l ++ rest) d) e r),
        )
        | below b e ↦ more_behind (c ∷ cells) rest (joined lists) d (reads_of lists) (subst (λ (l : List CellData). Reads (l ++ rest) d) e r)
        | above b e ↦ more_behind (c ∷ cells) rest (joined lists) d (reads_of lists) (subst (λ (l : List CellData). Reads (l ++ rest) d) e r)
      ]

-- ---- nothing is left at the place

none_left : (place d : CellData) (lists : List (List CellData)) → AreSorted lists → ((c : CellData) → Has (joined lists) c → Below c place → ⊥) → Has (joined (map (behind place) lists)) d → SamePlace place d → ⊥
none_left place d [] sorted least has = absurd has
none_left place d ([] ∷ lists) sorted least has = none_left place d lists sorted.1 least has
none_left place d ((c ∷ cells) ∷ lists) sorted least has =
    let rest = joined (map (behind place) lists) in
    let later : Has rest d → SamePlace place d → ⊥ = λ h. none_left place d lists sorted.1 (λ x k. least x (has_right (c ∷ cells) (joined lists) x k)) h in
    elim (cases place c cells) [
      | at s e ↦ λ same. elim (has_append cells rest d (subst (λ (l : List CellData). Has (l ++ rest) d) e has)) [
        | inl own ↦ apart place d (below_left c place d (place_back place c s) (all_has (Below c) cells d sorted.0.0 own)) same
        | inr more ↦ later more same
      ]
      | below b e ↦ λ same. elim (has_append (c ∷ cells) rest d (subst (λ (l : List CellData). Has (l ++ rest) d) e has)) [
        | inl (inl is) ↦ apart place d (subst (Below place) is b) same
        | inl (inr own) ↦ apart place d (below_trans place c d b (all_has (Below c) cells d sorted.0.0 own)) same
        | inr more ↦ later more same
      ]
      | above b e ↦ absurd (least c (inl refl) b)
    ]

-- no cell is below the one that comes first
none_below : (place c : CellData) (rest cells : List CellData) → SamePlace place c → settle cells ≡ c ∷ rest → (x : CellData) → Has cells x → Below x place → ⊥
none_below place c rest cells same is x has under =
    let r = read_at cells x has in
    let there : Reads (c ∷ rest) r.cell = subst (λ (l : List CellData). Reads l r.cell) is (((settle_is cells).same r.cell).1 r.read) in
    let low : Below r.cell c = below_right r.cell place c same (below_left x r.cell place (place_back r.cell x r.same) under) in
    elim there [
      | inl e ↦ not_below_itself c (subst (λ (y : CellData). Below y c) (sym e) low)
      | inr more ↦ not_below_itself c (below_trans c r.cell c (all_has (Below c) rest r.cell (subst IsAscending is (settle_is cells).ascending).0 (has_from_reads rest r.cell more.1)) low)
    ]

-- what several lists have together behind the cell that comes first is what they have together where each is behind it
pub passed_is : (place c : CellData) (rest : List CellData) (lists : List (List CellData)) → AreSorted lists → SamePlace place c → settle (joined lists) ≡ c ∷ rest → rest ≡ settle (joined (map (behind place) lists))
passed_is place c rest lists sorted same is =
    let up : IsAscending (c ∷ rest) = subst IsAscending is (settle_is (joined lists)).ascending in
    settled_is (joined (map (behind place) lists)) rest (record {
      ascending = up.1;
      same = λ d. (
        λ r.
            let over : Below place d = below_left c place d (place_back place c same) (all_has (Below c) rest d up.0 (has_from_reads rest d r)) in
            let other : SamePlace place d → ⊥ = apart place d over in
            let whole : Reads (c ∷ rest) d = inr (λ s. other (place_trans place c d same s), r) in
            reads_to place d other lists (((settle_is (joined lists)).same d).0 (subst (λ (l : List CellData). Reads l d) (sym is) whole)),
        λ r.
            let other : SamePlace place d → ⊥ = none_left place d lists sorted (none_below place c rest (joined lists) same is) (has_from_reads (joined (map (behind place) lists)) d r) in
            let whole : Reads (c ∷ rest) d = subst (λ (l : List CellData). Reads l d) is (((settle_is (joined lists)).same d).1 (reads_of place d other lists r)) in
            elim whole [ inl e ↦ absurd (other (subst (SamePlace place) e same)) | inr more ↦ more.1 ],
      );
    })
