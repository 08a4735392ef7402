-- What is kept of rows that are apart.
use Rattle.std.proofs.Common.{◌≡◌, ℕ, List, [], ◌∷◌, ◌++◌, inl, inr, subst, sym, refl, ◌∙◌}
use Rattle.std.specs.Prelude.{◌↔◌}
use Rattle.px_cells.specs.CellData.{CellData}
use Rattle.px_cells.specs.Among.{Has}
use Rattle.px_cells.specs.Order.{Below, Reads, GoesWith, IsAscending, SamePlace}
use Rattle.px_cells.specs.Visible.{IsVisible}
use Rattle.px_cells.proofs.Among.{all_has, has_all, has_append, has_left, has_right, has_from_reads, reads_from_has, ascending_join, ascending_left, ascending_right, reads_append, reads_left, reads_right}
use Rattle.px_cells.proofs.Sights.{visible_like}
use Rattle.px_merge.specs.Kept.{IsKeptList, IsWanted}
use Rattle.px_forgetting.specs.Rows.{AreApart}

-- each cell of the first part stands before those of the second
below_across : (xs ys : List CellData) → IsAscending (xs ++ ys) → (m n : CellData) → Has xs m → Has ys n → Below m n
below_across [] ys a m n h g = absurd h
below_across (x ∷ xs) ys a m n (inl e) g = subst (λ (c : CellData). Below c n) e (all_has (Below x) (xs ++ ys) n a.0 (has_right xs ys n g))
below_across (x ∷ xs) ys a m n (inr h) g = below_across xs ys a.1 m n h g

module _ (xs ys : List CellData) (h : ℕ) (sorted : IsAscending (xs ++ ys)) (apart : AreApart xs ys) where
  -- of the rows of one part the other says nothing
  reads_first : (c d : CellData) → Has xs c → d.key ≡ c.key → Reads (xs ++ ys) d ↔ Reads xs d
  reads_first c d g k = (
    λ r. elim (reads_append xs ys d r) [ inl a ↦ a | inr b ↦ absurd (apart c d g (has_from_reads ys d b.1) (sym k)) ],
    λ r. reads_left xs ys d r,
  )

  reads_second : (c d : CellData) → Has ys c → d.key ≡ c.key → Reads (xs ++ ys) d ↔ Reads ys d
  reads_second c d g k = (
    λ r. elim (reads_append xs ys d r) [ inl a ↦ absurd (apart d c (has_from_reads xs d a) g k) | inr b ↦ b.1 ],
    λ r. reads_right xs ys d (has_all (λ x. SamePlace x d → ⊥) xs (λ x m s. apart x c m g (s.key ∙ k))) r,
  )

  seen_first : (c : CellData) → Has xs c → IsVisible (xs ++ ys) h c ↔ IsVisible xs h c
  seen_first c g = (
    λ v. visible_like (λ d. d.key ≡ c.key) h (λ m q u k w. k ∙ u) (xs ++ ys) xs (λ d k. reads_first c d g k) c refl v,
    λ v. visible_like (λ d. d.key ≡ c.key) h (λ m q u k w. k ∙ u) xs (xs ++ ys) (λ d k. ((reads_first c d g k).1, (reads_first c d g k).0)) c refl v,
  )

  seen_second : (c : CellData) → Has ys c → IsVisible (xs ++ ys) h c ↔ IsVisible ys h c
  seen_second c g = (
    λ v. visible_like (λ d. d.key ≡ c.key) h (λ m q u k w. k ∙ u) (xs ++ ys) ys (λ d k. reads_second c d g k) c refl v,
    λ v. visible_like (λ d. d.key ≡ c.key) h (λ m q u k w. k ∙ u) ys (xs ++ ys) (λ d k. ((reads_second c d g k).1, (reads_second c d g k).0)) c refl v,
  )

  wanted_by : (cells others : List CellData) (c : CellData) → (IsVisible cells h c → IsVisible others h c) → IsWanted cells h c → IsWanted others h c
  wanted_by cells others c f (inl l) = inl l
  wanted_by cells others c f (inr v) = inr (f v)

  module _ (a b : List CellData) (ka : IsKeptList xs h a) (kb : IsKeptList ys h b) where
    from_first : (c : CellData) → Has a c → Has xs c × IsWanted xs h c
    from_first c g = (let z = (ka.exact c).0 (reads_from_has a c ka.list.ascending g) in (has_from_reads xs c z.0, z.1))

    from_second : (c : CellData) → Has b c → Has ys c × IsWanted ys h c
    from_second c g = (let z = (kb.exact c).0 (reads_from_has b c kb.list.ascending g) in (has_from_reads ys c z.0, z.1))

    joined_sorted : IsAscending (a ++ b)
    joined_sorted = ascending_join a b ka.list.ascending kb.list.ascending (λ m n g f. below_across xs ys sorted m n (from_first m g).0 (from_second n f).0)

    to_all : (c : CellData) → Has (a ++ b) c → Reads (xs ++ ys) c × IsWanted (xs ++ ys) h c
    to_all c g = elim (has_append a b c g) [
      | inl l ↦ (let z = from_first c l in (reads_from_has (xs ++ ys) c sorted (has_left xs ys c z.0), wanted_by xs (xs ++ ys) c (λ v. (seen_first c z.0).1 v) z.1))
      | inr r ↦ (let z = from_second c r in (reads_from_has (xs ++ ys) c sorted (has_right xs ys c z.0), wanted_by ys (xs ++ ys) c (λ v. (seen_second c z.0).1 v) z.1))
    ]

    of_all : (c : CellData) → Has (xs ++ ys) c → IsWanted (xs ++ ys) h c → Has (a ++ b) c
    of_all c g w = elim (has_append xs ys c g) [
      | inl l ↦ has_left a b c (has_from_reads a c ((ka.exact c).1 (reads_from_has xs c (ascending_left xs ys sorted) l, wanted_by (xs ++ ys) xs c (λ v. (seen_first c l).0 v) w)))
      | inr r ↦ has_right a b c (has_from_reads b c ((kb.exact c).1 (reads_from_has ys c (ascending_right xs ys sorted) r, wanted_by (xs ++ ys) ys c (λ v. (seen_second c r).0 v) w)))
    ]

    -- what is kept of both is what is kept of each
    pub kept_parts : IsKeptList (xs ++ ys) h (a ++ b)
    kept_parts = record {
      list = record {
        ascending = joined_sorted;
        placed = has_all GoesWith (a ++ b) (λ c g. elim (has_append a b c g) [ inl l ↦ all_has GoesWith a c ka.list.placed l | inr r ↦ all_has GoesWith b c kb.list.placed r ]);
      };
      exact = λ c. (
        λ r. to_all c (has_from_reads (a ++ b) c r),
        λ z. reads_from_has (a ++ b) c joined_sorted (of_all c (has_from_reads (xs ++ ys) c z.0) z.1),
      );
    }
