-- The greatest cell that is left of a batch gets its place in a list.
use Rattle.std.proofs.Common.{◌≡◌, ℕ, ◌<◌, ◌≤◌, List, [], ◌∷◌, ◌++◌, length, take, drop, get_or, refl, sym, ◌∙◌, ap, subst, inl, inr, append_assoc, arith, length-take-le, take-append-drop}
use Rattle.std.specs.Prelude.{slice_set}
use Rattle.std.specs.List.{AllByRecursion}
use Rattle.std.specs.declared.cmp.Ordering.{Ordering}
use Rattle.std.specs.declared.cmp.Ordering.TheVariants.{Less, Equal, Greater}
use Rattle.std.specs.Ordering.{ordering_reverse}
use Rattle.std.proofs.lemmas.List.{get_or-take, take-take}
use Rattle.px_cells.specs.CellData.{CellData}
use Rattle.px_cells.specs.Among.{Has}
use Rattle.px_cells.specs.Order.{Below, IsAscending, SamePlace, cell_cmp}
use Rattle.px_cells.proofs.Orders.{apart, below_right, below_trans, cell_cmp_total, not_below_itself}
use Rattle.px_cells.proofs.Among.{all_has, has_all, has_append, has_right}
use Rattle.px_cells.proofs.Sights.{place_back, place_from_equal}
use Rattle.px_memstore.specs.inner.Merging.{ArePlaces, BelongsAt}
use Rattle.px_memstore.proofs.Lists.{across, drop_within}
use Rattle.px_memstore.proofs.Placed.{replaced}
use Rattle.px_memstore.proofs.Replacing.{IsReplacing, no_place, replacing_aside, replacing_there}
use Rattle.px_memstore.proofs.Turned.{has_dropped, nat_cases, places_set, set_drop}

-- what is below a cell is below those that aren't
under_others : (n c m : CellData) → Below n c → (Below m c → ⊥) → Below n m
under_others n c m b less = by (cell_cmp m c) refl
  where
    by : (o : Ordering) → cell_cmp m c ≡ o → Below n m
    by Less e = absurd (less e)
    by Equal e = below_right n c m (place_back m c (place_from_equal m c e)) b
    by Greater e = below_trans n c m b (cell_cmp_total.antisymm c m ∙ ap ordering_reverse e)

module _ (cells : List CellData) (end at : ℕ) (c : CellData) (front aside b0 c0 : List CellData) (z : IsReplacing (front ++ c ∷ []) cells aside b0 c0) (inside : end ≤ length cells)
    (over : (n : CellData) → Has (front ++ c ∷ []) n → AllByRecursion (Below n) (drop end cells)) (within : at ≤ length (take end cells)) (below : AllByRecursion (λ m. Below m c) (take at (take end cells))) (from : AllByRecursion (λ m. Below m c → ⊥) (drop at (take end cells))) where
  near_len : length (take end cells) ≡ end
  near_len = length-take-le end cells inside

  low : at ≤ end
  low = omega (arith, within, near_len)

  under : AllByRecursion (λ m. Below m c) (take at cells)
  under = subst (AllByRecursion (λ m. Below m c)) (take-take at end cells low) below

  parts : drop at cells ≡ drop at (take end cells) ++ drop end cells
  parts = ap (drop at) (sym (take-append-drop end cells)) ∙ drop_within (take end cells) (drop end cells) at within

  others : AllByRecursion (λ m. Below m c → ⊥) (drop at cells)
  others = has_all (λ m. Below m c → ⊥) (drop at cells) (λ m h b. elim (has_append (drop at (take end cells)) (drop end cells) m (subst (λ (l : List CellData). Has l m) parts h)) [
    | inl l ↦ all_has (λ m. Below m c → ⊥) (drop at (take end cells)) m from l b
    | inr r ↦ not_below_itself c (below_trans c m c (all_has (Below c) (drop end cells) m (over c (has_right front (c ∷ []) c (inl refl))) r) b)
  ])

  pub at_within : at ≤ length cells
  at_within = omega (arith, low, inside)

  pub belongs : BelongsAt cells 0 c at
  belongs = record { at = at; is = omega arith; within = at_within; below = under; from = others }

  -- the cells of the batch before it are below all from its place on
  pub next : (n : CellData) → Has front n → AllByRecursion (Below n) (drop at cells)
  next n h = has_all (Below n) (drop at cells) (λ m g. under_others n c m
      (across front (c ∷ aside) n c (subst IsAscending (append_assoc front (c ∷ []) aside) z.sorted) h (inl refl))
      (all_has (λ m. Below m c → ⊥) (drop at cells) m others g))

  -- its place is taken
  module _ (found : (at < length (take end cells)) × SamePlace (get_or (take end cells) at c) c) where
    taken : SamePlace (get_or cells at c) c
    taken = (let l : at < end = (let k = found.0 in omega (arith, k, near_len)) in subst (λ (x : CellData). SamePlace x c) (get_or-take end cells at c l) found.1)

    pub put_there : IsReplacing front (slice_set cells at c) aside b0 c0
    put_there = replacing_there front cells aside b0 c0 c z (slice_set cells at c) (replaced cells at c z.ascending (let k = found.0 in omega (arith, k, near_len, inside)) under taken)

    pub put_places : (ps : List ℕ) → ArePlaces cells 0 aside ps → ArePlaces (slice_set cells at c) 0 aside ps
    put_places ps a = places_set cells at c aside ps taken a

    pub put_next : (n : CellData) → Has front n → AllByRecursion (Below n) (drop at (slice_set cells at c))
    put_next n h = set_drop (Below n) cells at at c (λ _. across front (c ∷ aside) n c (subst IsAscending (append_assoc front (c ∷ []) aside) z.sorted) h (inl refl)) (next n h)

  -- it isn't
  pub waits : (at < length (take end cells) → SamePlace (get_or (take end cells) at c) c → ⊥) → IsReplacing front cells (c ∷ aside) b0 c0
  waits none = replacing_aside front cells aside b0 c0 c z (no_place cells at c z.ascending under others absent)
    where
      absent : at < length cells → SamePlace (get_or cells at c) c → ⊥
      absent l s = elim (nat_cases at end) [
        | inl k ↦ none (omega (arith, k, near_len)) (subst (λ (x : CellData). SamePlace x c) (sym (get_or-take end cells at c k)) s)
        | inr k ↦ (let same : at ≡ end = omega (arith, k, low) in
            let h : Has (drop end cells) (get_or cells at c) = subst (λ (n : ℕ). Has (drop n cells) (get_or cells at c)) same (has_dropped cells at c l) in
            apart c (get_or cells at c) (all_has (Below c) (drop end cells) (get_or cells at c) (over c (has_right front (c ∷ []) c (inl refl))) h) (place_back (get_or cells at c) c s))
      ]
