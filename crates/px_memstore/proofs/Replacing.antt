-- The cells of a batch that stand in a list already are replaced there.
use Rattle.std.proofs.Common.{◌≡◌, ℕ, zero, suc, ◌<◌, List, [], ◌∷◌, ◌++◌, length, take, drop, get_or, refl, sym, ◌∙◌, ap, subst, inl, inr, arith, append_assoc, take-append-drop}
use Rattle.std.proofs.lemmas.List.{append-nil}
use Rattle.std.specs.Prelude.{◌↔◌}
use Rattle.std.specs.List.{AllByRecursion}
use Rattle.px_cells.specs.CellData.{CellData}
use Rattle.px_cells.specs.Among.{Has}
use Rattle.px_cells.specs.Order.{Below, IsAscending, IsSettled, Reads, ReadsSame, SamePlace}
use Rattle.px_cells.proofs.Orders.{apart, below_trans}
use Rattle.px_cells.proofs.Among.{after_is_above, all_has, ascending_join, ascending_left, ascending_right, has_all, has_append, has_from_reads, has_left, has_right, reads_behind, reads_from_has, reads_left, reads_right}
use Rattle.px_cells.proofs.Sights.{place_back}
use Rattle.px_memstore.specs.inner.Merging.{IsReplaced}
use Rattle.px_memstore.proofs.Lists.{across}
use Rattle.px_memstore.proofs.Placed.{greater_is_above, rest_at}

-- on the way: so many cells of the batch are left, and these wait
pub record IsReplacing (rest cells aside batch-0 cells-0 : List CellData) : Type 0 where
  pub ascending : IsAscending cells
  pub sorted : IsAscending (rest ++ aside)
  pub apart : (m n : CellData) → Has cells m → Has aside n → SamePlace m n → ⊥
  pub same : ReadsSame (rest ++ (aside ++ cells)) (batch-0 ++ cells-0)

pub replacing_none : (batch cells : List CellData) → IsAscending cells → IsAscending batch → IsReplacing batch cells [] batch cells
replacing_none batch cells a b = record { ascending = a; sorted = subst IsAscending (sym (append-nil batch)) b; apart = λ m n h g. absurd g; same = λ d. (λ r. r, λ r. r) }

pub reads_trans : (xs ys zs : List CellData) → ReadsSame xs ys → ReadsSame ys zs → ReadsSame xs zs
reads_trans xs ys zs f g c = (λ r. (g c).0 ((f c).0 r), λ r. (f c).1 ((g c).1 r))

-- a cell that has the place of none before it may stand first
reads_first : (xs ys : List CellData) (c : CellData) → AllByRecursion (Below c) xs → ReadsSame (xs ++ c ∷ ys) (c ∷ (xs ++ ys))
reads_first [] ys c b d = (λ r. r, λ r. r)
reads_first (x ∷ xs) ys c b d = (to (reads_first xs ys c b.1 d).0, of (reads_first xs ys c b.1 d).1)
  where
    to : (Reads (xs ++ c ∷ ys) d → Reads (c ∷ (xs ++ ys)) d) → Reads (x ∷ (xs ++ c ∷ ys)) d → Reads (c ∷ (x ∷ (xs ++ ys))) d
    to f (inl e) = inr (λ s. apart c x b.0 (subst (SamePlace c) (sym e) s), inl e)
    to f (inr r) = elim (f r.1) [ inl e ↦ inl e | inr q ↦ inr (q.0, inr (r.0, q.1)) ]

    of : (Reads (c ∷ (xs ++ ys)) d → Reads (xs ++ c ∷ ys) d) → Reads (c ∷ (x ∷ (xs ++ ys))) d → Reads (x ∷ (xs ++ c ∷ ys)) d
    of f (inl e) = inr (λ s. apart c x b.0 (place_back x c (subst (SamePlace x) (sym e) s)), f (inl e))
    of f (inr (s, inl e)) = inl e
    of f (inr (s, inr r)) = inr (r.0, f (inr (s, r.1)))

module _ (front cells aside b0 c0 : List CellData) (c : CellData) (z : IsReplacing (front ++ c ∷ []) cells aside b0 c0) where
  whole : IsAscending (front ++ (c ∷ aside))
  whole = subst IsAscending (append_assoc front (c ∷ []) aside) z.sorted

  over : AllByRecursion (Below c) aside
  over = (ascending_right front (c ∷ aside) whole).0

  -- its place was taken: it stands there
  pub replacing_there : (new : List CellData) → IsSettled (c ∷ cells) new → IsReplacing front new aside b0 c0
  replacing_there new put = record {
    ascending = put.ascending;
    sorted = ascending_join front aside (ascending_left front (c ∷ aside) whole) (ascending_right front (c ∷ aside) whole).1 (λ m n h g. across front (c ∷ aside) m n whole h (inr g));
    apart = λ m n h g. by m n (has_from_reads (c ∷ cells) m ((put.same m).0 (reads_from_has new m put.ascending h))) g;
    same = reads_trans (front ++ (aside ++ new)) (front ++ (c ∷ (aside ++ cells))) (b0 ++ c0)
        (reads_behind front (aside ++ new) (c ∷ (aside ++ cells)) (reads_trans (aside ++ new) (aside ++ c ∷ cells) (c ∷ (aside ++ cells)) (reads_behind aside new (c ∷ cells) put.same) (reads_first aside cells c over)))
        (subst (λ (l : List CellData). ReadsSame l (b0 ++ c0)) (append_assoc front (c ∷ []) (aside ++ cells)) z.same);
  }
    where
      by : (m n : CellData) → Has (c ∷ cells) m → Has aside n → SamePlace m n → ⊥
      by m n (inl e) g s = apart c n (all_has (Below c) aside n over g) (subst (λ (x : CellData). SamePlace x n) (sym e) s)
      by m n (inr h) g s = z.apart m n h g s

  -- no cell has its place: it waits
  pub replacing_aside : ((m : CellData) → Has cells m → SamePlace m c → ⊥) → IsReplacing front cells (c ∷ aside) b0 c0
  replacing_aside none = record {
    ascending = z.ascending;
    sorted = whole;
    apart = by;
    same = subst (λ (l : List CellData). ReadsSame l (b0 ++ c0)) (append_assoc front (c ∷ []) (aside ++ cells)) z.same;
  }
    where
      by : (m n : CellData) → Has cells m → Has (c ∷ aside) n → SamePlace m n → ⊥
      by m n h (inl e) s = none m h (subst (SamePlace m) (sym e) s)
      by m n h (inr g) s = z.apart m n h g s

-- no cell has the place of c, where the first that isn't below it hasn't
pub no_place : (cells : List CellData) (i : ℕ) (c : CellData) → IsAscending cells → AllByRecursion (λ m. Below m c) (take i cells) → AllByRecursion (λ m. Below m c → ⊥) (drop i cells) → (i < length cells → SamePlace (get_or cells i c) c → ⊥) → (m : CellData) → Has cells m → SamePlace m c → ⊥
no_place cells i c a below from none m h s = elim (has_append (take i cells) (drop i cells) m (subst (λ (l : List CellData). Has l m) (sym (take-append-drop i cells)) h)) [
  | inl t ↦ apart m c (all_has (λ x. Below x c) (take i cells) m below t) s
  | inr t ↦ behind (drop i cells) refl from t
]
  where
    behind : (rest : List CellData) → drop i cells ≡ rest → AllByRecursion (λ x. Below x c → ⊥) rest → Has rest m → ⊥
    behind [] e f t = t
    behind (x ∷ rest) e f t =
        let some : i < length cells = inside cells i x rest e in
        let at : get_or cells i c ≡ x = ap (λ (l : List CellData). get_or l 0 c) (sym (rest_at cells i c some) ∙ e) in
        let differs : SamePlace x c → ⊥ = λ q. none some (subst (λ (y : CellData). SamePlace y c) (sym at) q) in
        let whole : IsAscending (take i cells ++ x ∷ rest) = subst IsAscending (sym (take-append-drop i cells) ∙ ap (λ (l : List CellData). take i cells ++ l) e) a in
        let up : Below c x = greater_is_above x c f.0 differs in
        elim t [
          | inl q ↦ differs (subst (λ (y : CellData). SamePlace y c) (sym q) s)
          | inr g ↦ apart c m (below_trans c x m up (after_is_above (take i cells) rest x m whole g)) (place_back m c s)
        ]
      where
        inside : (xs : List CellData) (k : ℕ) (y : CellData) (ys : List CellData) → drop k xs ≡ y ∷ ys → k < length xs
        inside [] zero y ys q = cc
        inside [] (suc k) y ys q = cc
        inside (z ∷ xs) zero y ys q = omega arith
        inside (z ∷ xs) (suc k) y ys q = (let l = inside xs k y ys q in omega (arith, l))

pub replacing_done : (rest cells aside b0 c0 : List CellData) → rest ≡ [] → IsReplacing rest cells aside b0 c0 → IsReplaced b0 c0 cells aside
replacing_done rest cells aside b0 c0 none z = record {
  ascending = z.ascending;
  sorted = ascending_right rest aside z.sorted;
  apart = z.apart;
  same = subst (λ (l : List CellData). ReadsSame (l ++ (aside ++ cells)) (b0 ++ c0)) none z.same;
}

-- a sorted list of the same cells as two that have no place in common
pub joined_settled : (batch cells new left all : List CellData) → IsReplaced batch cells new left → IsAscending all → ((d : CellData) → Has all d ↔ Has (new ++ left) d) → IsSettled (batch ++ cells) all
joined_settled batch cells new left all r ascending same = record {
  ascending = ascending;
  same = λ d. (
    λ h. (r.same d).0 (to d ((same d).0 (has_from_reads all d h))),
    λ h. reads_from_has all d ascending ((same d).1 (of d ((r.same d).1 h))),
  );
}
  where
    to : (d : CellData) → Has (new ++ left) d → Reads (left ++ new) d
    to d h = elim (has_append new left d h) [
      | inl a ↦ reads_right left new d (has_all (λ x. SamePlace x d → ⊥) left (λ x g s. r.apart d x a g (place_back x d s))) (reads_from_has new d r.ascending a)
      | inr b ↦ reads_left left new d (reads_from_has left d r.sorted b)
    ]

    of : (d : CellData) → Reads (left ++ new) d → Has (new ++ left) d
    of d h = elim (has_append left new d (has_from_reads (left ++ new) d h)) [ inl a ↦ has_right new left d a | inr b ↦ has_left new left d b ]
