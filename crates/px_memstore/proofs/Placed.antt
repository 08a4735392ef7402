-- The place of a cell in a sorted list, and what is read where it is put there.
use Rattle.std.proofs.Common.{◌≡◌, ℕ, suc, zero, ◌+◌, ◌<◌, ◌≤◌, Bool, true, false, List, [], ◌∷◌, ◌++◌, length, take, drop, get_or, refl, sym, ◌∙◌, ap, subst, inl, inr, arith}
use Rattle.std.specs.Prelude.{slice_set}
use Rattle.std.specs.List.{AllByRecursion, AllWithin}
use Rattle.std.specs.List.Sorted.{IsPartitionedBy}
use Rattle.std.specs.declared.cmp.Ordering.{Ordering}
use Rattle.std.specs.declared.cmp.Ordering.TheVariants.{Less, Equal, Greater}
use Rattle.std.specs.Ordering.{is_eq, is_lt, ordering_reverse}
use Rattle.std.proofs.lemmas.Bool.{cases_eq}
use Rattle.std.proofs.lemmas.List.{drop-set, get_or-drop, get_or-take, length-drop, length-take-le, take-append-drop, take-set}
use Rattle.std.proofs.lemmas.List.Elements.{recursion_from_All}
use Rattle.px_cells.specs.CellData.{CellData}
use Rattle.px_cells.specs.Among.{Has}
use Rattle.px_cells.specs.Order.{Below, IsAscending, IsSettled, Reads, SamePlace, cell_cmp}
use Rattle.px_cells.proofs.Orders.{apart, below_left, below_trans, cell_cmp_total}
use Rattle.px_cells.proofs.Among.{after_is_above, all_has, ascending_join, ascending_left, ascending_right, has_all, has_append, has_from_reads, has_left, has_right, reads_from_has}
use Rattle.px_cells.proofs.RowLemmas.{below_at}
use Rattle.px_cells.proofs.Sights.{equal_from_place, place_back, place_from_equal}

-- ---- the place of a cell

less_of : (o : Ordering) → is_lt o ≡ true → o ≡ Less
less_of Less h = refl
less_of Equal h = cc
less_of Greater h = cc

pub parted : (cells : List CellData) (c : CellData) → IsAscending cells → IsPartitionedBy (λ m. is_lt (cell_cmp m c)) cells
parted cells c a i j d l h p = elim (cases_eq i j) [
  | inl e ↦ subst (λ (n : ℕ). is_lt (cell_cmp (get_or cells n d) c) ≡ true) (sym e) p
  | inr n ↦ ap is_lt (below_trans (get_or cells i d) (get_or cells j d) c (below_at cells i j d a (omega arith) h) (less_of _ p))
]

pub below_parts : (cells : List CellData) (c : CellData) (i : ℕ) → i ≤ length cells → AllWithin (λ m. is_lt (cell_cmp m c) ≡ true) cells 0 i → AllByRecursion (λ m. Below m c) (take i cells)
below_parts cells c i l w = recursion_from_All (λ m. Below m c) (take i cells) (λ k d h.
    let n : k < i = omega (arith, length-take-le i cells l) in
    subst (λ (m : CellData). Below m c) (sym (get_or-take i cells k d n)) (less_of _ (w k d (omega arith) n)))

pub from_parts : (cells : List CellData) (c : CellData) (i : ℕ) → AllWithin (λ m. is_lt (cell_cmp m c) ≡ false) cells i (length cells) → AllByRecursion (λ m. Below m c → ⊥) (drop i cells)
from_parts cells c i w = recursion_from_All (λ m. Below m c → ⊥) (drop i cells) (λ k d h b.
    let q : is_lt (cell_cmp (get_or cells (i + k) d) c) ≡ false = w (i + k) d (omega arith) (omega (arith, length-drop i cells)) in
    let e : is_lt (cell_cmp (get_or cells (i + k) d) c) ≡ true = subst (λ (m : CellData). is_lt (cell_cmp m c) ≡ true) (get_or-drop i cells k d) (ap is_lt b) in
    let z : true ≡ false = sym e ∙ q in cc)

-- ---- one cell

module _ (c : CellData) (left equal above : List CellData) (a : IsAscending (left ++ (equal ++ above))) (below : AllByRecursion (λ m. Below m c) left) (same : AllByRecursion (λ m. SamePlace m c) equal) (over : AllByRecursion (Below c) above) where
  joined_ascending : IsAscending (left ++ c ∷ above)
  joined_ascending = ascending_join left (c ∷ above) (ascending_left left (equal ++ above) a) (over, ascending_right equal above (ascending_right left (equal ++ above) a)) (λ m n h g. by m n (all_has (λ m. Below m c) left m below h) g)
    where
      by : (m n : CellData) → Below m c → Has (c ∷ above) n → Below m n
      by m n b (inl e) = subst (λ (x : CellData). Below m x) e b
      by m n b (inr h) = below_trans m c n b (all_has (Below c) above n over h)

  reads_to : (d : CellData) → Has (left ++ c ∷ above) d → Reads (c ∷ (left ++ (equal ++ above))) d
  reads_to d h = elim (has_append left (c ∷ above) d h) [
    | inl l ↦ inr (λ s. apart d c (all_has (λ m. Below m c) left d below l) (place_back c d s), reads_from_has (left ++ (equal ++ above)) d a (has_left left (equal ++ above) d l))
    | inr (inl e) ↦ inl e
    | inr (inr r) ↦ inr (λ s. apart c d (all_has (Below c) above d over r) s, reads_from_has (left ++ (equal ++ above)) d a (has_right left (equal ++ above) d (has_right equal above d r)))
  ]

  reads_of : (d : CellData) → Reads (c ∷ (left ++ (equal ++ above))) d → Has (left ++ c ∷ above) d
  reads_of d (inl e) = has_right left (c ∷ above) d (inl e)
  reads_of d (inr r) = elim (has_append left (equal ++ above) d (has_from_reads (left ++ (equal ++ above)) d r.1)) [
    | inl h ↦ has_left left (c ∷ above) d h
    | inr h ↦ elim (has_append equal above d h) [
      | inl g ↦ absurd (r.0 (place_back d c (all_has (λ m. SamePlace m c) equal d same g)))
      | inr g ↦ has_right left (c ∷ above) d (inr g)
    ]
  ]

  put_settled : IsSettled (c ∷ (left ++ (equal ++ above))) (left ++ c ∷ above)
  put_settled = record { ascending = joined_ascending; same = λ d. (λ r. reads_to d (has_from_reads (left ++ c ∷ above) d r), λ r. reads_from_has (left ++ c ∷ above) d joined_ascending (reads_of d r)) }

-- a list from a place on
pub rest_at : (cells : List CellData) (i : ℕ) (d : CellData) → i < length cells → drop i cells ≡ get_or cells i d ∷ drop (i + 1) cells
rest_at [] i d l = absurd (omega arith)
rest_at (x ∷ cells) zero d l = refl
rest_at (x ∷ cells) (suc i) d l = rest_at cells i d (omega arith) ∙ ap (λ (n : ℕ). get_or cells i d ∷ drop n (x ∷ cells)) next
  where
    next : suc (i + 1) ≡ suc i + 1
    next = omega arith

rest_none : (cells : List CellData) (i : ℕ) → length cells ≤ i → drop i cells ≡ []
rest_none [] zero l = refl
rest_none [] (suc i) l = refl
rest_none (x ∷ cells) zero l = absurd (omega arith)
rest_none (x ∷ cells) (suc i) l = rest_none cells i (omega arith)

-- the cell at its place is replaced
pub replaced : (cells : List CellData) (i : ℕ) (c : CellData) → IsAscending cells → i < length cells → AllByRecursion (λ m. Below m c) (take i cells) → SamePlace (get_or cells i c) c → IsSettled (c ∷ cells) (slice_set cells i c)
replaced cells i c a l below same =
    subst (λ (z : List CellData). IsSettled (c ∷ z) (slice_set cells i c)) (sym cut)
    (subst (IsSettled (c ∷ (take i cells ++ (x ∷ [] ++ drop (i + 1) cells)))) (sym is)
    (put_settled c (take i cells) (x ∷ []) (drop (i + 1) cells) (subst IsAscending cut a) below (same, tt)
    (has_all (Below c) (drop (i + 1) cells) (λ m h. below_left x c m same (after_is_above (take i cells) (drop (i + 1) cells) x m (subst IsAscending cut a) h)))))
  where
    x : CellData
    x = get_or cells i c

    cut : cells ≡ take i cells ++ (x ∷ drop (i + 1) cells)
    cut = sym (take-append-drop i cells) ∙ ap (λ (l : List CellData). take i cells ++ l) (rest_at cells i c l)

    is : slice_set cells i c ≡ take i cells ++ c ∷ drop (i + 1) cells
    is = sym (take-append-drop i (slice_set cells i c)) ∙ (λ j. take-set cells i c j ++ drop-set cells i c l j)

pub greater_is_above : (m c : CellData) → (Below m c → ⊥) → (SamePlace m c → ⊥) → Below c m
greater_is_above m c less same = by (cell_cmp m c) refl
  where
    by : (o : Ordering) → cell_cmp m c ≡ o → Below c m
    by Less e = absurd (less e)
    by Equal e = absurd (same (place_from_equal m c e))
    by Greater e = cell_cmp_total.antisymm c m ∙ ap ordering_reverse e

-- the same of slices of it
pub replaced_in : (cells xs ys : List CellData) → xs ≡ cells → ys ≡ cells → (i : ℕ) (c : CellData) → IsAscending cells → AllByRecursion (λ m. Below m c) (take i xs) → (i < length ys) × SamePlace (get_or ys i c) c → IsSettled (c ∷ cells) (slice_set cells i c)
replaced_in cells xs ys e f i c a below found = replaced cells i c a (subst (λ (l : List CellData). i < length l) f found.0) (subst (λ (l : List CellData). AllByRecursion (λ m. Below m c) (take i l)) e below) (subst (λ (l : List CellData). SamePlace (get_or l i c) c) f found.1)

-- ---- whether a cell stands there

pub same_at : (cells : List CellData) (i : ℕ) (a b : CellData) → i < length cells → a ≡ get_or cells i a → a ≡ get_or cells i b
same_at [] i a b l e = absurd (omega arith)
same_at (x ∷ cells) zero a b l e = e
same_at (x ∷ cells) (suc i) a b l e = same_at cells i a b (omega arith) e

pub eq_equal : (o : Ordering) → is_eq o ≡ true → o ≡ Equal
eq_equal Less h = cc
eq_equal Equal h = refl
eq_equal Greater h = cc

pub equal_so_is : (a b : CellData) (o : Ordering) (is : Bool) → o ≡ cell_cmp a b → is ≡ is_eq o → is ≡ true → SamePlace a b
equal_so_is a b o is e f t = place_from_equal a b (sym e ∙ eq_equal o (sym f ∙ t))

pub equal_is_so : (a b : CellData) (o : Ordering) (is : Bool) → o ≡ cell_cmp a b → is ≡ is_eq o → SamePlace a b → is ≡ true
equal_is_so a b o is e f s = f ∙ ap is_eq (e ∙ equal_from_place a b s)

pub less_so_is : (a b : CellData) (o : Ordering) (is : Bool) → o ≡ cell_cmp a b → is ≡ is_lt o → is ≡ true → Below a b
less_so_is a b o is e f t = sym e ∙ less_of o (sym f ∙ t)

pub less_is_so : (a b : CellData) (o : Ordering) (is : Bool) → o ≡ cell_cmp a b → is ≡ is_lt o → is ≡ false → Below a b → ⊥
less_is_so a b o is e f t s = (let z : true ≡ false = sym (f ∙ ap is_lt (e ∙ s)) ∙ t in cc)
