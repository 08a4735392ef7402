-- Cells that are sorted are an ascending list, where no two have one place, and the same are read of them.
use Rattle.std.proofs.Common.{◌≡◌, ℕ, zero, suc, ◌+◌, ◌<◌, ◌≤◌, Bool, true, false, cond, List, [], ◌∷◌, length, length-append, get_or, refl, ap, sym, ◌∙◌, subst, inl, inr, arith}
use Rattle.std.specs.List.{AllByRecursion, sum_by}
use Rattle.std.specs.List.Sorted.{IsPermutation, IsSortedBy}
use Rattle.std.specs.Ordering.{is_lt, is_eq, ordering_reverse}
use Rattle.std.specs.declared.cmp.Ordering.{Ordering}
use Rattle.std.specs.declared.cmp.Ordering.TheVariants.{Less, Equal, Greater}
use Rattle.std.proofs.lemmas.Bool.{cases_Bool, false≢true}
use Rattle.std.proofs.lemmas.List.Elements.{recursion_from_All}
use Rattle.std.proofs.lemmas.List.Sums.{sum_by-cons}
use Rattle.std.proofs.lemmas.List.Sorted.{All-permutation, IsPermutation-sym, ranks_by, sorted_far, sum_by-IsPermutation}
use Rattle.px_cells.specs.CellData.{CellData}
use Rattle.px_cells.specs.Among.{Has}
use Rattle.px_cells.specs.Order.{Below, IsApart, IsAscending, ReadsSame, SamePlace, cell_cmp}
use Rattle.px_cells.proofs.Among.{all_has, has_all, has_from_reads, reads_from_has}
use Rattle.px_cells.proofs.Orders.{cell_cmp_total}
use Rattle.px_cells.proofs.Sights.{equal_from_place, place_back, place_from_equal, place_trans}
use Rattle.px_cellbytes.specs.Spelling.{all_bytes, cell_bytes}
use Rattle.px_keptcells.proofs.Parts.{apart_reads}

-- how many of the cells have the place of one
abbrev at_place : CellData → CellData → ℕ
at_place c x = cond (is_eq (cell_cmp c x)) 1 0

abbrev places : CellData → List CellData → ℕ
places c cells = sum_by (at_place c) cells

more_places : (c x : CellData) (cells : List CellData) → places c (x ∷ cells) ≡ at_place c x + places c cells
more_places c x cells = sum_by-cons (at_place c) x cells

eq_is : (o : Ordering) → is_eq o ≡ true → o ≡ Equal
eq_is Less e = absurd (false≢true e)
eq_is Equal e = refl
eq_is Greater e = absurd (false≢true e)

nowhere : (c : CellData) (cells : List CellData) → AllByRecursion (λ d. SamePlace c d → ⊥) cells → places c cells ≡ 0
nowhere c [] a = refl
nowhere c (x ∷ cells) a = elim (cases_Bool (is_eq (cell_cmp c x))) [
  | inl e ↦ absurd (a.0 (place_from_equal c x (eq_is (cell_cmp c x) e)))
  | inr e ↦ (let m = more_places c x cells in let n = nowhere c cells a.1 in let z : at_place c x ≡ 0 = ap (λ (b : Bool). cond b 1 0) e in omega arith)
]

once : (cells : List CellData) → IsApart cells → (c : CellData) → places c cells ≤ 1
once [] a c = omega arith
once (x ∷ cells) a c = elim (cases_Bool (is_eq (cell_cmp c x))) [
  | inl e ↦ (let s = place_from_equal c x (eq_is (cell_cmp c x) e) in
      let n = nowhere c cells (has_all (λ d. SamePlace c d → ⊥) cells (λ d h t. all_has (λ d. SamePlace x d → ⊥) cells d a.0 h (place_trans x c d (place_back c x s) t))) in
      let m = more_places c x cells in let z : at_place c x ≡ 1 = ap (λ (b : Bool). cond b 1 0) e in omega arith)
  | inr e ↦ (let m = more_places c x cells in let n = once cells a.1 c in let z : at_place c x ≡ 0 = ap (λ (b : Bool). cond b 1 0) e in omega arith)
]

counted : (c d : CellData) (cells : List CellData) → Has cells d → SamePlace c d → 1 ≤ places c cells
counted c d [] h s = absurd h
counted c d (x ∷ cells) (inl e) s = (let m = more_places c x cells in let z : at_place c x ≡ 1 = ap (λ (o : Ordering). cond (is_eq o) 1 0) (equal_from_place c x (subst (λ (y : CellData). SamePlace c y) (sym e) s)) in omega arith)
counted c d (x ∷ cells) (inr h) s = (let m = more_places c x cells in let n = counted c d cells h s in omega arith)

-- the place of a cell of a list
placed : (cells : List CellData) (c e : CellData) → Has cells c → (k : ℕ) × ((k < length cells) × (get_or cells k e ≡ c))
placed [] c e h = absurd h
placed (x ∷ cells) c e (inl q) = (zero, (omega arith, q))
placed (x ∷ cells) c e (inr h) = (let p = placed cells c e h in (suc p.0, (let l = p.1.0 in omega arith, p.1.1)))

abbrev pub before : CellData → CellData → Bool
before a b = is_lt (cell_cmp a b)

below : (a b : CellData) → before b a ≡ false → (SamePlace a b → ⊥) → Below a b
below a b l n = by (cell_cmp a b) refl
  where
    by : (o : Ordering) → cell_cmp a b ≡ o → cell_cmp a b ≡ Less
    by Less e = e
    by Equal e = absurd (n (place_from_equal a b e))
    by Greater e = absurd (false≢true (sym l ∙ ap is_lt (cell_cmp_total.antisymm b a ∙ ap ordering_reverse e)))

sorted_once : (cells : List CellData) → IsSortedBy before cells → ((c : CellData) → places c cells ≤ 1) → IsAscending cells
sorted_once [] s o = tt
sorted_once (x ∷ cells) s o = (
  has_all (Below x) cells (λ d h.
      (let p = placed cells d x h in
      let l = p.1.0 in
      let far : before d x ≡ false = subst (λ (y : CellData). before y x ≡ false) p.1.1 (sorted_far before (ranks_by cell_cmp_total (λ c. c)) (x ∷ cells) s zero (suc p.0) x (omega arith) (omega arith)) in
      below x d far (λ q. (let n = counted x d cells h q in let m = o x in let w = more_places x x cells in let z : at_place x x ≡ 1 = ap (λ (o : Ordering). cond (is_eq o) 1 0) (equal_from_place x x (place_trans x d x q (place_back x d q))) in absurd (omega arith))))),
  sorted_once cells (λ k d l h. (let z : get_or (x ∷ cells) (suc k + 1) d ≡ get_or cells (k + 1) d = refl_suc k d in subst (λ (y : CellData). before y (get_or cells k d) ≡ false) z (s (suc k) d (omega arith) (omega arith)))) (λ c. (let n = o c in let z = more_places c x cells in omega arith)),
)
  where
    refl_suc : (k : ℕ) (d : CellData) → get_or (x ∷ cells) (suc k + 1) d ≡ get_or cells (k + 1) d
    refl_suc k d = ap (λ (n : ℕ). get_or (x ∷ cells) n d) (next k)
      where
        next : (k : ℕ) → suc k + 1 ≡ suc (k + 1)
        next k = omega arith

pub moved_has : (xs ys : List CellData) → IsPermutation xs ys → (c : CellData) → Has xs c → Has ys c
moved_has xs ys p c h = all_has (Has ys) xs c (recursion_from_All (Has ys) xs (All-permutation (Has ys) ys xs (IsPermutation-sym xs ys p) (λ k d l. at ys k d l))) h
  where
    at : (l : List CellData) (k : ℕ) (d : CellData) → k < length l → Has l (get_or l k d)
    at [] k d q = absurd (omega arith)
    at (x ∷ l) zero d q = inl refl
    at (x ∷ l) (suc k) d q = inr (at l k d (omega arith))

pub sorted_ascending : (xs ys : List CellData) → IsApart xs → IsPermutation xs ys → IsSortedBy before ys → IsAscending ys
sorted_ascending xs ys a p s = sorted_once ys s (λ c. (let n = once xs a c in let m = sum_by-IsPermutation (at_place c) xs ys p in omega arith))

pub sorted_reads : (xs ys : List CellData) → IsApart xs → IsPermutation xs ys → IsAscending ys → ReadsSame ys xs
sorted_reads xs ys a p s c = (
  λ r. apart_reads xs c a (moved_has ys xs (IsPermutation-sym xs ys p) c (has_from_reads ys c r)),
  λ r. reads_from_has ys c s (moved_has xs ys p c (has_from_reads xs c r)),
)

pub moved_all : (P : CellData → Type 0) (xs ys : List CellData) → IsPermutation xs ys → AllByRecursion P xs → AllByRecursion P ys
moved_all P xs ys p a = has_all P ys (λ c h. all_has P xs c a (moved_has ys xs (IsPermutation-sym xs ys p) c h))

bytes_sum : (cells : List CellData) → length (all_bytes cells) ≡ sum_by (λ c. length (cell_bytes c)) cells
bytes_sum [] = refl
bytes_sum (c ∷ cells) = length-append (cell_bytes c) (all_bytes cells) ∙ (ap (λ (n : ℕ). length (cell_bytes c) + n) (bytes_sum cells) ∙ sym (sum_by-cons (λ c. length (cell_bytes c)) c cells))

pub moved_bytes : (xs ys : List CellData) → IsPermutation xs ys → length (all_bytes ys) ≡ length (all_bytes xs)
moved_bytes xs ys p = bytes_sum ys ∙ (sum_by-IsPermutation (λ c. length (cell_bytes c)) xs ys p ∙ sym (bytes_sum xs))
