-- What is left of a sorted list in pieces.
use Rattle.std.proofs.Common.{◌≡◌, ℕ, zero, suc, ◌+◌, ◌<◌, ◌≤◌, Bool, true, false, cond, List, [], ◌∷◌, ◌++◌, length, map, take, drop, get_or, refl, sym, ◌∙◌, ap, subst, inl, inr, arith}
use Rattle.std.specs.Prelude.{◌||◌, slice_set}
use Rattle.std.specs.List.{AllByRecursion, filter}
use Rattle.std.specs.Ordering.{is_eq}
use Rattle.std.proofs.lemmas.Bool.{cases_Bool}
use Rattle.std.proofs.lemmas.List.Elements.{filter-append}
use Rattle.px_cells.specs.CellData.{CellData}
use Rattle.px_cells.specs.Among.{Has}
use Rattle.px_cells.specs.Order.{Below, IsAscending, SamePlace, cell_cmp}
use Rattle.px_cells.proofs.Among.{all_has, has_all}
use Rattle.px_cells.proofs.Sights.{equal_from_place, place_from_equal}
use Rattle.px_memstore.specs.Left.{has_place}
use Rattle.px_memstore.specs.Pieces.{ArePiecesApart, KeysApart, chained}
use Rattle.px_memstore.specs.inner.Pieces.{ArePieces, IsFilled, is_filled}
use Rattle.px_memstore.proofs.Placed.{eq_equal}

-- ---- one cell

pub place_found : (kept : List CellData) (at : ℕ) (c : CellData) → at < length kept → SamePlace (get_or kept at c) c → has_place kept c ≡ true
place_found [] at c l s = absurd (omega (arith, l))
place_found (k ∷ kept) zero c l s = ap (λ (b : Bool). b || has_place kept c) (ap is_eq (equal_from_place k c s))
place_found (k ∷ kept) (suc at) c l s = ap (λ (b : Bool). is_eq (cell_cmp k c) || b) (place_found kept at c (omega (arith, l)) s) ∙ or_true (is_eq (cell_cmp k c))
  where
    or_true : (b : Bool) → (b || true) ≡ true
    or_true true = refl
    or_true false = refl

pub place_lacks : (kept : List CellData) (c : CellData) → ((m : CellData) → Has kept m → SamePlace m c → ⊥) → has_place kept c ≡ false
place_lacks [] c f = refl
place_lacks (k ∷ kept) c f = elim (cases_Bool (is_eq (cell_cmp k c))) [
  | inl e ↦ absurd (f k (inl refl) (place_from_equal k c (eq_equal (cell_cmp k c) e)))
  | inr e ↦ ap (λ (b : Bool). b || has_place kept c) e ∙ place_lacks kept c (λ m h. f m (inr h))
]

-- ---- one list

module _ (test : CellData → Bool) where
  filter_has : (cells : List CellData) (m : CellData) → Has (filter test cells) m → Has cells m
  filter_has [] m h = h
  filter_has (x ∷ cells) m h = elim (cases_Bool (test x)) [
    | inl e ↦ elim (subst (λ (b : Bool). Has (cond b (x ∷ filter test cells) (filter test cells)) m) e h) [ inl s ↦ inl s | inr g ↦ inr (filter_has cells m g) ]
    | inr e ↦ inr (filter_has cells m (subst (λ (b : Bool). Has (cond b (x ∷ filter test cells) (filter test cells)) m) e h))
  ]

  filter_ascending : (cells : List CellData) → IsAscending cells → IsAscending (filter test cells)
  filter_ascending [] a = tt
  filter_ascending (x ∷ cells) a = elim (cases_Bool (test x)) [
    | inl e ↦ subst (λ (b : Bool). IsAscending (cond b (x ∷ filter test cells) (filter test cells))) (sym e) (has_all (Below x) (filter test cells) (λ m h. all_has (Below x) cells m a.0 (filter_has cells m h)), filter_ascending cells a.1)
    | inr e ↦ subst (λ (b : Bool). IsAscending (cond b (x ∷ filter test cells) (filter test cells))) (sym e) (filter_ascending cells a.1)
  ]

  pub filter_less : (cells : List CellData) → length (filter test cells) ≤ length cells
  filter_less [] = omega arith
  filter_less (x ∷ cells) = elim (cases_Bool (test x)) [
    | inl e ↦ subst (λ (b : Bool). length (cond b (x ∷ filter test cells) (filter test cells)) ≤ suc (length cells)) (sym e) (let n = filter_less cells in omega (arith, n))
    | inr e ↦ subst (λ (b : Bool). length (cond b (x ∷ filter test cells) (filter test cells)) ≤ suc (length cells)) (sym e) (let n = filter_less cells in omega (arith, n))
  ]

  -- ---- pieces

  pub chained_filter : (ps : List (List CellData)) → chained (map (filter test) ps) ≡ filter test (chained ps)
  chained_filter [] = refl
  chained_filter (p ∷ ps) = ap (λ (l : List CellData). filter test p ++ l) (chained_filter ps) ∙ sym (filter-append test p (chained ps))

  filter_apart : (ps : List (List CellData)) → ArePiecesApart ps → ArePiecesApart (map (filter test) ps)
  filter_apart [] a = tt
  filter_apart (p ∷ ps) a = (
    filter_ascending p a.0,
    (λ m n h g. a.1 m n (filter_has p m h) (filter_has (chained ps) n (subst (λ (l : List CellData). Has l n) (chained_filter ps) g))),
    filter_apart ps a.2,
  )

pub chained_filled : (ps : List (List CellData)) → chained (filter is_filled ps) ≡ chained ps
chained_filled [] = refl
chained_filled ([] ∷ ps) = chained_filled ps
chained_filled ((c ∷ p) ∷ ps) = ap (λ (l : List CellData). (c ∷ p) ++ l) (chained_filled ps)

filled_apart : (ps : List (List CellData)) → ArePiecesApart ps → ArePiecesApart (filter is_filled ps)
filled_apart [] a = tt
filled_apart ([] ∷ ps) a = filled_apart ps a.2
filled_apart ((c ∷ p) ∷ ps) a = (a.0, subst (KeysApart (c ∷ p)) (sym (chained_filled ps)) a.1, filled_apart ps a.2)

filled_all : (ps : List (List CellData)) → AllByRecursion IsFilled (filter is_filled ps)
filled_all [] = tt
filled_all ([] ∷ ps) = filled_all ps
filled_all ((c ∷ p) ∷ ps) = (omega arith, filled_all ps)

-- the pieces of what is left
abbrev pub thinned : (CellData → Bool) → List CellData → List (List CellData) → List (List CellData)
thinned test first others = filter test first ∷ filter is_filled (map (filter test) others)

pub thinned_left : (test : CellData → Bool) (first : List CellData) (others : List (List CellData)) → chained (thinned test first others) ≡ filter test (chained (first ∷ others))
thinned_left test first others = ap (λ (l : List CellData). filter test first ++ l) (chained_filled (map (filter test) others) ∙ chained_filter test others) ∙ sym (filter-append test first (chained others))

pub thinned_pieces : (test : CellData → Bool) (first : List CellData) (others : List (List CellData)) → ArePieces (first ∷ others) → ArePieces (thinned test first others)
thinned_pieces test first others a =
    let all = filter_apart test (first ∷ others) a.apart in
    record {
      apart = (all.0, subst (KeysApart (filter test first)) (sym (chained_filled (map (filter test) others))) all.1, filled_apart (map (filter test) others) all.2);
      filled = filled_all (map (filter test) others);
    }

-- ---- one piece after the other

pub thinned_next : {A : Type 0} (f : A → A) (xs : List A) (i : ℕ) (d : A) → i < length xs → slice_set (map f (take i xs) ++ drop i xs) i (f (get_or xs i d)) ≡ map f (take (i + 1) xs) ++ drop (i + 1) xs
thinned_next f [] i d l = absurd (omega (arith, l))
thinned_next f (x ∷ xs) zero d l = refl
thinned_next {A} f (x ∷ xs) (suc i) d l = ap (λ (k : List A). f x ∷ k) (thinned_next f xs i d (omega (arith, l))) ∙ ap (λ (n : ℕ). map f (take n (x ∷ xs)) ++ drop n (x ∷ xs)) next
  where
    next : suc (i + 1) ≡ suc i + 1
    next = omega arith

pub thinned_get : {A : Type 0} (f : A → A) (xs : List A) (i : ℕ) (d : A) → i < length xs → get_or (map f (take i xs) ++ drop i xs) i d ≡ get_or xs i d
thinned_get f [] i d l = absurd (omega (arith, l))
thinned_get f (x ∷ xs) zero d l = refl
thinned_get f (x ∷ xs) (suc i) d l = thinned_get f xs i d (omega (arith, l))

either_map : {A : Type 0} (f : A → List CellData) (x : A) (xs : List A) (ps : List (List CellData)) (b : Bool) → map f xs ≡ ps → map f (cond b (x ∷ xs) xs) ≡ cond b (f x ∷ ps) ps
either_map f x xs ps true e = ap (λ (k : List (List CellData)). f x ∷ k) e
either_map f x xs ps false e = e

pub map_filter : {A : Type 0} (f : A → List CellData) (xs : List A) → map f (filter (λ x. is_filled (f x)) xs) ≡ filter is_filled (map f xs)
map_filter f [] = refl
map_filter f (x ∷ xs) = either_map f x (filter (λ y. is_filled (f y)) xs) (filter is_filled (map f xs)) (is_filled (f x)) (map_filter f xs)
