-- Two parts of a list are merged half by half.
use Rattle.std.proofs.Common.{◌≡◌, ℕ, ◌+◌, ◌-◌, ◌<◌, ◌≤◌, ◌⊎◌, List, [], ◌∷◌, ◌++◌, length, take, drop, get_or, refl, sym, ◌∙◌, ap, subst, inl, inr, arith, append_assoc, length-append, length-take-le, length-drop, take-append-drop}
use Rattle.std.specs.Prelude.{◌↔◌}
use Rattle.std.specs.List.{AllByRecursion}
use Rattle.px_cells.specs.CellData.{CellData}
use Rattle.px_cells.specs.Among.{Has}
use Rattle.px_cells.specs.Order.{Below, IsAscending, SamePlace}
use Rattle.px_cells.proofs.Orders.{below_trans}
use Rattle.px_cells.proofs.Among.{all_has, ascending_join, ascending_left, ascending_right, before_is_below, has_append, has_left, has_right}
use Rattle.px_memstore.specs.inner.Merging.{ArePlaces}
use Rattle.px_memstore.proofs.Lists.{Ended, across, drop_front, ended, get_front, take_front, take_within}
use Rattle.px_memstore.proofs.Placed.{greater_is_above}
use Rattle.px_memstore.proofs.Turned.{IsTurned, left_place, places_drop, places_take, places_to, right_place}

module _ (old turned : List CellData) (middle half at : ℕ) (within : middle + half ≤ length old) (some : 0 < half) (first : IsAscending (take middle old)) (second : IsAscending (drop middle old))
    (apart : (m n : CellData) → Has (take middle old) m → Has (drop middle old) n → SamePlace m n → ⊥) (t : IsTurned old turned middle half at) where
  abbrev a1 : List CellData
  a1 = take at (take middle old)

  abbrev a2 : List CellData
  a2 = drop at (take middle old)

  abbrev b1 : List CellData
  b1 = take half (drop middle old)

  abbrev b2 : List CellData
  b2 = drop half (drop middle old)

  a_len : length (take middle old) ≡ middle
  a_len = length-take-le middle old (omega (arith, within))

  w_len : length (drop middle old) ≡ length old - middle
  w_len = length-drop middle old

  a1_len : length a1 ≡ at
  a1_len = length-take-le at (take middle old) (let l = t.within in omega (arith, a_len, l))

  b1_len : length b1 ≡ half
  b1_len = length-take-le half (drop middle old) (omega (arith, within, w_len))

  a2_len : length a2 ≡ middle - at
  a2_len = (let l = length-drop at (take middle old) in omega (arith, l, a_len))

  parts : old ≡ take middle old ++ (b1 ++ b2)
  parts = sym (ap (λ (l : List CellData). take middle old ++ l) (take-append-drop half (drop middle old)) ∙ take-append-drop middle old)

  front : take at old ≡ a1
  front = sym (sym (take_within (take middle old) (drop middle old) at (let l = t.within in omega (arith, a_len, l))) ∙ ap (take at) (take-append-drop middle old))

  behind : drop (middle + half) old ≡ b2
  behind = ap (drop (middle + half)) (parts ∙ sym (append_assoc (take middle old) b1 b2)) ∙ drop_front (take middle old ++ b1) b2 (middle + half) (let l = length-append (take middle old) b1 in omega (arith, l, a_len, b1_len))

  is : turned ≡ (a1 ++ b1) ++ (a2 ++ b2)
  is = t.turned ∙ ((λ i. front i ++ (b1 ++ (a2 ++ behind i))) ∙ sym (append_assoc a1 b1 (a2 ++ b2)))

  left_len : length (a1 ++ b1) ≡ at + half
  left_len = (let l = length-append a1 b1 in omega (arith, l, a1_len, b1_len))

  cut : Ended b1
  cut = ended b1 (omega (arith, b1_len, some))

  abbrev pivot : CellData
  pivot = cut.last

  last : (d : CellData) → get_or old (middle + half - 1) d ≡ pivot
  last d =
      let all : old ≡ (take middle old ++ cut.front) ++ (pivot ∷ b2) = parts ∙ (ap (λ (l : List CellData). take middle old ++ (l ++ b2)) cut.is ∙ (ap (λ (l : List CellData). take middle old ++ l) (append_assoc cut.front (pivot ∷ []) b2) ∙ sym (append_assoc (take middle old) cut.front (pivot ∷ b2)))) in
      ap (λ (l : List CellData). get_or l (middle + half - 1) d) all ∙ get_front (take middle old ++ cut.front) (pivot ∷ b2) (middle + half - 1) d
      (let l = length-append (take middle old) cut.front in let c = ap (λ (xs : List CellData). length xs) cut.is in let e = length-append cut.front (pivot ∷ []) in omega (arith, l, a_len, b1_len, c, e, some))

  below : AllByRecursion (λ m. Below m pivot) a1
  below = subst (λ (l : List CellData). AllByRecursion (λ m. Below m pivot) l) front (subst (λ (c : CellData). AllByRecursion (λ m. Below m c) (take at old)) (last pivot) (t.below pivot))

  from : AllByRecursion (λ m. Below m pivot → ⊥) a2
  from = subst (λ (c : CellData). AllByRecursion (λ m. Below m c → ⊥) a2) (last pivot) (t.from pivot)

  split : IsAscending (a1 ++ a2)
  split = subst IsAscending (sym (take-append-drop at (take middle old))) first

  back_split : IsAscending (b1 ++ b2)
  back_split = subst IsAscending (sym (take-append-drop half (drop middle old))) second

  half_split : IsAscending (cut.front ++ pivot ∷ [])
  half_split = subst IsAscending cut.is (ascending_left b1 b2 back_split)

  in_a : (m : CellData) → Has (a1 ++ a2) m → Has (take middle old) m
  in_a m h = subst (λ (l : List CellData). Has l m) (take-append-drop at (take middle old)) h

  in_w : (m : CellData) → Has (b1 ++ b2) m → Has (drop middle old) m
  in_w m h = subst (λ (l : List CellData). Has l m) (take-append-drop half (drop middle old)) h

  in_b1 : (m : CellData) → Has (cut.front ++ pivot ∷ []) m → Has b1 m
  in_b1 m h = subst (λ (l : List CellData). Has l m) (sym cut.is) h

  pivot_in : Has b1 pivot
  pivot_in = in_b1 pivot (has_right cut.front (pivot ∷ []) pivot (inl refl))

  above : (n : CellData) → Has (a2 ++ b2) n → Below pivot n
  above n h = elim (has_append a2 b2 n h) [
    | inl a ↦ greater_is_above n pivot (all_has (λ c. Below c pivot → ⊥) a2 n from a) (apart n pivot (in_a n (has_right a1 a2 n a)) (in_w pivot (has_left b1 b2 pivot pivot_in)))
    | inr b ↦ across b1 b2 pivot n back_split pivot_in b
  ]

  at_most : (m : CellData) → Has (a1 ++ b1) m → (m ≡ pivot) ⊎ Below m pivot
  at_most m h = elim (has_append a1 b1 m h) [
    | inl a ↦ inr (all_has (λ c. Below c pivot) a1 m below a)
    | inr b ↦ elim (has_append cut.front (pivot ∷ []) m (subst (λ (l : List CellData). Has l m) cut.is b)) [
      | inl f ↦ inr (before_is_below cut.front [] pivot m half_split f)
      | inr (inl e) ↦ inl (sym e)
      | inr (inr e) ↦ absurd e
    ]
  ]

  -- the left side is below the right one
  apart_sides : (m n : CellData) → Has (a1 ++ b1) m → Has (a2 ++ b2) n → Below m n
  apart_sides m n h g = elim (at_most m h) [
    | inl e ↦ subst (λ (c : CellData). Below c n) (sym e) (above n g)
    | inr b ↦ below_trans m pivot n b (above n g)
  ]

  -- each side is a list of two parts
  pub record Side (side : List CellData) (front back : List CellData) (count : ℕ) : Type 0 where
    pub parts_are : side ≡ front ++ back
    pub inside : count ≤ length side
    pub front_sorted : IsAscending (take count side)
    pub back_sorted : IsAscending (drop count side)
    pub none : (m n : CellData) → Has (take count side) m → Has (drop count side) n → SamePlace m n → ⊥

  side_of : (side xs ys : List CellData) (count : ℕ) → side ≡ xs ++ ys → length xs ≡ count → IsAscending xs → IsAscending ys → ((m n : CellData) → Has xs m → Has ys n → SamePlace m n → ⊥) → Side side xs ys count
  side_of side xs ys count e l a b none-of =
      let f : take count side ≡ xs = ap (take count) e ∙ take_front xs ys count l in
      let g : drop count side ≡ ys = ap (drop count) e ∙ drop_front xs ys count l in
      record {
        parts_are = e;
        inside = (let q = ap (λ (zs : List CellData). length zs) e in let r = length-append xs ys in omega (arith, q, r, l));
        front_sorted = subst IsAscending (sym f) a;
        back_sorted = subst IsAscending (sym g) b;
        none = λ m n h i. none-of m n (subst (λ (zs : List CellData). Has zs m) f h) (subst (λ (zs : List CellData). Has zs n) g i);
      }

  pub left_side : (left : List CellData) → left ≡ take (at + half) turned → Side left a1 b1 at
  left_side left e = side_of left a1 b1 at (e ∙ (ap (take (at + half)) is ∙ take_front (a1 ++ b1) (a2 ++ b2) (at + half) left_len)) a1_len (ascending_left a1 a2 split) (ascending_left b1 b2 back_split)
      (λ m n h g. apart m n (in_a m (has_left a1 a2 m h)) (in_w n (has_left b1 b2 n g)))

  pub right_side : (right : List CellData) → right ≡ drop (at + half) turned → Side right a2 b2 (middle - at)
  right_side right e = side_of right a2 b2 (middle - at) (e ∙ (ap (drop (at + half)) is ∙ drop_front (a1 ++ b1) (a2 ++ b2) (at + half) left_len)) a2_len (ascending_right a1 a2 split) (ascending_right b1 b2 back_split)
      (λ m n h g. apart m n (in_a m (has_right a1 a2 m h)) (in_w n (has_right b1 b2 n g)))

  at_within : at ≤ length (take middle old)
  at_within = (let l = t.within in omega (arith, a_len, l))

  -- the cells of each side belong into its first part
  pub left_places : (left : List CellData) (before : ℕ) (ps : List ℕ) → left ≡ take (at + half) turned → ArePlaces (take middle old) before (drop middle old) ps → ArePlaces (take at left) before (drop at left) (take half ps)
  left_places left before ps e a =
      let whole : left ≡ a1 ++ b1 = e ∙ (ap (take (at + half)) is ∙ take_front (a1 ++ b1) (a2 ++ b2) (at + half) left_len) in
      let f : take at left ≡ a1 = ap (take at) whole ∙ take_front a1 b1 at a1_len in
      let g : drop at left ≡ b1 = ap (drop at) whole ∙ drop_front a1 b1 at a1_len in
      subst (λ (l : List CellData). ArePlaces l before (drop at left) (take half ps)) (sym f) (subst (λ (l : List CellData). ArePlaces a1 before l (take half ps)) (sym g)
      (places_to (take middle old) a1 before before b1 (take half ps) (λ c p h. left_place (take middle old) before at pivot c p at_within from (at_most c (has_right a1 b1 c h))) (places_take (take middle old) before (drop middle old) ps half a)))

  pub right_places : (right : List CellData) (before : ℕ) (ps : List ℕ) → right ≡ drop (at + half) turned → ArePlaces (take middle old) before (drop middle old) ps → ArePlaces (take (middle - at) right) (before + at) (drop (middle - at) right) (drop half ps)
  right_places right before ps e a =
      let whole : right ≡ a2 ++ b2 = e ∙ (ap (drop (at + half)) is ∙ drop_front (a1 ++ b1) (a2 ++ b2) (at + half) left_len) in
      let f : take (middle - at) right ≡ a2 = ap (take (middle - at)) whole ∙ take_front a2 b2 (middle - at) a2_len in
      let g : drop (middle - at) right ≡ b2 = ap (drop (middle - at)) whole ∙ drop_front a2 b2 (middle - at) a2_len in
      subst (λ (l : List CellData). ArePlaces l (before + at) (drop (middle - at) right) (drop half ps)) (sym f) (subst (λ (l : List CellData). ArePlaces a2 (before + at) l (drop half ps)) (sym g)
      (places_to (take middle old) a2 before (before + at) b2 (drop half ps) (λ c p h. right_place (take middle old) before at pivot c p at_within below (across b1 b2 pivot c back_split pivot_in h)) (places_drop (take middle old) before (drop middle old) ps half a)))

  -- both sides, merged, are the whole
  module _ (left right left' right' : List CellData) (l : Side left a1 b1 at) (r : Side right a2 b2 (middle - at)) (up : IsAscending left') (up2 : IsAscending right') (same : (d : CellData) → Has left' d ↔ Has left d) (same2 : (d : CellData) → Has right' d ↔ Has right d) where
    to_left : (d : CellData) → Has left' d → Has (a1 ++ b1) d
    to_left d h = subst (λ (zs : List CellData). Has zs d) l.parts_are ((same d).0 h)

    to_right : (d : CellData) → Has right' d → Has (a2 ++ b2) d
    to_right d h = subst (λ (zs : List CellData). Has zs d) r.parts_are ((same2 d).0 h)

    pub joined : IsAscending (left' ++ right')
    joined = ascending_join left' right' up up2 (λ m n h g. apart_sides m n (to_left m h) (to_right n g))

    to_old : (d : CellData) → Has (left' ++ right') d → Has old d
    to_old d h = subst (λ (zs : List CellData). Has zs d) (take-append-drop middle old) (elim (has_append left' right' d h) [
      | inl p ↦ elim (has_append a1 b1 d (to_left d p)) [
        | inl a ↦ has_left (take middle old) (drop middle old) d (in_a d (has_left a1 a2 d a))
        | inr b ↦ has_right (take middle old) (drop middle old) d (in_w d (has_left b1 b2 d b))
      ]
      | inr q ↦ elim (has_append a2 b2 d (to_right d q)) [
        | inl a ↦ has_left (take middle old) (drop middle old) d (in_a d (has_right a1 a2 d a))
        | inr b ↦ has_right (take middle old) (drop middle old) d (in_w d (has_right b1 b2 d b))
      ]
    ])

    on_left : (d : CellData) → Has (a1 ++ b1) d → Has (left' ++ right') d
    on_left d h = has_left left' right' d ((same d).1 (subst (λ (zs : List CellData). Has zs d) (sym l.parts_are) h))

    on_right : (d : CellData) → Has (a2 ++ b2) d → Has (left' ++ right') d
    on_right d h = has_right left' right' d ((same2 d).1 (subst (λ (zs : List CellData). Has zs d) (sym r.parts_are) h))

    from_old : (d : CellData) → Has old d → Has (left' ++ right') d
    from_old d h = elim (has_append (take middle old) (drop middle old) d (subst (λ (zs : List CellData). Has zs d) (sym (take-append-drop middle old)) h)) [
      | inl p ↦ elim (has_append a1 a2 d (subst (λ (zs : List CellData). Has zs d) (sym (take-append-drop at (take middle old))) p)) [
        | inl a ↦ on_left d (has_left a1 b1 d a)
        | inr b ↦ on_right d (has_left a2 b2 d b)
      ]
      | inr q ↦ elim (has_append b1 b2 d (subst (λ (zs : List CellData). Has zs d) (sym (take-append-drop half (drop middle old))) q)) [
        | inl a ↦ on_left d (has_right a1 b1 d a)
        | inr b ↦ on_right d (has_right a2 b2 d b)
      ]
    ]

    pub both : (d : CellData) → Has (left' ++ right') d ↔ Has old d
    both d = (to_old d, from_old d)
