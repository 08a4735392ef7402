-- Two parts of a list are merged.
use Rattle.std.proofs.Common.{◌≡◌, ℕ, ◌+◌, ◌-◌, ◌<◌, ◌≤◌, List, [], ◌∷◌, ◌++◌, length, take, drop, get_or, refl, sym, ◌∙◌, ap, subst, inl, inr, arith, append_assoc, length-append, length-take-le, length-drop, take-append-drop}
use Rattle.std.proofs.lemmas.List.{append-nil, take-take}
use Rattle.std.specs.Prelude.{◌↔◌}
use Rattle.std.specs.List.{AllByRecursion}
use Rattle.px_cells.specs.CellData.{CellData}
use Rattle.px_cells.specs.Among.{Has}
use Rattle.px_cells.specs.Order.{Below, IsAscending, SamePlace}
use Rattle.px_cells.proofs.Orders.{below_trans}
use Rattle.px_cells.proofs.Among.{all_has, ascending_join, ascending_left, ascending_right, before_is_below, has_all, has_append, has_left, has_right}
use Rattle.px_memstore.specs.inner.Merging.{ArePlaces}
use Rattle.px_memstore.proofs.Lists.{Ended, across, drop_front, ended, get_front, has_turned, take_front, take_within}
use Rattle.px_memstore.proofs.Placed.{greater_is_above}
use Rattle.px_memstore.proofs.Turned.{IsTurned, left_place, places_take, places_to}

-- on the way: what is left of the first part, what is left of the second, and what is merged, which is above both
pub record IsWeaving (old : List CellData) (end rest : ℕ) (cells : List CellData) : Type 0 where
  pub front : List CellData
  pub back : List CellData
  pub merged : List CellData
  pub is : cells ≡ front ++ (back ++ merged)
  pub front_len : length front ≡ end
  pub back_len : length back ≡ rest
  pub front_sorted : IsAscending front
  pub back_sorted : IsAscending back
  pub sorted : IsAscending merged
  pub front_below : (m n : CellData) → Has front m → Has merged n → Below m n
  pub back_below : (m n : CellData) → Has back m → Has merged n → Below m n
  pub apart : (m n : CellData) → Has front m → Has back n → SamePlace m n → ⊥
  pub same : (d : CellData) → Has cells d ↔ Has old d

pub weaving_none : (cells : List CellData) (middle : ℕ) → middle ≤ length cells → IsAscending (take middle cells) → IsAscending (drop middle cells) → ((m n : CellData) → Has (take middle cells) m → Has (drop middle cells) n → SamePlace m n → ⊥)
    → IsWeaving cells middle (length cells - middle) cells
weaving_none cells middle l first second apart = record {
  front = take middle cells;
  back = drop middle cells;
  merged = [];
  is = sym (ap (λ (xs : List CellData). take middle cells ++ xs) (append-nil (drop middle cells)) ∙ take-append-drop middle cells);
  front_len = length-take-le middle cells l;
  back_len = length-drop middle cells;
  front_sorted = first;
  back_sorted = second;
  sorted = tt;
  front_below = λ m n h g. absurd g;
  back_below = λ m n h g. absurd g;
  apart = apart;
  same = λ d. (λ h. h, λ h. h);
}

-- the last of the second part comes to its place
module _ (old cells new : List CellData) (end rest at : ℕ) (w : IsWeaving old end rest cells) (some : 0 < rest) (turned : IsTurned cells new end rest at) where
  cut : Ended w.back
  cut = ended w.back (let l = w.back_len in omega (arith, l, some))

  abbrev f1 : List CellData
  f1 = take at w.front

  abbrev f2 : List CellData
  f2 = drop at w.front

  front_is : w.front ≡ f1 ++ f2
  front_is = sym (take-append-drop at w.front)

  within : at ≤ length w.front
  within = (let l = w.front_len in let t = turned.within in omega (arith, l, t))

  taken : take end cells ≡ w.front
  taken = ap (take end) w.is ∙ take_front w.front (w.back ++ w.merged) end w.front_len

  dropped : drop end cells ≡ w.back ++ w.merged
  dropped = ap (drop end) w.is ∙ drop_front w.front (w.back ++ w.merged) end w.front_len

  behind : drop (end + rest) cells ≡ w.merged
  behind = ap (drop (end + rest)) (w.is ∙ sym (append_assoc w.front w.back w.merged)) ∙ drop_front (w.front ++ w.back) w.merged (end + rest) (let l = length-append w.front w.back in let a = w.front_len in let b = w.back_len in omega (arith, l, a, b))

  first : take at cells ≡ f1
  first = ap (take at) w.is ∙ take_within w.front (w.back ++ w.merged) at within

  second : take rest (drop end cells) ≡ w.back
  second = ap (take rest) dropped ∙ take_front w.back w.merged rest w.back_len

  third : drop at (take end cells) ≡ f2
  third = ap (drop at) taken

  last : (d : CellData) → get_or cells (end + rest - 1) d ≡ cut.last
  last d =
      let all : cells ≡ (w.front ++ cut.front) ++ (cut.last ∷ w.merged) = w.is ∙ (ap (λ (l : List CellData). w.front ++ (l ++ w.merged)) cut.is ∙ (ap (λ (l : List CellData). w.front ++ l) (append_assoc cut.front (cut.last ∷ []) w.merged) ∙ sym (append_assoc w.front cut.front (cut.last ∷ w.merged)))) in
      ap (λ (l : List CellData). get_or l (end + rest - 1) d) all ∙ get_front (w.front ++ cut.front) (cut.last ∷ w.merged) (end + rest - 1) d
      (let l = length-append w.front cut.front in let a = w.front_len in let b = w.back_len in let c = ap (λ (xs : List CellData). length xs) cut.is in let e = length-append cut.front (cut.last ∷ []) in omega (arith, l, a, b, c, e, some))

  new_is : new ≡ f1 ++ (cut.front ++ (cut.last ∷ (f2 ++ w.merged)))
  new_is = turned.turned
      ∙ ((λ i. first i ++ (second i ++ (third i ++ behind i)))
      ∙ ap (λ (l : List CellData). f1 ++ l) (ap (λ (l : List CellData). l ++ (f2 ++ w.merged)) cut.is ∙ append_assoc cut.front (cut.last ∷ []) (f2 ++ w.merged)))

  below : AllByRecursion (λ m. Below m cut.last) f1
  below = subst (λ (l : List CellData). AllByRecursion (λ m. Below m cut.last) l) first (subst (λ (c : CellData). AllByRecursion (λ m. Below m c) (take at cells)) (last cut.last) (turned.below cut.last))

  from : AllByRecursion (λ m. Below m cut.last → ⊥) f2
  from = subst (λ (l : List CellData). AllByRecursion (λ m. Below m cut.last → ⊥) l) third (subst (λ (c : CellData). AllByRecursion (λ m. Below m c → ⊥) (drop at (take end cells))) (last cut.last) (turned.from cut.last))

  split : IsAscending (f1 ++ f2)
  split = subst IsAscending front_is w.front_sorted

  back_split : IsAscending (cut.front ++ cut.last ∷ [])
  back_split = subst IsAscending cut.is w.back_sorted

  in_front : (m : CellData) → Has (f1 ++ f2) m → Has w.front m
  in_front m h = subst (λ (l : List CellData). Has l m) (sym front_is) h

  in_back : (m : CellData) → Has (cut.front ++ cut.last ∷ []) m → Has w.back m
  in_back m h = subst (λ (l : List CellData). Has l m) (sym cut.is) h

  last_in : Has w.back cut.last
  last_in = in_back cut.last (has_right cut.front (cut.last ∷ []) cut.last (inl refl))

  above : (m : CellData) → Has f2 m → Below cut.last m
  above m h = greater_is_above m cut.last (all_has (λ c. Below c cut.last → ⊥) f2 m from h) (w.apart m cut.last (in_front m (has_right f1 f2 m h)) last_in)

  all_above : (m : CellData) → Has (f2 ++ w.merged) m → Below cut.last m
  all_above m h = elim (has_append f2 w.merged m h) [ inl a ↦ above m a | inr b ↦ w.back_below cut.last m last_in b ]

  front_under : (m n : CellData) → Has f1 m → Has (cut.last ∷ (f2 ++ w.merged)) n → Below m n
  front_under m n h (inl e) = subst (λ (c : CellData). Below m c) e (all_has (λ c. Below c cut.last) f1 m below h)
  front_under m n h (inr g) = elim (has_append f2 w.merged n g) [ inl a ↦ across f1 f2 m n split h a | inr b ↦ w.front_below m n (in_front m (has_left f1 f2 m h)) b ]

  back_under : (m n : CellData) → Has cut.front m → Has (cut.last ∷ (f2 ++ w.merged)) n → Below m n
  back_under m n h (inl e) = subst (λ (c : CellData). Below m c) e (before_is_below cut.front [] cut.last m back_split h)
  back_under m n h (inr g) = below_trans m cut.last n (before_is_below cut.front [] cut.last m back_split h) (all_above n g)

  same_cells : (d : CellData) → Has new d ↔ Has old d
  same_cells d =
      let t = has_turned f1 f2 cut.front w.merged cut.last d in
      let back : (f1 ++ f2) ++ ((cut.front ++ cut.last ∷ []) ++ w.merged) ≡ cells = (λ i. sym front_is i ++ (sym cut.is i ++ w.merged)) ∙ sym w.is in (
        λ h. (w.same d).0 (subst (λ (l : List CellData). Has l d) back (t.0 (subst (λ (l : List CellData). Has l d) new_is h))),
        λ h. subst (λ (l : List CellData). Has l d) (sym new_is) (t.1 (subst (λ (l : List CellData). Has l d) (sym back) ((w.same d).1 h))),
      )

  pub weaving_more : IsWeaving old at (rest - 1) new
  weaving_more = record {
    front = f1;
    back = cut.front;
    merged = cut.last ∷ (f2 ++ w.merged);
    is = new_is;
    front_len = length-take-le at w.front within;
    back_len = (let b = w.back_len in let c = ap (λ (xs : List CellData). length xs) cut.is in let e = length-append cut.front (cut.last ∷ []) in omega (arith, b, c, e));
    front_sorted = ascending_left f1 f2 split;
    back_sorted = ascending_left cut.front (cut.last ∷ []) back_split;
    sorted = (has_all (Below cut.last) (f2 ++ w.merged) all_above, ascending_join f2 w.merged (ascending_right f1 f2 split) w.sorted (λ m n h g. w.front_below m n (in_front m (has_right f1 f2 m h)) g));
    front_below = front_under;
    back_below = back_under;
    apart = λ m n h g. w.apart m n (in_front m (has_left f1 f2 m h)) (in_back n (has_left cut.front (cut.last ∷ []) n g));
    same = same_cells;
  }

  -- what is left of the second part belongs into what is left of the first
  pub weaving_places : (before : ℕ) (ps : List ℕ) → ArePlaces (take end cells) before (take rest (drop end cells)) (take rest ps) → ArePlaces (take at new) before (take (rest - 1) (drop at new)) (take (rest - 1) ps)
  weaving_places before ps places =
      let few = places_take w.front before w.back (take rest ps) (rest - 1) (subst (λ (l : List CellData). ArePlaces w.front before l (take rest ps)) second (subst (λ (l : List CellData). ArePlaces l before (take rest (drop end cells)) (take rest ps)) taken places)) in
      let same = subst (λ (l : List CellData). ArePlaces w.front before l (take (rest - 1) ps)) shorter (subst (λ (l : List ℕ). ArePlaces w.front before (take (rest - 1) w.back) l) (take-take (rest - 1) rest ps (omega (arith, some))) few) in
      let moved = places_to w.front f1 before before cut.front (take (rest - 1) ps) (λ c p h. left_place w.front before at cut.last c p within from (inr (before_is_below cut.front [] cut.last c back_split h))) same in
      subst (λ (l : List CellData). ArePlaces l before (take (rest - 1) (drop at new)) (take (rest - 1) ps)) (sym now_front) (subst (λ (l : List CellData). ArePlaces f1 before l (take (rest - 1) ps)) (sym now_back) moved)
    where
      f1_len : length f1 ≡ at
      f1_len = length-take-le at w.front within

      cut_len : length cut.front ≡ rest - 1
      cut_len = (let b = w.back_len in let c = ap (λ (xs : List CellData). length xs) cut.is in let e = length-append cut.front (cut.last ∷ []) in omega (arith, b, c, e))

      shorter : take (rest - 1) w.back ≡ cut.front
      shorter = ap (take (rest - 1)) cut.is ∙ take_front cut.front (cut.last ∷ []) (rest - 1) cut_len

      now_front : take at new ≡ f1
      now_front = ap (take at) new_is ∙ take_front f1 (cut.front ++ (cut.last ∷ (f2 ++ w.merged))) at f1_len

      now_back : take (rest - 1) (drop at new) ≡ cut.front
      now_back = ap (λ (l : List CellData). take (rest - 1) (drop at l)) new_is ∙ (ap (take (rest - 1)) (drop_front f1 (cut.front ++ (cut.last ∷ (f2 ++ w.merged))) at f1_len) ∙ take_front cut.front (cut.last ∷ (f2 ++ w.merged)) (rest - 1) cut_len)

-- what is left of the first part is sorted
pub weaving_front : (old cells : List CellData) (end rest : ℕ) → IsWeaving old end rest cells → IsAscending (take end cells)
weaving_front old cells end rest w = subst IsAscending (sym (ap (take end) w.is ∙ take_front w.front (w.back ++ w.merged) end w.front_len)) w.front_sorted

pub weaving_within : (old cells : List CellData) (end rest : ℕ) → IsWeaving old end rest cells → end + rest ≤ length cells
weaving_within old cells end rest w =
    let l = ap (λ (xs : List CellData). length xs) w.is in let a = length-append w.front (w.back ++ w.merged) in let b = length-append w.back w.merged in let e = w.front_len in let f = w.back_len in
    omega (arith, l, a, b, e, f)

pub none_of : (xs : List CellData) → length xs ≡ 0 → xs ≡ []
none_of [] e = refl
none_of (x ∷ xs) e = cc

pub weaving_done : (old cells : List CellData) (end rest : ℕ) → rest ≡ 0 → IsWeaving old end rest cells → IsAscending cells
weaving_done old cells end rest none w =
    subst IsAscending (sym (w.is ∙ ap (λ (l : List CellData). w.front ++ (l ++ w.merged)) (none_of w.back (w.back_len ∙ none))))
    (ascending_join w.front w.merged w.front_sorted w.sorted w.front_below)

-- a part of a list, turned
module _ (p q r s : List CellData) (at end rest : ℕ) (lp : length p ≡ at) (lq : at + length q ≡ end) (lr : length r ≡ rest) where
  abbrev whole : List CellData
  whole = p ++ (q ++ (r ++ s))

  rest_of : drop at whole ≡ (q ++ r) ++ s
  rest_of = drop_front p (q ++ (r ++ s)) at lp ∙ sym (append_assoc q r s)

  both : length (q ++ r) ≡ end + rest - at
  both = (let l = length-append q r in omega (arith, l, lq, lr))

  mid : take (end + rest - at) (drop at whole) ≡ q ++ r
  mid = ap (take (end + rest - at)) rest_of ∙ take_front (q ++ r) s (end + rest - at) both

  post : drop (end + rest - at) (drop at whole) ≡ s
  post = ap (drop (end + rest - at)) rest_of ∙ drop_front (q ++ r) s (end + rest - at) both

  up_to : take end whole ≡ p ++ q
  up_to = ap (take end) (sym (append_assoc p q (r ++ s))) ∙ take_front (p ++ q) (r ++ s) end (let l = length-append p q in omega (arith, l, lp, lq))

  from_end : drop end whole ≡ r ++ s
  from_end = ap (drop end) (sym (append_assoc p q (r ++ s))) ∙ drop_front (p ++ q) (r ++ s) end (let l = length-append p q in omega (arith, l, lp, lq))

  behind_all : drop (end + rest) whole ≡ s
  behind_all = ap (drop (end + rest)) (ap (λ (l : List CellData). p ++ l) (sym (append_assoc q r s)) ∙ sym (append_assoc p (q ++ r) s))
      ∙ drop_front (p ++ (q ++ r)) s (end + rest) (let l = length-append p (q ++ r) in let m = length-append q r in omega (arith, l, m, lp, lq, lr))

  abbrev aim : List CellData
  aim = p ++ (r ++ (q ++ s))

  as_turned : take at whole ++ (take rest (drop end whole) ++ (drop at (take end whole) ++ drop (end + rest) whole)) ≡ aim
  as_turned = λ i. take_front p (q ++ (r ++ s)) at lp i ++ ((ap (take rest) from_end ∙ take_front r s rest lr) i ++ ((ap (drop at) up_to ∙ drop_front p q at lp) i ++ behind_all i))

  as_put : (new : List CellData) → new ≡ drop (end - at) (take (end + rest - at) (drop at whole)) ++ take (end - at) (take (end + rest - at) (drop at whole)) → take at whole ++ (new ++ drop (end + rest - at) (drop at whole)) ≡ aim
  as_put new is =
      (λ i. take_front p (q ++ (r ++ s)) at lp i
      ++ ((is ∙ (λ j. (ap (drop (end - at)) mid ∙ drop_front q r (end - at) (omega (arith, lq))) j ++ (ap (take (end - at)) mid ∙ take_front q r (end - at) (omega (arith, lq))) j)) i ++ post i))
      ∙ ap (λ (l : List CellData). p ++ l) (append_assoc r q s)

  pub as_one : (new : List CellData) → new ≡ drop (end - at) (take (end + rest - at) (drop at whole)) ++ take (end - at) (take (end + rest - at) (drop at whole))
      → take at whole ++ (new ++ drop (end + rest - at) (drop at whole)) ≡ take at whole ++ (take rest (drop end whole) ++ (drop at (take end whole) ++ drop (end + rest) whole))
  as_one new is = as_put new is ∙ sym as_turned

pub turned_of : (cells new : List CellData) (at end rest : ℕ) → at ≤ end → end + rest ≤ length cells → new ≡ drop (end - at) (take (end + rest - at) (drop at cells)) ++ take (end - at) (take (end + rest - at) (drop at cells))
    → take at cells ++ (new ++ drop (end + rest - at) (drop at cells)) ≡ take at cells ++ (take rest (drop end cells) ++ (drop at (take end cells) ++ drop (end + rest) cells))
turned_of cells new at end rest low high is =
    let p = take at cells in
    let q = take (end - at) (drop at cells) in
    let r = take rest (drop (end - at) (drop at cells)) in
    let s = drop rest (drop (end - at) (drop at cells)) in
    let l1 = length-drop at cells in
    let l2 = length-drop (end - at) (drop at cells) in
    let all : cells ≡ p ++ (q ++ (r ++ s)) = sym (ap (λ (l : List CellData). p ++ (q ++ l)) (take-append-drop rest (drop (end - at) (drop at cells))) ∙ (ap (λ (l : List CellData). p ++ l) (take-append-drop (end - at) (drop at cells)) ∙ take-append-drop at cells)) in
    subst (λ (l : List CellData). new ≡ drop (end - at) (take (end + rest - at) (drop at l)) ++ take (end - at) (take (end + rest - at) (drop at l)) → take at l ++ (new ++ drop (end + rest - at) (drop at l)) ≡ take at l ++ (take rest (drop end l) ++ (drop at (take end l) ++ drop (end + rest) l)))
    (sym all)
    (as_one p q r s at end rest (length-take-le at cells (omega (arith, low, high))) (let m = length-take-le (end - at) (drop at cells) (omega (arith, low, high, l1)) in omega (arith, low, m)) (length-take-le rest (drop (end - at) (drop at cells)) (omega (arith, low, high, l1, l2))) new)
    is
