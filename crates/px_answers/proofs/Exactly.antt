-- The rows at a point that are selected, sorted and cut, are the answer of px_plan.
use Rattle.std.proofs.Common.{◌≡◌, ◌↔◌, ◌≤◌, ◌⊎◌, inl, inr, ℕ, zero, suc, Bool, true, false, List, [], ◌∷◌, length, map, Option, Some, None, refl, sym, ap, subst, ◌∙◌, arith}
use Rattle.std.proofs.lemmas.Cmp.{nat_list_cmp_total, on_total, then_total}
use Rattle.std.proofs.lemmas.List.Sorted.{ranks_by}
use Rattle.std.specs.Cmp.{IsStrictWeakOrder, IsTotalOrder}
use Rattle.std.specs.List.{Contains}
use Rattle.std.specs.Ordering.{is_lt, ordering_then}
use Rattle.std.specs.declared.cmp.Ordering.{Ordering}
use Rattle.std.specs.declared.cmp.Ordering.TheVariants.{Less}
use Rattle.px_values.specs.declared.row.Value.{Value}
use Rattle.px_keys.specs.Spelling.{Fits}
use Rattle.px_keys.proofs.KeyOrders.{spelled_order_alone}
use Rattle.px_tables.specs.declared.table.KeyPlace.{KeyPlace}
use Rattle.px_trail.specs.Answers.{AreInOrder, Asked, Given, IsAmong, IsCutByLimit, IsRowGiven, IsWithinLimit}
use Rattle.px_paths.specs.Paths.{columns_on, key_on, values_on}
use Rattle.px_paths.specs.declared.path.PathColumn.{PathColumn}
use Rattle.px_bind.specs.declared.request.Query.{Query}
use Rattle.px_plan.specs.Answers.{Ascends, IsAnswer, by_order, comes_before, cut_off, row_answered}
use Rattle.px_plan.specs.Plans.{IsSelected}
use Rattle.px_plan.proofs.OneAnswer.{before_total, here, nothing_in, split, there}
use Rattle.px_answers.specs.Selects.{goes_before, in_order_of}
use Rattle.px_answers.proofs.Final.{IsSortable, order_total, same_before}

no_both : (b : Bool) → b ≡ true → b ≡ false → ⊥
no_both true h k = let z : ◌≡◌ {A = Bool} true false = k in cc
no_both false h k = let z : ◌≡◌ {A = Bool} false true = h in cc

-- 1. A list that has the first of the rows that ascend

-- each row comes before those behind it
abbrev Rises : (List Value → List Value → Bool) → List (List Value) → Type 0
Rises before [] = Unit {0}
Rises before (x ∷ xs) = ((y : List Value) → Contains xs y → before x y ≡ true) × Rises before xs

abbrev rows_of : List Given → List (List Value)
rows_of xs = map (λ g. g.row) xs

abbrev Has : List Given → List Value → Type 0
Has xs row = (g : Given) × IsAmong g xs × (g.row ≡ row)

-- so many rows are given, and the row comes before none of them
pub record IsLeft (q : Asked) (limit : Option ℕ) (xs : List Given) (row : List Value) : Type 0 where
  pub most : ℕ
  pub is : limit ≡ Some most
  pub full : most ≤ length xs
  pub behind : (x : Given) → IsAmong x xs → q.before row x.row ≡ false

module _ (q : Asked) (one_way : (x y : List Value) → q.before x y ≡ true → q.before y x ≡ false) where
  not_itself : (x y : List Value) → x ≡ y → q.before x y ≡ true → ⊥
  not_itself x y e h =
      let k : q.before x x ≡ true = subst (λ (w : List Value). q.before x w ≡ true) (sym e) h in no_both (q.before x x) k (one_way x x k)

  -- two rows of which none comes before the other are one
  tied : (ss : List (List Value)) (x y : List Value) → Rises q.before ss → Contains ss x → Contains ss y → q.before x y ≡ false → q.before y x ≡ false → x ≡ y
  tied [] x y r c d h k = absurd (nothing_in x c)
  tied (s ∷ ss) x y r c d h k = elim (split s x ss c) [
    | inl e ↦ elim (split s y ss d) [
      | inl f ↦ sym e ∙ f
      | inr g ↦ absurd (no_both (q.before x y) (subst (λ (w : List Value). q.before w y ≡ true) e (r.0 y g)) h)
    ]
    | inr f ↦ elim (split s y ss d) [
      | inl e ↦ absurd (no_both (q.before y x) (subst (λ (w : List Value). q.before w x ≡ true) e (r.0 x f)) k)
      | inr g ↦ tied ss x y r.1 f g h k
    ]
  ]

  first_is : (limit : Option ℕ) (x : Given) (xs : List Given) (s : List Value) (ss : List (List Value)) → Rises q.before (s ∷ ss) → AreInOrder q (x ∷ xs) → Contains (s ∷ ss) x.row → Has (x ∷ xs) s ⊎ IsLeft q limit (x ∷ xs) s → x.row ≡ s
  unfolding AreInOrder IsAmong
  first_is limit x xs s ss r o c h = elim (split s x.row ss c) [
    | inl e ↦ sym e
    | inr d ↦ elim h [
      | inl g ↦ elim g.1 [
        | inl e ↦ ap (λ (w : Given). w.row) e ∙ g.2
        | inr k ↦ absurd (no_both (q.before s x.row) (r.0 x.row d) (subst (λ (w : List Value). q.before w x.row ≡ false) g.2 (o.0 g.0 k).0))
      ]
      | inr l ↦ absurd (no_both (q.before s x.row) (r.0 x.row d) (l.behind x (inl refl)))
    ]
  ]

  -- the others are among the others
  rest_in : (x : Given) (xs : List Given) (s : List Value) (ss : List (List Value)) → AreInOrder q (x ∷ xs) → x.row ≡ s → ((y : Given) → IsAmong y (x ∷ xs) → Contains (s ∷ ss) y.row) → (y : Given) → IsAmong y xs → Contains ss y.row
  unfolding AreInOrder IsAmong
  rest_in x xs s ss o e h y k = elim (split s y.row ss (h y (inr k))) [
    | inl f ↦ absurd ((o.0 y k).1 (ap q.path_key (sym (e ∙ f))))
    | inr c ↦ c
  ]

  rest_has : (x : Given) (xs : List Given) (s : List Value) (ss : List (List Value)) → Rises q.before (s ∷ ss) → x.row ≡ s → (r : List Value) → Contains ss r → Has (x ∷ xs) r → Has xs r
  unfolding IsAmong
  rest_has x xs s ss r e row c h = elim h.1 [
    | inl f ↦ absurd (not_itself s row (sym e ∙ (ap (λ (w : Given). w.row) f ∙ h.2)) (r.0 row c))
    | inr k ↦ (h.0, k, h.2)
  ]

  rest_left : (n : ℕ) (x : Given) (xs : List Given) (row : List Value) → IsLeft q (Some (suc n)) (x ∷ xs) row → IsLeft q (Some n) xs row
  unfolding IsAmong
  rest_left n x xs row h =
      let e : suc n ≡ h.most = some_same (suc n) h.most h.is in
      record { most = n; is = refl; full = (let l = h.full in omega arith); behind = λ y k. h.behind y (inr k) }
    where
      some_same : (a b : ℕ) → ◌≡◌ {A = Option ℕ} (Some a) (Some b) → a ≡ b
      some_same a b e = cc

  none_left : (xs : List Given) (row : List Value) → IsLeft q None xs row → ⊥
  none_left xs row h = let z : ◌≡◌ {A = Option ℕ} None (Some h.most) = h.is in cc

  -- where none is given, none may be
  none_given : (limit : Option ℕ) (s : List Value) (ss : List (List Value)) → Has [] s ⊎ IsLeft q limit [] s → [] ≡ cut_off limit (s ∷ ss)
  unfolding IsAmong
  none_given limit s ss (inl h) = absurd h.1
  none_given None s ss (inr l) = absurd (none_left [] s l)
  none_given (Some zero) s ss (inr l) = refl
  none_given (Some (suc n)) s ss (inr l) = let e : ◌≡◌ {A = Option ℕ} (Some (suc n)) (Some l.most) = l.is in let f : suc n ≡ l.most = cc in let g = l.full in absurd (omega arith)

  pub firsts : (limit : Option ℕ) (xs : List Given) (ss : List (List Value)) → Rises q.before ss → AreInOrder q xs → IsWithinLimit limit (length xs) → ((x : Given) → IsAmong x xs → Contains ss x.row) → ((row : List Value) → Contains ss row → Has xs row ⊎ IsLeft q limit xs row) → rows_of xs ≡ cut_off limit ss
  unfolding AreInOrder IsAmong
  firsts None [] [] r o w h k = refl
  firsts (Some zero) [] [] r o w h k = refl
  firsts (Some (suc n)) [] [] r o w h k = refl
  firsts limit [] (s ∷ ss) r o w h k = none_given limit s ss (k s (here s ss))
  firsts limit (x ∷ xs) [] r o w h k = absurd (nothing_in x.row (h x (inl refl)))
  firsts None (x ∷ xs) (s ∷ ss) r o w h k =
      let e = first_is None x xs s ss r o (h x (inl refl)) (k s (here s ss)) in
      let rest = firsts None xs ss r.1 o.1 tt (rest_in x xs s ss o e h) (λ row c. elim (k row (there s row ss c)) [
        | inl g ↦ inl (rest_has x xs s ss r e row c g)
        | inr l ↦ absurd (none_left (x ∷ xs) row l)
      ]) in
      ap (λ (w : List Value). w ∷ rows_of xs) e ∙ ap (λ (ws : List (List Value)). s ∷ ws) rest
  firsts (Some zero) (x ∷ xs) (s ∷ ss) r o w h k = absurd (omega arith)
  firsts (Some (suc n)) (x ∷ xs) (s ∷ ss) r o w h k =
      let e = first_is (Some (suc n)) x xs s ss r o (h x (inl refl)) (k s (here s ss)) in
      let rest = firsts (Some n) xs ss r.1 o.1 (omega arith) (rest_in x xs s ss o e h) (λ row c. elim (k row (there s row ss c)) [
        | inl g ↦ inl (rest_has x xs s ss r e row c g)
        | inr l ↦ inr (rest_left n x xs row l)
      ]) in
      ap (λ (w : List Value). w ∷ rows_of xs) e ∙ ap (λ (ws : List (List Value)). s ∷ ws) rest

-- 2. The order of values, and that of the bytes of keys

later : (R : List Value → List Value → Ordering) → IsTotalOrder R → (x : List Value) (ys : List (List Value)) → Ascends R (x ∷ ys) → (z : List Value) → Contains ys z → R x z ≡ Less
later R t x [] a z c = absurd (nothing_in z c)
later R t x (y ∷ ys) a z c =
    let rest = later R t y ys a.1 z in elim (split y z ys c) [
      | inl e ↦ subst (λ (r : List Value). R x r ≡ Less) e a.0
      | inr d ↦ t.trans x y z a.0 (rest d)
    ]

others : (R : List Value → List Value → Ordering) (x : List Value) (ys : List (List Value)) → Ascends R (x ∷ ys) → Ascends R ys
others R x [] a = tt
others R x (y ∷ ys) a = a.1

keys_one_way : (order : List KeyPlace) (key : List Value → List ℕ) (x y : List Value) → goes_before order key x y ≡ true → goes_before order key y x ≡ false
keys_one_way order key x y h =
    let o : IsStrictWeakOrder (goes_before order key) = ranks_by (then_total (order_total order) (on_total key nat_list_cmp_total)) (λ (row : List Value). row) in
    o.one_way x y h

-- a row whose values are a key on the path
abbrev pub HasKey : List PathColumn → List Value → Type 0
HasKey path row = Fits (columns_on path) (values_on path row)

pub values-before : (q : Query) (path : List PathColumn) (x y : List Value) → HasKey path x → HasKey path y → goes_before q.order (key_on path) x y ≡ is_lt (comes_before q path x y)
values-before q path x y f g =
    ap (λ (o : Ordering). is_lt (ordering_then (by_order q.order x y) o)) (spelled_order_alone (columns_on path) (values_on path x) (values_on path y) f g)

rises : (q : Query) (path : List PathColumn) (ss : List (List Value)) → ((row : List Value) → Contains ss row → HasKey path row) → Ascends (comes_before q path) ss → Rises (goes_before q.order (key_on path)) ss
rises q path [] f a = tt
rises q path (s ∷ ss) f a = (
  (λ y c. values-before q path s y (f s (here s ss)) (f y (there s y ss c)) ∙ ap is_lt (later (comes_before q path) (before_total q path) s ss a y c)),
  rises q path ss (λ row c. f row (there s row ss c)) (others (comes_before q path) s ss a),
)

-- 3. The answer

map_rows : (q : Query) (xs : List Given) → map (λ g. row_answered q g.row) xs ≡ map (row_answered q) (rows_of xs)
map_rows q [] = refl
map_rows q (x ∷ xs) = ap (λ (l : List (List Value)). row_answered q x.row ∷ l) (map_rows q xs)

-- what is given of the rows at a point
pub record GivesAll (a : Asked) (q : Query) (At : List Value → Type 0) (xs : List Given) : Type 0 where
  pub held : (x : Given) → IsAmong x xs → At x.row × (a.meets x.row ≡ true)
  pub ordered : AreInOrder (in_order_of q.order q.limit a) xs
  pub within : IsWithinLimit q.limit (length xs)
  pub whole : (row : List Value) → At row → a.meets row ≡ true → IsRowGiven (in_order_of q.order q.limit a) xs row ⊎ IsCutByLimit (in_order_of q.order q.limit a) xs row

module _ (a : Asked) (q : Query) (path : List PathColumn) (At : List Value → Type 0) (rows : List (List Value)) (xs : List Given) (sortable : IsSortable a q.order q.limit) (g : GivesAll a q At xs)
    (keyed : a.path_key ≡ key_on path)
    (met : (row : List Value) → (a.meets row ≡ true) ↔ IsSelected q.filter row)
    (are : (row : List Value) → At row ↔ Contains rows row)
    (fits : (row : List Value) → At row → HasKey path row) where
  abbrev asked : Asked
  asked = in_order_of q.order q.limit a

  at : (answer : List (List Value)) → (s : IsAnswer rows q path answer) → (row : List Value) → Contains s.sorted row → At row × (a.meets row ≡ true)
  at answer s row c = let h = (s.selected row).0 c in ((are row).1 h.0, (met row).1 h.1)

  among : (answer : List (List Value)) → (s : IsAnswer rows q path answer) → (x : Given) → IsAmong x xs → Contains s.sorted x.row
  among answer s x k = let h = g.held x k in (s.selected x.row).1 ((are x.row).0 h.0, (met x.row).0 h.1)

  rising : (answer : List (List Value)) → (s : IsAnswer rows q path answer) → Rises asked.before s.sorted
  rising answer s =
      subst (λ (k : List Value → List ℕ). Rises (goes_before q.order k) s.sorted) (sym keyed)
      (rises q path s.sorted (λ row c. fits row (at answer s row c).0) s.ascends)

  one_way : (x y : List Value) → asked.before x y ≡ true → asked.before y x ≡ false
  one_way x y h = keys_one_way q.order a.path_key x y h

  never : (x : List Value) → asked.before x x ≡ false
  never x = elim (asked.before x x) as (λ b. asked.before x x ≡ b → asked.before x x ≡ false) [ true ↦ λ e. one_way x x e | false ↦ λ e. e ] refl

  -- a row that is given by its named values is that row
  itself : (answer : List (List Value)) → (s : IsAnswer rows q path answer) → (x : Given) → IsAmong x xs → (row : List Value) → Contains s.sorted row → a.named x.row ≡ a.named row → x.row ≡ row
  itself answer s x k row c e =
      tied asked one_way s.sorted x.row row (rising answer s) (among answer s x k) c
      (same_before a q.order q.limit sortable row x.row row (sym e) ∙ never row)
      (same_before a q.order q.limit sortable x.row row x.row e ∙ never x.row)

  covered : (answer : List (List Value)) → (s : IsAnswer rows q path answer) → (row : List Value) → Contains s.sorted row → Has xs row ⊎ IsLeft asked q.limit xs row
  covered answer s row c = let h = at answer s row c in elim (g.whole row h.0 h.1) [
    | inl i ↦ inl (i.given, i.among, itself answer s i.given i.among row c i.same)
    | inr cut ↦ inr (record { most = cut.limit; is = cut.is; full = cut.full; behind = cut.behind })
  ]

  pub answer-is : (answer : List (List Value)) → IsAnswer rows q path answer → IsAnswer rows q path (map (λ x. row_answered q x.row) xs)
  answer-is answer s = record {
    sorted = s.sorted;
    ascends = s.ascends;
    selected = s.selected;
    given = map_rows q xs ∙ ap (map (row_answered q)) (firsts asked one_way q.limit xs s.sorted (rising answer s) g.ordered g.within (among answer s) (covered answer s));
  }
