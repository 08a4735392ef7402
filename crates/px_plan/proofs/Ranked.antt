-- Ranks in their order, and the best of a list.
use Rattle.std.proofs.Common.{◌≡◌, ◌⊎◌, ◌<◌, ◌≤◌, ◌+◌, ◌*◌, inl, inr, ℕ, Bool, true, false, List, [], ◌∷◌, ◌++◌, refl, sym, ap, subst, ◌∙◌, Option, Some, None, arith, ◌&&◌, if◌then◌else◌, add-one, get_or, length, map, take}
use Rattle.std.proofs.lemmas.List.Elements.{All-append, All-nil, All-cons, All-head, All-tail}
use Rattle.std.specs.List.{All, filter}
use Rattle.std.proofs.Math.Seq.{take-suc}
use Rattle.std.proofs.lemmas.List.{append-nil, map-append}
use Rattle.px_tables.specs.declared.table.Table.{Table}
use Rattle.px_plan.specs.Naming.{holds_all}
use Rattle.px_tables.specs.declared.index.Index.{Index}
use Rattle.px_plan.specs.declared.rank.Rank.{Rank}
use Rattle.px_expr.specs.declared.bound.Bound.{Bound}
use Rattle.px_tables.specs.declared.table.KeyPlace.{KeyPlace}
use Rattle.px_plan.specs.Choice.{IsBest, IsBetter, OnlyTheFirst, candidates, is_usable, rank_of}

-- a rank as a number
abbrev bit : Bool → ℕ
bit true = 1
bit false = 0

abbrev weight : ℕ → Bool → Bool → ℕ
weight e b o = 4 * e + (2 * bit b + bit o)

abbrev Better : ℕ → Bool → Bool → ℕ → Bool → Bool → Type 0
Better e b o f c p = (f < e) ⊎ ((e ≡ f) × (OnlyTheFirst b c ⊎ ((b ≡ c) × OnlyTheFirst o p)))

heavier : (e : ℕ) (b o : Bool) (f : ℕ) (c p : Bool) → Better e b o f c p → weight f c p < weight e b o
heavier e true true f true true h = elim h [ inl l ↦ omega arith | inr r ↦ (let q = r.0 in elim r.1 [ inl y ↦ (let z = y.1 in cc) | inr y ↦ (let w = y.1 in let z = w.1 in cc) ]) ]
heavier e true true f true false h = elim h [ inl l ↦ omega arith | inr r ↦ (let q = r.0 in elim r.1 [ inl y ↦ (let z = y.1 in cc) | inr y ↦ omega arith ]) ]
heavier e true true f false true h = elim h [ inl l ↦ omega arith | inr r ↦ (let q = r.0 in elim r.1 [ inl y ↦ omega arith | inr y ↦ (let z = y.0 in cc) ]) ]
heavier e true true f false false h = elim h [ inl l ↦ omega arith | inr r ↦ (let q = r.0 in elim r.1 [ inl y ↦ omega arith | inr y ↦ (let z = y.0 in cc) ]) ]
heavier e true false f true true h = elim h [ inl l ↦ omega arith | inr r ↦ (let q = r.0 in elim r.1 [ inl y ↦ (let z = y.1 in cc) | inr y ↦ (let w = y.1 in let z = w.0 in cc) ]) ]
heavier e true false f true false h = elim h [ inl l ↦ omega arith | inr r ↦ (let q = r.0 in elim r.1 [ inl y ↦ (let z = y.1 in cc) | inr y ↦ (let w = y.1 in let z = w.0 in cc) ]) ]
heavier e true false f false true h = elim h [ inl l ↦ omega arith | inr r ↦ (let q = r.0 in elim r.1 [ inl y ↦ omega arith | inr y ↦ (let z = y.0 in cc) ]) ]
heavier e true false f false false h = elim h [ inl l ↦ omega arith | inr r ↦ (let q = r.0 in elim r.1 [ inl y ↦ omega arith | inr y ↦ (let z = y.0 in cc) ]) ]
heavier e false true f true true h = elim h [ inl l ↦ omega arith | inr r ↦ (let q = r.0 in elim r.1 [ inl y ↦ (let z = y.0 in cc) | inr y ↦ (let z = y.0 in cc) ]) ]
heavier e false true f true false h = elim h [ inl l ↦ omega arith | inr r ↦ (let q = r.0 in elim r.1 [ inl y ↦ (let z = y.0 in cc) | inr y ↦ (let z = y.0 in cc) ]) ]
heavier e false true f false true h = elim h [ inl l ↦ omega arith | inr r ↦ (let q = r.0 in elim r.1 [ inl y ↦ (let z = y.0 in cc) | inr y ↦ (let w = y.1 in let z = w.1 in cc) ]) ]
heavier e false true f false false h = elim h [ inl l ↦ omega arith | inr r ↦ (let q = r.0 in elim r.1 [ inl y ↦ (let z = y.0 in cc) | inr y ↦ omega arith ]) ]
heavier e false false f true true h = elim h [ inl l ↦ omega arith | inr r ↦ (let q = r.0 in elim r.1 [ inl y ↦ (let z = y.0 in cc) | inr y ↦ (let z = y.0 in cc) ]) ]
heavier e false false f true false h = elim h [ inl l ↦ omega arith | inr r ↦ (let q = r.0 in elim r.1 [ inl y ↦ (let z = y.0 in cc) | inr y ↦ (let z = y.0 in cc) ]) ]
heavier e false false f false true h = elim h [ inl l ↦ omega arith | inr r ↦ (let q = r.0 in elim r.1 [ inl y ↦ (let z = y.0 in cc) | inr y ↦ (let w = y.1 in let z = w.0 in cc) ]) ]
heavier e false false f false false h = elim h [ inl l ↦ omega arith | inr r ↦ (let q = r.0 in elim r.1 [ inl y ↦ (let z = y.0 in cc) | inr y ↦ (let w = y.1 in let z = w.0 in cc) ]) ]

ties : (e f : ℕ) → (f < e) ⊎ ((e ≡ f) ⊎ (e < f))
ties e f = grind arith

better : (e : ℕ) (b o : Bool) (f : ℕ) (c p : Bool) → weight f c p < weight e b o → Better e b o f c p
better e true true f true true h = elim (ties e f) [ inl l ↦ inl l | inr r ↦ elim r [ inl q ↦ absurd (omega arith) | inr g ↦ absurd (omega arith) ] ]
better e true true f true false h = elim (ties e f) [ inl l ↦ inl l | inr r ↦ elim r [ inl q ↦ inr (q, inr (refl, (refl, refl))) | inr g ↦ absurd (omega arith) ] ]
better e true true f false true h = elim (ties e f) [ inl l ↦ inl l | inr r ↦ elim r [ inl q ↦ inr (q, inl (refl, refl)) | inr g ↦ absurd (omega arith) ] ]
better e true true f false false h = elim (ties e f) [ inl l ↦ inl l | inr r ↦ elim r [ inl q ↦ inr (q, inl (refl, refl)) | inr g ↦ absurd (omega arith) ] ]
better e true false f true true h = elim (ties e f) [ inl l ↦ inl l | inr r ↦ elim r [ inl q ↦ absurd (omega arith) | inr g ↦ absurd (omega arith) ] ]
better e true false f true false h = elim (ties e f) [ inl l ↦ inl l | inr r ↦ elim r [ inl q ↦ absurd (omega arith) | inr g ↦ absurd (omega arith) ] ]
better e true false f false true h = elim (ties e f) [ inl l ↦ inl l | inr r ↦ elim r [ inl q ↦ inr (q, inl (refl, refl)) | inr g ↦ absurd (omega arith) ] ]
better e true false f false false h = elim (ties e f) [ inl l ↦ inl l | inr r ↦ elim r [ inl q ↦ inr (q, inl (refl, refl)) | inr g ↦ absurd (omega arith) ] ]
better e false true f true true h = elim (ties e f) [ inl l ↦ inl l | inr r ↦ elim r [ inl q ↦ absurd (omega arith) | inr g ↦ absurd (omega arith) ] ]
better e false true f true false h = elim (ties e f) [ inl l ↦ inl l | inr r ↦ elim r [ inl q ↦ absurd (omega arith) | inr g ↦ absurd (omega arith) ] ]
better e false true f false true h = elim (ties e f) [ inl l ↦ inl l | inr r ↦ elim r [ inl q ↦ absurd (omega arith) | inr g ↦ absurd (omega arith) ] ]
better e false true f false false h = elim (ties e f) [ inl l ↦ inl l | inr r ↦ elim r [ inl q ↦ inr (q, inr (refl, (refl, refl))) | inr g ↦ absurd (omega arith) ] ]
better e false false f true true h = elim (ties e f) [ inl l ↦ inl l | inr r ↦ elim r [ inl q ↦ absurd (omega arith) | inr g ↦ absurd (omega arith) ] ]
better e false false f true false h = elim (ties e f) [ inl l ↦ inl l | inr r ↦ elim r [ inl q ↦ absurd (omega arith) | inr g ↦ absurd (omega arith) ] ]
better e false false f false true h = elim (ties e f) [ inl l ↦ inl l | inr r ↦ elim r [ inl q ↦ absurd (omega arith) | inr g ↦ absurd (omega arith) ] ]
better e false false f false false h = elim (ties e f) [ inl l ↦ inl l | inr r ↦ elim r [ inl q ↦ absurd (omega arith) | inr g ↦ absurd (omega arith) ] ]

abbrev weight_of : Rank → ℕ
weight_of r = weight r.equal r.bounded r.ordered

better_weighs : (a b : Rank) → IsBetter a b → weight_of b < weight_of a
better_weighs a b h = heavier a.equal a.bounded a.ordered b.equal b.bounded b.ordered h

weighs_better : (a b : Rank) → weight_of b < weight_of a → IsBetter a b
weighs_better a b h = better a.equal a.bounded a.ordered b.equal b.bounded b.ordered h

-- ---- one candidate more

module _ (rank : Option Index → Rank) where
  weighed : (cs : List (Option Index)) (by : Option Index) (n : ℕ) → n < weight_of (rank by) + 1 → All (λ c. weight_of (rank c) ≤ n) cs → All (λ c. IsBetter (rank c) (rank by) → ⊥) cs
  weighed [] by n l h = All-nil (λ c. IsBetter (rank c) (rank by) → ⊥)
  weighed (c ∷ cs) by n l h =
      let first = All-head (λ c. weight_of (rank c) ≤ n) c cs h in
      All-cons (λ c. IsBetter (rank c) (rank by) → ⊥) c cs (λ b. (let w = better_weighs (rank c) (rank by) b in omega arith)) (weighed cs by n l (All-tail (λ c. weight_of (rank c) ≤ n) c cs h))

  weights : (cs : List (Option Index)) (by : Option Index) → All (λ c. IsBetter (rank c) (rank by) → ⊥) cs → All (λ c. weight_of (rank c) ≤ weight_of (rank by)) cs
  weights [] by h = All-nil (λ c. weight_of (rank c) ≤ weight_of (rank by))
  weights (c ∷ cs) by h =
      let first = All-head (λ c. IsBetter (rank c) (rank by) → ⊥) c cs h in
      All-cons (λ c. weight_of (rank c) ≤ weight_of (rank by)) c cs (at_most (weight_of (rank c)) (weight_of (rank by)) (λ l. first (weighs_better (rank c) (rank by) l))) (weights cs by (All-tail (λ c. IsBetter (rank c) (rank by) → ⊥) c cs h))
    where
      at_most : (m n : ℕ) → (n < m → ⊥) → m ≤ n
      at_most m n h = elim (ties m n) [ inl l ↦ absurd (h l) | inr r ↦ elim r [ inl e ↦ omega arith | inr g ↦ omega arith ] ]

  all_lighter : (cs : List (Option Index)) (d : Option Index) (n : ℕ) → n < weight_of (rank d) → All (λ c. weight_of (rank c) ≤ n) cs → All (λ c. IsBetter (rank d) (rank c)) cs
  all_lighter [] d n l h = All-nil (λ c. IsBetter (rank d) (rank c))
  all_lighter (c ∷ cs) d n l h =
      let first = All-head (λ c. weight_of (rank c) ≤ n) c cs h in
      All-cons (λ c. IsBetter (rank d) (rank c)) c cs (weighs_better (rank d) (rank c) (omega arith)) (all_lighter cs d n l (All-tail (λ c. weight_of (rank c) ≤ n) c cs h))

  pub best_alone : (by : Option Index) → IsBest rank (by ∷ []) by
  best_alone by = record {
    before = [];
    behind = [];
    stands = refl;
    best = All-cons (λ c. IsBetter (rank c) (rank by) → ⊥) by [] (λ b. (let w = better_weighs (rank by) (rank by) b in omega arith)) (All-nil (λ c. IsBetter (rank c) (rank by) → ⊥));
    first = All-nil (λ c. IsBetter (rank by) (rank c));
  }

  pub best_better : (cs : List (Option Index)) (by d : Option Index) → IsBest rank cs by → IsBetter (rank d) (rank by) → IsBest rank (cs ++ d ∷ []) d
  best_better cs by d h b =
      let w = better_weighs (rank d) (rank by) b in
      let ws = weights cs by h.best in record {
        before = cs;
        behind = [];
        stands = refl;
        best = All-append (λ c. IsBetter (rank c) (rank d) → ⊥) cs (d ∷ []) (weighed cs d (weight_of (rank by)) (omega arith) ws) (All-cons (λ c. IsBetter (rank c) (rank d) → ⊥) d [] (λ x. (let y = better_weighs (rank d) (rank d) x in omega arith)) (All-nil (λ c. IsBetter (rank c) (rank d) → ⊥)));
        first = all_lighter cs d (weight_of (rank by)) w ws;
      }

  pub best_stays : (cs : List (Option Index)) (by d : Option Index) → IsBest rank cs by → (IsBetter (rank d) (rank by) → ⊥) → IsBest rank (cs ++ d ∷ []) by
  best_stays cs by d h n = record {
    before = h.before;
    behind = h.behind ++ d ∷ [];
    stands = ap (λ (xs : List (Option Index)). xs ++ d ∷ []) h.stands ∙ grouped h.before;
    best = All-append (λ c. IsBetter (rank c) (rank by) → ⊥) cs (d ∷ []) h.best (All-cons (λ c. IsBetter (rank c) (rank by) → ⊥) d [] n (All-nil (λ c. IsBetter (rank c) (rank by) → ⊥)));
    first = h.first;
  }
    where
      grouped : (xs : List (Option Index)) → (xs ++ by ∷ h.behind) ++ d ∷ [] ≡ xs ++ by ∷ (h.behind ++ d ∷ [])
      grouped [] = refl
      grouped (x ∷ xs) = ap (λ (ys : List (Option Index)). x ∷ ys) (grouped xs)

-- ---- one index more

filter_last : (p : Index → Bool) (is : List Index) (i : Index) (b : Bool) → p i ≡ b → filter p (is ++ i ∷ []) ≡ filter p is ++ (if b then i ∷ [] else [])
filter_last p [] i true e = ap (λ (t : Bool). if t then i ∷ [] else []) e
filter_last p [] i false e = ap (λ (t : Bool). if t then i ∷ [] else []) e
filter_last p (x ∷ is) i b e = by_test (p x) refl (filter_last p is i b e)
  where
    by_test : (t : Bool) → p x ≡ t → filter p (is ++ i ∷ []) ≡ filter p is ++ (if b then i ∷ [] else []) → filter p (x ∷ (is ++ i ∷ [])) ≡ filter p (x ∷ is) ++ (if b then i ∷ [] else [])
    by_test true t rest = ap (λ (s : Bool). if s then x ∷ filter p (is ++ i ∷ []) else filter p (is ++ i ∷ [])) t ∙ ap (λ (l : List Index). x ∷ l) rest ∙ ap (λ (s : Bool). (if s then x ∷ filter p is else filter p is) ++ (if b then i ∷ [] else [])) (sym t)
    by_test false t rest = ap (λ (s : Bool). if s then x ∷ filter p (is ++ i ∷ []) else filter p (is ++ i ∷ [])) t ∙ rest ∙ ap (λ (s : Bool). (if s then x ∷ filter p is else filter p is) ++ (if b then i ∷ [] else [])) (sym t)

-- the candidates with one index more: as before, where it isn't one
pub candidates_stay : (t : Table) (point : Option ℕ) (columns : List ℕ) (is : List Index) (k : ℕ) (i : Index) → k < length is → i ≡ get_or is k i → (is_usable point i && holds_all t i columns) ≡ false → candidates t point columns (take (k + 1) is) ≡ candidates t point columns (take k is)
candidates_stay t point columns is k i l e u =
    let p : Index → Bool = λ x. is_usable point x && holds_all t x columns in
    let more : take (k + 1) is ≡ take k is ++ i ∷ [] = ap (λ (n : ℕ). take n is) (add-one k) ∙ take-suc is k i l ∙ ap (λ (x : Index). take k is ++ x ∷ []) (sym e) in
    ap (λ (xs : List Index). None ∷ map Some (filter p xs)) more ∙ ap (λ (xs : List Index). None ∷ map Some xs) (filter_last p (take k is) i false u ∙ append-nil (filter p (take k is)))

pub candidates_grow : (t : Table) (point : Option ℕ) (columns : List ℕ) (is : List Index) (k : ℕ) (i : Index) → k < length is → i ≡ get_or is k i → (is_usable point i && holds_all t i columns) ≡ true → candidates t point columns (take (k + 1) is) ≡ candidates t point columns (take k is) ++ Some i ∷ []
candidates_grow t point columns is k i l e u =
    let p : Index → Bool = λ x. is_usable point x && holds_all t x columns in
    let more : take (k + 1) is ≡ take k is ++ i ∷ [] = ap (λ (n : ℕ). take n is) (add-one k) ∙ take-suc is k i l ∙ ap (λ (x : Index). take k is ++ x ∷ []) (sym e) in
    ap (λ (xs : List Index). None ∷ map Some (filter p xs)) more ∙ ap (λ (xs : List Index). None ∷ map Some xs) (filter_last p (take k is) i true u)
    ∙ ap (λ (xs : List (Option Index)). None ∷ xs) (map-append Some (filter p (take k is)) (i ∷ []))

-- ---- the best so far, with one index more

pub best_grows : (t : Table) (cs : List Bound) (order : List KeyPlace) (point : Option ℕ) (columns : List ℕ) (is : List Index) (k : ℕ) (i : Index) (by : Option Index) → k < length is → i ≡ get_or is k i → is_usable point i ≡ true → holds_all t i columns ≡ true → IsBetter (rank_of t cs order (Some i)) (rank_of t cs order by) → IsBest (rank_of t cs order) (candidates t point columns (take k is)) by → IsBest (rank_of t cs order) (candidates t point columns (take (k + 1) is)) (Some i)
best_grows t cs order point columns is k i by l e u h b best =
    let more = candidates_grow t point columns is k i l e (ap (λ (x : Bool). x && holds_all t i columns) u ∙ h) in
    subst (λ (x : List (Option Index)). IsBest (rank_of t cs order) x (Some i)) (sym more) (best_better (rank_of t cs order) (candidates t point columns (take k is)) by (Some i) best b)

pub best_keeps : (t : Table) (cs : List Bound) (order : List KeyPlace) (point : Option ℕ) (columns : List ℕ) (is : List Index) (k : ℕ) (i : Index) (by : Option Index) → k < length is → i ≡ get_or is k i → is_usable point i ≡ true → holds_all t i columns ≡ true → (IsBetter (rank_of t cs order (Some i)) (rank_of t cs order by) → ⊥) → IsBest (rank_of t cs order) (candidates t point columns (take k is)) by → IsBest (rank_of t cs order) (candidates t point columns (take (k + 1) is)) by
best_keeps t cs order point columns is k i by l e u h b best =
    let more = candidates_grow t point columns is k i l e (ap (λ (x : Bool). x && holds_all t i columns) u ∙ h) in
    subst (λ (x : List (Option Index)). IsBest (rank_of t cs order) x by) (sym more) (best_stays (rank_of t cs order) (candidates t point columns (take k is)) by (Some i) best b)
