-- Marked places, from the front on.
use Rattle.std.proofs.Common.{◌≡◌, ℕ, zero, suc, add-one, ◌+◌, ◌<◌, ◌≤◌, Bool, true, false, length, get_or, set, take, drop, List, [], ◌∷◌, ◌++◌, append_assoc, refl, ap, sym, subst, inl, inr, ◌∙◌, arith}
use Rattle.std.proofs.lemmas.List.{append-nil, drop-set-lt, length-set, take-set, take-set-le, take_more_set}
use Rattle.std.proofs.lemmas.Bool.{cases_eq}
use Rattle.px_values.specs.declared.row.Value.{Value}
use Rattle.px_openbatches.specs.Pending.{flagged}

abbrev Rows : Type 0
Rows = List (List Value)

at_suc : {A : Type 0} (d : A) (xs : List A) (i : ℕ) → i < length xs → drop i xs ≡ get_or xs i d ∷ drop (suc i) xs
at_suc d [] i l = absurd (omega arith)
at_suc d (x ∷ xs) zero l = refl
at_suc d (x ∷ xs) (suc i) l = at_suc d xs i (omega arith)

at_place : {A : Type 0} (d : A) (xs : List A) (i : ℕ) → i < length xs → drop i xs ≡ get_or xs i d ∷ drop (i + 1) xs
at_place d xs i l = at_suc d xs i l ∙ ap (λ (j : ℕ). get_or xs i d ∷ drop j xs) (sym (add-one i))

past : {A : Type 0} (xs : List A) (n : ℕ) → length xs ≤ n → drop n xs ≡ []
past [] zero l = refl
past [] (suc n) l = refl
past (x ∷ xs) zero l = absurd (omega arith)
past (x ∷ xs) (suc n) l = past xs n (omega arith)

nothing : (ws : List Bool) → flagged ws [] ≡ []
unfolding flagged
nothing [] = refl
nothing (w ∷ ws) = refl

no_mark : (q : Rows) → flagged [] q ≡ []
unfolding flagged
no_mark q = refl

one_stays : (ws : List Bool) (x : List Value) (xs : Rows) → flagged (true ∷ ws) (x ∷ xs) ≡ x ∷ flagged ws xs
unfolding flagged
one_stays ws x xs = refl

one_goes : (ws : List Bool) (x : List Value) (xs : Rows) → flagged (false ∷ ws) (x ∷ xs) ≡ flagged ws xs
unfolding flagged
one_goes ws x xs = refl

module _ (xs ys : Rows) (n i : ℕ) (le : n ≤ i) (inside : i < length xs) (d : List Value) (swapped : ys ≡ set (set xs n (get_or xs i d)) i (get_or xs n d)) where
  -- where two rows are swapped, the later one is at the earlier place
  front : take (n + 1) ys ≡ take n xs ++ get_or xs i d ∷ []
  front = ap (take (n + 1)) swapped ∙ elim (cases_eq n i) [
    | inl e ↦ subst (λ (j : ℕ). take (n + 1) (set (set xs n (get_or xs j d)) j (get_or xs n d)) ≡ take n xs ++ get_or xs j d ∷ []) e
        (take_more_set (set xs n (get_or xs n d)) n (get_or xs n d) (let s = length-set xs n (get_or xs n d) in omega arith) ∙ ap (λ (l : Rows). l ++ get_or xs n d ∷ []) (take-set xs n (get_or xs n d)))
    | inr e ↦ take-set-le (n + 1) (set xs n (get_or xs i d)) i (get_or xs n d) (omega arith) ∙ take_more_set xs n (get_or xs i d) (omega arith)
  ]

  -- and those behind both stay
  behind : drop (i + 1) ys ≡ drop (i + 1) xs
  behind = ap (drop (i + 1)) swapped ∙ (drop-set-lt (i + 1) (set xs n (get_or xs i d)) i (get_or xs n d) (omega arith) ∙ drop-set-lt (i + 1) xs n (get_or xs i d) (omega arith))

  -- a mark is looked at: its row is swapped to behind those that stay
  pub stays_at : (vs : List Bool) (v : Bool) → i < length vs → get_or vs i v ≡ true → take (n + 1) ys ++ flagged (drop (i + 1) vs) (drop (i + 1) ys) ≡ take n xs ++ flagged (drop i vs) (drop i xs)
  stays_at vs v l t =
      ap (λ (p : Rows). p ++ flagged (drop (i + 1) vs) (drop (i + 1) ys)) front ∙ (ap (λ (q : Rows). (take n xs ++ get_or xs i d ∷ []) ++ flagged (drop (i + 1) vs) q) behind
      ∙ (append_assoc (take n xs) (get_or xs i d ∷ []) (flagged (drop (i + 1) vs) (drop (i + 1) xs))
      ∙ sym (ap (λ (q : Rows). take n xs ++ q) (ap (λ (ws : List Bool). flagged ws (drop i xs)) (at_place v vs i l ∙ ap (λ (b : Bool). b ∷ drop (i + 1) vs) t) ∙ (ap (flagged (true ∷ drop (i + 1) vs)) (at_place d xs i inside) ∙ one_stays (drop (i + 1) vs) (get_or xs i d) (drop (i + 1) xs))))))

-- or it stays behind
pub goes_at : (vs : List Bool) (i : ℕ) (v : Bool) → i < length vs → get_or vs i v ≡ false → (rows : Rows) (n : ℕ) → i < length rows → take n rows ++ flagged (drop (i + 1) vs) (drop (i + 1) rows) ≡ take n rows ++ flagged (drop i vs) (drop i rows)
goes_at vs i v l t rows n k =
    sym (ap (λ (q : Rows). take n rows ++ q) (ap (λ (ws : List Bool). flagged ws (drop i rows)) (at_place v vs i l ∙ ap (λ (b : Bool). b ∷ drop (i + 1) vs) t)
    ∙ (ap (flagged (false ∷ drop (i + 1) vs)) (at_place [] rows i k) ∙ one_goes (drop (i + 1) vs) (get_or rows i []) (drop (i + 1) rows))))

-- or no row is left
pub none_at : (vs : List Bool) (i : ℕ) (rows : Rows) (n : ℕ) → length rows ≤ i → take n rows ++ flagged (drop (i + 1) vs) (drop (i + 1) rows) ≡ take n rows ++ flagged (drop i vs) (drop i rows)
none_at vs i rows n l = ap (λ (q : Rows). take n rows ++ q) (ap (flagged (drop (i + 1) vs)) (past rows (i + 1) (omega arith)) ∙ (nothing (drop (i + 1) vs) ∙ (sym (nothing (drop i vs)) ∙ ap (flagged (drop i vs)) (sym (past rows i l)))))

-- no mark is left
pub marks_end : (vs : List Bool) (i : ℕ) (rows : Rows) (n : ℕ) → length vs ≤ i → take n rows ++ flagged (drop i vs) (drop i rows) ≡ take n rows
marks_end vs i rows n l = ap (λ (ws : List Bool). take n rows ++ flagged ws (drop i rows)) (past vs i l) ∙ (ap (λ (q : Rows). take n rows ++ q) (no_mark (drop i rows)) ∙ append-nil (take n rows))
