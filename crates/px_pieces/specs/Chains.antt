-- So many values one after the other, of which each may hang on those before it, and a list behind its length.
use Rattle.std.proofs.Common.{◌≡◌, ◌<◌, ◌++◌, ◌∷◌, [], ℕ, zero, suc, List, length, refl, sym, ap, ◌∙◌, arith}
use Rattle.std.specs.List.{AllByRecursion}
use Rattle.px_pieces.specs.Pieces.{Piece, as_full, as_value, empty_piece, followed_by, followed_full}

abbrev pub first_of : {T : Type 0} → T → List T → T
first_of d [] = d
first_of d (x ∷ xs) = x

abbrev pub others_of : {T : Type 0} → List T → List T
others_of [] = []
others_of (x ∷ xs) = xs

-- The piece of a value hangs on how many come behind it, and on what is known from those before it.
module _ {S T : Type 0} (d : T) (v : ℕ → S → Piece T) (next : S → T → S) where
  unfoldable pub chain : ℕ → S → Piece (List T)
  chain zero s = as_value (λ u. []) (λ l. tt) empty_piece (λ x right. refl)
  chain (suc n) s = as_value (λ (p : T × List T). p.0 ∷ p.1) (λ l. (first_of d l, others_of l)) (followed_by (v n s) (λ x. chain n (next s x))) (λ x right. refl)

  pub chain_long : (n : ℕ) (s : S) (l : List T) → (chain n s).right l → length l ≡ n
  unfolding chain as_value followed_by
  chain_long zero s l right = ap length (sym right.1)
  chain_long (suc n) s l right = ap length (sym right.1) ∙ ap suc (chain_long n (next s (first_of d l)) (others_of l) right.0.1)

  -- all that is begun can be ended, where this stays so of what is known
  pub chain_full : (P : ℕ → S → Type 0) → ((n : ℕ) (s : S) → P (suc n) s → (v n s).full) → ((n : ℕ) (s : S) (x : T) → P (suc n) s → (v n s).right x → P n (next s x)) → (n : ℕ) (s : S) → P n s → (chain n s).full
  unfolding chain empty_piece
  chain_full P one more zero s p = as_full (λ u. []) (λ l. tt) empty_piece (λ x right. refl) tt
  chain_full P one more (suc n) s p =
      as_full (λ (p : T × List T). p.0 ∷ p.1) (λ l. (first_of d l, others_of l)) (followed_by (v n s) (λ x. chain n (next s x))) (λ x right. refl)
      (followed_full (v n s) (λ x. chain n (next s x)) (one n s p) (λ x right. chain_full P one more n (next s x) (more n s x p right)))

  -- a right list, part by part
  pub chain_nil : (s : S) → (chain zero s).right []
  unfolding chain as_value empty_piece
  chain_nil s = (tt, refl)

  pub chain_cons : (n : ℕ) (s : S) (x : T) (xs : List T) → (v n s).right x → (chain n (next s x)).right xs → (chain (suc n) s).right (x ∷ xs)
  unfolding chain as_value followed_by
  chain_cons n s x xs first others = ((first, others), refl)

  pub chain_first : (n : ℕ) (s : S) (l : List T) → (chain (suc n) s).right l → (v n s).right (first_of d l)
  unfolding chain as_value followed_by
  chain_first n s l right = right.0.0

  pub chain_others : (n : ℕ) (s : S) (l : List T) → (chain (suc n) s).right l → (chain n (next s (first_of d l))).right (others_of l)
  unfolding chain as_value followed_by
  chain_others n s l right = right.0.1

  pub chain_parts : (n : ℕ) (s : S) (l : List T) → (chain (suc n) s).right l → first_of d l ∷ others_of l ≡ l
  unfolding chain as_value followed_by
  chain_parts n s l right = right.1

  pub chain_spelled : (n : ℕ) (s : S) (x : T) (xs : List T) → (chain (suc n) s).spelled (x ∷ xs) ≡ (v n s).spelled x ++ (chain n (next s x)).spelled xs
  unfolding chain as_value followed_by
  chain_spelled n s x xs = refl

module _ {T : Type 0} (d : T) (v : Piece T) where
  -- so many of one piece
  unfoldable pub repeat : ℕ → Piece (List T)
  repeat n = chain d (λ (left : ℕ) (u : Unit {0}). v) (λ (u : Unit {0}) (x : T). u) n tt

  pub repeat_long : (n : ℕ) (l : List T) → (repeat n).right l → length l ≡ n
  unfolding repeat
  repeat_long n l right = chain_long d (λ (left : ℕ) (u : Unit {0}). v) (λ (u : Unit {0}) (x : T). u) n tt l right

  pub repeat_full : v.full → (n : ℕ) → (repeat n).full
  unfolding repeat
  repeat_full full n = chain_full d (λ (left : ℕ) (u : Unit {0}). v) (λ (u : Unit {0}) (x : T). u) (λ (n : ℕ) (u : Unit {0}). Unit {0}) (λ n s p. full) (λ n s x p right. tt) n tt tt

module _ {T : Type 0} (v : ℕ → Piece (List T)) (long : (n : ℕ) (l : List T) → (v n).right l → length l ≡ n) (count : Piece ℕ) where
  pub counted_back : (x : ℕ × List T) → (followed_by count v).right x → (length x.1, x.1) ≡ x
  unfolding followed_by
  counted_back x right = ap (λ (n : ℕ). (n, x.1)) (long x.0 x.1 right.1)

  -- a list behind its length
  unfoldable pub measured : Piece (List T)
  measured = as_value (λ (p : ℕ × List T). p.1) (λ l. (length l, l)) (followed_by count v) counted_back

  pub measured_full : count.full → ((n : ℕ) → count.right n → (v n).full) → measured.full
  unfolding measured
  measured_full first second = as_full (λ (p : ℕ × List T). p.1) (λ l. (length l, l)) (followed_by count v) counted_back (followed_full count v first second)

module _ {T : Type 0} (d : T) (v : Piece T) (count : Piece ℕ) where
  -- values of one piece behind their count
  unfoldable pub list_piece : Piece (List T)
  list_piece = measured (repeat d v) (repeat_long d v) count

  pub listed_full : count.full → v.full → list_piece.full
  unfolding list_piece
  listed_full first full = measured_full (repeat d v) (repeat_long d v) count first (λ n right. repeat_full d v full n)

module _ {T : Type 0} (d : T) (v : Piece T) where
  -- right values of one piece, and how many they are
  pub repeat_right : (l : List T) → AllByRecursion v.right l → (repeat d v (length l)).right l
  unfolding repeat
  repeat_right [] all = chain_nil d (λ (left : ℕ) (u : Unit {0}). v) (λ (u : Unit {0}) (x : T). u) tt
  repeat_right (x ∷ l) all = chain_cons d (λ (left : ℕ) (u : Unit {0}). v) (λ (u : Unit {0}) (x : T). u) (length l) tt x l all.0 (repeat_right l all.1)

  pub repeat_all : (n : ℕ) (l : List T) → (repeat d v n).right l → AllByRecursion v.right l
  unfolding repeat
  repeat_all n [] right = tt
  repeat_all zero (x ∷ l) right = absurd (let long = chain_long d (λ (left : ℕ) (u : Unit {0}). v) (λ (u : Unit {0}) (x : T). u) zero tt (x ∷ l) right in omega (arith, long))
  repeat_all (suc n) (x ∷ l) right = (
    chain_first d (λ (left : ℕ) (u : Unit {0}). v) (λ (u : Unit {0}) (x : T). u) n tt (x ∷ l) right,
    repeat_all n l (chain_others d (λ (left : ℕ) (u : Unit {0}). v) (λ (u : Unit {0}) (x : T). u) n tt (x ∷ l) right),
  )

  pub repeat_full_some : (n : ℕ) → (0 < n → v.full) → (repeat d v n).full
  unfolding repeat
  repeat_full_some n full = chain_full d (λ (left : ℕ) (u : Unit {0}). v) (λ (u : Unit {0}) (x : T). u) (λ (n : ℕ) (u : Unit {0}). 0 < n → v.full) (λ n s p. p (omega arith)) (λ n s x p right few. p (omega arith)) n tt full

module _ {T : Type 0} (v : ℕ → Piece (List T)) (long : (n : ℕ) (l : List T) → (v n).right l → length l ≡ n) (count : Piece ℕ) where
  pub measured_right : (l : List T) → count.right (length l) → (v (length l)).right l → (measured v long count).right l
  unfolding measured as_value followed_by
  measured_right l first second = ((first, second), refl)

  pub measured_parts : (l : List T) → (measured v long count).right l → count.right (length l) × (v (length l)).right l
  unfolding measured as_value followed_by
  measured_parts l right = right.0

module _ {T : Type 0} (d : T) (v : Piece T) (count : Piece ℕ) where
  pub listed_right : (l : List T) → count.right (length l) → AllByRecursion v.right l → (list_piece d v count).right l
  unfolding list_piece
  listed_right l first all = measured_right (repeat d v) (repeat_long d v) count l first (repeat_right d v l all)

  pub listed_parts : (l : List T) → (list_piece d v count).right l → count.right (length l) × AllByRecursion v.right l
  unfolding list_piece
  listed_parts l right = let parts = measured_parts (repeat d v) (repeat_long d v) count l right in (parts.0, repeat_all d v (length l) l parts.1)

  pub listed_full_some : count.full → ((n : ℕ) → count.right n → 0 < n → v.full) → (list_piece d v count).full
  unfolding list_piece
  listed_full_some first full = measured_full (repeat d v) (repeat_long d v) count first (λ n right. repeat_full_some d v n (full n right))

-- what each piece tells of its value holds of all of a right list
module _ {S T : Type 0} (d : T) (v : ℕ → S → Piece T) (next : S → T → S) (P : T → Type 0) (tells : (n : ℕ) (s : S) (x : T) → (v n s).right x → P x) where
  pub chain_all : (n : ℕ) (s : S) (l : List T) → (chain d v next n s).right l → AllByRecursion P l
  chain_all n s [] right = tt
  chain_all zero s (x ∷ l) right = absurd (let long = chain_long d v next zero s (x ∷ l) right in omega (arith, long))
  chain_all (suc n) s (x ∷ l) right = (tells n s x (chain_first d v next n s (x ∷ l) right), chain_all n (next s x) l (chain_others d v next n s (x ∷ l) right))
