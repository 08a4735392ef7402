-- Lists in parts.
use Rattle.std.proofs.Common.{◌≡◌, ℕ, zero, suc, ◌<◌, ◌≤◌, List, [], ◌∷◌, ◌++◌, length, take, drop, get_or, refl, ap, subst, inl, inr, arith}
use Rattle.std.specs.Prelude.{◌↔◌}
use Rattle.px_cells.specs.CellData.{CellData}
use Rattle.px_cells.specs.Among.{Has}
use Rattle.px_cells.specs.Order.{Below, IsAscending}
use Rattle.px_cells.proofs.Among.{all_has, has_append, has_left, has_right}

pub take_front : (xs ys : List CellData) (n : ℕ) → length xs ≡ n → take n (xs ++ ys) ≡ xs
take_front [] ys zero e = refl
take_front [] ys (suc n) e = cc
take_front (x ∷ xs) ys zero e = cc
take_front (x ∷ xs) ys (suc n) e = ap (λ (l : List CellData). x ∷ l) (take_front xs ys n (omega (arith, e)))

pub drop_front : (xs ys : List CellData) (n : ℕ) → length xs ≡ n → drop n (xs ++ ys) ≡ ys
drop_front [] ys zero e = refl
drop_front [] ys (suc n) e = cc
drop_front (x ∷ xs) ys zero e = cc
drop_front (x ∷ xs) ys (suc n) e = drop_front xs ys n (omega (arith, e))

pub get_front : (xs ys : List CellData) (n : ℕ) (d : CellData) → length xs ≡ n → get_or (xs ++ ys) n d ≡ get_or ys 0 d
get_front [] ys zero d e = refl
get_front [] ys (suc n) d e = cc
get_front (x ∷ xs) ys zero d e = cc
get_front (x ∷ xs) ys (suc n) d e = get_front xs ys n d (omega (arith, e))

pub take_within : (xs ys : List CellData) (n : ℕ) → n ≤ length xs → take n (xs ++ ys) ≡ take n xs
take_within xs ys zero l = refl
take_within [] ys (suc n) l = absurd (omega (arith, l))
take_within (x ∷ xs) ys (suc n) l = ap (λ (l : List CellData). x ∷ l) (take_within xs ys n (omega (arith, l)))

-- a list that isn't empty has a last cell
pub record Ended (xs : List CellData) : Type 0 where
  pub front : List CellData
  pub last : CellData
  pub is : xs ≡ front ++ last ∷ []

pub ended : (xs : List CellData) → 0 < length xs → Ended xs
ended [] l = absurd (omega (arith, l))
ended (x ∷ []) l = record { front = []; last = x; is = refl }
ended (x ∷ (y ∷ ys)) l = (let e = ended (y ∷ ys) (omega arith) in record { front = x ∷ e.front; last = e.last; is = ap (λ (l : List CellData). x ∷ l) e.is })

-- the first part of a sorted list is below the rest
pub across : (xs ys : List CellData) (m n : CellData) → IsAscending (xs ++ ys) → Has xs m → Has ys n → Below m n
across [] ys m n a h g = absurd h
across (x ∷ xs) ys m n a (inl e) g = subst (λ (c : CellData). Below c n) e (all_has (Below x) (xs ++ ys) n a.0 (has_right xs ys n g))
across (x ∷ xs) ys m n a (inr h) g = across xs ys m n a.1 h g

-- the parts of a list may change places
pub has_turned : (f1 f2 back merged : List CellData) (w d : CellData) → Has (f1 ++ (back ++ (w ∷ (f2 ++ merged)))) d ↔ Has ((f1 ++ f2) ++ ((back ++ w ∷ []) ++ merged)) d
has_turned f1 f2 back merged w d = (
  λ h. elim (has_append f1 (back ++ (w ∷ (f2 ++ merged))) d h) [
    | inl a ↦ has_left (f1 ++ f2) ((back ++ w ∷ []) ++ merged) d (has_left f1 f2 d a)
    | inr b ↦ elim (has_append back (w ∷ (f2 ++ merged)) d b) [
      | inl c ↦ has_right (f1 ++ f2) ((back ++ w ∷ []) ++ merged) d (has_left (back ++ w ∷ []) merged d (has_left back (w ∷ []) d c))
      | inr (inl e) ↦ has_right (f1 ++ f2) ((back ++ w ∷ []) ++ merged) d (has_left (back ++ w ∷ []) merged d (has_right back (w ∷ []) d (inl e)))
      | inr (inr g) ↦ elim (has_append f2 merged d g) [
        | inl i ↦ has_left (f1 ++ f2) ((back ++ w ∷ []) ++ merged) d (has_right f1 f2 d i)
        | inr j ↦ has_right (f1 ++ f2) ((back ++ w ∷ []) ++ merged) d (has_right (back ++ w ∷ []) merged d j)
      ]
    ]
  ],
  λ h. elim (has_append (f1 ++ f2) ((back ++ w ∷ []) ++ merged) d h) [
    | inl a ↦ elim (has_append f1 f2 d a) [
      | inl b ↦ has_left f1 (back ++ (w ∷ (f2 ++ merged))) d b
      | inr c ↦ has_right f1 (back ++ (w ∷ (f2 ++ merged))) d (has_right back (w ∷ (f2 ++ merged)) d (inr (has_left f2 merged d c)))
    ]
    | inr b ↦ elim (has_append (back ++ w ∷ []) merged d b) [
      | inl c ↦ elim (has_append back (w ∷ []) d c) [
        | inl e ↦ has_right f1 (back ++ (w ∷ (f2 ++ merged))) d (has_left back (w ∷ (f2 ++ merged)) d e)
        | inr (inl e) ↦ has_right f1 (back ++ (w ∷ (f2 ++ merged))) d (has_right back (w ∷ (f2 ++ merged)) d (inl e))
        | inr (inr e) ↦ absurd e
      ]
      | inr g ↦ has_right f1 (back ++ (w ∷ (f2 ++ merged))) d (has_right back (w ∷ (f2 ++ merged)) d (inr (has_right f2 merged d g)))
    ]
  ],
)

pub drop_within : (xs ys : List CellData) (n : ℕ) → n ≤ length xs → drop n (xs ++ ys) ≡ drop n xs ++ ys
drop_within xs ys zero l = refl
drop_within [] ys (suc n) l = absurd (omega (arith, l))
drop_within (x ∷ xs) ys (suc n) l = drop_within xs ys n (omega (arith, l))

pub take_whole : (xs : List CellData) (n : ℕ) → length xs ≤ n → take n xs ≡ xs
take_whole [] zero l = refl
take_whole [] (suc n) l = refl
take_whole (x ∷ xs) zero l = absurd (omega (arith, l))
take_whole (x ∷ xs) (suc n) l = ap (λ (l : List CellData). x ∷ l) (take_whole xs n (omega (arith, l)))

pub drop_whole : (xs : List CellData) (n : ℕ) → length xs ≤ n → drop n xs ≡ []
drop_whole [] zero l = refl
drop_whole [] (suc n) l = refl
drop_whole (x ∷ xs) zero l = absurd (omega (arith, l))
drop_whole (x ∷ xs) (suc n) l = drop_whole xs n (omega (arith, l))
