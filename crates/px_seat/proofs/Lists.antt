-- Entries of one seat and of others.
use Rattle.std.proofs.Common.{ℕ, ◌≡◌, ◌==◌, if◌then◌else◌, true, false, List, [], ◌∷◌, ◌++◌, refl, sym, ◌∙◌, ap}
use Rattle.px_trail.specs.declared.entry.Entry.{Entry}
use Rattle.px_trail.specs.Trail.{acts_by}
use Rattle.px_turn.specs.Lists.{own, GrownByOthers}

abbrev pub seat_of : Entry → ℕ
seat_of e = e.seat

-- the seat's own entries are its acts
own-acts : (n : ℕ) (xs : List Entry) → own seat_of n xs ≡ [] → acts_by n xs ≡ []
unfolding acts_by
own-acts n [] h = refl
own-acts n (e ∷ xs) h =
    elim (e.seat == n) as (λ v. (if v then e ∷ own seat_of n xs else own seat_of n xs) ≡ [] → (if v then e.act ∷ acts_by n xs else acts_by n xs) ≡ []) [
      | true ↦ λ h. cc
      | false ↦ λ h. own-acts n xs h
    ] h

own-append : (n : ℕ) (xs ys : List Entry) → own seat_of n (xs ++ ys) ≡ own seat_of n xs ++ own seat_of n ys
own-append n [] ys = refl
own-append n (x ∷ xs) ys =
    elim (x.seat == n) as (λ v. (if v then x ∷ own seat_of n (xs ++ ys) else own seat_of n (xs ++ ys)) ≡ (if v then x ∷ own seat_of n xs else own seat_of n xs) ++ own seat_of n ys) [
      | true ↦ ap (λ (l : List Entry). x ∷ l) (own-append n xs ys)
      | false ↦ own-append n xs ys
    ]

abbrev tail : List Entry → List Entry
tail [] = []
tail (x ∷ xs) = xs

no_more : (xs ys : List Entry) → xs ++ ys ≡ xs → ys ≡ []
no_more [] ys h = h
no_more (x ∷ xs) ys h = no_more xs ys (ap tail h)

-- the entries of others alone came
pub others-apart : (n : ℕ) (xs ys : List Entry) (h : GrownByOthers seat_of n xs ys) → acts_by n h.0.0 ≡ []
others-apart n xs ys h =
    own-acts n h.0.0 (no_more (own seat_of n xs) (own seat_of n h.0.0) (sym (own-append n xs h.0.0) ∙ (ap (own seat_of n) (sym h.0.1) ∙ h.1)))
