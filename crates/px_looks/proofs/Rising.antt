-- Lists of what is found, in order.
use Rattle.std.proofs.Common.{◌≡◌, ℕ, ◌⊎◌, true, Option, Some, None, List, [], ◌∷◌, ◌++◌, refl, ap, sym, ◌∙◌, inl, inr}
use Rattle.std.specs.Ordering.{is_lt}
use Rattle.std.specs.declared.cmp.Ordering.TheVariants.{Less}
use Rattle.px_cells.specs.Order.{key_cmp}
use Rattle.px_trail.specs.Answers.{IsAmong}
use Rattle.px_calls.specs.Looks.{IsRisingFrom, is_past, key_found}
use Rattle.px_calls.specs.declared.query.FoundKey.{FoundKey}

pub among_none : {A : Type 0} (x : A) → IsAmong x [] → ⊥
unfolding IsAmong
among_none x h = h

pub among_here : {A : Type 0} (x : A) (xs : List A) → IsAmong x (xs ++ x ∷ [])
unfolding IsAmong
among_here x [] = inl refl
among_here x (y ∷ xs) = inr (among_here x xs)

pub among_front : {A : Type 0} (x : A) (xs ys : List A) → IsAmong x xs → IsAmong x (xs ++ ys)
unfolding IsAmong
among_front x [] ys h = absurd h
among_front x (y ∷ xs) ys (inl e) = inl e
among_front x (y ∷ xs) ys (inr h) = inr (among_front x xs ys h)

pub among_back : {A : Type 0} (x : A) (xs ys : List A) → IsAmong x ys → IsAmong x (xs ++ ys)
unfolding IsAmong
among_back x [] ys h = h
among_back x (y ∷ xs) ys h = inr (among_back x xs ys h)

pub among_parts : {A : Type 0} (x : A) (xs ys : List A) → IsAmong x (xs ++ ys) → IsAmong x xs ⊎ IsAmong x ys
unfolding IsAmong
among_parts x [] ys h = inr h
among_parts x (y ∷ xs) ys (inl e) = inl (inl e)
among_parts x (y ∷ xs) ys (inr h) = elim (among_parts x xs ys h) [
  | inl a ↦ inl (inr a)
  | inr a ↦ inr a
]

pub among_one : {A : Type 0} (x y : A) → IsAmong x (y ∷ []) → y ≡ x
unfolding IsAmong
among_one x y (inl e) = e
among_one x y (inr h) = absurd h

pub past_key : (a b : List ℕ) → key_cmp a b ≡ Less → is_past (Some a) b ≡ true
past_key a b h = ap is_lt h

pub rises_none : (low : Option (List ℕ)) → IsRisingFrom low []
unfolding IsRisingFrom
rises_none low = tt

-- a list that rises, from a key below all of it
pub rises_after : (low : Option (List ℕ)) (fs : List FoundKey) → IsRisingFrom None fs → ((f : FoundKey) → IsAmong f fs → is_past low (key_found f) ≡ true) → IsRisingFrom low fs
unfolding IsRisingFrom IsAmong
rises_after low [] h past = tt
rises_after low (f ∷ fs) h past = (past f (inl refl), h.1)

-- one list behind another
pub rises_join : (low : Option (List ℕ)) (xs ys : List FoundKey) → IsRisingFrom low xs → IsRisingFrom None ys → ((y : FoundKey) → IsAmong y ys → is_past low (key_found y) ≡ true)
    → ((x y : FoundKey) → IsAmong x xs → IsAmong y ys → key_cmp (key_found x) (key_found y) ≡ Less) → IsRisingFrom low (xs ++ ys)
unfolding IsRisingFrom IsAmong
rises_join low [] ys hx hy past apart = rises_after low ys hy past
rises_join low (x ∷ xs) ys hx hy past apart = (hx.0, rises_join (Some (key_found x)) xs ys hx.1 hy (λ y a. past_key (key_found x) (key_found y) (apart x y (inl refl) a)) (λ z y a b. apart z y (inr a) b))

-- one more
pub rises_more : (fs : List FoundKey) (f : FoundKey) → IsRisingFrom None fs → ((x : FoundKey) → IsAmong x fs → key_cmp (key_found x) (key_found f) ≡ Less) → IsRisingFrom None (fs ++ f ∷ [])
unfolding IsRisingFrom
rises_more fs f h apart = rises_join None fs (f ∷ []) h (refl, tt) (λ y a. refl) (λ x y a b. ap (λ (z : FoundKey). key_cmp (key_found x) (key_found z)) (sym (among_one y f b)) ∙ apart x a)
