-- Counts over lists, and keys that are below others.
use Rattle.std.proofs.Common.{ℕ, ◌≡◌, suc, Bool, true, false, ◌||◌, if◌then◌else◌, List, [], ◌∷◌, refl, sym, ◌∙◌, ap, inl, inr}
use Rattle.std.specs.List.{list_any}
use Rattle.std.specs.Cmp.Lexicographic.{slice_cmp}
use Rattle.std.specs.Ordering.{is_eq, is_lt, nat_cmp, ordering_reverse}
use Rattle.std.specs.declared.cmp.Ordering.{Ordering}
use Rattle.std.specs.declared.cmp.Ordering.TheVariants.{Less, Equal, Greater}
use Rattle.std.proofs.lemmas.Cmp.{nat_list_cmp_total}
use Rattle.std.proofs.lemmas.Map.Text.{is_eq-slice_cmp}
use Rattle.std.proofs.lemmas.Slice.Eq.{bytes_eq-Decides}
use Rattle.px_trail.specs.Answers.{IsAmong}
use Rattle.px_calls.specs.Looks.{key_less}
use Rattle.px_verify.specs.Reports.{count, same_key}

pub here : {A : Type 0} (x : A) (xs : List A) → IsAmong x (x ∷ xs)
unfolding IsAmong
here x xs = inl refl

pub there : {A : Type 0} (x y : A) (xs : List A) → IsAmong x xs → IsAmong x (y ∷ xs)
unfolding IsAmong
there x y xs h = inr h

-- 1. Tests that agree

pub any-none : {A : Type 0} (test : A → Bool) (xs : List A) → ((x : A) → IsAmong x xs → test x ≡ false) → list_any test xs ≡ false
any-none test [] h = refl
any-none test (x ∷ xs) h = ap (λ (b : Bool). b || list_any test xs) (h x (here x xs)) ∙ any-none test xs (λ y among. h y (there y x xs among))

pub any-some : {A : Type 0} (test : A → Bool) (x : A) (xs : List A) → IsAmong x xs → test x ≡ true → list_any test xs ≡ true
unfolding IsAmong
any-some test x [] among h = absurd among
any-some test x (y ∷ xs) (inl same) h = ap (λ (b : Bool). b || list_any test xs) (ap test same ∙ h)
any-some test x (y ∷ xs) (inr among) h = by_first (test y) (any-some test x xs among h)
  where
    by_first : (b : Bool) → list_any test xs ≡ true → (b || list_any test xs) ≡ true
    by_first true e = refl
    by_first false e = e

count-cons : {A : Type 0} (test : A → Bool) (x : A) (xs : List A) (b : Bool) → test x ≡ b → count test (x ∷ xs) ≡ (if b then suc (count test xs) else count test xs)
count-cons test x xs true e = rw e refl
count-cons test x xs false e = rw e refl

pub count-yes : {A : Type 0} (test : A → Bool) (x : A) (xs : List A) → test x ≡ true → count test (x ∷ xs) ≡ suc (count test xs)
count-yes test x xs e = count-cons test x xs true e

pub count-no : {A : Type 0} (test : A → Bool) (x : A) (xs : List A) → test x ≡ false → count test (x ∷ xs) ≡ count test xs
count-no test x xs e = count-cons test x xs false e

pub count-same : {A : Type 0} (p q : A → Bool) (xs : List A) → ((x : A) → IsAmong x xs → p x ≡ q x) → count p xs ≡ count q xs
count-same p q [] h = refl
count-same p q (x ∷ xs) h = by_test (count-same p q xs (λ y among. h y (there y x xs among))) (p x) refl
  where
    by_test : count p xs ≡ count q xs → (b : Bool) → p x ≡ b → count p (x ∷ xs) ≡ count q (x ∷ xs)
    by_test more true e = count-yes p x xs e ∙ (ap (λ (n : ℕ). suc n) more ∙ sym (count-yes q x xs (sym (h x (here x xs)) ∙ e)))
    by_test more false e = count-no p x xs e ∙ (more ∙ sym (count-no q x xs (sym (h x (here x xs)) ∙ e)))

pub count-none : {A : Type 0} (test : A → Bool) (xs : List A) → ((x : A) → IsAmong x xs → test x ≡ false) → count test xs ≡ 0
count-none test [] h = refl
count-none test (x ∷ xs) h = count-no test x xs (h x (here x xs)) ∙ count-none test xs (λ y among. h y (there y x xs among))

-- 2. Keys

less_differs : (o : Ordering) → is_lt o ≡ true → is_eq o ≡ false
less_differs Less h = refl
less_differs Equal h = cc
less_differs Greater h = refl

turned_differs : (o : Ordering) → is_lt o ≡ true → is_eq (ordering_reverse o) ≡ false
turned_differs Less h = refl
turned_differs Equal h = cc
turned_differs Greater h = cc

pub less-differs : (a b : List ℕ) → key_less a b ≡ true → same_key a b ≡ false
less-differs a b h = less_differs (slice_cmp nat_cmp a b) h

pub greater-differs : (a b : List ℕ) → key_less b a ≡ true → same_key a b ≡ false
greater-differs a b h = ap is_eq (nat_list_cmp_total.antisymm a b) ∙ turned_differs (slice_cmp nat_cmp b a) h

is_equal : (o : Ordering) → is_eq o ≡ true → o ≡ Equal
is_equal Less h = cc
is_equal Equal h = refl
is_equal Greater h = cc

-- keys that compare alike are below the same keys
pub same-less : (a b c : List ℕ) → slice_cmp nat_cmp a b ≡ Equal → key_less a c ≡ key_less b c
same-less a b c h = sym (ap is_lt (sym (nat_list_cmp_total.congr a b c h)))

pub same-bytes : (a b : List ℕ) → same_key a b ≡ true → a ≡ b
same-bytes a b h = (bytes_eq-Decides a b).0 (sym (is_eq-slice_cmp a b) ∙ h)
