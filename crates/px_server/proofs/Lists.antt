-- One element of a list is changed, and the others are kept.
use Rattle.std.proofs.Common.{◌≡◌, ◌≢◌, ◌+◌, ◌<◌, ◌≤◌, ℕ, zero, suc, List, [], ◌∷◌, Some, length, get_or, map, refl, sym, ap, subst, ◌∙◌, arith}
use Rattle.std.proofs.lemmas.List.Sums.{sum_by-cons, sum_by-set}
use Rattle.std.specs.Prelude.{sum_by}
use Rattle.std.specs.List.{AllByRecursion, slice_get, slice_set}
use Rattle.px_outside.specs.Parts.{AreDistinct, HasNone}
use Rattle.px_standing.specs.Agrees.{AreRisingBy}

pub all_weaker : {A : Type 0} (P Q : A → Type 0) → ((x : A) → P x → Q x) → (xs : List A) → AllByRecursion P xs → AllByRecursion Q xs
all_weaker P Q f [] all = tt
all_weaker P Q f (x ∷ xs) all = (f x all.0, all_weaker P Q f xs all.1)

pub all_at : {A : Type 0} (P : A → Type 0) (xs : List A) (i : ℕ) (x : A) → i < length xs → get_or xs i x ≡ x → AllByRecursion P xs → P x
all_at P [] i x l is all = absurd (omega (arith, l))
all_at P (y ∷ ys) zero x l is all = subst P is all.0
all_at P (y ∷ ys) (suc i) x l is all = all_at P ys i x (omega (arith, l)) is all.1

pub none_at : {A : Type 0} (num : A → ℕ) (xs : List A) (k n : ℕ) (d : A) → HasNone num n xs → k < length xs → num (get_or xs k d) ≢ n
none_at num [] k n d none l = absurd (omega (arith, l))
none_at num (x ∷ xs) zero n d none l = none.0
none_at num (x ∷ xs) (suc k) n d none l = none_at num xs k n d none.1 (omega (arith, l))

all_others : {A : Type 0} (num : A → ℕ) (P Q : A → Type 0) (n : ℕ) (xs : List A) → HasNone num n xs → ((h : A) → num h ≢ n → P h → Q h) → AllByRecursion P xs → AllByRecursion Q xs
all_others num P Q n [] none f all = tt
all_others num P Q n (x ∷ xs) none f all = (f x none.0 all.0, all_others num P Q n xs none.1 f all.1)

-- the element at a place is another one then, and those of other numbers go on as they were
pub all_set : {A : Type 0} (num : A → ℕ) (P Q : A → Type 0) (gs : List A) (i : ℕ) (g g' : A) → i < length gs → get_or gs i g ≡ g → AreDistinct num gs → ((h : A) → num h ≢ num g → P h → Q h) → Q g' → AllByRecursion P gs → AllByRecursion Q (slice_set gs i g')
all_set num P Q [] i g g' l is once others here all = absurd (omega (arith, l))
all_set num P Q (y ∷ ys) zero g g' l is once others here all = (here, all_others num P Q (num g) ys (subst (λ (n : ℕ). HasNone num n ys) (ap num is) once.0) others all.1)
all_set num P Q (y ∷ ys) (suc i) g g' l is once others here all =
    (others y (λ same. none_at num ys i (num y) g once.0 (omega (arith, l)) (ap num is ∙ sym same)) all.0, all_set num P Q ys i g g' (omega (arith, l)) is once.1 others here all.1)

pub map_set : {A B : Type 0} (f : A → B) (gs : List A) (i : ℕ) (g g' : A) → i < length gs → get_or gs i g ≡ g → f g' ≡ f g → map f (slice_set gs i g') ≡ map f gs
map_set f [] i g g' l is same = absurd (omega (arith, l))
map_set f (y ∷ ys) zero g g' l is same = ap (λ z. z ∷ map f ys) (same ∙ ap f (sym is))
map_set f (y ∷ ys) (suc i) g g' l is same = ap (λ zs. f y ∷ zs) (map_set f ys i g g' (omega (arith, l)) is same)

pub got_set : {A : Type 0} (gs : List A) (i : ℕ) (g' : A) → i < length gs → slice_get (slice_set gs i g') i ≡ Some g'
got_set [] i g' l = absurd (omega (arith, l))
got_set (y ∷ ys) zero g' l = refl
got_set (y ∷ ys) (suc i) g' l = got_set ys i g' (omega (arith, l))

-- where one element is greater by one at most, so is the sum
pub sum_set : {A : Type 0} (f : A → ℕ) (gs : List A) (i : ℕ) (g g' : A) → i < length gs → get_or gs i g ≡ g → f g' ≤ f g + 1 → sum_by f (slice_set gs i g') ≤ sum_by f gs + 1
sum_set f [] i g g' l is more = absurd (omega (arith, l))
sum_set f (y ∷ ys) zero g g' l is more = (let e = ap f is in let a = sum_by-cons f g' ys in let b = sum_by-cons f y ys in omega (arith, e, more, a, b))
sum_set f (y ∷ ys) (suc i) g g' l is more = (let r = sum_set f ys i g g' (omega (arith, l)) is more in let a = sum_by-cons f y (slice_set ys i g') in let b = sum_by-cons f y ys in omega (arith, r, a, b))

-- where it is the same, so is the sum
pub sum_kept : {A : Type 0} (f : A → ℕ) (gs : List A) (i : ℕ) (g g' : A) → i < length gs → get_or gs i g ≡ g → f g' ≡ f g → sum_by f (slice_set gs i g') ≡ sum_by f gs
sum_kept f gs i g g' l is same = (let one = sum_by-set f gs i g' g l in let was : f (get_or gs i g) ≡ f g = ap f is in omega (arith, one, was, same))

pub rising_distinct : {A : Type 0} (num : A → ℕ) (xs : List A) → AreRisingBy num xs → AreDistinct num xs
rising_distinct num [] up = tt
rising_distinct num (x ∷ xs) up = (all_weaker (λ y. num x < num y) (λ y. num y ≢ num x) (λ y l same. omega (arith, l, same)) xs up.0, rising_distinct num xs up.1)

none_map : {A B : Type 0} (f : A → B) (num : B → ℕ) (n : ℕ) (xs : List A) → HasNone num n (map f xs) → HasNone (λ x. num (f x)) n xs
none_map f num n [] none = tt
none_map f num n (x ∷ xs) none = (none.0, none_map f num n xs none.1)

pub distinct_map : {A B : Type 0} (f : A → B) (num : B → ℕ) (xs : List A) → AreDistinct num (map f xs) → AreDistinct (λ x. num (f x)) xs
distinct_map f num [] once = tt
distinct_map f num (x ∷ xs) once = (none_map f num (num (f x)) xs once.0, distinct_map f num xs once.1)

pub all_both : {A : Type 0} (P Q : A → Type 0) (xs : List A) → AllByRecursion P xs → AllByRecursion Q xs → AllByRecursion (λ x. P x × Q x) xs
all_both P Q [] ps qs = tt
all_both P Q (x ∷ xs) ps qs = ((ps.0, qs.0), all_both P Q xs ps.1 qs.1)
