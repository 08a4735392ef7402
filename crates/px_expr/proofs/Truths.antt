-- OR and AND of lists of truths.
use Rattle.std.proofs.Math.Seq.{take-suc}
use Rattle.std.proofs.lemmas.List.{map-append}
use Rattle.std.proofs.lemmas.List.Elements.{recursion_from_All}
use Rattle.std.proofs.Common.{add-one, arith, get_or, length, take, ◌<◌, ◌+◌, ◌≡◌, ◌≢◌, ℕ, zero, suc, List, [], ◌∷◌, ◌++◌, map, refl, sym, ap, ◌∙◌}
use Rattle.std.specs.Prelude.{All, Any}
use Rattle.std.specs.List.{AllByRecursion}
use Rattle.px_expr.specs.Truth.{some_of, each_of, ◌and◌, ◌or◌}
use Rattle.px_expr.specs.declared.bound.Truth.{Truth}
use Rattle.px_expr.specs.declared.bound.Truth.TheVariants.{False, Unknown, True}

pub and_true : (t : Truth) → t and True ≡ t
and_true False = refl
and_true Unknown = refl
and_true True = refl

or_false : (t : Truth) → t or False ≡ t
or_false False = refl
or_false Unknown = refl
or_false True = refl

or_assoc : (a b c : Truth) → a or (b or c) ≡ (a or b) or c
or_assoc True b c = refl
or_assoc False b c = refl
or_assoc Unknown True c = refl
or_assoc Unknown False c = refl
or_assoc Unknown Unknown True = refl
or_assoc Unknown Unknown Unknown = refl
or_assoc Unknown Unknown False = refl

and_assoc : (a b c : Truth) → a and (b and c) ≡ (a and b) and c
and_assoc False b c = refl
and_assoc True b c = refl
and_assoc Unknown False c = refl
and_assoc Unknown True c = refl
and_assoc Unknown Unknown False = refl
and_assoc Unknown Unknown Unknown = refl
and_assoc Unknown Unknown True = refl

pub some_push : (ts : List Truth) (t : Truth) → some_of (ts ++ t ∷ []) ≡ some_of ts or t
some_push [] t = or_false t
some_push (x ∷ ts) t = ap (λ (r : Truth). x or r) (some_push ts t) ∙ or_assoc x (some_of ts) t

pub each_push : (ts : List Truth) (t : Truth) → each_of (ts ++ t ∷ []) ≡ each_of ts and t
each_push [] t = and_true t
each_push (x ∷ ts) t = ap (λ (r : Truth). x and r) (each_push ts t) ∙ and_assoc x (each_of ts) t

or_true : (t : Truth) → t or True ≡ True
or_true True = refl
or_true Unknown = refl
or_true False = refl

and_false : (t : Truth) → t and False ≡ False
and_false False = refl
and_false Unknown = refl
and_false True = refl

-- one element more
one_more : {X : Type 0} (f : X → Truth) (xs : List X) (k : ℕ) (x : X) → k < length xs → x ≡ get_or xs k x → map f (take (k + 1) xs) ≡ map f (take k xs) ++ f x ∷ []
one_more {X} f xs k x l e =
    ap (λ (n : ℕ). map f (take n xs)) (add-one k) ∙ ap (λ (ys : List X). map f ys) (take-suc xs k x l) ∙ map-append f (take k xs) (get_or xs k x ∷ [])
    ∙ ap (λ (y : X). map f (take k xs) ++ f y ∷ []) (sym e)

pub some_more : {X : Type 0} (f : X → Truth) (xs : List X) (k : ℕ) (x : X) (t u : Truth) → k < length xs → x ≡ get_or xs k x → u ≡ f x → t ≡ some_of (map f (take k xs)) → t or u ≡ some_of (map f (take (k + 1) xs))
some_more f xs k x t u l e is before =
    ap (λ (y : Truth). t or y) is ∙ ap (λ (y : Truth). y or f x) before ∙ sym (some_push (map f (take k xs)) (f x)) ∙ ap some_of (sym (one_more f xs k x l e))

pub each_more : {X : Type 0} (f : X → Truth) (xs : List X) (k : ℕ) (x : X) (t u : Truth) → k < length xs → x ≡ get_or xs k x → u ≡ f x → t ≡ each_of (map f (take k xs)) → t and u ≡ each_of (map f (take (k + 1) xs))
each_more f xs k x t u l e is before =
    ap (λ (y : Truth). t and y) is ∙ ap (λ (y : Truth). y and f x) before ∙ sym (each_push (map f (take k xs)) (f x)) ∙ ap each_of (sym (one_more f xs k x l e))

-- one that is true decides an OR, one that is false an AND
pub some_true : {X : Type 0} (f : X → Truth) (xs : List X) (k : ℕ) (x : X) → k < length xs → x ≡ get_or xs k x → True ≡ f x → True ≡ some_of (map f xs)
some_true f [] k x l e is = absurd (omega arith)
some_true f (y ∷ ys) zero x l e is = ap (λ (t : Truth). t or some_of (map f ys)) (is ∙ ap f e)
some_true f (y ∷ ys) (suc k) x l e is = sym (or_true (f y)) ∙ ap (λ (t : Truth). f y or t) (some_true f ys k x (omega arith) e is)

pub each_false : {X : Type 0} (f : X → Truth) (xs : List X) (k : ℕ) (x : X) → k < length xs → x ≡ get_or xs k x → False ≡ f x → False ≡ each_of (map f xs)
each_false f [] k x l e is = absurd (omega arith)
each_false f (y ∷ ys) zero x l e is = ap (λ (t : Truth). t and each_of (map f ys)) (is ∙ ap f e)
each_false f (y ∷ ys) (suc k) x l e is = sym (and_false (f y)) ∙ ap (λ (t : Truth). f y and t) (each_false f ys k x (omega arith) e is)

-- ---- true ones

or_parts : (t u : Truth) → t or u ≡ True → t ≢ True → u ≡ True
or_parts True u is not = absurd (not refl)
or_parts Unknown True is not = refl
or_parts Unknown Unknown is not = absurd cc
or_parts Unknown False is not = absurd cc
or_parts False u is not = is

and_parts : (t u : Truth) → t and u ≡ True → (t ≡ True) × (u ≡ True)
and_parts True u is = (refl, is)
and_parts Unknown True is = absurd cc
and_parts Unknown Unknown is = absurd cc
and_parts Unknown False is = absurd cc
and_parts False u is = absurd cc

one_later : {X : Type 0} (P : X → Type 0) (y : X) (ys : List X) → Any P ys → Any P (y ∷ ys)
one_later P y ys (k, x, l, at, is) = (suc k, x, omega arith, at, is)

pub some_is : {X : Type 0} (f : X → Truth) (xs : List X) → some_of (map f xs) ≡ True → Any (λ x. f x ≡ True) xs
some_is f [] is = absurd cc
some_is {X} f (y ∷ ys) is =
    elim (f y) as (λ t. f y ≡ t → Any (λ x. f x ≡ True) (y ∷ ys)) [
      | True ↦ λ e. (zero, y, omega arith, refl, e)
      | Unknown ↦ λ e. one_later (λ x. f x ≡ True) y ys (some_is f ys (or_parts Unknown _ (ap (λ (t : Truth). t or some_of (map f ys)) (sym e) ∙ is) (λ n. cc)))
      | False ↦ λ e. one_later (λ x. f x ≡ True) y ys (some_is f ys (or_parts False _ (ap (λ (t : Truth). t or some_of (map f ys)) (sym e) ∙ is) (λ n. cc)))
    ] refl

pub is_some_of : {X : Type 0} (f : X → Truth) (xs : List X) → Any (λ x. f x ≡ True) xs → some_of (map f xs) ≡ True
is_some_of f xs (k, x, l, at, is) = sym (some_true f xs k x l (sym at) (sym is))

pub each_is : {X : Type 0} (f : X → Truth) (xs : List X) → each_of (map f xs) ≡ True → (k : ℕ) (d : X) → k < length xs → f (get_or xs k d) ≡ True
each_is f [] is k d l = absurd (omega arith)
each_is f (y ∷ ys) is zero d l = (and_parts (f y) (each_of (map f ys)) is).0
each_is f (y ∷ ys) is (suc k) d l = each_is f ys (and_parts (f y) (each_of (map f ys)) is).1 k d (omega arith)

each_from : {X : Type 0} (f : X → Truth) (xs : List X) → AllByRecursion (λ x. f x ≡ True) xs → each_of (map f xs) ≡ True
each_from f [] are = refl
each_from f (y ∷ ys) are = ap (λ (t : Truth). t and each_of (map f ys)) are.0 ∙ each_from f ys are.1

pub is_each_of : {X : Type 0} (f : X → Truth) (xs : List X) → All (λ x. f x ≡ True) xs → each_of (map f xs) ≡ True
is_each_of f xs are = each_from f xs (recursion_from_All (λ x. f x ≡ True) xs are)
