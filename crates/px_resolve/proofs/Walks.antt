-- Checks made one after the other: what the rest of a list says, and the first fault of joined lists.
use Rattle.std.proofs.Common.{refl, ◌≡◌, ◌<◌, ◌+◌, ℕ, suc, List, [], ◌∷◌, ◌++◌, length, get_or, drop, Result, sym, ap, subst, ◌∙◌, add-one}
use Rattle.std.proofs.Math.Seq.{drop-cons}
use Rattle.std.specs.List.{flat_map}
use Rattle.px_resolve.specs.Answers.{AnswersFirst, IsFirstBindFault}
use Rattle.px_resolve.specs.declared.fault.BindFault.{BindFault}
use Rattle.px_resolve.specs.declared.fault.BindFault.TheVariants.{NoIndex, NoColumn, Twice, Mismatch, OutOfRange, NullKey, Passed, Memory}

-- what is left of a list at an element
pub rest_is : {X : Type 0} (xs : List X) (i : ℕ) (x : X) → i < length xs → x ≡ get_or xs i x → drop i xs ≡ x ∷ drop (i + 1) xs
rest_is {X} xs i x l e = drop-cons xs i x l ∙ ap (λ (y : X). y ∷ drop (suc i) xs) (sym e) ∙ ap (λ (n : ℕ). x ∷ drop n xs) (sym (add-one i))

pub rest_at : (ds : List ℕ) (i : ℕ) → i < length ds → drop i ds ≡ get_or ds i 0 ∷ drop (i + 1) ds
rest_at ds i l = drop-cons ds i 0 l ∙ ap (λ (n : ℕ). get_or ds i 0 ∷ drop n ds) (sym (add-one i))

-- the first fault of the front is that of all
pub in_front : (front more : List BindFault) (fault : BindFault) → IsFirstBindFault front fault → IsFirstBindFault (front ++ more) fault
in_front front more Memory is = tt
in_front [] more (NoIndex n) is = absurd cc
in_front (f ∷ fs) more (NoIndex n) is = is
in_front [] more (NoColumn n) is = absurd cc
in_front (f ∷ fs) more (NoColumn n) is = is
in_front [] more (Twice n) is = absurd cc
in_front (f ∷ fs) more (Twice n) is = is
in_front [] more (Mismatch n) is = absurd cc
in_front (f ∷ fs) more (Mismatch n) is = is
in_front [] more (OutOfRange n) is = absurd cc
in_front (f ∷ fs) more (OutOfRange n) is = is
in_front [] more (NullKey n) is = absurd cc
in_front (f ∷ fs) more (NullKey n) is = is
in_front [] more (Passed n) is = absurd cc
in_front (f ∷ fs) more (Passed n) is = is

-- where the front has none, the answer is that of what stands behind
pub behind : {T : Type 0} (front more : List BindFault) (result : Result T BindFault) → front ≡ [] → AnswersFirst more result → AnswersFirst (front ++ more) result
behind front more result none is = subst (λ (l : List BindFault). AnswersFirst (l ++ more) result) (sym none) is

-- a walk goes on where nothing is wrong with an element, and stops where something is
pub goes_on : (all rest front more : List BindFault) → all ≡ rest → rest ≡ front ++ more → front ≡ [] → all ≡ more
goes_on all rest front more left one none = left ∙ one ∙ ap (λ (l : List BindFault). l ++ more) none

pub stops : (all rest front more : List BindFault) (fault : BindFault) → all ≡ rest → rest ≡ front ++ more → IsFirstBindFault front fault → IsFirstBindFault all fault
stops all rest front more fault left one is = subst (λ (l : List BindFault). IsFirstBindFault l fault) (sym (left ∙ one)) (in_front front more fault is)

-- the same where the walk is a `flat_map`
pub flat_goes_on : {X : Type 0} (f : X → List BindFault) (xs : List X) (i : ℕ) (x : X) → flat_map f xs ≡ flat_map f (drop i xs) → i < length xs → x ≡ get_or xs i x → f x ≡ [] → flat_map f xs ≡ flat_map f (drop (i + 1) xs)
flat_goes_on f xs i x left l e none = goes_on (flat_map f xs) (flat_map f (drop i xs)) (f x) (flat_map f (drop (i + 1) xs)) left (ap (flat_map f) (rest_is xs i x l e)) none

pub flat_stops : {X : Type 0} (f : X → List BindFault) (xs : List X) (i : ℕ) (x : X) (fault : BindFault) → flat_map f xs ≡ flat_map f (drop i xs) → i < length xs → x ≡ get_or xs i x → IsFirstBindFault (f x) fault → IsFirstBindFault (flat_map f xs) fault
flat_stops f xs i x fault left l e is = stops (flat_map f xs) (flat_map f (drop i xs)) (f x) (flat_map f (drop (i + 1) xs)) fault left (ap (flat_map f) (rest_is xs i x l e)) is

-- where nothing is wrong in a joined list, nothing is in its parts
pub no_front : (a b : List BindFault) → a ++ b ≡ [] → a ≡ []
no_front [] b e = refl
no_front (f ∷ a) b e = absurd cc

pub no_rest : (a b : List BindFault) → a ++ b ≡ [] → b ≡ []
no_rest [] b e = e
no_rest (f ∷ a) b e = absurd cc
