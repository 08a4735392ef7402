-- What is removed, part by part.
use Rattle.std.proofs.Common.{ℕ, zero, suc, Bool, ◌≡◌, ◌≢◌, ◌≤◌, ◌<◌, ◌⊎◌, ⊎_elim, inl, inr, true, false, List, [], ◌∷◌, ◌++◌, length, take, drop, refl, sym, ap, subst, ◌∙◌, arith}
use Rattle.std.proofs.lemmas.List.{length-take}
use Rattle.std.specs.List.{AllByRecursion}
use Rattle.std.specs.List.Sorted.{IsStrictlySortedBy}
use Rattle.std.specs.Ordering.{is_eq}
use Rattle.std.specs.declared.cmp.Ordering.TheVariants.{Less}
use Rattle.px_values.specs.Order.{row_order}
use Rattle.px_values.specs.declared.change.Change.{Change}
use Rattle.px_values.specs.declared.row.Value.{Value}
use Rattle.px_trail.specs.Batches.{has, is_distinct, rows_of}
use Rattle.px_values.proofs.Equal.{row_order-Decides}
use Rattle.px_tables.specs.declared.table.KeyPlace.{KeyPlace}
use Rattle.px_calls.specs.Known.{Known}
use Rattle.px_calls.specs.Requires.{AreFitting, IsChangeOf}
use Rattle.px_removals.specs.Removals.{IsSplit, key_order}
use Rattle.px_removals.proofs.KeyOrder.{other_row}

-- 1. Of a list what holds of each holds of each of its beginning, and of each of the rest

pub all-take : {A : Type 0} (P : A → Type 0) (n : ℕ) (xs : List A) → AllByRecursion P xs → AllByRecursion P (take n xs)
all-take P zero xs h = tt
all-take P (suc n) [] h = tt
all-take P (suc n) (x ∷ xs) h = (h.0, all-take P n xs h.1)

pub all-drop : {A : Type 0} (P : A → Type 0) (n : ℕ) (xs : List A) → AllByRecursion P xs → AllByRecursion P (drop n xs)
all-drop P zero xs h = h
all-drop P (suc n) [] h = tt
all-drop P (suc n) (x ∷ xs) h = all-drop P n xs h.1

-- so many from the front as there are, up to a number

pub front-up-to : {A : Type 0} (n i : ℕ) (xs : List A) → i ≤ n → (i < n → length xs ≤ i) → take i xs ≡ take n xs
front-up-to zero zero xs low end = refl
front-up-to zero (suc i) xs low end = absurd (omega arith)
front-up-to (suc n) zero [] low end = refl
front-up-to (suc n) (suc i) [] low end = refl
front-up-to (suc n) zero (x ∷ xs) low end = absurd (let e = end (omega arith) in omega arith)
front-up-to (suc n) (suc i) (x ∷ xs) low end = ap (λ l. x ∷ l) (front-up-to n i xs (omega arith) (λ h. let e = end (omega arith) in omega arith))

pub rest-up-to : {A : Type 0} (n i : ℕ) (xs : List A) → i ≤ n → (i < n → length xs ≤ i) → drop i xs ≡ drop n xs
rest-up-to zero zero xs low end = refl
rest-up-to zero (suc i) xs low end = absurd (omega arith)
rest-up-to (suc n) zero [] low end = refl
rest-up-to (suc n) (suc i) [] low end = refl
rest-up-to (suc n) zero (x ∷ xs) low end = absurd (let e = end (omega arith) in omega arith)
rest-up-to (suc n) (suc i) (x ∷ xs) low end = rest-up-to n i xs (omega arith) (λ h. let e = end (omega arith) in omega arith)

-- 2. Rows in order

front-rows : (key : List KeyPlace) (r : List Value) (n : ℕ) (cs : List Change) → AllByRecursion (λ y. key_order key r y ≡ Less) (rows_of cs) → AllByRecursion (λ y. key_order key r y ≡ Less) (rows_of (take n cs))
front-rows key r zero cs h = tt
front-rows key r (suc n) [] h = tt
front-rows key r (suc n) (c ∷ cs) h = (h.0, front-rows key r n cs h.1)

pub sorted-front : (key : List KeyPlace) (n : ℕ) (cs : List Change) → IsStrictlySortedBy (key_order key) (rows_of cs) → IsStrictlySortedBy (key_order key) (rows_of (take n cs))
unfolding IsStrictlySortedBy
sorted-front key zero cs h = tt
sorted-front key (suc n) [] h = tt
sorted-front key (suc n) (c ∷ cs) h = (front-rows key c.row n cs h.0, sorted-front key n cs h.1)

pub sorted-rest : (key : List KeyPlace) (n : ℕ) (cs : List Change) → IsStrictlySortedBy (key_order key) (rows_of cs) → IsStrictlySortedBy (key_order key) (rows_of (drop n cs))
unfolding IsStrictlySortedBy
sorted-rest key zero cs h = h
sorted-rest key (suc n) [] h = tt
sorted-rest key (suc n) (c ∷ cs) h = sorted-rest key n cs h.1

same-or-not : (b : Bool) → (b ≡ true) ⊎ (b ≡ false)
same-or-not true = inl refl
same-or-not false = inr refl

-- a row that comes before another isn't found there
not-same : (key : List KeyPlace) (r x : List Value) → key_order key r x ≡ Less → is_eq (row_order x r) ≡ false
not-same key r x h = ⊎_elim (λ (e : is_eq (row_order x r) ≡ true). other_row (is_eq (row_order x r) ≡ false) key r x h (sym ((row_order-Decides x r).0 e))) (λ n. n) (same-or-not (is_eq (row_order x r)))

-- a row that comes before each of them is none of them
none-has : (key : List KeyPlace) (r : List Value) (rows : List (List Value)) → AllByRecursion (λ y. key_order key r y ≡ Less) rows → has rows r ≡ false
unfolding has
none-has key r [] h = refl
none-has key r (x ∷ rows) h = rw (not-same key r x h.0) (none-has key r rows h.1)

pub sorted-distinct : (key : List KeyPlace) (rows : List (List Value)) → IsStrictlySortedBy (key_order key) rows → is_distinct rows ≡ true
unfolding IsStrictlySortedBy is_distinct
sorted-distinct key [] h = refl
sorted-distinct key (x ∷ rows) h = rw (none-has key x rows h.0) (sorted-distinct key rows h.1)

-- 3. The next part

pub some-front : (cs : List Change) → cs ≢ [] → take 1000 cs ≢ []
some-front [] h e = h refl
some-front (c ∷ cs) h e = cc

pub short-front : (cs : List Change) → length (take 1000 cs) ≤ 1000
short-front cs = simp length-take (omega arith)

pub fitting-front : (k : Known) (t : ℕ) (n : ℕ) (cs : List Change) → AreFitting k t cs → AreFitting k t (take n cs)
fitting-front k t n cs h = record { drawn = h.drawn; each = λ x now. all-take (IsChangeOf x) n cs (h.each x now) }

pub fitting-rest : (k : Known) (t : ℕ) (n : ℕ) (cs : List Change) → AreFitting k t cs → AreFitting k t (drop n cs)
fitting-rest k t n cs h = record { drawn = h.drawn; each = λ x now. all-drop (IsChangeOf x) n cs (h.each x now) }

pub split-more : (cs : List Change) (parts : List (List Change)) (left : List Change) → IsSplit cs parts left → left ≢ [] → IsSplit cs (parts ++ take 1000 left ∷ []) (drop 1000 left)
split-more cs [] left h some = (subst (λ (l : List Change). l ≢ []) h some, ap (λ (l : List Change). take 1000 l) h, ap (λ (l : List Change). drop 1000 l) h)
split-more cs (p ∷ ps) left h some = (h.0, h.1, split-more (drop 1000 cs) ps left h.2 some)
