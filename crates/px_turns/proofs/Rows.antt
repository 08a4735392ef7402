-- Rows that are added and dropped one after another.
use Rattle.std.proofs.Common.{◌≡◌, ℕ, zero, suc, ◌-◌, ◌<◌, ◌≤◌, Bool, true, false, List, [], ◌∷◌, ◌++◌, length, get_or, take, drop, refl, sym, ◌∙◌, ap, subst, arith, inl, inr, length-append}
use Rattle.std.specs.Prelude.{nat_eq, if◌then◌else◌, slice_index}
use Rattle.std.proofs.Math.Seq.{take-append_seam, take-length}
use Rattle.std.specs.Cmp.Lexicographic.{pointwise, bytes_decides}
use Rattle.std.proofs.lemmas.Bool.{cases_Bool, cases_eq, ne_eqb, eq-eqb, cond-true, cond-false}
use Rattle.px_turns.specs.Turns.{IsKept, IsMarkedUpTo, NeverFalls, at_stamp, first_dropped, last_dropped, rows_added, rows_dropped, stamp_added}

-- 1. The first row, and the others

pub added_none : (keys : List (List ℕ)) (s : ℕ) (f : List ℕ → List ℕ) → length keys < 1 → rows_added keys s f ≡ f
unfolding rows_added
added_none [] s f l = refl
added_none (x ∷ keys) s f l = absurd (omega arith)

pub added_cons : (keys : List (List ℕ)) (s : ℕ) (f : List ℕ → List ℕ) (d : List ℕ) → 1 ≤ length keys → rows_added keys s f ≡ rows_added (drop 1 keys) s (stamp_added (get_or keys 0 d) s f)
unfolding rows_added
added_cons [] s f d l = absurd (omega arith)
added_cons (x ∷ keys) s f d l = refl

pub dropped_none : (keys : List (List ℕ)) (f : List ℕ → List ℕ) → length keys < 1 → rows_dropped keys f ≡ f
unfolding rows_dropped
dropped_none [] f l = refl
dropped_none (x ∷ keys) f l = absurd (omega arith)

pub dropped_cons : (keys : List (List ℕ)) (f : List ℕ → List ℕ) (d : List ℕ) → 1 ≤ length keys → rows_dropped keys f ≡ rows_dropped (drop 1 keys) (first_dropped (get_or keys 0 d) f)
unfolding rows_dropped
dropped_cons [] f d l = absurd (omega arith)
dropped_cons (x ∷ keys) f d l = refl

take_all : {A : Type 0} (xs : List A) (n : ℕ) → n ≡ length xs → take n xs ≡ xs
take_all xs n e = ap (λ (m : ℕ). take m xs) e ∙ take-length xs

-- the others, as a slice has them
pub rest_is : (keys : List (List ℕ)) → take (length keys - 1) (drop 1 keys) ≡ drop 1 keys
rest_is [] = refl
rest_is (x ∷ keys) = take_all keys (length (x ∷ keys) - 1) (omega arith)

-- 2. A row that is added and taken back

same_bytes : (k : List ℕ) → pointwise nat_eq k k ≡ true
same_bytes k = (bytes_decides k k).1 refl

front : (xs : List ℕ) (s : ℕ) → take (length (xs ++ s ∷ []) - 1) (xs ++ s ∷ []) ≡ xs
front xs s = ap (λ (n : ℕ). take n (xs ++ s ∷ [])) (let e = length-append xs (s ∷ []) in let q : length (xs ++ s ∷ []) - 1 ≡ length xs = omega arith in q) ∙ take-append_seam xs (s ∷ [])

pub undone : (key : List ℕ) (s : ℕ) (f : List ℕ → List ℕ) (k : List ℕ) → last_dropped key (stamp_added key s f) k ≡ f k
undone key s f k =
    let g = stamp_added key s f in
    let here : g key ≡ f key ++ s ∷ [] = cond-true (pointwise nat_eq key key) (f key ++ s ∷ []) (f key) (same_bytes key) in
    elim (cases_Bool (pointwise nat_eq key k)) [
      | inl y ↦
          cond-true (pointwise nat_eq key k) (take (length (g key) - 1) (g key)) (g k) y
          ∙ (ap (λ (l : List ℕ). take (length l - 1) l) here ∙ (front (f key) s ∙ ap f ((bytes_decides key k).0 y)))
      | inr n ↦ cond-false (pointwise nat_eq key k) (take (length (g key) - 1) (g key)) (g k) n ∙ cond-false (pointwise nat_eq key k) (f key ++ s ∷ []) (f k) n
    ]

-- 3. The stamps rise

abbrev IsUnder : ℕ → List ℕ → Type 0
IsUnder n xs = (i : ℕ) → i < length xs → slice_index xs i ≤ n

at_push : (xs : List ℕ) (s i : ℕ) → i < length xs → slice_index (xs ++ s ∷ []) i ≡ slice_index xs i
at_push [] s i l = absurd (omega arith)
at_push (x ∷ xs) s zero l = refl
at_push (x ∷ xs) s (suc i) l = at_push xs s i (omega arith)

at_end : (xs : List ℕ) (s : ℕ) → slice_index (xs ++ s ∷ []) (length xs) ≡ s
at_end [] s = refl
at_end (x ∷ xs) s = at_end xs s

under_push : (n s : ℕ) (xs : List ℕ) → n ≤ s → IsUnder n xs → IsUnder s (xs ++ s ∷ [])
under_push n s xs le u i l = elim (cases_eq i (length xs)) [
  | inl e ↦ (let q = ap (slice_index (xs ++ s ∷ [])) e in let r = at_end xs s in omega arith)
  | inr e ↦
      (let z = length-append xs (s ∷ []) in
      let m : i < length xs = omega arith in
      let q = at_push xs s i m in let r = u i m in omega arith)
]

rises_push : (n s : ℕ) (xs : List ℕ) → n ≤ s → IsUnder n xs → NeverFalls xs → NeverFalls (xs ++ s ∷ [])
rises_push n s xs le u a i j l m = elim (cases_eq j (length xs)) [
  | inl e ↦
      (let q = ap (slice_index (xs ++ s ∷ [])) e in let r = at_end xs s in
      let o : i < length xs = omega arith in
      let p = at_push xs s i o in let v = u i o in omega arith)
  | inr e ↦
      (let z = length-append xs (s ∷ []) in
      let o : j < length xs = omega arith in
      let o' : i < length xs = omega arith in
      let p = at_push xs s i o' in let q = at_push xs s j o in let v = a i j l o in omega arith)
]

under_more : (n s : ℕ) (xs : List ℕ) → n ≤ s → IsUnder n xs → IsUnder s xs
under_more n s xs le u i l = (let v = u i l in omega arith)

under_drop : (n : ℕ) (xs : List ℕ) → IsUnder n xs → IsUnder n (drop 1 xs)
under_drop n [] u i l = absurd (omega arith)
under_drop n (x ∷ xs) u i l = u (suc i) (omega arith)

rises_drop : (xs : List ℕ) → NeverFalls xs → NeverFalls (drop 1 xs)
rises_drop [] a i j l m = absurd (omega arith)
rises_drop (x ∷ xs) a i j l m = a (suc i) (suc j) (omega arith) (omega arith)

-- the fact of one row
abbrev Row : ℕ → List ℕ → Type 0
Row n xs = NeverFalls xs × IsUnder n xs

if_row : (c : Bool) (n : ℕ) (xs ys : List ℕ) → Row n xs → Row n ys → Row n (if c then xs else ys)
if_row true n xs ys a b = a
if_row false n xs ys a b = b

pub kept_more : (n s : ℕ) (f : List ℕ → List ℕ) → n ≤ s → IsKept n f → IsKept s f
kept_more n s f le k r = ((k r).0, under_more n s (f r) le (k r).1)

added_kept : (s : ℕ) (key : List ℕ) (f : List ℕ → List ℕ) → IsKept s f → IsKept s (stamp_added key s f)
added_kept s key f k r = if_row (pointwise nat_eq key r) s (f key ++ s ∷ []) (f r) (rises_push s s (f key) (omega arith) (k key).1 (k key).0, under_push s s (f key) (omega arith) (k key).1) (k r)

pub rows_kept : (s : ℕ) (keys : List (List ℕ)) (f : List ℕ → List ℕ) → IsKept s f → IsKept s (rows_added keys s f)
unfolding rows_added
rows_kept s [] f k = k
rows_kept s (x ∷ keys) f k = rows_kept s keys (stamp_added x s f) (added_kept s x f k)

first_kept : (n : ℕ) (key : List ℕ) (f : List ℕ → List ℕ) → IsKept n f → IsKept n (first_dropped key f)
first_kept n key f k r = if_row (pointwise nat_eq key r) n (drop 1 (f key)) (f r) (rises_drop (f key) (k key).0, under_drop n (f key) (k key).1) (k r)

pub dropped_kept : (n : ℕ) (keys : List (List ℕ)) (f : List ℕ → List ℕ) → IsKept n f → IsKept n (rows_dropped keys f)
unfolding rows_dropped
dropped_kept n [] f k = k
dropped_kept n (x ∷ keys) f k = dropped_kept n keys (first_dropped x f) (first_kept n x f k)

pub none_kept : (n : ℕ) (f : List ℕ → List ℕ) → ((k : List ℕ) → f k ≡ []) → IsKept n f
none_kept n f none r = subst (Row n) (sym (none r)) ((λ i j l m. absurd (omega arith)), λ i l. absurd (omega arith))

pub same_kept : (n : ℕ) (f g : List ℕ → List ℕ) → ((k : List ℕ) → g k ≡ f k) → IsKept n f → IsKept n g
same_kept n f g same k r = subst (Row n) (sym (same r)) (k r)

-- 4. Marks of stamps

pub up_more : (n s : ℕ) (f : ℕ → Bool) → n ≤ s → IsMarkedUpTo n f → IsMarkedUpTo s f
up_more n s f le u v l = u v (omega arith)

pub up_added : (n s : ℕ) (f g : ℕ → Bool) → n < s → IsMarkedUpTo n f → ((u : ℕ) → g u ≡ at_stamp s true f u) → IsMarkedUpTo s g
up_added n s f g l u same v m = same v ∙ (cond-false (nat_eq s v) true (f v) (ne_eqb s v (λ e. absurd (omega arith))) ∙ u v (omega arith))

pub up_back : (n s : ℕ) (f g h : ℕ → Bool) → n < s → IsMarkedUpTo n f → ((u : ℕ) → g u ≡ at_stamp s true f u) → ((u : ℕ) → h u ≡ at_stamp s false g u) → IsMarkedUpTo n h
up_back n s f g h l u same back v m = back v ∙ elim (cases_eq s v) [
  | inl e ↦ cond-true (nat_eq s v) false (g v) (eq-eqb s v e)
  | inr e ↦ cond-false (nat_eq s v) false (g v) (ne_eqb s v e) ∙ (same v ∙ (cond-false (nat_eq s v) true (f v) (ne_eqb s v e) ∙ u v m))
]
