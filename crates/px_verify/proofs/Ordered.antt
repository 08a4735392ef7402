-- Entries with different keys, sorted: their keys rise, and a report on them stays the same.
use Rattle.std.proofs.Common.{ℕ, zero, suc, ◌≡◌, ◌≤◌, ◌+◌, Bool, true, false, not, ◌&&◌, ◌||◌, List, [], ◌∷◌, refl, sym, ◌∙◌, ap, subst, inl, inr, arith}
use Rattle.std.specs.Prelude.{slice_index_or}
use Rattle.std.specs.List.{list_any, sum_by}
use Rattle.std.specs.List.Sorted.{IsPermutation, IsSortedBy}
use Rattle.std.specs.Cmp.{IsStrictWeakOrder}
use Rattle.std.specs.Cmp.Lexicographic.{slice_cmp}
use Rattle.std.specs.Ordering.{is_eq, is_lt, nat_cmp, ordering_reverse}
use Rattle.std.specs.declared.cmp.Ordering.{Ordering}
use Rattle.std.specs.declared.cmp.Ordering.TheVariants.{Less, Equal, Greater}
use Rattle.std.proofs.lemmas.Cmp.{nat_list_cmp_total}
use Rattle.std.proofs.lemmas.List.Sorted.{ranks_by, sum_by-IsPermutation}
use Rattle.std.proofs.lemmas.List.Sums.{sum_by-cons}
use Rattle.px_trail.specs.Answers.{IsAmong}
use Rattle.px_calls.specs.Looks.{key_less}
use Rattle.px_verify.specs.declared.report.IndexEntry.{IndexEntry}
use Rattle.px_verify.specs.declared.report.Version.{Version}
use Rattle.px_verify.specs.Reports.{count, is_at_entry, is_match, is_verified_version, is_wrong, report_of, same_key}
use Rattle.px_verify.specs.Rising.{AreApart, AreRisingRows, is_entry_below}
use Rattle.px_verify.proofs.Counts.{count-no, count-same, count-yes, here, same-bytes, there}
use Rattle.px_verify.proofs.Fronts.{same_report}

-- 1. Counts as sums

abbrev one_if : Bool → ℕ
one_if true = 1
one_if false = 0

abbrev number : {A : Type 0} → (A → Bool) → List A → ℕ
number test xs = sum_by (λ x. one_if (test x)) xs

number-cons : {A : Type 0} (test : A → Bool) (x : A) (xs : List A) → number test (x ∷ xs) ≡ one_if (test x) + number test xs
number-cons test x xs = sum_by-cons (λ y. one_if (test y)) x xs

count-is : {A : Type 0} (test : A → Bool) (xs : List A) → count test xs ≡ number test xs
count-is test [] = refl
count-is test (x ∷ xs) = by_test (count-is test xs) (test x) refl
  where
    by_test : count test xs ≡ number test xs → (b : Bool) → test x ≡ b → count test (x ∷ xs) ≡ number test (x ∷ xs)
    by_test more true e = (let c = count-yes test x xs e in let n : one_if (test x) ≡ 1 = ap one_if e in let s = number-cons test x xs in omega arith)
    by_test more false e = (let c = count-no test x xs e in let n : one_if (test x) ≡ 0 = ap one_if e in let s = number-cons test x xs in omega arith)

count-permuted : {A : Type 0} (test : A → Bool) (xs ys : List A) → IsPermutation xs ys → count test ys ≡ count test xs
count-permuted test xs ys h = count-is test ys ∙ (sum_by-IsPermutation (λ x. one_if (test x)) xs ys h ∙ sym (count-is test xs))

abbrev is_some_count : ℕ → Bool
is_some_count zero = false
is_some_count (suc n) = true

any-is : {A : Type 0} (test : A → Bool) (xs : List A) → list_any test xs ≡ is_some_count (count test xs)
any-is test [] = refl
any-is test (x ∷ xs) = by_test (any-is test xs) (test x) refl
  where
    by_test : list_any test xs ≡ is_some_count (count test xs) → (b : Bool) → test x ≡ b → list_any test (x ∷ xs) ≡ is_some_count (count test (x ∷ xs))
    by_test more true e = ap (λ (b : Bool). b || list_any test xs) e ∙ sym (ap is_some_count (count-yes test x xs e))
    by_test more false e = ap (λ (b : Bool). b || list_any test xs) e ∙ (more ∙ sym (ap is_some_count (count-no test x xs e)))

any-permuted : {A : Type 0} (test : A → Bool) (xs ys : List A) → IsPermutation xs ys → list_any test ys ≡ list_any test xs
any-permuted test xs ys h = any-is test ys ∙ (ap is_some_count (count-permuted test xs ys h) ∙ sym (any-is test xs))

-- the order of the rows doesn't matter to a report
pub report-permuted : (xs ys : List IndexEntry) (versions : List Version) → IsPermutation xs ys → report_of ys versions ≡ report_of xs versions
report-permuted xs ys versions h =
    same_report (report_of ys versions) (report_of xs versions)
    (count-permuted (λ row. list_any (λ v. is_match v row) versions) xs ys h)
    refl
    (count-permuted (λ row. not (list_any (λ v. is_at_entry v row) versions)) xs ys h)
    (count-same (λ v. is_verified_version v && not (list_any (λ row. is_at_entry v row) ys)) (λ v. is_verified_version v && not (list_any (λ row. is_at_entry v row) xs)) versions (λ v among. ap (λ (b : Bool). is_verified_version v && not b) (any-permuted (λ row. is_at_entry v row) xs ys h)))
    (count-permuted (λ row. list_any (λ v. is_wrong v row) versions) xs ys h)

-- 2. Keys that stand once

abbrev of_key : List ℕ → IndexEntry → Bool
of_key key row = same_key row.key key

no_both : (b : Bool) → b ≡ true → b ≡ false → ⊥
no_both true h k = let z : ◌≡◌ {A = Bool} true false = k in cc
no_both false h k = let z : ◌≡◌ {A = Bool} false true = h in cc

pub same-self : (k : List ℕ) → same_key k k ≡ true
same-self k = ap is_eq (own (slice_cmp nat_cmp k k) (nat_list_cmp_total.antisymm k k))
  where
    own : (o : Ordering) → o ≡ ordering_reverse o → o ≡ Equal
    own Less e = cc
    own Equal e = refl
    own Greater e = cc

-- no later key is the first one's
none-later : (row : IndexEntry) (rows : List IndexEntry) (key : List ℕ) → ((other : IndexEntry) → IsAmong other rows → same_key row.key other.key ≡ false) → same_key row.key key ≡ true → (other : IndexEntry) → IsAmong other rows → of_key key other ≡ false
none-later row rows key apart at other among = by_test (of_key key other) refl
  where
    by_test : (b : Bool) → of_key key other ≡ b → of_key key other ≡ false
    by_test false e = e
    by_test true e =
        let first : row.key ≡ key = same-bytes row.key key at in
        let second : other.key ≡ key = same-bytes other.key key e in
        absurd (no_both (same_key row.key other.key) (ap (same_key row.key) (second ∙ sym first) ∙ same-self row.key) (apart other among))

number-none : {A : Type 0} (test : A → Bool) (xs : List A) → ((x : A) → IsAmong x xs → test x ≡ false) → number test xs ≡ 0
number-none test [] h = refl
number-none test (x ∷ xs) h = (let s = number-cons test x xs in let a = ap one_if (h x (here x xs)) in let m = number-none test xs (λ y among. h y (there y x xs among)) in omega arith)

once : (rows : List IndexEntry) (key : List ℕ) → AreApart rows → number (of_key key) rows ≤ 1
unfolding AreApart
once [] key h = omega arith
once (row ∷ rows) key h = by_test (once rows key h.1) (of_key key row) refl
  where
    by_test : number (of_key key) rows ≤ 1 → (b : Bool) → of_key key row ≡ b → number (of_key key) (row ∷ rows) ≤ 1
    by_test more true e = (let s = number-cons (of_key key) row rows in let a = ap one_if e in let m = number-none (of_key key) rows (none-later row rows key h.0 e) in omega arith)
    by_test more false e = (let s = number-cons (of_key key) row rows in let a = ap one_if e in omega arith)

number-some : {A : Type 0} (test : A → Bool) (x : A) (xs : List A) → IsAmong x xs → test x ≡ true → 1 ≤ number test xs
unfolding IsAmong
number-some test x [] among h = absurd among
number-some test x (y ∷ xs) (inl same) h = (let s = number-cons test y xs in let a = ap one_if (ap test same ∙ h) in omega arith)
number-some test x (y ∷ xs) (inr among) h = (let s = number-cons test y xs in let m = number-some test x xs among h in omega arith)

-- 3. Sorted

pub rank : IsStrictWeakOrder is_entry_below
rank = ranks_by nat_list_cmp_total (λ (row : IndexEntry). row.key)

sorted-tail : (row : IndexEntry) (rows : List IndexEntry) → IsSortedBy is_entry_below (row ∷ rows) → IsSortedBy is_entry_below rows
sorted-tail row rows h k d low high =
    let next : suc k + 1 ≡ suc (k + 1) = omega arith in
    subst (λ (n : ℕ). is_entry_below (slice_index_or (row ∷ rows) n d) (slice_index_or rows k d) ≡ false) next (h (suc k) d (omega arith) (omega arith))

none-less : (row : IndexEntry) (rows : List IndexEntry) → IsSortedBy is_entry_below (row ∷ rows) → (other : IndexEntry) → IsAmong other rows → is_entry_below other row ≡ false
unfolding IsAmong
none-less row [] h other among = absurd among
none-less row (next ∷ rows) h other (inl same) = subst (λ (r : IndexEntry). is_entry_below r row ≡ false) same (h 0 row (omega arith) (omega arith))
none-less row (next ∷ rows) h other (inr among) = rank.chain other next row (none-less next rows (sorted-tail row (next ∷ rows) h) other among) (h 0 row (omega arith) (omega arith))

-- neither below nor the same is above
above : (o : Ordering) → is_lt (ordering_reverse o) ≡ false → is_eq o ≡ false → is_lt o ≡ true
above Less h k = refl
above Equal h k = cc
above Greater h k = cc

rising : (rows : List IndexEntry) → ((key : List ℕ) → number (of_key key) rows ≤ 1) → IsSortedBy is_entry_below rows → AreRisingRows rows
unfolding AreRisingRows
rising [] one h = tt
rising (row ∷ rows) one h = (
  (λ other among. by_test other among (same_key row.key other.key) refl),
  rising rows (λ key. (let s = number-cons (of_key key) row rows in let n = one key in omega arith)) (sorted-tail row rows h),
)
  where
    by_test : (other : IndexEntry) → IsAmong other rows → (b : Bool) → same_key row.key other.key ≡ b → key_less row.key other.key ≡ true
    by_test other among true e =
        let first : one_if (of_key other.key row) ≡ 1 = ap one_if e in
        let more = number-some (of_key other.key) other rows among (same-self other.key) in
        let n = one other.key in
        let s = number-cons (of_key other.key) row rows in
        absurd (omega arith)
    by_test other among false e =
        let none : is_lt (slice_cmp nat_cmp other.key row.key) ≡ false = none-less row rows h other among in
        above (slice_cmp nat_cmp row.key other.key) (ap is_lt (sym (nat_list_cmp_total.antisymm other.key row.key)) ∙ none) e

pub sorted-rises : (xs ys : List IndexEntry) → IsPermutation xs ys → IsSortedBy is_entry_below ys → AreApart xs → AreRisingRows ys
sorted-rises xs ys h sorted apart = rising ys (λ key. (let n = once xs key apart in let s = sum_by-IsPermutation (λ row. one_if (of_key key row)) xs ys h in omega arith)) sorted
