-- The numbers of batches.
use Rattle.std.proofs.Common.{◌≡◌, ℕ, ◌+◌, ◌<◌, ◌≤◌, Bool, true, false, eqb, Option, Some, List, [], ◌∷◌, ◌++◌, length, refl, sym, ap, subst, ◌∙◌, append_assoc, add_assoc, arith, inl, inr}
use Rattle.std.specs.Prelude.{map, nat_le, ◌==◌, None, option_map}
use Rattle.std.specs.List.{AllByRecursion}
use Rattle.std.proofs.lemmas.Bool.{cases_Bool, cases_lt, leb-true, le-leb, lt-leb, eqb-true, eq-eqb}
use Rattle.std.proofs.lemmas.List.{append-nil}
use Rattle.px_cells.specs.CellData.{CellData}
use Rattle.px_gatelog.specs.Format.{LogForm, LogRecord}
use Rattle.px_cellbytes.specs.Spelling.{all_bytes}
use Rattle.px_wal.specs.Batches.{AreRisingBatches, LogBatch, batches_above, later_first}
use Rattle.px_wal.specs.Form.{AreBatches, IsLogBatch, IsFirstAfter, IsNextNumber, batch_body, batch_record, batch_byte_count, cell_count_in, fault_place, cell_count, is_next, is_right, is_some, last_number, last_batch_number, number_in, number_place, right_number, wal_form, wrong_batch, wrong_by}
use Rattle.px_wal.specs.inner.OneReading.{reading}
use Rattle.px_wal.proofs.Readings.{cells_of_body, count_of_body, length_of_body, number_of_body, reading_ok, wrong_cells, wrong_number, wrong_some}
use Rattle.px_wal.proofs.Cuts.{above_drop, above_take}

pub all_more : (P : LogBatch → Type 0) (batches : List LogBatch) (b : LogBatch) → AllByRecursion P batches → P b → AllByRecursion P (batches ++ b ∷ [])
all_more P [] b all is = (is, tt)
all_more P (a ∷ batches) b all is = (all.0, all_more P batches b all.1 is)

pub rising_more : (batches : List LogBatch) (b : LogBatch) → AreRisingBatches batches → AllByRecursion (λ c. c.number < b.number) batches → AreRisingBatches (batches ++ b ∷ [])
rising_more [] b rising below = (tt, tt)
rising_more (a ∷ batches) b rising below = (all_more (λ c. a.number < c.number) batches b rising.0 below.0, rising_more batches b rising.1 below.1)

-- the last number is the greatest
pub last_top : (n : ℕ) (batches : List LogBatch) → AllByRecursion (λ c. n < c.number) batches → AreRisingBatches batches → (n ≤ last_batch_number n batches) × AllByRecursion (λ c. c.number ≤ last_batch_number n batches) batches
last_top n [] over rising = (omega arith, tt)
last_top n (b ∷ batches) over rising = (let top = last_top b.number batches rising.0 rising.1 in (omega (arith, over.0, top.0), (top.0, top.1)))

all_less : (m n : ℕ) (batches : List LogBatch) → m < n → AllByRecursion (λ c. c.number ≤ m) batches → AllByRecursion (λ c. c.number < n) batches
all_less m n [] lt all = tt
all_less m n (b ∷ batches) lt all = (omega (arith, all.0), all_less m n batches lt all.1)

below_next : (flushed n : ℕ) (batches : List LogBatch) → AreRisingBatches batches → IsNextNumber flushed batches n → AllByRecursion (λ c. c.number < n) batches
below_next flushed n [] rising next = tt
below_next flushed n (b ∷ batches) rising next =
    let top = last_top b.number batches rising.0 rising.1 in
    (omega (arith, top.0), all_less (last_batch_number b.number batches) n batches (omega arith) top.1)

first_more : (flushed : ℕ) (batches : List LogBatch) (b : LogBatch) → IsFirstAfter flushed batches → IsNextNumber flushed batches b.number → IsFirstAfter flushed (batches ++ b ∷ [])
first_more flushed [] b first next = next
first_more flushed (a ∷ batches) b first next = first

pub right_more : (flushed : ℕ) (batches : List LogBatch) (b : LogBatch) → AreBatches flushed batches → IsLogBatch b → IsNextNumber flushed batches b.number → AreBatches flushed (batches ++ b ∷ [])
right_more flushed batches b right is next = record {
  each = all_more IsLogBatch batches b right.each is;
  rising = rising_more batches b right.rising (below_next flushed b.number batches right.rising next);
  first = first_more flushed batches b right.first next;
}

pub last_more : (n : ℕ) (batches : List LogBatch) (b : LogBatch) → last_batch_number n (batches ++ b ∷ []) ≡ b.number
last_more n [] b = refl
last_more n (a ∷ batches) b = last_more a.number batches b

pub some_more : (batches : List LogBatch) (b : LogBatch) → is_some (batches ++ b ∷ []) ≡ true
some_more [] b = refl
some_more (a ∷ batches) b = refl

pub above_more : (n : ℕ) (batches : List LogBatch) (b : LogBatch) → n < b.number → batches_above n (batches ++ b ∷ []) ≡ batches_above n batches ++ b ∷ []
above_more n [] b over = above_take n b [] over
above_more n (a ∷ batches) b over = elim (cases_lt n a.number) [
  | inl l ↦ above_take n a (batches ++ b ∷ []) l ∙ ap (λ (l : List LogBatch). a ∷ l) (above_more n batches b over) ∙ ap (λ (l : List LogBatch). l ++ b ∷ []) (sym (above_take n a batches l))
  | inr l ↦ above_drop n a (batches ++ b ∷ []) l ∙ above_more n batches b over ∙ ap (λ (l : List LogBatch). l ++ b ∷ []) (sym (above_drop n a batches l))
]

pub above_same : (n : ℕ) (batches : List LogBatch) (b : LogBatch) → b.number ≤ n → batches_above n (batches ++ b ∷ []) ≡ batches_above n batches
above_same n [] b low = above_drop n b [] low
above_same n (a ∷ batches) b low = elim (cases_lt n a.number) [
  | inl l ↦ above_take n a (batches ++ b ∷ []) l ∙ ap (λ (l : List LogBatch). a ∷ l) (above_same n batches b low) ∙ sym (above_take n a batches l)
  | inr l ↦ above_drop n a (batches ++ b ∷ []) l ∙ above_same n batches b low ∙ sym (above_drop n a batches l)
]

pub later_more : (batches : List LogBatch) (b : LogBatch) → later_first (batches ++ b ∷ []) ≡ b.cells ++ later_first batches
later_more [] b = sym (append-nil b.cells)
later_more (a ∷ batches) b = ap (λ (l : List CellData). l ++ a.cells) (later_more batches b) ∙ append_assoc b.cells (later_first batches) a.cells

pub cells_more : (batches : List LogBatch) (b : LogBatch) → cell_count (batches ++ b ∷ []) ≡ cell_count batches + length b.cells
cells_more [] b = omega arith
cells_more (a ∷ batches) b = ap (λ (n : ℕ). length a.cells + n) (cells_more batches b) ∙ sym (add_assoc (length a.cells) (cell_count batches) (length b.cells))

pub bytes_more : (batches : List LogBatch) (b : LogBatch) → batch_byte_count (batches ++ b ∷ []) ≡ batch_byte_count batches + length (all_bytes b.cells)
bytes_more [] b = omega arith
bytes_more (a ∷ batches) b = ap (λ (n : ℕ). length (all_bytes a.cells) + n) (bytes_more batches b) ∙ sym (add_assoc (length (all_bytes a.cells)) (batch_byte_count batches) (length (all_bytes b.cells)))

-- ---- which number is right

last_record : (n : ℕ) (batches : List LogBatch) → AllByRecursion IsLogBatch batches → last_number n (map batch_record batches) ≡ last_batch_number n batches
last_record n [] each = refl
last_record n (b ∷ batches) each = ap (λ (k : ℕ). last_number k (map batch_record batches)) (number_of_body b each.0.number) ∙ last_record b.number batches each.1

-- the records of batches tell the same as their numbers
pub right_is_next : (flushed n last : ℕ) (some : Bool) (batches : List LogBatch) → AllByRecursion IsLogBatch batches → last ≡ last_batch_number flushed batches → some ≡ is_some batches
    → is_right flushed (map batch_record batches) n ≡ is_next flushed some last n
right_is_next flushed n last some [] each last-is some-is = ap (λ (s : Bool). is_next flushed s last n) (sym some-is)
right_is_next flushed n last some (b ∷ batches) each last-is some-is =
    ap (λ (k : ℕ). n == k + 1) (ap (λ (k : ℕ). last_number k (map batch_record batches)) (number_of_body b each.0.number) ∙ last_record b.number batches each.1 ∙ sym last-is)
    ∙ ap (λ (s : Bool). is_next flushed s last n) (sym some-is)

-- the number that the records ask for is the one behind the last batch
pub right_is_last : (flushed last : ℕ) (batches : List LogBatch) → AllByRecursion IsLogBatch batches → last ≡ last_batch_number flushed batches → right_number flushed (map batch_record batches) ≡ last + 1
right_is_last flushed last [] each last-is = ap (λ (k : ℕ). k + 1) (sym last-is)
right_is_last flushed last (b ∷ batches) each last-is =
    ap (λ (k : ℕ). k + 1) (ap (λ (k : ℕ). last_number k (map batch_record batches)) (number_of_body b each.0.number) ∙ last_record b.number batches each.1 ∙ sym last-is)

pub next_number : (flushed n last : ℕ) (some : Bool) (batches : List LogBatch) → last ≡ last_batch_number flushed batches → some ≡ is_some batches → is_next flushed some last n ≡ true → IsNextNumber flushed batches n
next_number flushed n last some [] last-is some-is next = leb-true n (flushed + 1) (ap (λ (s : Bool). is_next flushed s last n) (sym some-is) ∙ next)
next_number flushed n last some (b ∷ batches) last-is some-is next =
    eqb-true n (last + 1) (ap (λ (s : Bool). is_next flushed s last n) (sym some-is) ∙ next) ∙ ap (λ (k : ℕ). k + 1) last-is

is_right_true : (flushed n : ℕ) (batches : List LogBatch) → AllByRecursion IsLogBatch batches → IsNextNumber flushed batches n → is_right flushed (map batch_record batches) n ≡ true
is_right_true flushed n [] each next = le-leb n (flushed + 1) next
is_right_true flushed n (b ∷ batches) each next =
    eq-eqb n _ (next ∙ sym (ap (λ (k : ℕ). k + 1) (ap (λ (k : ℕ). last_number k (map batch_record batches)) (number_of_body b each.0.number) ∙ last_record b.number batches each.1)))

-- the record of the next batch is right
pub batch_is_right : (flushed : ℕ) (batches : List LogBatch) (b : LogBatch) → AllByRecursion IsLogBatch batches → IsLogBatch b → IsNextNumber flushed batches b.number
    → wrong_batch flushed (map batch_record batches) (batch_record b) ≡ None
unfolding wrong_batch
batch_is_right flushed batches b each is next =
    let number : is_right flushed (map batch_record batches) (number_in (batch_body b)) ≡ true =
    ap (is_right flushed (map batch_record batches)) (number_of_body b is.number) ∙ is_right_true flushed b.number batches each next in
    let cells = reading_ok (all_bytes b.cells) (length b.cells) b.cells (record { spelled = refl; counted = refl; written = is.written }) in
    let at : ℕ = number_place (right_number flushed (map batch_record batches)) (number_in (batch_body b)) in
    let none : wrong_by true at (batch_body b) ≡ None =
    wrong_cells at (batch_body b) None (omega (arith, length_of_body b)) (ap fault_place (ap (λ (l : List ℕ). reading l (cell_count_in (batch_body b))) (cells_of_body b) ∙ ap (reading (all_bytes b.cells)) (count_of_body b is.counted)) ∙ cells) in
    rw (number, none) refl

none_inside : (o : Option ℕ) → option_map (λ p. 5 + p) o ≡ None → o ≡ None
none_inside None e = refl
none_inside (Some p) e = cc

next_of_right : (flushed n : ℕ) (batches : List LogBatch) → AllByRecursion IsLogBatch batches → is_right flushed (map batch_record batches) n ≡ true → IsNextNumber flushed batches n
next_of_right flushed n [] each right = leb-true n (flushed + 1) right
next_of_right flushed n (b ∷ batches) each right =
    eqb-true n _ right ∙ ap (λ (k : ℕ). k + 1) (ap (λ (k : ℕ). last_number k (map batch_record batches)) (number_of_body b each.0.number) ∙ last_record b.number batches each.1)

-- a batch whose record is right comes next
pub right_next : (flushed : ℕ) (batches : List LogBatch) (b : LogBatch) → AllByRecursion IsLogBatch batches → IsLogBatch b → wrong_batch flushed (map batch_record batches) (batch_record b) ≡ None → IsNextNumber flushed batches b.number
unfolding wrong_batch
right_next flushed batches b each is none =
    let at : ℕ = number_place (right_number flushed (map batch_record batches)) (number_in (batch_body b)) in
    let inside : wrong_by (is_right flushed (map batch_record batches) (number_in (batch_body b))) at (batch_body b) ≡ None = none_inside _ none in
    subst (IsNextNumber flushed batches) (number_of_body b is.number) (elim (cases_Bool (is_right flushed (map batch_record batches) (number_in (batch_body b)))) [
      | inl right ↦ next_of_right flushed (number_in (batch_body b)) batches each right
      | inr wrong ↦ absurd (wrong_some at (batch_body b) (ap (λ (c : Bool). wrong_by c at (batch_body b)) (sym wrong) ∙ inside))
    ])

-- ---- a form tells its flushed number

-- a record of this number, without cells
probe_body : ℕ → List ℕ
probe_body n = 0 ∷ 0 ∷ 0 ∷ 0 ∷ 0 ∷ 0 ∷ 0 ∷ n ∷ 0 ∷ 0 ∷ 0 ∷ 0 ∷ []

probe : ℕ → LogRecord
probe n = record { kind = 2; body = probe_body n }

probe_number : (n : ℕ) → number_in (probe_body n) ≡ n
unfolding number_in probe_body
probe_number n = omega arith

probe_right : (flushed n : ℕ) → n ≤ flushed + 1 → wrong_batch flushed [] (probe n) ≡ None
unfolding wrong_batch probe probe_body cell_count_in
probe_right flushed n le =
    let right : is_right flushed [] (number_in (probe_body n)) ≡ true = ap (λ (k : ℕ). nat_le k (flushed + 1)) (probe_number n) ∙ le-leb n (flushed + 1) le in
    let cells = reading_ok [] 0 [] (record { spelled = refl; counted = refl; written = record { listed = record { ascending = tt; placed = tt }; bare = tt; short = tt; ranged = tt } }) in
    let at : ℕ = number_place (flushed + 1) (number_in (probe_body n)) in
    let none : wrong_by true at (probe_body n) ≡ None = wrong_cells at (probe_body n) None (omega arith) cells in
    rw (right, none) refl

probe_long : (n : ℕ) → 8 ≤ length (probe_body n)
unfolding probe_body
probe_long n = omega arith

probe_wrong : (flushed n : ℕ) → flushed + 1 < n → wrong_batch flushed [] (probe n) ≡ Some (5 + number_place (flushed + 1) (number_in (probe_body n)))
unfolding wrong_batch probe
probe_wrong flushed n lt =
    let right : is_right flushed [] (number_in (probe_body n)) ≡ false = ap (λ (k : ℕ). nat_le k (flushed + 1)) (probe_number n) ∙ lt-leb n (flushed + 1) lt in
    let at : ℕ = number_place (flushed + 1) (number_in (probe_body n)) in
    let some : wrong_by false at (probe_body n) ≡ Some at = wrong_number at (probe_body n) (probe_long n) in
    rw (right, some) refl

form_less : (a b : ℕ) → a < b → wal_form a ≡ wal_form b → ⊥
form_less a b lt same =
    let one : wrong_batch a [] (probe (b + 1)) ≡ wrong_batch b [] (probe (b + 1)) = ap (λ (f : LogForm). f.wrong [] (probe (b + 1))) same in
    let x : ◌≡◌ {A = Option ℕ} (Some (5 + number_place (a + 1) (number_in (probe_body (b + 1))))) None = sym (probe_wrong a (b + 1) (omega arith)) ∙ one ∙ probe_right b (b + 1) (omega arith) in
    cc

pub form_flushed : (a b : ℕ) → wal_form a ≡ wal_form b → a ≡ b
form_flushed a b same = elim (cases_lt a b) [
  | inl lt ↦ absurd (form_less a b lt same)
  | inr ge ↦ elim (cases_lt b a) [ inl lt ↦ absurd (form_less b a lt (sym same)) | inr le ↦ omega arith ]
]

-- a log that is right above one number is right above a greater one
right_weaker : (m n k : ℕ) (before : List LogRecord) → m ≤ n → is_right m before k ≡ true → is_right n before k ≡ true
right_weaker m n k [] le right = le-leb k (n + 1) (let l = leb-true k (m + 1) right in omega arith)
right_weaker m n k (r ∷ before) le right = right

-- where the number is right the place says nothing
place_free : (at to : ℕ) (body : List ℕ) → wrong_by true at body ≡ None → wrong_by true to body ≡ None
unfolding wrong_by
place_free at to body none = none

weaker_body : (a b : Bool) (at to : ℕ) (body : List ℕ) → (a ≡ true → b ≡ true) → wrong_by a at body ≡ None → wrong_by b to body ≡ None
weaker_body true b at to body more none = ap (λ (c : Bool). wrong_by c to body) (more refl) ∙ place_free at to body none
weaker_body false b at to body more none = absurd (wrong_some at body none)

pub wrong_weaker : (m n : ℕ) → m ≤ n → (before : List LogRecord) (r : LogRecord) → wrong_batch m before r ≡ None → wrong_batch n before r ≡ None
unfolding wrong_batch
wrong_weaker m n le before r is = elim (cases_Bool (eqb r.kind 2)) [
  | inl two ↦
      let one : ℕ = number_place (right_number m before) (number_in r.body) in
      let other : ℕ = number_place (right_number n before) (number_in r.body) in
      let some : wrong_by (is_right m before (number_in r.body)) one r.body ≡ None = none_back (wrong_by (is_right m before (number_in r.body)) one r.body) (rw two at is) in
      let none = weaker_body (is_right m before (number_in r.body)) (is_right n before (number_in r.body)) one other r.body (right_weaker m n (number_in r.body) before le) some in
      rw (two, none) refl
  | inr other ↦ (let z : ◌≡◌ {A = Option ℕ} (Some 0) None = rw other at is in cc)
]
  where
    none_back : (o : Option ℕ) → option_map (λ p. 5 + p) o ≡ None → o ≡ None
    none_back None e = refl
    none_back (Some p) e = cc
