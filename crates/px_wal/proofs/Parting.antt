-- The batches of the older segment, and those of the newest.
use Rattle.std.proofs.Common.{◌≡◌, ℕ, ◌<◌, ◌≤◌, List, [], ◌∷◌, ◌++◌, refl, sym, ap, subst, ◌∙◌, arith, inl, inr}
use Rattle.std.specs.Prelude.{map}
use Rattle.std.specs.List.{AllByRecursion}
use Rattle.std.proofs.lemmas.Bool.{cases_lt}
use Rattle.std.proofs.lemmas.List.{append-nil}
use Rattle.px_gatelog.specs.Format.{LogRecord}
use Rattle.px_cells.specs.CellData.{CellData}
use Rattle.px_merge.specs.Merged.{joined}
use Rattle.px_merge.specs.Settle.{settle}
use Rattle.px_wal.specs.Batches.{AreRisingBatches, IsRest, LogBatch, batches_above, batches_between, cells_over, later_first}
use Rattle.px_wal.specs.Form.{IsUpTo, batch_record, last_batch_number}
use Rattle.px_wal.proofs.Cuts.{above_behind, above_drop, above_take, all_left, between_drop, between_none, between_take}
use Rattle.px_wal.proofs.Numbers.{last_top}

-- ---- lists

pub cancel : {T : Type 0} (a b c : List T) → a ++ b ≡ a ++ c → b ≡ c
cancel [] b c is = is
cancel (x ∷ a) b c is = (let rest : a ++ b ≡ a ++ c = cc in cancel a b c rest)

-- where the records of batches are cut, so are the batches
pub batches_cut : (batches : List LogBatch) (x r : List LogRecord) → map batch_record batches ≡ x ++ r → (a : List LogBatch) × (b : List LogBatch) × (batches ≡ a ++ b) × (map batch_record a ≡ x) × (map batch_record b ≡ r)
batches_cut batches [] r is = ([], batches, refl, refl, is)
batches_cut [] (y ∷ x) r is = absurd cc
batches_cut (b ∷ batches) (y ∷ x) r is =
    let head : batch_record b ≡ y = cc in
    let tail : map batch_record batches ≡ x ++ r = cc in
    let s = batches_cut batches x r tail in
    (b ∷ s.0, s.1, ap (λ (l : List LogBatch). b ∷ l) s.2, (λ i. head i ∷ s.3 i), s.4)

-- ---- numbers

pub rising_left : (a b : List LogBatch) → AreRisingBatches (a ++ b) → AreRisingBatches a
rising_left [] b rising = tt
rising_left (x ∷ a) b rising = (all_left (λ (c : LogBatch). x.number < c.number) a b rising.0, rising_left a b rising.1)

pub rising_right : (a b : List LogBatch) → AreRisingBatches (a ++ b) → AreRisingBatches b
rising_right [] b rising = rising
rising_right (x ∷ a) b rising = rising_right a b rising.1

pub last_behind : (n : ℕ) (a : List LogBatch) (b : LogBatch) (more : List LogBatch) → last_batch_number n (a ++ b ∷ more) ≡ last_batch_number b.number more
last_behind n [] b more = refl
last_behind n (x ∷ a) b more = last_behind x.number a b more

-- what comes behind has greater numbers
rising_over : (x : LogBatch) (a b : List LogBatch) → AreRisingBatches (x ∷ (a ++ b)) → AllByRecursion (λ c. last_batch_number x.number a < c.number) b
rising_over x [] b rising = rising.0
rising_over x (y ∷ a) b rising = rising_over y a b rising.1

all_most : (m n : ℕ) (batches : List LogBatch) → m ≤ n → AllByRecursion (λ c. c.number ≤ m) batches → AllByRecursion (λ c. c.number ≤ n) batches
all_most m n [] le all = tt
all_most m n (b ∷ batches) le all = (omega (arith, all.0), all_most m n batches le all.1)

-- no number is above that up to which they go
pub upto_all : (flushed n : ℕ) (batches : List LogBatch) → AreRisingBatches batches → IsUpTo flushed batches n → AllByRecursion (λ c. c.number ≤ n) batches
upto_all flushed n [] rising is = tt
upto_all flushed n (b ∷ batches) rising is =
    let top = last_top b.number batches rising.0 rising.1 in
    all_most (last_batch_number b.number batches) n (b ∷ batches) (omega (arith, is)) (top.0, top.1)

-- so it is at most a number exactly where each of theirs is
pub upto_passed : (flushed n most : ℕ) (batches : List LogBatch) → AreRisingBatches batches → IsUpTo flushed batches n → n ≤ most → AllByRecursion (λ c. c.number ≤ most) batches
upto_passed flushed n most batches rising is le = all_most n most batches le (upto_all flushed n batches rising is)

pub upto_told : (flushed n : ℕ) (batches : List LogBatch) → IsUpTo flushed batches n → AllByRecursion (λ c. c.number ≤ flushed) batches → n ≤ flushed
upto_told flushed n [] is all = is
upto_told flushed n (b ∷ batches) is all = (let l = last_all flushed b.number batches all.0 all.1 in omega (arith, is, l))
  where
    last_all : (most n : ℕ) (batches : List LogBatch) → n ≤ most → AllByRecursion (λ c. c.number ≤ most) batches → last_batch_number n batches ≤ most
    last_all most n [] le all = le
    last_all most n (b ∷ batches) le all = last_all most b.number batches all.0 all.1

-- the last number is one up to which they go
pub upto_last : (flushed n : ℕ) (batches : List LogBatch) → n ≡ last_batch_number flushed batches → IsUpTo flushed batches n
upto_last flushed n [] is = omega (arith, is)
upto_last flushed n (b ∷ batches) is = is

-- and one that isn't flushed is at most the last
pub upto_within : (flushed n : ℕ) (older newer : List LogBatch) → AreRisingBatches (older ++ newer) → IsUpTo flushed older n → flushed < n → n ≤ last_batch_number flushed (older ++ newer)
upto_within flushed n [] newer rising is over = absurd (omega (arith, is, over))
upto_within flushed n (b ∷ older) newer rising is over = by newer rising
  where
    by : (newer : List LogBatch) → AreRisingBatches (b ∷ (older ++ newer)) → n ≤ last_batch_number b.number (older ++ newer)
    by [] rising = (let e = ap (last_batch_number b.number) (append-nil older) in omega (arith, is, e))
    by (x ∷ more) rising =
        let over = rising_over b older (x ∷ more) rising in
        let e = last_behind b.number older x more in
        let top = last_top x.number more (rising_right older (x ∷ more) rising.1).0 (rising_right older (x ∷ more) rising.1).1 in
        omega (arith, is, e, over.0, top.0)

-- where the older ones are gone the last number stays
pub last_rest : (flushed last n : ℕ) (older newer : List LogBatch) → last ≡ last_batch_number flushed (older ++ newer) → IsUpTo flushed older n → n ≤ flushed → flushed ≤ last → last ≡ last_batch_number flushed newer
last_rest flushed last n [] newer is upto le ge = is
last_rest flushed last n (b ∷ older) [] is upto le ge = (let e = ap (last_batch_number b.number) (append-nil older) in omega (arith, e, is, upto, le, ge))
last_rest flushed last n (b ∷ older) (x ∷ more) is upto le ge = is ∙ last_behind b.number older x more

-- ---- the older batches above a number

between_empty : (m n : ℕ) (batches : List LogBatch) → n ≤ m → batches_between m n batches ≡ []
between_empty m n [] le = refl
between_empty m n (b ∷ batches) le = elim (cases_lt m b.number) [
  | inl l ↦ between_drop m n b batches (inr (omega (arith, l, le))) ∙ between_empty m n batches le
  | inr l ↦ between_drop m n b batches (inl l) ∙ between_empty m n batches le
]

between_older : (m n : ℕ) (older newer : List LogBatch) → AllByRecursion (λ c. c.number ≤ n) older → batches_between m n newer ≡ [] → batches_between m n (older ++ newer) ≡ batches_above m older
between_older m n [] newer all none = none
between_older m n (b ∷ older) newer all none = elim (cases_lt m b.number) [
  | inl l ↦ between_take m n b (older ++ newer) l all.0 ∙ ap (λ (l : List LogBatch). b ∷ l) (between_older m n older newer all.1 none) ∙ sym (above_take m b older l)
  | inr l ↦ between_drop m n b (older ++ newer) (inl l) ∙ between_older m n older newer all.1 none ∙ sym (above_drop m b older l)
]

-- of all batches those above the flushed number and up to the older ones' last are the older ones above it
pub older_between : (flushed n : ℕ) (older newer : List LogBatch) → AreRisingBatches (older ++ newer) → IsUpTo flushed older n → batches_between flushed n (older ++ newer) ≡ batches_above flushed older
older_between flushed n [] newer rising is = between_empty flushed n newer is
older_between flushed n (b ∷ older) newer rising is =
    between_older flushed n (b ∷ older) newer (upto_all flushed n (b ∷ older) (rising_left (b ∷ older) newer rising) is)
    (between_none flushed n newer (subst (λ (k : ℕ). AllByRecursion (λ c. k < c.number) newer) (sym is) (rising_over b older newer rising)))

-- ---- batches that are gone

pub rest_above : (flushed : ℕ) (batches rest : List LogBatch) → IsRest flushed batches rest → batches_above flushed rest ≡ batches_above flushed batches
rest_above flushed batches rest is = sym (ap (batches_above flushed) is.all ∙ above_behind flushed is.gone rest is.passed)

pub rest_cells : (flushed : ℕ) (batches rest : List LogBatch) (files : List (List CellData)) → IsRest flushed batches rest → cells_over flushed rest files ≡ cells_over flushed batches files
rest_cells flushed batches rest files is = ap (λ (l : List LogBatch). settle (later_first l ++ joined files)) (rest_above flushed batches rest is)
