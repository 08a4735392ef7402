-- One list, however it is cut into batches and files.
use Rattle.std.proofs.Common.{◌≡◌, ◌⊎◌, ℕ, ◌<◌, ◌≤◌, true, false, ltb, leb, List, [], ◌∷◌, ◌++◌, refl, sym, ap, subst, ◌∙◌, append_assoc, arith, inl, inr}
use Rattle.std.specs.List.{AllByRecursion}
use Rattle.std.proofs.lemmas.Bool.{cases_Bool, cases_lt, lt-ltb, le-ltb, le-leb, lt-leb}
use Rattle.std.proofs.lemmas.List.{append-nil}
use Rattle.px_cells.specs.CellData.{CellData}
use Rattle.px_cells.specs.Order.{GoesWith, IsCellList, ReadsSame}
use Rattle.px_cells.proofs.Among.{all_has, has_all, has_from_reads, reads_behind}
use Rattle.px_merge.specs.Kept.{IsKeptList, KeepsWanted}
use Rattle.px_merge.specs.Merged.{joined}
use Rattle.px_merge.proofs.Reading.{read_at, reads_trans}
use Rattle.px_merge.proofs.Sight.{keeps_later}
use Rattle.px_merge.specs.Settle.{settle}
use Rattle.px_wal.specs.Batches.{AreOverHorizon, AreQualified, AreRisingBatches, LogBatch, batches_above, batches_between, cells_over, later_first}
use Rattle.px_merge.proofs.Settling.{keeps_same, reads_back, settle_back, settle_is, settle_part, settle_placed}

pub above_take : (n : ℕ) (b : LogBatch) (batches : List LogBatch) → n < b.number → batches_above n (b ∷ batches) ≡ b ∷ batches_above n batches
above_take n b batches l = (let e : ltb n b.number ≡ true = lt-ltb n b.number l in rw e refl)

pub above_drop : (n : ℕ) (b : LogBatch) (batches : List LogBatch) → b.number ≤ n → batches_above n (b ∷ batches) ≡ batches_above n batches
above_drop n b batches l = (let e : ltb n b.number ≡ false = le-ltb n b.number l in rw e refl)

pub between_take : (m n : ℕ) (b : LogBatch) (batches : List LogBatch) → m < b.number → b.number ≤ n → batches_between m n (b ∷ batches) ≡ b ∷ batches_between m n batches
between_take m n b batches l k =
    let e : ltb m b.number ≡ true = lt-ltb m b.number l in
    let f : leb b.number n ≡ true = le-leb b.number n k in
    rw (e, f) refl

pub between_drop : (m n : ℕ) (b : LogBatch) (batches : List LogBatch) → (b.number ≤ m) ⊎ (n < b.number) → batches_between m n (b ∷ batches) ≡ batches_between m n batches
between_drop m n b batches (inl low) = (let e : ltb m b.number ≡ false = le-ltb m b.number low in rw e refl)
between_drop m n b batches (inr high) =
    let f : leb b.number n ≡ false = lt-leb b.number n high in
    elim (cases_Bool (ltb m b.number)) [ inl e ↦ rw (e, f) refl | inr e ↦ rw e refl ]

-- of batches with greater numbers none is cut off
pub between_none : (m n : ℕ) (batches : List LogBatch) → AllByRecursion (λ c. n < c.number) batches → batches_between m n batches ≡ []
between_none m n [] all = refl
between_none m n (b ∷ batches) all = between_drop m n b batches (inr all.0) ∙ between_none m n batches all.1

all_over : (m n : ℕ) (batches : List LogBatch) → n ≤ m → AllByRecursion (λ c. m < c.number) batches → AllByRecursion (λ c. n < c.number) batches
all_over m n [] le all = tt
all_over m n (b ∷ batches) le all = (omega (arith, all.0), all_over m n batches le all.1)

-- the batches above a number are those above a greater one, and before them those between the two
pub later_cut : (m n : ℕ) (batches : List LogBatch) → m ≤ n → AreRisingBatches batches → later_first (batches_above m batches) ≡ later_first (batches_above n batches) ++ later_first (batches_between m n batches)
later_cut m n [] le rising = refl
later_cut m n (b ∷ batches) le rising = by (later_cut m n batches le rising.1) (cases_lt m b.number) (cases_lt n b.number)
  where
    by : later_first (batches_above m batches) ≡ later_first (batches_above n batches) ++ later_first (batches_between m n batches) → (m < b.number) ⊎ (b.number ≤ m) → (n < b.number) ⊎ (b.number ≤ n) → later_first (batches_above m (b ∷ batches)) ≡ later_first (batches_above n (b ∷ batches)) ++ later_first (batches_between m n (b ∷ batches))
    by more (inr low) x =
        ap later_first (above_drop m b batches low) ∙ more
        ∙ ap (λ (l : List CellData). l ++ later_first (batches_between m n batches)) (sym (ap later_first (above_drop n b batches (omega arith))))
        ∙ ap (λ (l : List CellData). later_first (batches_above n (b ∷ batches)) ++ l) (sym (ap later_first (between_drop m n b batches (inl low))))
    by more (inl over) (inr mid) =
        ap later_first (above_take m b batches over) ∙ ap (λ (l : List CellData). l ++ b.cells) more
        ∙ append_assoc (later_first (batches_above n batches)) (later_first (batches_between m n batches)) b.cells
        ∙ ap (λ (l : List CellData). l ++ (later_first (batches_between m n batches) ++ b.cells)) (sym (ap later_first (above_drop n b batches mid)))
        ∙ ap (λ (l : List CellData). later_first (batches_above n (b ∷ batches)) ++ l) (sym (ap later_first (between_take m n b batches over mid)))
    by more (inl over) (inl high) =
        let none : batches_between m n batches ≡ [] = between_none m n batches (all_over b.number n batches (omega arith) rising.0) in
        let same : later_first (batches_above m batches) ≡ later_first (batches_above n batches) = more ∙ ap (λ (l : List LogBatch). later_first (batches_above n batches) ++ later_first l) none ∙ append-nil (later_first (batches_above n batches)) in
        ap later_first (above_take m b batches over) ∙ ap (λ (l : List CellData). l ++ b.cells) same
        ∙ sym (ap later_first (above_take n b batches high)) ∙ sym (append-nil (later_first (batches_above n (b ∷ batches))))
        ∙ ap (λ (l : List CellData). later_first (batches_above n (b ∷ batches)) ++ l) (sym (ap later_first (between_drop m n b batches (inr high) ∙ none)))

-- The same list stands where the batches up to a greater number are a file, the newest.
pub flushed_same : (m n : ℕ) (batches : List LogBatch) (files : List (List CellData)) (file : List CellData) → m ≤ n → AreRisingBatches batches
    → file ≡ settle (later_first (batches_between m n batches)) → cells_over n batches (file ∷ files) ≡ cells_over m batches files
flushed_same m n batches files file le rising is =
    ap (λ (l : List CellData). settle (later_first (batches_above n batches) ++ (l ++ joined files))) is
    ∙ settle_part (later_first (batches_above n batches)) (later_first (batches_between m n batches)) (joined files)
    ∙ ap settle (sym (append_assoc (later_first (batches_above n batches)) (later_first (batches_between m n batches)) (joined files)))
    ∙ ap (λ (l : List CellData). settle (l ++ joined files)) (sym (later_cut m n batches le rising))

-- ---- compaction

-- all files may stand as one that is read alike
pub compacted_same : (n : ℕ) (batches : List LogBatch) (files : List (List CellData)) (file : List CellData) → file ≡ settle (joined files) → cells_over n batches (file ∷ []) ≡ cells_over n batches files
compacted_same n batches files file is =
    ap (λ (l : List CellData). settle (later_first (batches_above n batches) ++ l)) (append-nil file ∙ is) ∙ settle_back (later_first (batches_above n batches)) (joined files)

all_append : (P : CellData → Type 0) (xs ys : List CellData) → AllByRecursion P xs → AllByRecursion P ys → AllByRecursion P (xs ++ ys)
all_append P [] ys a b = b
all_append P (x ∷ xs) ys a b = (a.0, all_append P xs ys a.1 b)

-- what all cells of the batches have
pub all_later : (P : CellData → Type 0) (batches : List LogBatch) → AllByRecursion (λ b. AllByRecursion P b.cells) batches → AllByRecursion P (later_first batches)
all_later P [] all = tt
all_later P (b ∷ batches) all = all_append P (later_first batches) b.cells (all_later P batches all.1) all.0

-- What a horizon keeps of the files it keeps of the whole list, where all that stands outside the files is above it.
pub kept_whole : (n h : ℕ) (batches : List LogBatch) (files : List (List CellData)) (kept : List CellData)
    → AreOverHorizon h (batches_above n batches) → AreQualified (batches_above n batches) → IsKeptList (settle (joined files)) h kept → IsKeptList (cells_over n batches files) h (cells_over n batches (kept ∷ []))
kept_whole n h batches files kept over placed is = record { list = list; exact = exact }
  where
    new : List CellData
    new = later_first (batches_above n batches)

    back : joined (kept ∷ []) ≡ kept
    back = append-nil kept

    list : IsCellList (settle (new ++ joined (kept ∷ [])))
    list = settle_placed (new ++ joined (kept ∷ [])) (all_append GoesWith new (joined (kept ∷ [])) (all_later GoesWith (batches_above n batches) placed) (subst (AllByRecursion GoesWith) (sym back) is.list.placed))

    kept_over : KeepsWanted (new ++ settle (joined files)) h (new ++ kept)
    kept_over = keeps_later (settle (joined files)) kept new h is.exact (λ c has. all_has (λ c. h < c.stamp) new c (all_later (λ c. h < c.stamp) (batches_above n batches) over) has)

    exact : KeepsWanted (settle (new ++ joined files)) h (settle (new ++ joined (kept ∷ [])))
    exact =
        keeps_same (new ++ settle (joined files)) (settle (new ++ joined files)) (new ++ kept) (settle (new ++ joined (kept ∷ []))) h
        (reads_trans (new ++ settle (joined files)) (new ++ joined files) (settle (new ++ joined files)) (reads_behind new (settle (joined files)) (joined files) (settle_is (joined files)).same) (reads_back (settle (new ++ joined files)) (new ++ joined files) (settle_is (new ++ joined files)).same))
        (subst (λ (l : List CellData). ReadsSame (new ++ kept) (settle (new ++ l))) (sym back) (reads_back (settle (new ++ kept)) (new ++ kept) (settle_is (new ++ kept)).same))
        kept_over

-- ---- writing

-- a batch that is written last is read first
pub written_last : (n : ℕ) (batches : List LogBatch) (files : List (List CellData)) (b : LogBatch) → n < b.number → cells_over n (batches ++ b ∷ []) files ≡ settle (b.cells ++ cells_over n batches files)
written_last n batches files b over =
    ap (λ (l : List CellData). settle (l ++ joined files)) (last batches) ∙ ap settle (append_assoc b.cells (later_first (batches_above n batches)) (joined files))
    ∙ sym (settle_back b.cells (later_first (batches_above n batches) ++ joined files))
  where
    last : (bs : List LogBatch) → later_first (batches_above n (bs ++ b ∷ [])) ≡ b.cells ++ later_first (batches_above n bs)
    last [] = ap later_first (above_take n b [] over) ∙ sym (append-nil b.cells)
    last (a ∷ bs) = elim (cases_lt n a.number) [
      | inl l ↦ ap later_first (above_take n a (bs ++ b ∷ []) l) ∙ ap (λ (l : List CellData). l ++ a.cells) (last bs) ∙ append_assoc b.cells (later_first (batches_above n bs)) a.cells
          ∙ ap (λ (l : List CellData). b.cells ++ l) (sym (ap later_first (above_take n a bs l)))
      | inr l ↦ ap later_first (above_drop n a (bs ++ b ∷ []) l) ∙ last bs ∙ ap (λ (l : List CellData). b.cells ++ l) (sym (ap later_first (above_drop n a bs l)))
    ]

-- ---- an older segment

above_none : (n : ℕ) (batches : List LogBatch) → AllByRecursion (λ b. b.number ≤ n) batches → batches_above n batches ≡ []
above_none n [] all = refl
above_none n (b ∷ batches) all = above_drop n b batches all.0 ∙ above_none n batches all.1

pub above_behind : (n : ℕ) (older newer : List LogBatch) → AllByRecursion (λ b. b.number ≤ n) older → batches_above n (older ++ newer) ≡ batches_above n newer
above_behind n [] newer all = refl
above_behind n (b ∷ older) newer all = above_drop n b (older ++ newer) all.0 ∙ above_behind n older newer all.1

-- batches that were flushed may go
pub older_may_go : (n : ℕ) (older newer : List LogBatch) (files : List (List CellData)) → AllByRecursion (λ b. b.number ≤ n) older → cells_over n newer files ≡ cells_over n (older ++ newer) files
older_may_go n older newer files all = ap (λ (l : List LogBatch). settle (later_first l ++ joined files)) (sym (above_behind n older newer all))

-- ---- testing the store in place of the batches

pub all_left : {T : Type 0} (P : T → Type 0) (xs ys : List T) → AllByRecursion P (xs ++ ys) → AllByRecursion P xs
all_left P [] ys all = tt
all_left P (x ∷ xs) ys all = (all.0, all_left P xs ys all.1)

pub all_right : {T : Type 0} (P : T → Type 0) (xs ys : List T) → AllByRecursion P (xs ++ ys) → AllByRecursion P ys
all_right P [] ys all = all
all_right P (x ∷ xs) ys all = all_right P xs ys all.1

over_each : (h : ℕ) (batches : List LogBatch) → AllByRecursion (λ c. h < c.stamp) (later_first batches) → AreOverHorizon h batches
over_each h [] all = tt
over_each h (b ∷ batches) all = (all_right (λ c. h < c.stamp) (later_first batches) b.cells all, over_each h batches (all_left (λ c. h < c.stamp) (later_first batches) b.cells all))

-- where the sorted list of what is read is above a horizon, so is each cell of the batches
pub over_by_read : (h : ℕ) (batches : List LogBatch) → AllByRecursion (λ c. h < c.stamp) (settle (later_first batches)) → AreOverHorizon h batches
over_by_read h batches all = over_each h batches (has_all (λ c. h < c.stamp) (later_first batches) (λ c has.
    (let r = read_at (later_first batches) c has in
    let there = ((settle_is (later_first batches)).same r.cell).1 r.read in
    let l = all_has (λ c. h < c.stamp) (settle (later_first batches)) r.cell all (has_from_reads (settle (later_first batches)) r.cell there) in
    let s = r.same.stamp in
    omega arith)))
