-- The least stamps of batches.
use Rattle.std.proofs.Common.{◌≡◌, ◌⊎◌, ℕ, zero, suc, ◌+◌, ◌<◌, ◌≤◌, List, [], ◌∷◌, ◌++◌, length, take, get_or, sym, ap, subst, ◌∙◌, arith, inl, inr}
use Rattle.std.specs.List.{AllByRecursion}
use Rattle.std.proofs.lemmas.Bool.{cases_lt}
use Rattle.std.proofs.lemmas.List.{take_more}
use Rattle.px_cells.specs.CellData.{CellData}
use Rattle.px_memstore.specs.Pieces.{chained}
use Rattle.px_memstore.proofs.Chained.{chained_next}
use Rattle.px_merge.specs.Settle.{settle}
use Rattle.px_wal.specs.Batches.{AreOverHorizon, AreRisingBatches, LogBatch, batches_above, later_first}
use Rattle.px_wal.specs.Form.{last_batch_number}
use Rattle.px_wal.specs.Wal.{next_batch}
use Rattle.px_wal.specs.declared.wal.Wal.{Wal}
use Rattle.px_wal.proofs.Cuts.{above_drop, above_take, over_by_read}
use Rattle.px_wal.proofs.Numbers.{all_more, last_top}
use Rattle.px_region.specs.Stamps.{Allows, AreStampsFrom, HaveLeast, IsFrom}
use Rattle.px_region.specs.declared.stamps.LeastStamps.{LeastStamps}

all_to : {A : Type 0} (P Q : A → Type 0) (xs : List A) → ((x : A) → P x → Q x) → AllByRecursion P xs → AllByRecursion Q xs
all_to P Q [] f all = tt
all_to P Q (x ∷ xs) f all = (f x all.0, all_to P Q xs f all.1)

all_of : {A : Type 0} (P : A → Type 0) (xs : List A) → ((x : A) → P x) → AllByRecursion P xs
all_of P [] f = tt
all_of P (x ∷ xs) f = (f x, all_of P xs f)

all_append : (P : CellData → Type 0) (xs ys : List CellData) → AllByRecursion P xs → AllByRecursion P ys → AllByRecursion P (xs ++ ys)
all_append P [] ys a b = b
all_append P (x ∷ xs) ys a b = (a.0, all_append P xs ys a.1 b)

-- ---- cells

pub from_less : (m n : ℕ) (cells : List CellData) → n ≤ m → AreStampsFrom m cells → AreStampsFrom n cells
from_less m n cells le from = all_to (λ (c : CellData). m ≤ c.stamp) (λ (c : CellData). n ≤ c.stamp) cells (λ c is. omega (arith, le, is)) from

-- one cell more
pub from_next : (cells : List CellData) (i least next : ℕ) (c : CellData) → i < length cells → c ≡ get_or cells i c → next ≤ least → next ≤ c.stamp → AreStampsFrom least (take i cells) → AreStampsFrom next (take (i + 1) cells)
from_next cells i least next c lt is le own before =
    subst (AreStampsFrom next) (sym (take_more cells i c lt ∙ ap (λ (x : CellData). take i cells ++ x ∷ []) (sym is))) (all_append (λ (x : CellData). next ≤ x.stamp) (take i cells) (c ∷ []) (from_less least next (take i cells) le before) (own, tt))

-- one piece more
pub from_piece : (pieces : List (List CellData)) (at least next : ℕ) → at < length pieces → next ≤ least → AreStampsFrom least (chained (take at pieces)) → AreStampsFrom next (get_or pieces at []) → AreStampsFrom next (chained (take (at + 1) pieces))
from_piece pieces at least next lt le before here =
    subst (AreStampsFrom next) (sym (chained_next pieces at lt)) (all_append (λ (x : CellData). next ≤ x.stamp) (chained (take at pieces)) (get_or pieces at []) (from_less least next (chained (take at pieces)) le before) here)

-- ---- batches

-- where what is read of them is from a stamp on, so is each
from_read : (least : ℕ) (batches : List LogBatch) → AreStampsFrom least (settle (later_first batches)) → AllByRecursion (λ b. AreStampsFrom least b.cells) batches
from_read zero batches from = all_of (λ (b : LogBatch). AreStampsFrom zero b.cells) batches (λ b. all_of (λ (c : CellData). zero ≤ c.stamp) b.cells (λ c. omega arith))
from_read (suc h) batches from =
    all_to (λ (b : LogBatch). AllByRecursion (λ (c : CellData). h < c.stamp) b.cells) (λ (b : LogBatch). AreStampsFrom (suc h) b.cells) batches
    (λ b is. all_to (λ (c : CellData). h < c.stamp) (λ (c : CellData). suc h ≤ c.stamp) b.cells (λ c lt. omega (arith, lt)) is)
    (over_by_read h batches (all_to (λ (c : CellData). suc h ≤ c.stamp) (λ (c : CellData). h < c.stamp) (settle (later_first batches)) (λ c le. omega (arith, le)) from))

pub least_read : (stamps : LeastStamps) (cells : List CellData) (batches : List LogBatch) → AreStampsFrom stamps.before cells → AreStampsFrom stamps.behind cells → cells ≡ settle (later_first batches) → HaveLeast stamps batches
least_read stamps cells batches before behind is = both batches (from_read stamps.before batches (subst (AreStampsFrom stamps.before) is before)) (from_read stamps.behind batches (subst (AreStampsFrom stamps.behind) is behind))
  where
    both : (bs : List LogBatch) → AllByRecursion (λ b. AreStampsFrom stamps.before b.cells) bs → AllByRecursion (λ b. AreStampsFrom stamps.behind b.cells) bs → HaveLeast stamps bs
    both [] x y = tt
    both (b ∷ bs) x y = (record { before = λ le. x.0; behind = λ lt. y.0 }, both bs x.1 y.1)

-- a batch comes, and the least stamps may fall
pub least_more : (old new : LeastStamps) (batches : List LogBatch) (b : LogBatch) → new.upto ≡ old.upto → new.before ≤ old.before → new.behind ≤ old.behind → IsFrom new b → HaveLeast old batches → HaveLeast new (batches ++ b ∷ [])
least_more old new batches b upto before behind own all =
    all_more (IsFrom new) batches b
    (all_to (IsFrom old) (IsFrom new) batches
    (λ c is. record { before = λ le. from_less old.before new.before c.cells before (is.before (omega (arith, le, upto))); behind = λ lt. from_less old.behind new.behind c.cells behind (is.behind (omega (arith, lt, upto))) }) all)
    own

-- of the batch that is the log's next
pub came : (wal : Wal) (cells : List CellData) (number : ℕ) (lent : List CellData) (stamps : LeastStamps) (batches : List LogBatch) → number ≡ wal.last + 1 → lent ≡ cells → HaveLeast stamps (batches ++ (record { number = number; cells = lent }) ∷ []) → HaveLeast stamps (batches ++ next_batch wal cells ∷ [])
came wal cells number lent stamps batches is same all =
    subst (λ (n : ℕ). HaveLeast stamps (batches ++ (record { number = n; cells = cells }) ∷ [])) is (subst (λ (l : List CellData). HaveLeast stamps (batches ++ (record { number = number; cells = l }) ∷ [])) same all)

-- all of them are older ones
pub least_aged : (old new : LeastStamps) (batches : List LogBatch) → new.before ≤ old.before → new.before ≤ old.behind → AllByRecursion (λ b. b.number ≤ new.upto) batches → HaveLeast old batches → HaveLeast new batches
least_aged old new [] first second upto all = tt
least_aged old new (b ∷ batches) first second upto all = (
  record {
    before = λ le. elim (cases_lt old.upto b.number) [
      | inl l ↦ from_less old.behind new.before b.cells second (all.0.behind l)
      | inr l ↦ from_less old.before new.before b.cells first (all.0.before l)
    ];
    behind = λ lt. absurd (let u = upto.0 in omega (arith, lt, u));
  },
  least_aged old new batches first second upto.1 all.1,
)

-- those up to a number are flushed; where the older ones were, nothing is asked of them any more
pub least_left : (old new : LeastStamps) (m n : ℕ) (batches : List LogBatch) → m ≤ n → (new.before ≡ old.before) ⊎ (old.upto ≤ n) → new.upto ≡ old.upto → new.behind ≡ old.behind → HaveLeast old (batches_above m batches) → HaveLeast new (batches_above n batches)
least_left old new m n [] le either upto behind all = tt
least_left old new m n (b ∷ batches) le either upto behind all = elim (cases_lt n b.number) [
  | inl l ↦ (let has = subst (HaveLeast old) (above_take m b batches (omega (arith, le, l))) all in
      subst (HaveLeast new) (sym (above_take n b batches l)) (own b l has.0 either, least_left old new m n batches le either upto behind has.1))
  | inr l ↦ subst (HaveLeast new) (sym (above_drop n b batches l)) (least_left old new m n batches le either upto behind (rest (cases_lt m b.number)))
]
  where
    own : (c : LogBatch) → n < c.number → IsFrom old c → (new.before ≡ old.before) ⊎ (old.upto ≤ n) → IsFrom new c
    own c over is (inl same) = record {
      before = λ low. subst (λ (k : ℕ). AreStampsFrom k c.cells) (sym same) (is.before (omega (arith, low, upto)));
      behind = λ lt. subst (λ (k : ℕ). AreStampsFrom k c.cells) (sym behind) (is.behind (omega (arith, lt, upto)));
    }
    own c over is (inr gone) = record {
      before = λ low. absurd (omega (arith, low, upto, gone, over));
      behind = λ lt. subst (λ (k : ℕ). AreStampsFrom k c.cells) (sym behind) (is.behind (omega (arith, lt, upto)));
    }

    rest : (m < b.number) ⊎ (b.number ≤ m) → HaveLeast old (batches_above m batches)
    rest (inl x) = (subst (HaveLeast old) (above_take m b batches x) all).1
    rest (inr x) = subst (HaveLeast old) (above_drop m b batches x) all

-- a horizon below both is below each cell
pub least_over : (stamps : LeastStamps) (h : ℕ) (batches : List LogBatch) → Allows stamps h → HaveLeast stamps batches → AreOverHorizon h batches
least_over stamps h batches allows all =
    all_to (IsFrom stamps) (λ (b : LogBatch). AllByRecursion (λ (c : CellData). h < c.stamp) b.cells) batches
    (λ b is. elim (cases_lt stamps.upto b.number) [
      | inl l ↦ all_to (λ (c : CellData). stamps.behind ≤ c.stamp) (λ (c : CellData). h < c.stamp) b.cells (λ c le. (let a = allows.1 in omega (arith, le, a))) (is.behind l)
      | inr l ↦ all_to (λ (c : CellData). stamps.before ≤ c.stamp) (λ (c : CellData). h < c.stamp) b.cells (λ c le. (let a = allows.0 in omega (arith, le, a))) (is.before l)
    ]) all

-- ---- numbers

-- no batch is behind the last one
pub numbers_upto : (n : ℕ) (batches : List LogBatch) → AreRisingBatches batches → AllByRecursion (λ b. b.number ≤ last_batch_number n batches) batches
numbers_upto n [] rising = tt
numbers_upto n (b ∷ batches) rising = (let top = last_top b.number batches rising.0 rising.1 in (top.0, top.1))

pub above_all : (P : LogBatch → Type 0) (n : ℕ) (batches : List LogBatch) → AllByRecursion P batches → AllByRecursion P (batches_above n batches)
above_all P n [] all = tt
above_all P n (b ∷ batches) all = elim (cases_lt n b.number) [
  | inl l ↦ subst (AllByRecursion P) (sym (above_take n b batches l)) (all.0, above_all P n batches all.1)
  | inr l ↦ subst (AllByRecursion P) (sym (above_drop n b batches l)) (above_all P n batches all.1)
]

-- none that stands above the flushed number is
pub upto_last : (n last : ℕ) (batches : List LogBatch) → AreRisingBatches batches → last ≡ last_batch_number n batches → AllByRecursion (λ b. b.number ≤ last) (batches_above n batches)
upto_last n last batches rising is = above_all (λ (b : LogBatch). b.number ≤ last) n batches (subst (λ (k : ℕ). AllByRecursion (λ (b : LogBatch). b.number ≤ k) batches) (sym is) (numbers_upto n batches rising))
