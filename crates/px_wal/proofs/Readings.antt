-- The reading of bytes, and the batch of a body.
use Rattle.std.proofs.Common.{◌≡◌, ℕ, zero, suc, ◌+◌, ◌-◌, ◌^◌, ◌<◌, ◌≤◌, Bool, true, false, ltb, List, [], ◌∷◌, ◌++◌, length, get_or, take, drop, Option, Some, None, Ok, Err, refl, sym, ap, subst, ◌∙◌, append_assoc, arith, inl, inr}
use Rattle.std.specs.Prelude.{option_map}
use Rattle.std.specs.Int.{w32, w64, to_be_bytes, from_be_bytes}
use Rattle.std.proofs.lemmas.Bool.{cases_lt, lt-ltb, le-ltb}
use Rattle.std.proofs.lemmas.List.{drop-drop, get_or-drop, length-append, length-drop, length-take-le, take-append-drop, take_all}
use Rattle.std.proofs.lemmas.Nat.{be_bytes_4, be_bytes_8, from_be_bytes-to_be_bytes_4, from_be_bytes-to_be_bytes_8}
use Rattle.px_cells.specs.CellData.{CellData}
use Rattle.px_cellbytes.specs.declared.fault.CellFault.{CellFault}
use Rattle.px_cellbytes.specs.declared.fault.CellFault.TheVariants.{Short, BadKind, OutOfOrder, Memory}
use Rattle.px_cellbytes.specs.Reading.IsFault.{short, bad_kind, out_of_order}
use Rattle.px_cellbytes.specs.Reading.IsNextFault.{of_next, of_rest}
use Rattle.px_cellbytes.specs.Reading.{AreCells, IsCellReading, IsFault, IsFirstFault, IsNextFault, moved, place_of_fault}
use Rattle.px_cellbytes.specs.Spelling.{all_bytes}
use Rattle.px_cellbytes.proofs.EveryReading.{every_reading}
use Rattle.px_cellbytes.proofs.OneReading.{one_reading}
use Rattle.px_gatelog.specs.Framed.{Framed, record_of}
use Rattle.px_wal.specs.Batches.{LogBatch}
use Rattle.px_wal.specs.inner.OneReading.{AreBytes, WithBytes, cases_bytes, reading, reading_by}
use Rattle.px_wal.specs.Form.{batch_body, batch_record, cell_count_in, differs_at, fault_place, number_in, number_place, wrong_by}

reading_by_is : (bytes : List ℕ) (count : ℕ) (w : WithBytes bytes) → AreBytes bytes → IsCellReading bytes count (reading_by bytes count w)
unfolding reading_by
reading_by_is bytes count (inl small) all = (every_reading bytes count small).1
reading_by_is bytes count (inr other) all = absurd (other all)

reading_by_ok : (bytes : List ℕ) (count : ℕ) (w : WithBytes bytes) (cells : List CellData) → AreCells bytes count cells → fault_place (reading_by bytes count w) ≡ None
unfolding reading_by
reading_by_ok bytes count (inl small) cells are = ap fault_place (one_reading bytes count (every_reading bytes count small).0 (Ok cells) (every_reading bytes count small).1 are)
reading_by_ok bytes count (inr other) cells are = refl

pub reading_ok : (bytes : List ℕ) (count : ℕ) (cells : List CellData) → AreCells bytes count cells → fault_place (reading bytes count) ≡ None
unfolding reading
reading_ok bytes count cells are = reading_by_ok bytes count (cases_bytes bytes) cells are

pub reading_fault : (bytes : List ℕ) (count : ℕ) (fault : CellFault) → AreBytes bytes → IsCellReading bytes count (Err fault) → fault_place (reading bytes count) ≡ Some (place_of_fault fault)
unfolding reading
reading_fault bytes count fault all is = ap fault_place (one_reading bytes count (reading bytes count) (Err fault) (reading_by_is bytes count (cases_bytes bytes) all) is)

pub are_bytes : (bytes : List ℕ) → ((i : ℕ) → get_or bytes i 0 < 256) → AreBytes bytes
are_bytes [] small = tt
are_bytes (b ∷ bytes) small = (small 0, are_bytes bytes (λ i. small (suc i)))

-- ---- the body of a batch

pub number_of_body : (b : LogBatch) → b.number < 2 ^ 64 → number_in (batch_body b) ≡ b.number
unfolding batch_body number_in
number_of_body b small = from_be_bytes-to_be_bytes_8 b.number small

pub count_of_body : (b : LogBatch) → length b.cells < 2 ^ 32 → cell_count_in (batch_body b) ≡ length b.cells
unfolding batch_body cell_count_in
count_of_body b small = from_be_bytes-to_be_bytes_4 (length b.cells) small

pub cells_of_body : (b : LogBatch) → drop 12 (batch_body b) ≡ all_bytes b.cells
unfolding batch_body
cells_of_body b = refl

pub length_of_body : (b : LogBatch) → length (batch_body b) ≡ 12 + length (all_bytes b.cells)
unfolding batch_body
length_of_body b = omega (arith, length-append (to_be_bytes w64 b.number) (to_be_bytes w32 (length b.cells) ++ all_bytes b.cells), length-append (to_be_bytes w32 (length b.cells)) (all_bytes b.cells))

-- ---- the first wrong place

pub wrong_short : (right : Bool) (place : ℕ) (body : List ℕ) → length body < 8 → wrong_by right place body ≡ Some 0
unfolding wrong_by
wrong_short right place body few = (let e : ltb (length body) 8 ≡ true = lt-ltb (length body) 8 few in rw e refl)

pub wrong_number : (place : ℕ) (body : List ℕ) → 8 ≤ length body → wrong_by false place body ≡ Some place
unfolding wrong_by
wrong_number place body long = (let e : ltb (length body) 8 ≡ false = le-ltb (length body) 8 long in rw e refl)

pub wrong_some : (place : ℕ) (body : List ℕ) → wrong_by false place body ≡ None → ⊥
wrong_some place body none = elim (cases_lt (length body) 8) [
  | inl l ↦ (let z : ◌≡◌ {A = Option ℕ} (Some 0) None = sym (wrong_short false place body l) ∙ none in cc)
  | inr l ↦ (let z : ◌≡◌ {A = Option ℕ} (Some place) None = sym (wrong_number place body l) ∙ none in cc)
]

pub wrong_head : (place : ℕ) (body : List ℕ) → 8 ≤ length body → length body < 12 → wrong_by true place body ≡ Some 8
unfolding wrong_by
wrong_head place body long few =
    let e : ltb (length body) 8 ≡ false = le-ltb (length body) 8 long in
    let f : ltb (length body) 12 ≡ true = lt-ltb (length body) 12 few in
    rw (e, f) refl

pub wrong_cells : (at : ℕ) (body : List ℕ) (place : Option ℕ) → 12 ≤ length body → fault_place (reading (drop 12 body) (cell_count_in body)) ≡ place → wrong_by true at body ≡ option_map (λ p. 12 + p) place
unfolding wrong_by
wrong_cells at body place long is =
    let e : ltb (length body) 8 ≡ false = le-ltb (length body) 8 (omega (arith, long)) in
    let f : ltb (length body) 12 ≡ false = le-ltb (length body) 12 long in
    rw (e, f) (ap (option_map (λ p. 12 + p)) is)

-- ---- a fault stands within the bytes

place_moved : (n : ℕ) (fault : CellFault) → place_of_fault (moved n fault) ≤ n + place_of_fault fault
place_moved n (Short place) = omega arith
place_moved n (BadKind place) = omega arith
place_moved n (OutOfOrder place) = omega arith
place_moved n Memory = omega arith

fault_within : (before : List CellData) (rest : List ℕ) (fault : CellFault) → IsFault before rest fault → place_of_fault fault ≤ length rest
fault_within before rest fault (short place cut is) = (let e = ap place_of_fault is in let l = cut.before in omega arith)
fault_within before rest fault (bad_kind l wrong is) = (let e = ap place_of_fault is in omega arith)
fault_within before rest fault (out_of_order front last c behind b s r bytes up is) = (let e = ap place_of_fault is in omega arith)

pub first_within : (bytes : List ℕ) (count : ℕ) (fault : CellFault) → IsFirstFault bytes count fault → place_of_fault fault ≤ length bytes
first_within bytes count fault first = by first.next
  where
    long : length bytes ≡ length (all_bytes first.before) + length first.rest
    long = ap length first.spelled ∙ length-append (all_bytes first.before) first.rest

    by : IsNextFault first.before first.rest count fault → place_of_fault fault ≤ length bytes
    by (of_next least few is moved-is) =
        let a = ap place_of_fault moved-is in
        let b = place_moved (length (all_bytes first.before)) least in
        let c = fault_within first.before first.rest least is.there in
        omega (arith, long)
    by (of_rest all some is) = (let a = ap place_of_fault is in omega (arith, long))

-- ---- a body is that of its batch

pub body_is : (number : ℕ) (cells : List CellData) (body : List ℕ) → to_be_bytes w64 number ≡ take 8 body → to_be_bytes w32 (length cells) ≡ take 4 (drop 8 body) → drop 12 body ≡ all_bytes cells
    → body ≡ batch_body (record { number = number; cells = cells })
unfolding batch_body
body_is number cells body first second rest =
    sym (take-append-drop 8 body) ∙ ap (λ (l : List ℕ). l ++ drop 8 body) (sym first)
    ∙ ap (λ (l : List ℕ). to_be_bytes w64 number ++ l) (sym (take-append-drop 4 (drop 8 body)) ∙ ap (λ (l : List ℕ). l ++ drop 4 (drop 8 body)) (sym second) ∙ ap (λ (l : List ℕ). to_be_bytes w32 (length cells) ++ l) (drop-drop 4 8 body ∙ rest))

-- ---- bytes of a field

pub small_take : (n : ℕ) (bytes : List ℕ) → ((i : ℕ) → get_or bytes i 0 < 256) → (i : ℕ) → get_or (take n bytes) i 0 < 256
small_take zero bytes small i = omega arith
small_take (suc n) [] small i = omega arith
small_take (suc n) (b ∷ bytes) small zero = small 0
small_take (suc n) (b ∷ bytes) small (suc i) = small_take n bytes (λ k. small (suc k)) i

pub small_drop : (n : ℕ) (bytes : List ℕ) → ((i : ℕ) → get_or bytes i 0 < 256) → (i : ℕ) → get_or (drop n bytes) i 0 < 256
small_drop n bytes small i = rw (get_or-drop n bytes i 0) (small (n + i))

pub number_spelled : (bytes : List ℕ) (n : ℕ) → ((i : ℕ) → get_or bytes i 0 < 256) → 8 ≤ length bytes → n ≡ from_be_bytes w64 (take 8 bytes) → to_be_bytes w64 n ≡ take 8 bytes
number_spelled bytes n small long is = be_bytes_8 (take 8 bytes) n (length-take-le 8 bytes long) (small_take 8 bytes small) is

pub count_spelled : (bytes : List ℕ) (n : ℕ) → ((i : ℕ) → get_or bytes i 0 < 256) → 12 ≤ length bytes → n ≡ from_be_bytes w32 (take 4 (drop 8 bytes)) → to_be_bytes w32 n ≡ take 4 (drop 8 bytes)
count_spelled bytes n small long is =
    be_bytes_4 (take 4 (drop 8 bytes)) n (length-take-le 4 (drop 8 bytes) (omega (arith, length-drop 8 bytes))) (small_take 4 (drop 8 bytes) (small_drop 8 bytes small)) is

-- the first wrong place of a body whose cells are wrong
pub cells_wrong : (at : ℕ) (body : List ℕ) (fault : CellFault) (place p : ℕ) → ((i : ℕ) → get_or body i 0 < 256) → 12 ≤ length body → IsFirstFault (drop 12 body) (cell_count_in body) fault → p ≡ place_of_fault fault → 12 + p ≡ place → wrong_by true at body ≡ Some place
cells_wrong at body fault place p small long first p-is is =
    wrong_cells at body (Some (place_of_fault fault)) long (reading_fault (drop 12 body) (cell_count_in body) fault (are_bytes (drop 12 body) (small_drop 12 body small)) first)
    ∙ ap Some (ap (λ (n : ℕ). 12 + n) (sym p-is) ∙ is)

pub cells_within : (body : List ℕ) (fault : CellFault) (place p : ℕ) → 12 ≤ length body → IsFirstFault (drop 12 body) (cell_count_in body) fault → p ≡ place_of_fault fault → 12 + p ≡ place → place ≤ length body
cells_within body fault place p long first p-is is = (let l = first_within (drop 12 body) (cell_count_in body) fault first in omega (arith, length-drop 12 body))

-- a fault of what is behind the head
pub told_fault : (body : List ℕ) (count : ℕ) (fault : CellFault) → count ≡ cell_count_in body → IsFirstFault (take (length body - 12) (drop 12 body)) count fault → IsFirstFault (drop 12 body) (cell_count_in body) fault
told_fault body count fault is first =
    subst (λ (n : ℕ). IsFirstFault (drop 12 body) n fault) is (subst (λ (l : List ℕ). IsFirstFault l count fault) (take_all (length body - 12) (drop 12 body) (omega (arith, length-drop 12 body))) first)

pub record_filled : (f : Framed) (number : ℕ) (cells : List CellData) → f.kind ≡ 2 → f.body ≡ (to_be_bytes w64 number ++ to_be_bytes w32 (length cells)) ++ all_bytes cells → record_of f ≡ batch_record (record { number = number; cells = cells })
unfolding batch_body
record_filled f number cells kind body =
    ap (λ (k : ℕ). record { kind = k; body = f.body }) kind ∙ ap (λ (l : List ℕ). record { kind = 2; body = l }) (body ∙ append_assoc (to_be_bytes w64 number) (to_be_bytes w32 (length cells)) (all_bytes cells))

-- ---- the place of a wrong number

pub place_none : (right n : ℕ) → 2 ^ 64 ≤ right → number_place right n ≡ 0
unfolding number_place
place_none right n big = (let e : ltb right (2 ^ 64) ≡ false = le-ltb right (2 ^ 64) big in rw e refl)

pub place_some : (right n : ℕ) → right < 2 ^ 64 → number_place right n ≡ differs_at 0 (to_be_bytes w64 right) (to_be_bytes w64 n)
unfolding number_place
place_some right n small = (let e : ltb right (2 ^ 64) ≡ true = lt-ltb right (2 ^ 64) small in rw e refl)
