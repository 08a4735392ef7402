-- What stands by records.
use Rattle.std.proofs.Common.{◌≡◌, ◌≤◌, ◌<◌, ◌+◌, ◌^◌, ◌++◌, ◌∷◌, [], ℕ, Bool, true, false, List, length, Option, Some, None, Result, Ok, Err, refl, sym, ap, subst, ◌∙◌, arith}
use Rattle.std.specs.List.{AllByRecursion}
use Rattle.std.proofs.Math.Logic.{∥∥₁_elim}
use Rattle.std.proofs.Props.{props}
use Rattle.std.specs.Prelude.{◌==◌, if◌then◌else◌, nat_lt}
use Rattle.px_gatelog.specs.Format.{AllRecordsFit, LogRecord}
use Rattle.px_pieces.specs.Pieces.{Piece}
use Rattle.px_pieces.specs.Reading.{reading_of, reading_wrong}
use Rattle.px_schema.specs.Format.{greatest_count, index, standing_piece, table}
use Rattle.px_schema.specs.Fresh.{fresh_right, fresh_standing}
use Rattle.px_schema.specs.Outcomes.{AnswersRecord}
use Rattle.px_schema.specs.Records.{IsRightCatalogItem, definition_in_body, in_body, index_id, one_index, one_table, snapshot_in_body, table_id}
use Rattle.px_schema.specs.Spelled.{FitsSnapshot, standing_bytes}
use Rattle.px_schema.specs.Stands.{drawn_by, stands_after}
use Rattle.px_schema.specs.declared.fault.DefFault.{DefFault}
use Rattle.px_schema.specs.declared.fault.DefFault.TheVariants.{Memory, NotADefinition}
use Rattle.px_schema.specs.declared.item.CatalogItem.{CatalogItem}
use Rattle.px_schema.specs.declared.item.CatalogItem.TheVariants.{IndexGone, IndexIs, TableGone, TableIs}
use Rattle.px_schema.specs.declared.standing.Standing.{Standing}
use Rattle.px_schema.proofs.RecordLaws.{definition_read, definition_taken, snapshot_read, snapshot_taken}
use Rattle.px_schema.proofs.Rights.{index_numbers, snapshot_fits, table_numbers}
use Rattle.px_schema.proofs.StaysRight.{after_right}
use Rattle.px_catalog.specs.Reading.{after_item, catalogue_form, first_of, item_record, next_of, or_fresh, read_behind, read_or, snapshot_record, value_from, value_of, wrong_of}
use Rattle.px_catalog.specs.inner.Reader.{HasTaken, StandsByRecords, read_on}

-- ---- a record behind others

value_from_push : (s : Standing) (records : List LogRecord) (r : LogRecord) → value_from s (records ++ r ∷ []) ≡ read_or (value_from s records) (next_of (value_from s records) r)
value_from_push s [] r = refl
value_from_push s (x ∷ records) r = value_from_push (read_or s (next_of s x)) records r

pub value_more : (records : List LogRecord) (r : LogRecord) (s : Standing) → read_behind records r ≡ Ok s → value_of (records ++ r ∷ []) ≡ s
unfolding value_of read_behind
value_more [] r s is = ap (read_or fresh_standing) is
value_more (x ∷ before) r s is = value_from_push (read_or fresh_standing (first_of x)) before r ∙ ap (read_or (value_from (read_or fresh_standing (first_of x)) before)) is

pub behind_some : (records : List LogRecord) (r : LogRecord) (s : Standing) → (records ≡ [] → ⊥) → value_of records ≡ s → read_behind records r ≡ next_of s r
unfolding read_behind
behind_some [] r s some is = absurd (some refl)
behind_some (x ∷ before) r s some is = ap (λ (t : Standing). next_of t r) is

behind_none : (records : List LogRecord) (r : LogRecord) → records ≡ [] → read_behind records r ≡ first_of r
unfolding read_behind
behind_none [] r none = refl
behind_none (x ∷ before) r none = absurd cc

pub no_records : value_of [] ≡ fresh_standing
unfolding value_of
no_records = refl

pub not_nil : (records : List LogRecord) (r : LogRecord) → records ++ r ∷ [] ≡ [] → ⊥
not_nil [] r is = absurd cc
not_nil (x ∷ records) r is = absurd cc

-- ---- definitions and snapshots

pub next_item : (s : Standing) (d : CatalogItem) → IsRightCatalogItem s d → next_of s (item_record d) ≡ Ok (stands_after s d)
unfolding next_of
next_item s d right = ap (after_item s) (definition_read s d right)

-- the numbers of a right one are below the greatest next number
pub drawn_short : (s : Standing) (d : CatalogItem) → IsRightCatalogItem s d → AllByRecursion (λ k. k < 4294967295) (drawn_by d)
drawn_short s (TableIs t) right = table_numbers t right.0
drawn_short s (IndexIs i) right = index_numbers s.tables i right.0
drawn_short s (TableGone n) right = tt
drawn_short s (IndexGone n) right = tt

first_snapshot : (s : Standing) → standing_piece.right s → first_of (snapshot_record s) ≡ Ok s
unfolding first_of
first_snapshot s right = snapshot_read s right

-- a snapshot alone
pub value_alone : (s : Standing) → standing_piece.right s → value_of (snapshot_record s ∷ []) ≡ s
unfolding value_of
value_alone s right = ap (read_or fresh_standing) (first_snapshot s right)

pub alone_fits : (s : Standing) → standing_piece.right s → length (standing_bytes s) < 2 ^ 32 → AllRecordsFit catalogue_form [] (snapshot_record s ∷ [])
unfolding read_behind
alone_fits s right short = ((ap wrong_of (first_snapshot s right), short, tt), refl)

-- what is right is written as a snapshot
pub merely_fits : (s : Standing) → ∥ standing_piece.right s ∥₁ → FitsSnapshot s
merely_fits s right = ∥∥₁_elim right (hlevel props) (λ r. snapshot_fits s r)

pub merely_after : (s t : Standing) (d : CatalogItem) → IsRightCatalogItem s d → t ≡ stands_after s d → ∥ standing_piece.right s ∥₁ → ∥ standing_piece.right t ∥₁
merely_after s t d is same right = ∥∥₁_elim right (hlevel) (λ r. ∣ subst standing_piece.right (sym same) (after_right s d r is) ∣₁)

-- ---- what a reader answers

pub read_ok : (s t : Standing) (r : LogRecord) (d : CatalogItem) → definition_in_body s r.kind r.body ≡ Ok d → t ≡ stands_after s d → next_of s r ≡ Ok t
unfolding next_of
read_ok s t r d is same = ap (after_item s) is ∙ ap (λ (u : Standing). Ok u) (sym same)

pub answers_next : (s : Standing) (r : LogRecord) (fault : DefFault) → AnswersRecord (definition_in_body s r.kind r.body) (Err fault) → AnswersRecord (next_of s r) (Err fault)
unfolding next_of
answers_next s r (NotADefinition place) is = ap (after_item s) is
answers_next s r Memory is = tt

pub answers_first : (r : LogRecord) (result : Result Standing DefFault) → AnswersRecord (snapshot_in_body r.kind r.body) result → AnswersRecord (first_of r) result
unfolding first_of
answers_first r result is = is

pub wrong_at : (o : Option Standing) (r : LogRecord) (fault : DefFault) (place : ℕ) → fault ≡ NotADefinition place → AnswersRecord (read_on o r) (Err fault) → read_on o r ≡ Err place
wrong_at o r fault place is answers = let P : DefFault → Type 0 = λ f. AnswersRecord (read_on o r) (Err f) in subst P is answers

pub on_before : (o b : Option Standing) (r : LogRecord) (e : Result Standing ℕ) → b ≡ o → read_on b r ≡ e → read_on o r ≡ e
on_before o b r e same is = ap (λ (x : Option Standing). read_on x r) (sym same) ∙ is

item_of : (s t : Standing) (e : Result CatalogItem ℕ) → after_item s e ≡ Ok t → (d : CatalogItem) × ((e ≡ Ok d) × (t ≡ stands_after s d))
item_of s t (Ok d) is = (d, (refl, (cc)))
item_of s t (Err place) is = absurd cc

right_next : (s t : Standing) (r : LogRecord) → standing_piece.right s → next_of s r ≡ Ok t → standing_piece.right t
unfolding next_of
right_next s t r right is =
    let read = item_of s t (definition_in_body s r.kind r.body) is in
    let taken = definition_taken s r.kind r.body read.0 read.1.0 in
    subst standing_piece.right (sym read.1.1) (after_right s read.0 right taken.1)

right_first : (t : Standing) (r : LogRecord) → first_of r ≡ Ok t → standing_piece.right t
unfolding first_of
right_first t r is = (snapshot_taken r.kind r.body t is).1

pub taken_more : (o : Option Standing) (records : List LogRecord) (r : LogRecord) (s : Standing) → HasTaken o records → read_on o r ≡ Ok s → StandsByRecords (records ++ r ∷ []) s
taken_more None records r s none is = record { value = value_more records r s (behind_none records r none ∙ is); some = not_nil records r; right = right_first s r is }
taken_more (Some t) records r s by is = record { value = value_more records r s (behind_some records r t by.some by.value ∙ is); some = not_nil records r; right = right_next t s r by.right is }

pub tested_by : (o : Option Standing) (records : List LogRecord) (r : LogRecord) (e : Result Standing ℕ) → HasTaken o records → read_on o r ≡ e → wrong_of e ≡ wrong_of (read_behind records r)
tested_by None records r e none is = ap wrong_of (sym is ∙ sym (behind_none records r none))
tested_by (Some t) records r e by is = ap wrong_of (sym is ∙ sym (behind_some records r t by.some by.value))

-- its place is in the record

in_body_within : {T U : Type 0} (f : T → U) (v : Piece T) (body : List ℕ) (p : ℕ) → in_body f (reading_of v body) ≡ Err p → p ≤ 5 + length body
in_body_within {T} {U} f v body p is = by (reading_of v body) refl is
  where
    by : (e : Result T ℕ) → reading_of v body ≡ e → in_body f e ≡ Err p → p ≤ 5 + length body
    by (Ok x) read is = absurd cc
    by (Err q) read is =
        let inside = (reading_wrong v body q read).inside in
        let same : 5 + q ≡ p = (let it : Err (5 + q) ≡ Err p = is in cc) in
        omega (arith, inside, same)

first_within : (r : LogRecord) (p : ℕ) → first_of r ≡ Err p → p ≤ 5 + length r.body
unfolding first_of
first_within r p is = by (r.kind == 1) is
  where
    by : (b : Bool) → (if b then in_body (λ (s : Standing). s) (reading_of standing_piece r.body) else Err 0) ≡ Err p → p ≤ 5 + length r.body
    by true is = in_body_within (λ (s : Standing). s) standing_piece r.body p is
    by false is = (let same : 0 ≡ p = (let it : Err 0 ≡ Err p = is in cc) in omega arith)

item_within : (s : Standing) (kind : ℕ) (body : List ℕ) (p : ℕ) → definition_in_body s kind body ≡ Err p → p ≤ 5 + length body
item_within s kind body p is = two (kind == 2) is
  where
    zero_is : {U : Type 0} (e : Result U ℕ) → e ≡ Err 0 → e ≡ Err p → p ≤ 5 + length body
    zero_is e none is = (let same : 0 ≡ p = (let it : Err 0 ≡ Err p = sym none ∙ is in cc) in omega arith)

    five : (b : Bool) → (if b then in_body (λ n. IndexGone (index_id n)) (reading_of (one_index s) body) else Err 0) ≡ Err p → p ≤ 5 + length body
    five true is = in_body_within (λ n. IndexGone (index_id n)) (one_index s) body p is
    five false is = zero_is (Err 0) refl is

    four : (b : Bool) → (if b then in_body (λ n. TableGone (table_id n)) (reading_of (one_table s) body) else (if kind == 5 then in_body (λ n. IndexGone (index_id n)) (reading_of (one_index s) body) else Err 0)) ≡ Err p → p ≤ 5 + length body
    four true is = in_body_within (λ n. TableGone (table_id n)) (one_table s) body p is
    four false is = five (kind == 5) is

    room_index : (b : Bool) → (if b then in_body IndexIs (reading_of (index s.tables) body) else Err 0) ≡ Err p → p ≤ 5 + length body
    room_index true is = in_body_within IndexIs (index s.tables) body p is
    room_index false is = zero_is (Err 0) refl is

    three : (b : Bool) → (if b then (if nat_lt (length s.indexes) greatest_count then in_body IndexIs (reading_of (index s.tables) body) else Err 0) else (if kind == 4 then in_body (λ n. TableGone (table_id n)) (reading_of (one_table s) body)
        else (if kind == 5 then in_body (λ n. IndexGone (index_id n)) (reading_of (one_index s) body) else Err 0))) ≡ Err p → p ≤ 5 + length body
    three true is = room_index (nat_lt (length s.indexes) greatest_count) is
    three false is = four (kind == 4) is

    room_table : (b : Bool) → (if b then in_body TableIs (reading_of table body) else Err 0) ≡ Err p → p ≤ 5 + length body
    room_table true is = in_body_within TableIs table body p is
    room_table false is = zero_is (Err 0) refl is

    two : (b : Bool) → (if b then (if nat_lt (length s.tables) greatest_count then in_body TableIs (reading_of table body) else Err 0) else (if kind == 3 then (if nat_lt (length s.indexes) greatest_count then in_body IndexIs (reading_of (index s.tables) body) else Err 0)
        else (if kind == 4 then in_body (λ n. TableGone (table_id n)) (reading_of (one_table s) body) else (if kind == 5 then in_body (λ n. IndexGone (index_id n)) (reading_of (one_index s) body) else Err 0)))) ≡ Err p → p ≤ 5 + length body
    two true is = room_table (nat_lt (length s.tables) greatest_count) is
    two false is = three (kind == 3) is

after_item_err : (s : Standing) (e : Result CatalogItem ℕ) (p : ℕ) → after_item s e ≡ Err p → e ≡ Err p
after_item_err s (Ok d) p is = absurd cc
after_item_err s (Err q) p is = (let same : q ≡ p = (let it : Err q ≡ Err p = is in cc) in ap (λ (n : ℕ). Err n) same)

next_within : (s : Standing) (r : LogRecord) (p : ℕ) → next_of s r ≡ Err p → p ≤ 5 + length r.body
unfolding next_of
next_within s r p is = item_within s r.kind r.body p (after_item_err s (definition_in_body s r.kind r.body) p is)

pub read_within : (o : Option Standing) (r : LogRecord) (p : ℕ) → read_on o r ≡ Err p → p ≤ 5 + length r.body
read_within None r p is = first_within r p is
read_within (Some s) r p is = next_within s r p is

-- ---- what stands behind all that was read

pub taken_value : (o : Option Standing) (records : List LogRecord) → HasTaken o records → value_of records ≡ or_fresh o
taken_value None records none = ap value_of none ∙ no_records
taken_value (Some s) records by = by.value

pub taken_right : (o : Option Standing) (records : List LogRecord) → HasTaken o records → standing_piece.right (or_fresh o)
taken_right None records none = fresh_right
taken_right (Some s) records by = by.right
