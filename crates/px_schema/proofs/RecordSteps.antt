-- How records are read.
use Rattle.std.proofs.Common.{◌≡◌, ◌<◌, ◌≤◌, ◌+◌, ◌∷◌, [], ℕ, Bool, true, false, List, length, drop, Result, Ok, Err, refl, sym, ap, subst, ◌∙◌, arith, length-drop}
use Rattle.std.specs.Prelude.{◌-◌, ◌==◌, if◌then◌else◌}
use Rattle.std.proofs.lemmas.List.{drop_all}
use Rattle.std.proofs.lemmas.Bool.{eqb-true, eqb-false}
use Rattle.px_pieces.specs.Pieces.{Piece}
use Rattle.px_pieces.specs.Reading.{no_rest, reading_of}
use Rattle.px_pieces.specs.Taking.{IsStoppedAt, IsTakenAt}
use Rattle.px_schema.specs.declared.fault.DefFault.{DefFault}
use Rattle.px_schema.specs.declared.fault.DefFault.TheVariants.{Memory, NotADefinition}
use Rattle.px_schema.specs.Outcomes.{AnswersRecord, IsWithin, ReadsPiece, in_record_of, whole_of}
use Rattle.px_schema.specs.Records.{in_body}

some_left : (l : List ℕ) → 0 < length l → (b : ℕ) × (rest : List ℕ) × (l ≡ b ∷ rest)
some_left [] lt = absurd (omega arith)
some_left (b ∷ l) lt = (b, l, refl)

module _ {T : Type 0} (v : Piece T) (bytes : List ℕ) where
  taken_all : (x : T) (end : ℕ) → IsTakenAt v bytes 0 x end → end ≡ length bytes → reading_of v bytes ≡ Ok x
  taken_all x end taken is = ap (no_rest (length bytes)) (taken.read ∙ ap (λ (l : List ℕ). Ok (x, l)) (drop_all end bytes (omega arith)))

  taken_part : (x : T) (end : ℕ) → IsTakenAt v bytes 0 x end → (end ≡ length bytes → ⊥) → reading_of v bytes ≡ Err end
  taken_part x end taken not =
      let left = length-drop end bytes in
      let more = some_left (drop end bytes) (omega (arith, left, taken.within)) in
      let same : length bytes - length (more.0 ∷ more.1) ≡ end = (let e = ap length more.2 in omega (arith, left, taken.within, e)) in
      ap (no_rest (length bytes)) (taken.read ∙ ap (λ (l : List ℕ). Ok (x, l)) more.2) ∙ ap (λ (n : ℕ). Err n) same

  stopped_all : (place : ℕ) → IsStoppedAt v bytes 0 place → reading_of v bytes ≡ Err place
  stopped_all place stopped = ap (no_rest (length bytes)) stopped.read ∙ ap (λ (n : ℕ). Err n) (let e : place - 0 ≡ place = omega arith in e)

  -- what a reader at the beginning answers, where the value has to take up all
  pub whole_answers : (r : Result (T × ℕ) DefFault) → ReadsPiece v bytes 0 r → AnswersRecord (reading_of v bytes) (whole_of (length bytes) r)
  whole_answers (Ok x) is = by (x.1 == length bytes) refl
    where
      by : (b : Bool) → (x.1 == length bytes) ≡ b → AnswersRecord (reading_of v bytes) (if b then Ok x.0 else Err (NotADefinition x.1))
      by true same = taken_all x.0 x.1 is (eqb-true x.1 (length bytes) same)
      by false other = taken_part x.0 x.1 is (eqb-false x.1 (length bytes) other)
  whole_answers (Err (NotADefinition place)) is = stopped_all place is
  whole_answers (Err Memory) is = tt

  pub whole_within : (r : Result (T × ℕ) DefFault) → ReadsPiece v bytes 0 r → length bytes ≤ 4294967295 → IsWithin 4294967295 (whole_of (length bytes) r)
  whole_within (Ok x) is short = by (x.1 == length bytes)
    where
      by : (b : Bool) → IsWithin 4294967295 (if b then Ok x.0 else Err (NotADefinition x.1))
      by true = tt
      by false = omega (arith, is.within, short)
  whole_within (Err (NotADefinition place)) is short = let le = v.inside bytes (place - 0) is.read in omega (arith, le, short)
  whole_within (Err Memory) is short = tt

  -- and in a record
  pub record_answers : (r : Result T DefFault) → AnswersRecord (reading_of v bytes) r → AnswersRecord (in_body (λ (x : T). x) (reading_of v bytes)) (in_record_of r)
  record_answers (Ok x) is = ap (in_body (λ (x : T). x)) is
  record_answers (Err (NotADefinition place)) is = ap (in_body (λ (x : T). x)) is
  record_answers (Err Memory) is = tt

  pub record_is : (r : Result (T × ℕ) DefFault) (w out : Result T DefFault) → ReadsPiece v bytes 0 r → w ≡ whole_of (length bytes) r → out ≡ in_record_of w → AnswersRecord (in_body (λ (x : T). x) (reading_of v bytes)) out
  record_is r w out is one two =
      subst (AnswersRecord (in_body (λ (x : T). x) (reading_of v bytes))) (sym two)
      (subst (λ (w : Result T DefFault). AnswersRecord (in_body (λ (x : T). x) (reading_of v bytes)) (in_record_of w)) (sym one) (record_answers (whole_of (length bytes) r) (whole_answers r is)))

  pub is_within : (r : Result (T × ℕ) DefFault) (w : Result T DefFault) → ReadsPiece v bytes 0 r → w ≡ whole_of (length bytes) r → length bytes < 4294967296 → IsWithin 4294967295 w
  is_within r w is one short = subst (IsWithin 4294967295) (sym one) (whole_within r is (omega arith))

-- another value of the same reading
pub as_answers_ok : {T U : Type 0} (f : T → U) (e : Result T ℕ) (x : T) → in_body (λ (x : T). x) e ≡ Ok x → in_body f e ≡ Ok (f x)
as_answers_ok f (Ok y) x is = ap (λ (z : _). Ok (f z)) (let s : y ≡ x = cc in s)
as_answers_ok f (Err p) x is = absurd cc

pub as_answers_err : {T U : Type 0} (f : T → U) (e : Result T ℕ) (fault : DefFault) → AnswersRecord (in_body (λ (x : T). x) e) (Err fault) → AnswersRecord (in_body f e) (Err fault)
as_answers_err f (Ok y) (NotADefinition place) is = absurd cc
as_answers_err f (Err p) (NotADefinition place) is = (let s : 5 + p ≡ place = cc in ap (λ (n : ℕ). Err n) s)
as_answers_err f e Memory is = tt
