-- How the readers of names, columns and parts of keys go on.
use Rattle.std.proofs.Common.{◌≡◌, ◌+◌, ℕ, zero, suc, Bool, List, length, refl, sym, ap, subst, ◌∙◌, arith}
use Rattle.std.specs.Prelude.{◌==◌}
use Rattle.px_values.specs.Types.{type_code}
use Rattle.px_values.specs.declared.column.ColType.{ColType}
use Rattle.px_values.specs.declared.column.ColType.TheVariants.{TinyInt, SmallInt, Integer, BigInt, UnsignedInt, UnsignedLong, Boolean, Varchar}
use Rattle.px_values.specs.declared.order.Direction.{Direction}
use Rattle.px_values.specs.declared.order.Direction.TheVariants.{Descending}
use Rattle.px_tables.specs.declared.index.IndexState.{IndexState}
use Rattle.px_tables.specs.declared.index.IndexState.TheVariants.{Disabled}
use Rattle.px_pieces.specs.Pieces.{as_value, followed_by}
use Rattle.px_pieces.specs.Bytes.{one_byte}
use Rattle.px_pieces.specs.Chains.{counted_back, measured}
use Rattle.px_pieces.specs.Taking.{IsStoppedAt, IsTakenAt}
use Rattle.px_pieces.proofs.Takes.{stopped_as, stopped_first, stopped_second, taken_as, taken_then}
use Rattle.px_schema.specs.declared.fault.DefFault.{DefFault}
use Rattle.px_schema.specs.Outcomes.{ReadsPiece}
use Rattle.px_schema.specs.Texts.{text, text_long}
use Rattle.px_schema.specs.Parts.{bit_back, bit_of, column_piece, column_type_piece, direction_back, direction_code, direction_of, direction_piece, flag, name_piece, part_piece, place, some_count, state, state_back, state_code, state_of_code, type_back, type_of}
use Rattle.px_schema.proofs.Joins.{as_fault, first_reads}
use Rattle.std.specs.Prelude.{Err}

type_there : (ty : ColType) → type_of (type_code ty) ≡ ty
type_there TinyInt = refl
type_there SmallInt = refl
type_there Integer = refl
type_there BigInt = refl
type_there UnsignedInt = refl
type_there UnsignedLong = refl
type_there Boolean = refl
type_there Varchar = refl

module _ (bytes : List ℕ) (at : ℕ) where
  pub flag_taken : (b : ℕ) → IsTakenAt (one_byte 0 2) bytes at b (at + 1) → IsTakenAt flag bytes at (b == 1) (at + 1)
  unfolding flag
  flag_taken b taken = taken_as bytes at (λ b. b == 1) bit_of (one_byte 0 2) bit_back b (at + 1) taken

  pub flag_stopped : (place : ℕ) → IsStoppedAt (one_byte 0 2) bytes at place → IsStoppedAt flag bytes at place
  unfolding flag
  flag_stopped place stopped = stopped_as bytes at (λ b. b == 1) bit_of (one_byte 0 2) bit_back place stopped

  pub type_taken : (b : ℕ) (ty : ColType) → type_code ty ≡ b → IsTakenAt (one_byte 1 9) bytes at b (at + 1) → IsTakenAt column_type_piece bytes at ty (at + 1)
  unfolding column_type_piece
  type_taken b ty is taken =
      let same : type_of b ≡ ty = ap type_of (sym is) ∙ type_there ty in
      subst (λ (ty : ColType). IsTakenAt (as_value type_of type_code (one_byte 1 9) type_back) bytes at ty (at + 1)) same (taken_as bytes at type_of type_code (one_byte 1 9) type_back b (at + 1) taken)

  pub type_stopped : (place : ℕ) → IsStoppedAt (one_byte 1 9) bytes at place → IsStoppedAt column_type_piece bytes at place
  unfolding column_type_piece
  type_stopped place stopped = stopped_as bytes at type_of type_code (one_byte 1 9) type_back place stopped

  pub direction_taken : (b : ℕ) (d : Direction) → direction_of b ≡ d → IsTakenAt (one_byte 0 2) bytes at b (at + 1) → IsTakenAt direction_piece bytes at d (at + 1)
  unfolding direction_piece
  direction_taken b d same taken =
      subst (λ (d : Direction). IsTakenAt (as_value direction_of direction_code (one_byte 0 2) direction_back) bytes at d (at + 1)) same (taken_as bytes at direction_of direction_code (one_byte 0 2) direction_back b (at + 1) taken)

  pub direction_stopped : (place : ℕ) → IsStoppedAt (one_byte 0 2) bytes at place → IsStoppedAt direction_piece bytes at place
  unfolding direction_piece
  direction_stopped place stopped = stopped_as bytes at direction_of direction_code (one_byte 0 2) direction_back place stopped

  pub state_taken : (b : ℕ) (s : IndexState) → state_of_code b ≡ s → IsTakenAt (one_byte 0 3) bytes at b (at + 1) → IsTakenAt state bytes at s (at + 1)
  unfolding state
  state_taken b s same taken =
      subst (λ (s : IndexState). IsTakenAt (as_value state_of_code state_code (one_byte 0 3) state_back) bytes at s (at + 1)) same (taken_as bytes at state_of_code state_code (one_byte 0 3) state_back b (at + 1) taken)

  pub state_stopped : (place : ℕ) → IsStoppedAt (one_byte 0 3) bytes at place → IsStoppedAt state bytes at place
  unfolding state
  state_stopped place stopped = stopped_as bytes at state_of_code state_code (one_byte 0 3) state_back place stopped

  pub name_taken : (size : ℕ) (l : List ℕ) → IsTakenAt (one_byte 1 256) bytes at size (at + 1) → IsTakenAt (text size) bytes (at + 1) l (at + 1 + size) → IsTakenAt name_piece bytes at l (at + 1 + size)
  unfolding name_piece measured some_count
  name_taken size l first second =
      taken_as bytes at (λ (p : ℕ × List ℕ). p.1) (λ l. (length l, l)) (followed_by (one_byte 1 256) text) (counted_back text text_long (one_byte 1 256)) (size, l) (at + 1 + size)
      (taken_then bytes at (one_byte 1 256) text size l (at + 1) (at + 1 + size) first second)

  pub name_short : (place : ℕ) → IsStoppedAt (one_byte 1 256) bytes at place → IsStoppedAt name_piece bytes at place
  unfolding name_piece measured some_count
  name_short place stopped =
      stopped_as bytes at (λ (p : ℕ × List ℕ). p.1) (λ l. (length l, l)) (followed_by (one_byte 1 256) text) (counted_back text text_long (one_byte 1 256)) place (stopped_first bytes at (one_byte 1 256) text place stopped)

  pub name_wrong : (size place : ℕ) → IsTakenAt (one_byte 1 256) bytes at size (at + 1) → IsStoppedAt (text size) bytes (at + 1) place → IsStoppedAt name_piece bytes at place
  unfolding name_piece measured some_count
  name_wrong size place first stopped =
      stopped_as bytes at (λ (p : ℕ × List ℕ). p.1) (λ l. (length l, l)) (followed_by (one_byte 1 256) text) (counted_back text text_long (one_byte 1 256)) place
      (stopped_second bytes at (one_byte 1 256) text size (at + 1) place first stopped)

  module _ (n : ℕ) where
    pub part_taken : (c : ℕ) (d : Direction) → IsTakenAt (place n) bytes at c (at + 1) → IsTakenAt direction_piece bytes (at + 1) d (at + 1 + 1) → IsTakenAt (part_piece n) bytes at (record { column = c; direction = d }) (at + 2)
    unfolding part_piece
    part_taken c d first second =
        let two : at + 1 + 1 ≡ at + 2 = omega arith in
        taken_as bytes at (λ (x : ℕ × Direction). record { column = x.0; direction = x.1 }) (λ p. (p.column, p.direction)) (followed_by (place n) (λ c. direction_piece)) (λ x right. refl) (c, d) (at + 2)
        (taken_then bytes at (place n) (λ c. direction_piece) c d (at + 1) (at + 2) first (subst (λ (e : ℕ). IsTakenAt direction_piece bytes (at + 1) d e) two second))

    pub part_first : (at' : ℕ) → IsStoppedAt (place n) bytes at at' → IsStoppedAt (part_piece n) bytes at at'
    unfolding part_piece
    part_first p stopped = stopped_as bytes at (λ (x : ℕ × Direction). record { column = x.0; direction = x.1 }) (λ p. (p.column, p.direction)) (followed_by (place n) (λ c. direction_piece)) (λ x right. refl) p
        (stopped_first bytes at (place n) (λ c. direction_piece) p stopped)

    pub part_second : (c at' : ℕ) → IsTakenAt (place n) bytes at c (at + 1) → IsStoppedAt direction_piece bytes (at + 1) at' → IsStoppedAt (part_piece n) bytes at at'
    unfolding part_piece
    part_second c p first stopped = stopped_as bytes at (λ (x : ℕ × Direction). record { column = x.0; direction = x.1 }) (λ p. (p.column, p.direction)) (followed_by (place n) (λ c. direction_piece)) (λ x right. refl) p
        (stopped_second bytes at (place n) (λ c. direction_piece) c (at + 1) p first stopped)

  pub typed_taken : (ty : ColType) (b : Bool) → IsTakenAt column_type_piece bytes at ty (at + 1) → IsTakenAt flag bytes (at + 1) b (at + 1 + 1) → IsTakenAt (followed_by column_type_piece (λ c. flag)) bytes at (ty, b) (at + 2)
  typed_taken ty b first second =
      let two : at + 1 + 1 ≡ at + 2 = omega arith in
      taken_then bytes at column_type_piece (λ c. flag) ty b (at + 1) (at + 2) first (subst (λ (e : ℕ). IsTakenAt flag bytes (at + 1) b e) two second)

  pub column_taken : (n : List ℕ) (mid : ℕ) (ty : ColType) (b : Bool) → IsTakenAt name_piece bytes at n mid → IsTakenAt (followed_by column_type_piece (λ c. flag)) bytes mid (ty, b) (mid + 2)
      → IsTakenAt column_piece bytes at (record { name = n; column_type = ty; not_null = b }) (mid + 2)
  unfolding column_piece
  column_taken n mid ty b first second =
      taken_as bytes at (λ (x : List ℕ × (ColType × Bool)). record { name = x.0; column_type = x.1.0; not_null = x.1.1 }) (λ c. (c.name, (c.column_type, c.not_null)))
      (followed_by name_piece (λ n. followed_by column_type_piece (λ c. flag))) (λ x right. refl) (n, (ty, b)) (mid + 2)
      (taken_then bytes at name_piece (λ n. followed_by column_type_piece (λ c. flag)) n (ty, b) mid (mid + 2) first second)

  pub column_first : (fault : DefFault) → ReadsPiece name_piece bytes at (Err fault) → ReadsPiece column_piece bytes at (Err fault)
  unfolding column_piece
  column_first fault is =
      as_fault (λ (x : List ℕ × (ColType × Bool)). record { name = x.0; column_type = x.1.0; not_null = x.1.1 }) (λ c. (c.name, (c.column_type, c.not_null)))
      (followed_by name_piece (λ n. followed_by column_type_piece (λ c. flag))) (λ x right. refl) bytes at fault (first_reads name_piece (λ n. followed_by column_type_piece (λ c. flag)) bytes at fault is)

  pub column_second : (n : List ℕ) (mid p : ℕ) → IsTakenAt name_piece bytes at n mid → IsStoppedAt (followed_by column_type_piece (λ c. flag)) bytes mid p → IsStoppedAt column_piece bytes at p
  unfolding column_piece
  column_second n mid p first stopped =
      stopped_as bytes at (λ (x : List ℕ × (ColType × Bool)). record { name = x.0; column_type = x.1.0; not_null = x.1.1 }) (λ c. (c.name, (c.column_type, c.not_null)))
      (followed_by name_piece (λ n. followed_by column_type_piece (λ c. flag))) (λ x right. refl) p (stopped_second bytes at name_piece (λ n. followed_by column_type_piece (λ c. flag)) n mid p first stopped)

pub later_descends : (b : ℕ) → (b ≡ 0 → ⊥) → direction_of b ≡ Descending
later_descends zero some = absurd (some refl)
later_descends (suc b) some = refl

pub later_disabled : (b : ℕ) → (b ≡ 0 → ⊥) → (b ≡ 1 → ⊥) → state_of_code b ≡ Disabled
later_disabled zero some more = absurd (some refl)
later_disabled (suc zero) some more = absurd (more refl)
later_disabled (suc (suc b)) some more = refl
