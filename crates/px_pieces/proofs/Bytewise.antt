-- How the readers of bytes and numbers go on.
use Rattle.std.proofs.Common.{◌≡◌, ◌<◌, ◌≤◌, ◌+◌, ◌*◌, ◌/◌, ◌^◌, ◌++◌, ◌∷◌, [], ℕ, zero, suc, Bool, true, false, List, length, get_or, take, drop, inl, inr, refl, sym, ap, subst, ◌∙◌, arith}
use Rattle.std.specs.Prelude.{◌-◌, ◌&&◌, nat_le, nat_lt}
use Rattle.std.proofs.lemmas.Bool.{cases_lt, le-leb, lt-leb, lt-ltb, le-ltb}
use Rattle.std.proofs.lemmas.List.{drop_more}
use Rattle.std.proofs.Math.Nat.{div-div-eq-div-mul, div-le_self, pow-suc}
use Rattle.px_pieces.specs.Pieces.{Piece, byte}
use Rattle.px_pieces.specs.Bytes.{bytes as any_bytes, is_byte_within, one_byte, within_true}
use Rattle.px_pieces.specs.Chains.{chain, repeat}
use Rattle.px_pieces.specs.Numbers.{allowed_number_piece, begins_one, digit_ok, digits, digits_back, number_on, number_piece, one_byte_more, one_of_piece, stays_up_to}
use Rattle.px_pieces.specs.Taking.{IsPartWay, IsStoppedAt, IsTakenAt}
use Rattle.px_pieces.proofs.Takes.{chain_more, chain_none, chain_stopped, chain_stopped_later, part_done, part_more, part_none, part_stopped, stopped_as, stopped_byte, stopped_end, taken_as, taken_byte}

-- ---- bytes

within_low : (least end b : ℕ) → b < least → is_byte_within least end b ≡ false
within_low least end b low = ap (λ (t : Bool). t && nat_lt b end) (lt-leb least b low)

within_high : (least end b : ℕ) → end ≤ b → is_byte_within least end b ≡ false
within_high least end b high = by (nat_le least b) (le-ltb b end high)
  where
    by : (t : Bool) → nat_lt b end ≡ false → (t && nat_lt b end) ≡ false
    by true is = is
    by false is = refl

module _ (bytes : List ℕ) (at : ℕ) (least end : ℕ) where
  pub one_byte_taken : at < length bytes → least ≤ get_or bytes at 0 → get_or bytes at 0 < end → IsTakenAt (one_byte least end) bytes at (get_or bytes at 0) (at + 1)
  unfolding one_byte
  one_byte_taken lt low high = taken_byte bytes at (is_byte_within least end) lt (within_true least end (get_or bytes at 0) low high)

  pub one_byte_low : at < length bytes → get_or bytes at 0 < least → IsStoppedAt (one_byte least end) bytes at at
  unfolding one_byte
  one_byte_low lt low = stopped_byte bytes at (is_byte_within least end) lt (within_low least end (get_or bytes at 0) low)

  pub one_byte_high : at < length bytes → end ≤ get_or bytes at 0 → IsStoppedAt (one_byte least end) bytes at at
  unfolding one_byte
  one_byte_high lt high = stopped_byte bytes at (is_byte_within least end) lt (within_high least end (get_or bytes at 0) high)

  pub one_byte_end : length bytes ≤ at → IsStoppedAt (one_byte least end) bytes at at
  unfolding one_byte
  one_byte_end le = stopped_end bytes at (is_byte_within least end) le

module _ (bytes : List ℕ) (small : (i : ℕ) → get_or bytes i 0 < 256) where
  abbrev next_byte : ℕ → Unit {0} → Piece ℕ
  next_byte left u = one_byte 0 256

  repeat_taken : (n at : ℕ) → at + n ≤ length bytes → IsTakenAt (chain 0 next_byte (λ (u : Unit {0}) (x : ℕ). u) n tt) bytes at (take n (drop at bytes)) (at + n)
  repeat_taken zero at le = subst (λ (e : ℕ). IsTakenAt (chain 0 next_byte (λ (u : Unit {0}) (x : ℕ). u) zero tt) bytes at [] e) (let e : at ≡ at + 0 = omega arith in e) (chain_none 0 next_byte (λ (u : Unit {0}) (x : ℕ). u) bytes tt at (omega arith))
  repeat_taken (suc n) at le =
      let others : at + 1 + n ≡ at + suc n = omega arith in
      let here : get_or bytes at 0 ∷ take n (drop (at + 1) bytes) ≡ take (suc n) (drop at bytes) = ap (take (suc n)) (sym (drop_more bytes at 0 (omega arith))) in
      subst (λ (l : List ℕ). IsTakenAt (chain 0 next_byte (λ (u : Unit {0}) (x : ℕ). u) (suc n) tt) bytes at l (at + suc n)) here
      (chain_more 0 next_byte (λ (u : Unit {0}) (x : ℕ). u) bytes n tt at (get_or bytes at 0) (take n (drop (at + 1) bytes)) (at + 1) (at + suc n)
      (one_byte_taken bytes at 0 256 (omega arith) (omega arith) (small at))
      (subst (λ (e : ℕ). IsTakenAt (chain 0 next_byte (λ (u : Unit {0}) (x : ℕ). u) n tt) bytes (at + 1) (take n (drop (at + 1) bytes)) e) others (repeat_taken n (at + 1) (omega arith))))

  repeat_stopped : (n at : ℕ) → at ≤ length bytes → length bytes < at + n → IsStoppedAt (chain 0 next_byte (λ (u : Unit {0}) (x : ℕ). u) n tt) bytes at (length bytes)
  repeat_stopped zero at le short = absurd (omega arith)
  repeat_stopped (suc n) at le short = elim (cases_lt at (length bytes)) [
    | inl lt ↦ chain_stopped_later 0 next_byte (λ (u : Unit {0}) (x : ℕ). u) bytes n tt at (get_or bytes at 0) (at + 1) (length bytes) (one_byte_taken bytes at 0 256 lt (omega arith) (small at)) (repeat_stopped n (at + 1) (omega arith) (omega arith))
    | inr ge ↦
        let same : at ≡ length bytes = omega arith in
        chain_stopped 0 next_byte (λ (u : Unit {0}) (x : ℕ). u) bytes n tt at (length bytes) (subst (λ (p : ℕ). IsStoppedAt (one_byte 0 256) bytes at p) same (one_byte_end bytes at 0 256 (omega arith)))
  ]

  pub bytes_taken : (n at : ℕ) → at + n ≤ length bytes → IsTakenAt (any_bytes n) bytes at (take n (drop at bytes)) (at + n)
  unfolding any_bytes repeat
  bytes_taken n at le = repeat_taken n at le

  pub bytes_stopped : (n at : ℕ) → at ≤ length bytes → length bytes < at + n → IsStoppedAt (any_bytes n) bytes at (length bytes)
  unfolding any_bytes repeat
  bytes_stopped n at le short = repeat_stopped n at le short

-- ---- numbers

number_on_push : (v : ℕ) (xs : List ℕ) (b : ℕ) → number_on v (xs ++ b ∷ []) ≡ 256 * number_on v xs + b
number_on_push v [] b = refl
number_on_push v (x ∷ xs) b = number_on_push (256 * v + x) xs b

-- so many bytes of a number were taken, and it is this so far
pub record IsNumberPart (may : ℕ → ℕ → Bool) (size : ℕ) (bytes : List ℕ) (at taken value : ℕ) : Type 0 where
  pub digits : List ℕ
  pub way : IsPartWay 0 (λ left v. byte (digit_ok may left v)) one_byte_more size 0 bytes at digits (size - taken) value (at + taken)
  pub is : number_on 0 digits ≡ value

module _ (may : ℕ → ℕ → Bool) (size : ℕ) (bytes : List ℕ) (at : ℕ) where
  pub number_start : at ≤ length bytes → IsNumberPart may size bytes at 0 0
  number_start le = record {
    digits = [];
    way = subst (λ (n : ℕ). IsPartWay 0 (λ left v. byte (digit_ok may left v)) one_byte_more size 0 bytes at [] n 0 (at + 0)) (let e : size ≡ size - 0 = omega arith in e)
        (subst (λ (n : ℕ). IsPartWay 0 (λ left v. byte (digit_ok may left v)) one_byte_more size 0 bytes at [] size 0 n) (let e : at ≡ at + 0 = omega arith in e) (part_none 0 (λ left v. byte (digit_ok may left v)) one_byte_more bytes size 0 at le));
    is = refl;
  }

  module _ (taken value : ℕ) (part : IsNumberPart may size bytes at taken value) (before : taken < size) where
    left_is : size - taken ≡ suc (size - 1 - taken)
    left_is = omega arith

    pub number_more : at + taken < length bytes → get_or bytes (at + taken) 0 < 256 → may (size - 1 - taken) (value * 256 + get_or bytes (at + taken) 0) ≡ true → IsNumberPart may size bytes at (taken + 1) (value * 256 + get_or bytes (at + taken) 0)
    number_more lt small allowed =
        let b = get_or bytes (at + taken) 0 in
        let next : 256 * value + b ≡ value * 256 + b = omega arith in
        let left : size - 1 - taken ≡ size - (taken + 1) = omega arith in
        let place : at + taken + 1 ≡ at + (taken + 1) = omega arith in
        let ok : digit_ok may (size - 1 - taken) value b ≡ true = ap (λ (t : Bool). t && may (size - 1 - taken) (256 * value + b)) (lt-ltb b 256 small) ∙ ap (may (size - 1 - taken)) next ∙ allowed in
        let way = part_more 0 (λ left v. byte (digit_ok may left v)) one_byte_more bytes size 0 at part.digits (size - taken) (size - 1 - taken) value (at + taken) b (at + taken + 1) left_is part.way (taken_byte bytes (at + taken) (digit_ok may (size - 1 - taken) value) lt ok) in
        record {
          digits = part.digits ++ b ∷ [];
          way = subst (λ (n : ℕ). IsPartWay 0 (λ left v. byte (digit_ok may left v)) one_byte_more size 0 bytes at (part.digits ++ b ∷ []) n (value * 256 + b) (at + (taken + 1))) left
              (subst (λ (v : ℕ). IsPartWay 0 (λ left v. byte (digit_ok may left v)) one_byte_more size 0 bytes at (part.digits ++ b ∷ []) (size - 1 - taken) v (at + (taken + 1))) next
              (subst (λ (p : ℕ). IsPartWay 0 (λ left v. byte (digit_ok may left v)) one_byte_more size 0 bytes at (part.digits ++ b ∷ []) (size - 1 - taken) (256 * value + b) p) place way));
          is = number_on_push 0 part.digits b ∙ ap (λ (m : ℕ). 256 * m + b) part.is ∙ next;
        }

    stop_at : IsStoppedAt (byte (digit_ok may (size - 1 - taken) value)) bytes (at + taken) (at + taken) → IsStoppedAt (allowed_number_piece may size) bytes at (at + taken)
    unfolding allowed_number_piece digits
    stop_at stopped = stopped_as bytes at (number_on 0) _ (digits may size 0) (digits_back may size) (at + taken)
        (part_stopped 0 (λ left v. byte (digit_ok may left v)) one_byte_more bytes size 0 at part.digits (size - taken) (size - 1 - taken) value (at + taken) (at + taken) left_is part.way stopped)

    pub number_wrong : at + taken < length bytes → get_or bytes (at + taken) 0 < 256 → may (size - 1 - taken) (value * 256 + get_or bytes (at + taken) 0) ≡ false → IsStoppedAt (allowed_number_piece may size) bytes at (at + taken)
    number_wrong lt small denied =
        let b = get_or bytes (at + taken) 0 in
        let next : 256 * value + b ≡ value * 256 + b = omega arith in
        let not : digit_ok may (size - 1 - taken) value b ≡ false = ap (λ (t : Bool). t && may (size - 1 - taken) (256 * value + b)) (lt-ltb b 256 small) ∙ ap (may (size - 1 - taken)) next ∙ denied in
        stop_at (stopped_byte bytes (at + taken) (digit_ok may (size - 1 - taken) value) lt not)

    pub number_cut : length bytes ≤ at + taken → IsStoppedAt (allowed_number_piece may size) bytes at (at + taken)
    number_cut le = stop_at (stopped_end bytes (at + taken) (digit_ok may (size - 1 - taken) value) le)

  pub number_done : (value : ℕ) → IsNumberPart may size bytes at size value → IsTakenAt (allowed_number_piece may size) bytes at value (at + size)
  unfolding allowed_number_piece digits
  number_done value part =
      subst (λ (n : ℕ). IsTakenAt (allowed_number_piece may size) bytes at n (at + size)) part.is
      (taken_as bytes at (number_on 0) _ (digits may size 0) (digits_back may size) part.digits (at + size)
      (part_done 0 (λ left v. byte (digit_ok may left v)) one_byte_more bytes size 0 at part.digits (size - size) value (at + size) (omega arith) part.way))

-- what a byte is worth fits a number of eight bytes
pub scale_fits : (k : ℕ) → k ≤ 7 → 256 ^ k < 2 ^ 64
scale_fits zero le = omega arith
scale_fits (suc zero) le = omega arith
scale_fits (suc (suc zero)) le = omega arith
scale_fits (suc (suc (suc zero))) le = omega arith
scale_fits (suc (suc (suc (suc zero)))) le = omega arith
scale_fits (suc (suc (suc (suc (suc zero))))) le = omega arith
scale_fits (suc (suc (suc (suc (suc (suc zero)))))) le = omega arith
scale_fits (suc (suc (suc (suc (suc (suc (suc zero))))))) le = omega arith
scale_fits (suc (suc (suc (suc (suc (suc (suc (suc k)))))))) le = absurd (omega arith)

pub scale_some : (k : ℕ) → 0 < 256 ^ k
scale_some zero = omega arith
scale_some (suc k) = let more = scale_some k in let e = pow-suc 256 k in omega (arith, e, more)

-- a number so far has room for one more byte
pub next_room : (most size taken value : ℕ) → taken < size → value ≤ most / 256 ^ (size - taken) → value * 256 ≤ most
next_room most size taken value lt le =
    let k = size - 1 - taken in
    let left : size - taken ≡ suc k = omega arith in
    let higher : most / 256 ^ (size - taken) ≡ most / 256 ^ k / 256 = ap (λ (n : ℕ). most / 256 ^ n) left ∙ ap (λ (m : ℕ). most / m) (pow-suc 256 k) ∙ sym (div-div-eq-div-mul most (256 ^ k) 256) in
    let all = div-le_self most (256 ^ k) in
    omega (arith, higher, le, all)

pub next_low : (most size taken value : ℕ) → taken < size → value ≤ most / 256 ^ (size - 1 - taken) → value ≤ most / 256 ^ (size - (taken + 1))
next_low most size taken value lt le = subst (λ (n : ℕ). value ≤ most / 256 ^ n) (let e : size - 1 - taken ≡ size - (taken + 1) = omega arith in e) le

module _ (size most : ℕ) (bytes : List ℕ) (at taken value : ℕ) (part : IsNumberPart (stays_up_to most) size bytes at taken value) (before : taken < size) where
  pub limited_more : (b : ℕ) → b ≡ get_or bytes (at + taken) 0 → at + taken < length bytes → b < 256 → value * 256 + b ≤ most / 256 ^ (size - 1 - taken) → IsNumberPart (stays_up_to most) size bytes at (taken + 1) (value * 256 + b)
  limited_more b is lt small le =
      subst (λ (x : ℕ). IsNumberPart (stays_up_to most) size bytes at (taken + 1) (value * 256 + x)) (sym is)
      (number_more (stays_up_to most) size bytes at taken value part before lt (omega (arith, is, small)) (le-leb _ _ (omega (arith, is, le))))

  pub limited_wrong : (b : ℕ) → b ≡ get_or bytes (at + taken) 0 → at + taken < length bytes → b < 256 → most / 256 ^ (size - 1 - taken) < value * 256 + b → IsStoppedAt (number_piece size most) bytes at (at + taken)
  unfolding number_piece
  limited_wrong b is lt small gt = number_wrong (stays_up_to most) size bytes at taken value part before lt (omega (arith, is, small)) (lt-leb _ _ (omega (arith, is, gt)))

  pub limited_cut : length bytes ≤ at + taken → IsStoppedAt (number_piece size most) bytes at (at + taken)
  unfolding number_piece
  limited_cut le = number_cut (stays_up_to most) size bytes at taken value part before le

pub limited_done : (size most : ℕ) (bytes : List ℕ) (at taken value : ℕ) → taken ≡ size → IsNumberPart (stays_up_to most) size bytes at taken value → IsTakenAt (number_piece size most) bytes at value (at + size)
unfolding number_piece
limited_done size most bytes at taken value is part = number_done (stays_up_to most) size bytes at value (subst (λ (n : ℕ). IsNumberPart (stays_up_to most) size bytes at n value) is part)

module _ (numbers : List ℕ) (bytes : List ℕ) (at taken value : ℕ) (part : IsNumberPart (begins_one numbers) 4 bytes at taken value) (before : taken < 4) where
  pub standing_more : (b : ℕ) → b ≡ get_or bytes (at + taken) 0 → at + taken < length bytes → b < 256 → begins_one numbers (3 - taken) (value * 256 + b) ≡ true → IsNumberPart (begins_one numbers) 4 bytes at (taken + 1) (value * 256 + b)
  standing_more b is lt small told =
      subst (λ (x : ℕ). IsNumberPart (begins_one numbers) 4 bytes at (taken + 1) (value * 256 + x)) (sym is)
      (number_more (begins_one numbers) 4 bytes at taken value part before lt (omega (arith, is, small))
      (ap (λ (x : ℕ). begins_one numbers (4 - 1 - taken) (value * 256 + x)) (sym is) ∙ ap (λ (k : ℕ). begins_one numbers k (value * 256 + b)) (let e : 4 - 1 - taken ≡ 3 - taken = omega arith in e) ∙ told))

  pub standing_wrong : (b : ℕ) → b ≡ get_or bytes (at + taken) 0 → at + taken < length bytes → b < 256 → begins_one numbers (3 - taken) (value * 256 + b) ≡ false → IsStoppedAt (one_of_piece 4 numbers) bytes at (at + taken)
  unfolding one_of_piece
  standing_wrong b is lt small not =
      number_wrong (begins_one numbers) 4 bytes at taken value part before lt (omega (arith, is, small))
      (ap (λ (x : ℕ). begins_one numbers (4 - 1 - taken) (value * 256 + x)) (sym is) ∙ ap (λ (k : ℕ). begins_one numbers k (value * 256 + b)) (let e : 4 - 1 - taken ≡ 3 - taken = omega arith in e) ∙ not)

  pub standing_cut : length bytes ≤ at + taken → IsStoppedAt (one_of_piece 4 numbers) bytes at (at + taken)
  unfolding one_of_piece
  standing_cut le = number_cut (begins_one numbers) 4 bytes at taken value part before le

pub standing_done : (numbers bytes : List ℕ) (at taken value : ℕ) → taken ≡ 4 → IsNumberPart (begins_one numbers) 4 bytes at taken value → IsTakenAt (one_of_piece 4 numbers) bytes at value (at + 4)
unfolding one_of_piece
standing_done numbers bytes at taken value is part = number_done (begins_one numbers) 4 bytes at value (subst (λ (n : ℕ). IsNumberPart (begins_one numbers) 4 bytes at n value) is part)

-- a number of four bytes so far has room for one more
pub short_more : (taken v b : ℕ) → taken < 4 → v < 256 ^ taken → b < 256 → (v * 256 + b < 256 ^ (taken + 1)) × (v * 256 + b < 2 ^ 32)
short_more zero v b lt low small = (omega arith, omega arith)
short_more (suc zero) v b lt low small = (omega arith, omega arith)
short_more (suc (suc zero)) v b lt low small = (omega arith, omega arith)
short_more (suc (suc (suc zero))) v b lt low small = (omega arith, omega arith)
short_more (suc (suc (suc (suc n)))) v b lt low small = absurd (omega arith)
