-- A text of so many bytes in UTF-8.
use Rattle.std.proofs.Common.{◌≡◌, ◌≤◌, ◌+◌, ℕ, zero, suc, Bool, true, false, List, length, refl, ap, ◌∙◌, arith}
use Rattle.std.specs.Prelude.{◌-◌, ◌&&◌, nat_le, nat_lt}
use Rattle.std.specs.Str.Lossy.{second_byte_min, second_byte_max}
use Rattle.std.proofs.lemmas.Bool.{le-leb, leb-true}
use Rattle.px_keys.specs.inner.PartReading.{char_size}
use Rattle.px_keys.proofs.CharReading.{second_some}
use Rattle.px_pieces.specs.Pieces.{Piece, byte, byte_full}
use Rattle.px_pieces.specs.Chains.{chain, chain_full, chain_long}

-- how many bytes of the character under way are still to come, and the range of the next one
pub record CharState : Type 0 where
  pub need : ℕ
  pub least : ℕ
  pub most : ℕ

-- no character is under way
abbrev pub no_char : CharState
no_char = record { need = 0; least = 0; most = 0 }

-- so many bytes come behind this one, and it begins a character for which they are enough, or goes on with one
abbrev pub char_ok_by : ℕ → ℕ → ℕ → ℕ → ℕ → Bool
char_ok_by zero least most left b = nat_lt 0 (char_size b) && nat_le (char_size b) (left + 1)
char_ok_by (suc need) least most left b = nat_le least b && nat_le b most

abbrev pub char_ok : ℕ → CharState → ℕ → Bool
char_ok left s b = char_ok_by s.need s.least s.most left b

abbrev pub char_next_by : ℕ → ℕ → CharState
char_next_by zero b = record { need = char_size b - 1; least = second_byte_min b; most = second_byte_max b }
char_next_by (suc need) b = record { need = need; least = 128; most = 191 }

abbrev pub char_next : CharState → ℕ → CharState
char_next s b = char_next_by s.need b

-- a text of so many bytes
unfoldable pub text : ℕ → Piece (List ℕ)
text n = chain 0 (λ left s. byte (char_ok left s)) char_next n no_char

pub text_long : (n : ℕ) (l : List ℕ) → (text n).right l → length l ≡ n
unfolding text
text_long n l right = chain_long 0 (λ left s. byte (char_ok left s)) char_next n no_char l right

and_true : (a b : Bool) → (a && b) ≡ true → (a ≡ true) × (b ≡ true)
and_true true b is = (refl, is)
and_true false b is = absurd cc

both_true : (a b : Bool) → a ≡ true → b ≡ true → (a && b) ≡ true
both_true a b x y = ap (λ (t : Bool). t && b) x ∙ y

-- a character under way can be ended
record CanEndCharacter (left : ℕ) (s : CharState) : Type 0 where
  need : s.need ≤ left
  some : s.least ≤ s.most

one_more : (need least most left : ℕ) → need ≤ suc left → least ≤ most → (b : ℕ) × (char_ok_by need least most left b ≡ true)
one_more zero least most left le some = (65, both_true (nat_lt 0 (char_size 65)) (nat_le (char_size 65) (left + 1)) refl (le-leb 1 (left + 1) (omega arith)))
one_more (suc need) least most left le some = (least, both_true (nat_le least least) (nat_le least most) (le-leb least least (omega arith)) (le-leb least most some))

still : (need least most left b : ℕ) → need ≤ suc left → char_ok_by need least most left b ≡ true → CanEndCharacter left (char_next_by need b)
still zero least most left b le ok =
    let parts = and_true (nat_lt 0 (char_size b)) (nat_le (char_size b) (left + 1)) ok in
    let size : char_size b ≤ left + 1 = leb-true (char_size b) (left + 1) parts.1 in
    record { need = omega (arith, size); some = second_some b }
still (suc need) least most left b le ok = record { need = omega arith; some = omega arith }

pub text_full : (n : ℕ) → (text n).full
unfolding text byte
text_full n =
    chain_full 0 (λ left s. byte (char_ok left s)) char_next CanEndCharacter (λ left s p. let b = one_more s.need s.least s.most left p.need p.some in byte_full (char_ok left s) b.0 b.1)
    (λ left s b p right. still s.need s.least s.most left b p.need right) n no_char (record { need = omega arith; some = omega arith })
