-- Bytes of some range, and so many bytes of any value.
use Rattle.std.proofs.Common.{◌≡◌, ◌<◌, ◌≤◌, ℕ, Bool, true, List, length, ap, ◌∙◌, arith}
use Rattle.std.specs.Prelude.{◌&&◌, nat_lt, nat_le}
use Rattle.std.proofs.lemmas.Bool.{lt-ltb, le-leb}
use Rattle.px_pieces.specs.Pieces.{Piece, byte, byte_full}
use Rattle.px_pieces.specs.Chains.{repeat, repeat_full, repeat_long}

-- the byte is at least this, and below that
abbrev pub is_byte_within : ℕ → ℕ → ℕ → Bool
is_byte_within least end b = nat_le least b && nat_lt b end

pub within_true : (least end b : ℕ) → least ≤ b → b < end → is_byte_within least end b ≡ true
within_true least end b low high = ap (λ (t : Bool). t && nat_lt b end) (le-leb least b low) ∙ lt-ltb b end high

unfoldable pub one_byte : (least end : ℕ) → Piece ℕ
one_byte least end = byte (is_byte_within least end)

pub one_byte_full : (least end : ℕ) → least < end → (one_byte least end).full
unfolding one_byte
one_byte_full least end lt = byte_full (is_byte_within least end) least (within_true least end least (omega arith) lt)

-- so many bytes
unfoldable pub bytes : ℕ → Piece (List ℕ)
bytes n = repeat 0 (one_byte 0 256) n

pub bytes_full : (n : ℕ) → (bytes n).full
unfolding bytes
bytes_full n = repeat_full 0 (one_byte 0 256) (one_byte_full 0 256 (omega arith)) n

pub bytes_long : (n : ℕ) (l : List ℕ) → (bytes n).right l → length l ≡ n
unfolding bytes
bytes_long n l right = repeat_long 0 (one_byte 0 256) n l right
