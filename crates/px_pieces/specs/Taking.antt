-- A piece read at a place of some bytes.
use Rattle.std.specs.Prelude.{◌≡◌, ◌≤◌, ◌-◌, ◌++◌, ℕ, List, length, drop, Ok, Err}
use Rattle.px_pieces.specs.Pieces.{Piece}
use Rattle.px_pieces.specs.Chains.{chain}

-- the bytes at a place begin with this value, and behind it another place comes
pub record IsTakenAt {T : Type 0} (v : Piece T) (bytes : List ℕ) (at : ℕ) (x : T) (end : ℕ) : Type 0 where
  pub read : v.read (drop at bytes) ≡ Ok (x, drop end bytes)
  pub forward : at ≤ end
  pub within : end ≤ length bytes

-- the bytes at a place begin with no value, and this is the first wrong place
pub record IsStoppedAt {T : Type 0} (v : Piece T) (bytes : List ℕ) (at place : ℕ) : Type 0 where
  pub read : v.read (drop at bytes) ≡ Err (place - at)
  pub forward : at ≤ place

-- These values of so many were taken from a place on, and so many are left to be taken here: how those are read decides
-- how all are read.
pub record IsPartWay {S T : Type 0} (d : T) (v : ℕ → S → Piece T) (next : S → T → S) (total : ℕ) (s : S) (bytes : List ℕ) (at : ℕ) (xs : List T) (left : ℕ) (now : S) (here : ℕ) : Type 0 where
  pub goes_on : (ys : List T) (end : ℕ) → IsTakenAt (chain d v next left now) bytes here ys end → IsTakenAt (chain d v next total s) bytes at (xs ++ ys) end
  pub stops : (place : ℕ) → IsStoppedAt (chain d v next left now) bytes here place → IsStoppedAt (chain d v next total s) bytes at place
  pub within : here ≤ length bytes
