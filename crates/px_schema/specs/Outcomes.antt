-- What a reader of pieces answers.
use Rattle.std.specs.Prelude.{◌≡◌, ◌≤◌, ◌+◌, ◌==◌, if◌then◌else◌, ℕ, List, Result, Ok, Err}
use Rattle.px_pieces.specs.Pieces.{Piece}
use Rattle.px_pieces.specs.Taking.{IsStoppedAt, IsTakenAt}
use Rattle.px_schema.specs.declared.fault.DefFault.{DefFault}
use Rattle.px_schema.specs.declared.fault.DefFault.TheVariants.{Memory, NotADefinition}

-- the value that begins the bytes at a place and the place behind it, or the first wrong place; want of memory says nothing of the bytes
abbrev pub ReadsPiece : {T : Type 0} → Piece T → List ℕ → ℕ → Result (T × ℕ) DefFault → Type 0
ReadsPiece v bytes at (Ok x) = IsTakenAt v bytes at x.0 x.1
ReadsPiece v bytes at (Err (NotADefinition place)) = IsStoppedAt v bytes at place
ReadsPiece v bytes at (Err Memory) = Unit {0}

-- what is read behind a value, with this value before it
abbrev pub paired : {T U : Type 0} → T → Result (U × ℕ) DefFault → Result ((T × U) × ℕ) DefFault
paired x (Ok y) = Ok ((x, y.0), y.1)
paired x (Err fault) = Err fault

-- a value that takes up all of the bytes
abbrev pub whole_of : {T : Type 0} → ℕ → Result (T × ℕ) DefFault → Result T DefFault
whole_of size (Ok x) = if x.1 == size then Ok x.0 else Err (NotADefinition x.1)
whole_of size (Err fault) = Err fault

-- the same with each place counted from the kind of a record
abbrev pub in_record_of : {T : Type 0} → Result T DefFault → Result T DefFault
in_record_of (Ok x) = Ok x
in_record_of (Err (NotADefinition place)) = Err (NotADefinition (5 + place))
in_record_of (Err Memory) = Err Memory

-- What a reader of a whole record answers: the value, or the first wrong place. Want of memory says nothing of the record.
abbrev pub AnswersRecord : {T : Type 0} → Result T ℕ → Result T DefFault → Type 0
AnswersRecord reading (Ok x) = reading ≡ Ok x
AnswersRecord reading (Err (NotADefinition place)) = reading ≡ Err place
AnswersRecord reading (Err Memory) = Unit {0}

-- no place of a fault is beyond this
abbrev pub IsWithin : {T : Type 0} → ℕ → Result T DefFault → Type 0
IsWithin size (Ok x) = Unit {0}
IsWithin size (Err (NotADefinition place)) = place ≤ size
IsWithin size (Err Memory) = Unit {0}
