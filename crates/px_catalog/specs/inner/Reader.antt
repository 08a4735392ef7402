-- What a reader of the catalogue's log has taken.
use Rattle.std.specs.Prelude.{◌≡◌, ℕ, List, [], Option, Some, None, Result}
use Rattle.px_gatelog.specs.Format.{LogRecord}
use Rattle.px_schema.specs.Format.{standing_piece}
use Rattle.px_schema.specs.declared.standing.Standing.{Standing}
use Rattle.px_catalog.specs.Reading.{first_of, next_of, value_of}

-- what stands by the records, which are some
pub record StandsByRecords (records : List LogRecord) (s : Standing) : Type 0 where
  pub value : value_of records ≡ s
  pub some : records ≡ [] → ⊥
  pub right : standing_piece.right s

-- none was taken, or this stands by them
abbrev pub HasTaken : Option Standing → List LogRecord → Type 0
HasTaken None records = records ≡ []
HasTaken (Some s) records = StandsByRecords records s

-- what stands by one record more
abbrev pub read_on : Option Standing → LogRecord → Result Standing ℕ
read_on None r = first_of r
read_on (Some s) r = next_of s r
