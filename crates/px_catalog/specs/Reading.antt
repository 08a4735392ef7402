-- What stands by the records of the catalogue's log.
--
-- The first record of a segment is a snapshot, and each later one a definition or a drop where those before it stand.
-- Where there is no record, the fresh catalogue stands.
use Rattle.std.specs.Prelude.{ℕ, false, List, [], ◌∷◌, Option, Some, None, Result, Ok, Err}
use Rattle.px_gatelog.specs.Format.{LogForm, LogRecord}
use Rattle.px_schema.specs.Fresh.{fresh_standing}
use Rattle.px_schema.specs.Records.{definition_in_body, snapshot_in_body}
use Rattle.px_schema.specs.Spelled.{body_of, kind_of, standing_bytes}
use Rattle.px_schema.specs.Stands.{stands_after}
use Rattle.px_schema.specs.declared.item.CatalogItem.{CatalogItem}
use Rattle.px_schema.specs.declared.standing.Standing.{Standing}

-- the record of a snapshot, and that of a definition
abbrev pub snapshot_record : Standing → LogRecord
snapshot_record s = record { kind = 1; body = standing_bytes s }

abbrev pub item_record : CatalogItem → LogRecord
item_record d = record { kind = kind_of d; body = body_of d }

-- what stands after a definition that was read
abbrev pub after_item : Standing → Result CatalogItem ℕ → Result Standing ℕ
after_item s (Ok d) = Ok (stands_after s d)
after_item s (Err place) = Err place

-- what stands by a first record, and by one more where something stands, or the first wrong place of the record
unfoldable pub first_of : LogRecord → Result Standing ℕ
first_of r = snapshot_in_body r.kind r.body

unfoldable pub next_of : Standing → LogRecord → Result Standing ℕ
next_of s r = after_item s (definition_in_body s r.kind r.body)

-- what was read, or else what stood
abbrev pub read_or : Standing → Result Standing ℕ → Standing
read_or s (Ok t) = t
read_or s (Err place) = s

abbrev pub value_from : Standing → List LogRecord → Standing
value_from s [] = s
value_from s (r ∷ records) = value_from (read_or s (next_of s r)) records

-- what stands by records
unfoldable pub value_of : List LogRecord → Standing
value_of [] = fresh_standing
value_of (r ∷ records) = value_from (read_or fresh_standing (first_of r)) records

-- what stands by a record behind others
unfoldable pub read_behind : List LogRecord → LogRecord → Result Standing ℕ
read_behind [] r = first_of r
read_behind (x ∷ before) r = next_of (value_of (x ∷ before)) r

-- what was read, or the fresh catalogue
abbrev pub or_fresh : Option Standing → Standing
or_fresh None = fresh_standing
or_fresh (Some s) = s

abbrev pub wrong_of : Result Standing ℕ → Option ℕ
wrong_of (Ok s) = None
wrong_of (Err place) = Some place

-- What is asked of the log. The newest open segment alone counts, and has a record.
abbrev pub catalogue_form : LogForm
catalogue_form = record { both = false; empty = false; wrong = λ before r. wrong_of (read_behind before r) }
