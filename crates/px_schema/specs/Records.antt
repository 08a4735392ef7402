-- The records of a catalogue: their kinds, and how their bodies are read and spelled.
use Rattle.std.proofs.Common.{◌<◌, ◌+◌, ℕ, List, length, map, Result, Ok, Err}
use Rattle.std.specs.Prelude.{◌==◌, if◌then◌else◌, nat_lt}
use Rattle.px_values.specs.declared.name.IndexId.{IndexId}
use Rattle.px_values.specs.declared.name.TableId.{TableId}
use Rattle.px_pieces.specs.Pieces.{Piece}
use Rattle.px_pieces.specs.Numbers.{one_of_piece}
use Rattle.px_pieces.specs.Reading.{reading_of}
use Rattle.px_schema.specs.declared.item.CatalogItem.{CatalogItem}
use Rattle.px_schema.specs.declared.item.CatalogItem.TheVariants.{IndexGone, IndexIs, TableGone, TableIs}
use Rattle.px_schema.specs.declared.standing.Standing.{Standing}
use Rattle.px_schema.specs.Format.{greatest_count, index, number_of_index, number_of_table, standing_piece, table}

abbrev pub table_id : ℕ → TableId
table_id n = record { 0 = n }

abbrev pub index_id : ℕ → IndexId
index_id n = record { 0 = n }

-- the value in a body, or its first wrong place counted from the record's kind
abbrev pub in_body : {T U : Type 0} → (T → U) → Result T ℕ → Result U ℕ
in_body f (Ok x) = Ok (f x)
in_body f (Err place) = Err (5 + place)

abbrev pub snapshot_in_body : (kind : ℕ) (body : List ℕ) → Result Standing ℕ
snapshot_in_body kind body = if kind == 1 then in_body (λ s. s) (reading_of standing_piece body) else Err 0

-- the numbers of the tables and of the indexes that stand
abbrev pub one_table : Standing → Piece ℕ
one_table s = one_of_piece 4 (map number_of_table s.tables)

abbrev pub one_index : Standing → Piece ℕ
one_index s = one_of_piece 4 (map number_of_index s.indexes)

-- A definition where this stands. What it names stands, and no snapshot is outgrown.
abbrev pub definition_in_body : Standing → (kind : ℕ) (body : List ℕ) → Result CatalogItem ℕ
definition_in_body s kind body =
    if kind == 2 then (if nat_lt (length s.tables) greatest_count then in_body TableIs (reading_of table body) else Err 0) else (
    if kind == 3 then (if nat_lt (length s.indexes) greatest_count then in_body IndexIs (reading_of (index s.tables) body) else Err 0) else (
    if kind == 4 then in_body (λ n. TableGone (table_id n)) (reading_of (one_table s) body) else (
    if kind == 5 then in_body (λ n. IndexGone (index_id n)) (reading_of (one_index s) body) else Err 0)))

-- it fits its fields, what it names stands, and it has room in a snapshot
abbrev pub IsRightCatalogItem : Standing → CatalogItem → Type 0
IsRightCatalogItem s (TableIs t) = table.right t × (length s.tables < greatest_count)
IsRightCatalogItem s (IndexIs i) = (index s.tables).right i × (length s.indexes < greatest_count)
IsRightCatalogItem s (TableGone n) = (one_table s).right n.0
IsRightCatalogItem s (IndexGone n) = (one_index s).right n.0
