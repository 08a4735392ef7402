-- The fresh catalogue and its bytes.
use Rattle.std.proofs.Common.{◌≡◌, ◌∷◌, [], ℕ, true, false, List, Ok, refl}
use Rattle.px_values.specs.declared.column.ColType.TheVariants.{Varchar}
use Rattle.px_values.specs.declared.order.Direction.TheVariants.{Ascending}
use Rattle.px_tables.specs.declared.table.Table.{Table}
use Rattle.px_schema.specs.declared.standing.Standing.{Standing}
use Rattle.px_pieces.specs.Pieces.{as_value, byte, empty_piece, followed_by}
use Rattle.px_pieces.specs.Reading.{reading_of, reading_taken}
use Rattle.px_pieces.specs.Bytes.{bytes, one_byte}
use Rattle.px_pieces.specs.Chains.{chain, list_piece, measured, repeat}
use Rattle.px_pieces.specs.Numbers.{allowed_number_piece, digits, number_piece, one_of_piece}
use Rattle.px_schema.specs.Texts.{text}
use Rattle.px_schema.specs.Parts.{column_piece, column_type_piece, columns_piece, direction_piece, flag, id, least_key_piece, name_piece, part_piece, parts, place, region, regions, regions_from, some_count}
use Rattle.px_schema.specs.Format.{index, standing_piece, table}

-- KV with the columns K and V, of region 1 and number 2
abbrev pub kv : Table
kv = record {
  id = record { 0 = 2 };
  name = 75 ∷ 86 ∷ [];
  columns = record { name = 75 ∷ []; column_type = Varchar; not_null = true } ∷ record { name = 86 ∷ []; column_type = Varchar; not_null = false } ∷ [];
  key = record { column = 0; direction = Ascending } ∷ [];
  regions = record { number = 1; least_key = [] } ∷ [];
}

abbrev pub fresh_standing : Standing
fresh_standing = record { next = 3; tables = kv ∷ []; indexes = [] }

-- its 34 bytes; the type of K stands at place 16 of them
abbrev pub fresh_bytes : List ℕ
fresh_bytes = 0 ∷ 0 ∷ 0 ∷ 3 ∷ 0 ∷ 1 ∷ 0 ∷ 0 ∷ 0 ∷ 2 ∷ 2 ∷ 75 ∷ 86 ∷ 2 ∷ 1 ∷ 75 ∷ 8 ∷ 1 ∷ 1 ∷ 86 ∷ 8 ∷ 0 ∷ 1 ∷ 0 ∷ 0 ∷ 1 ∷ 0 ∷ 0 ∷ 0 ∷ 1 ∷ 0 ∷ 0 ∷ 0 ∷ 0 ∷ []

pub fresh_read : reading_of standing_piece fresh_bytes ≡ Ok fresh_standing
unfolding standing_piece table index number_piece allowed_number_piece digits one_of_piece byte one_byte bytes followed_by as_value chain repeat measured list_piece empty_piece text id some_count name_piece column_type_piece flag direction_piece column_piece place part_piece least_key_piece region regions_from regions columns_piece parts
fresh_read = refl

pub fresh_right : standing_piece.right fresh_standing
fresh_right = (reading_taken standing_piece fresh_bytes fresh_standing fresh_read).0

pub fresh_spelled : standing_piece.spelled fresh_standing ≡ fresh_bytes
fresh_spelled = (reading_taken standing_piece fresh_bytes fresh_standing fresh_read).1
