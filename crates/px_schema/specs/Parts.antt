-- The parts of definitions as pieces of a format. A list stands behind its length.
use Rattle.std.proofs.Common.{◌≡◌, ◌<◌, ◌≤◌, [], ℕ, zero, suc, Bool, true, false, List, length, refl, arith}
use Rattle.std.specs.Prelude.{◌&&◌, ◌==◌, if◌then◌else◌, min, nat_le, nat_lt}
use Rattle.std.proofs.lemmas.Bool.{leb-true, ltb-true}
use Rattle.px_values.specs.Types.{type_code}
use Rattle.px_values.specs.declared.column.ColType.{ColType}
use Rattle.px_values.specs.declared.column.ColType.TheVariants.{TinyInt, SmallInt, Integer, BigInt, UnsignedInt, UnsignedLong, Boolean, Varchar}
use Rattle.px_values.specs.declared.order.Direction.{Direction}
use Rattle.px_values.specs.declared.order.Direction.TheVariants.{Ascending, Descending}
use Rattle.px_tables.specs.declared.index.IndexState.{IndexState}
use Rattle.px_tables.specs.declared.index.IndexState.TheVariants.{Building, Active, Disabled}
use Rattle.px_tables.specs.declared.table.KeyPlace.{KeyPlace}
use Rattle.px_tables.specs.declared.table.TableColumn.{TableColumn}
use Rattle.px_tables.specs.declared.table.TableRegion.{TableRegion}
use Rattle.px_pieces.specs.Pieces.{Piece, as_full, as_value, byte, followed_by, followed_full}
use Rattle.px_pieces.specs.Bytes.{bytes, bytes_full, bytes_long, is_byte_within, one_byte, one_byte_full}
use Rattle.px_pieces.specs.Chains.{chain, chain_full, chain_long, list_piece, listed_full, measured, measured_full}
use Rattle.px_pieces.specs.Numbers.{full_number, number_piece}
use Rattle.px_schema.specs.Texts.{text, text_full, text_long}

-- the greatest number of a table, an index or a region, and the greatest stamp
abbrev pub greatest_id : ℕ
greatest_id = 4294967294

abbrev pub greatest_stamp : ℕ
greatest_stamp = 9223372036854775807

unfoldable pub id : Piece ℕ
id = number_piece 4 greatest_id

-- how many there are in a list that isn't empty
unfoldable pub some_count : Piece ℕ
some_count = one_byte 1 256

-- a name is UTF-8, and isn't empty
unfoldable pub name_piece : Piece (List ℕ)
name_piece = measured text text_long some_count

-- ---- bytes that stand for values

within_both : (least end b : ℕ) → is_byte_within least end b ≡ true → (least ≤ b) × (b < end)
within_both least end b is = (leb-true least b (and_true (nat_le least b) (nat_lt b end) is).0, ltb-true b end (and_true (nat_le least b) (nat_lt b end) is).1)
  where
    and_true : (a b : Bool) → (a && b) ≡ true → (a ≡ true) × (b ≡ true)
    and_true true b is = (refl, is)
    and_true false b is = absurd cc

abbrev pub type_of : ℕ → ColType
type_of zero = TinyInt
type_of (suc zero) = TinyInt
type_of (suc (suc zero)) = SmallInt
type_of (suc (suc (suc zero))) = Integer
type_of (suc (suc (suc (suc zero)))) = BigInt
type_of (suc (suc (suc (suc (suc zero))))) = UnsignedInt
type_of (suc (suc (suc (suc (suc (suc zero)))))) = UnsignedLong
type_of (suc (suc (suc (suc (suc (suc (suc zero))))))) = Boolean
type_of (suc (suc (suc (suc (suc (suc (suc (suc n)))))))) = Varchar

pub type_same : (b : ℕ) → 1 ≤ b → b < 9 → type_code (type_of b) ≡ b
type_same zero low high = absurd (omega arith)
type_same (suc zero) low high = refl
type_same (suc (suc zero)) low high = refl
type_same (suc (suc (suc zero))) low high = refl
type_same (suc (suc (suc (suc zero)))) low high = refl
type_same (suc (suc (suc (suc (suc zero))))) low high = refl
type_same (suc (suc (suc (suc (suc (suc zero)))))) low high = refl
type_same (suc (suc (suc (suc (suc (suc (suc zero))))))) low high = refl
type_same (suc (suc (suc (suc (suc (suc (suc (suc zero)))))))) low high = refl
type_same (suc (suc (suc (suc (suc (suc (suc (suc (suc n))))))))) low high = absurd (omega arith)

pub type_back : (b : ℕ) → (one_byte 1 9).right b → type_code (type_of b) ≡ b
unfolding one_byte byte
type_back b is = let range = within_both 1 9 b is in type_same b range.0 range.1

-- the type of a column is its code
unfoldable pub column_type_piece : Piece ColType
column_type_piece = as_value type_of type_code (one_byte 1 9) type_back

abbrev pub bit_of : Bool → ℕ
bit_of b = if b then 1 else 0

bit_same : (b : ℕ) → b < 2 → bit_of (b == 1) ≡ b
bit_same zero low = refl
bit_same (suc zero) low = refl
bit_same (suc (suc b)) low = absurd (omega arith)

pub bit_back : (b : ℕ) → (one_byte 0 2).right b → bit_of (b == 1) ≡ b
unfolding one_byte byte
bit_back b is = bit_same b (within_both 0 2 b is).1

-- 1 or 0
unfoldable pub flag : Piece Bool
flag = as_value (λ b. b == 1) bit_of (one_byte 0 2) bit_back

abbrev pub direction_of : ℕ → Direction
direction_of zero = Ascending
direction_of (suc n) = Descending

abbrev pub direction_code : Direction → ℕ
direction_code Ascending = 0
direction_code Descending = 1

direction_same : (b : ℕ) → b < 2 → direction_code (direction_of b) ≡ b
direction_same zero low = refl
direction_same (suc zero) low = refl
direction_same (suc (suc b)) low = absurd (omega arith)

pub direction_back : (b : ℕ) → (one_byte 0 2).right b → direction_code (direction_of b) ≡ b
unfolding one_byte byte
direction_back b is = direction_same b (within_both 0 2 b is).1

unfoldable pub direction_piece : Piece Direction
direction_piece = as_value direction_of direction_code (one_byte 0 2) direction_back

abbrev pub state_of_code : ℕ → IndexState
state_of_code zero = Building
state_of_code (suc zero) = Active
state_of_code (suc (suc n)) = Disabled

abbrev pub state_code : IndexState → ℕ
state_code Building = 0
state_code Active = 1
state_code Disabled = 2

state_same : (b : ℕ) → b < 3 → state_code (state_of_code b) ≡ b
state_same zero low = refl
state_same (suc zero) low = refl
state_same (suc (suc zero)) low = refl
state_same (suc (suc (suc b))) low = absurd (omega arith)

pub state_back : (b : ℕ) → (one_byte 0 3).right b → state_code (state_of_code b) ≡ b
unfolding one_byte byte
state_back b is = state_same b (within_both 0 3 b is).1

unfoldable pub state : Piece IndexState
state = as_value state_of_code state_code (one_byte 0 3) state_back

-- ---- columns, parts of keys, regions

unfoldable pub column_piece : Piece TableColumn
column_piece = as_value (λ (x : List ℕ × (ColType × Bool)). record { name = x.0; column_type = x.1.0; not_null = x.1.1 }) (λ c. (c.name, (c.column_type, c.not_null)))
    (followed_by name_piece (λ n. followed_by column_type_piece (λ c. flag))) (λ x right. refl)

-- one of so many columns
unfoldable pub place : ℕ → Piece ℕ
place columns = one_byte 0 (min columns 256)

unfoldable pub part_piece : ℕ → Piece KeyPlace
part_piece columns = as_value (λ (x : ℕ × Direction). record { column = x.0; direction = x.1 }) (λ p. (p.column, p.direction)) (followed_by (place columns) (λ c. direction_piece)) (λ x right. refl)

-- a least key of at most so many bytes
unfoldable pub least_key_piece : ℕ → Piece (List ℕ)
least_key_piece most = measured bytes bytes_long (number_piece 2 most)

unfoldable pub region : ℕ → Piece TableRegion
region most = as_value (λ (x : ℕ × List ℕ). record { number = x.0; least_key = x.1 }) (λ r. (r.number, r.least_key)) (followed_by id (λ n. least_key_piece most)) (λ x right. refl)

abbrev pub no_region : TableRegion
no_region = record { number = 0; least_key = [] }

-- so many regions, of which the first has an empty least key
unfoldable pub regions_from : ℕ → ℕ → Piece (List TableRegion)
regions_from most n = chain no_region (λ left most. region most) (λ most r. 65535) n most

pub regions_long : (n : ℕ) (l : List TableRegion) → (regions_from 0 n).right l → length l ≡ n
unfolding regions_from
regions_long n l right = chain_long no_region (λ left most. region most) (λ most r. 65535) n 0 l right

unfoldable pub regions : Piece (List TableRegion)
regions = measured (regions_from 0) regions_long some_count

abbrev pub blank_column : TableColumn
blank_column = record { name = []; column_type = TinyInt; not_null = false }

abbrev pub blank_part : KeyPlace
blank_part = record { column = 0; direction = Ascending }

unfoldable pub columns_piece : Piece (List TableColumn)
columns_piece = list_piece blank_column column_piece some_count

-- the parts of a key over so many columns
unfoldable pub parts : ℕ → Piece (List KeyPlace)
parts n = list_piece blank_part (part_piece n) some_count

-- columns of so many
unfoldable pub places : ℕ → Piece (List ℕ)
places n = list_piece 0 (place n) (one_byte 0 256)

-- ---- all that is begun can be ended

pub id_full : id.full
unfolding id
id_full = full_number 4 greatest_id

pub some_full : some_count.full
unfolding some_count
some_full = one_byte_full 1 256 (omega arith)

pub name_full : name_piece.full
unfolding name_piece
name_full = measured_full text text_long some_count some_full (λ n right. text_full n)

type_full : column_type_piece.full
unfolding column_type_piece
type_full = as_full type_of type_code (one_byte 1 9) type_back (one_byte_full 1 9 (omega arith))

flag_full : flag.full
unfolding flag
flag_full = as_full (λ b. b == 1) bit_of (one_byte 0 2) bit_back (one_byte_full 0 2 (omega arith))

direction_full : direction_piece.full
unfolding direction_piece
direction_full = as_full direction_of direction_code (one_byte 0 2) direction_back (one_byte_full 0 2 (omega arith))

pub state_full : state.full
unfolding state
state_full = as_full state_of_code state_code (one_byte 0 3) state_back (one_byte_full 0 3 (omega arith))

column_full : column_piece.full
unfolding column_piece
column_full = as_full _ _ _ (λ x right. refl) (followed_full _ _ name_full (λ n right. followed_full _ _ type_full (λ c right. flag_full)))

place_full : (n : ℕ) → 0 < n → (place n).full
unfolding place
place_full n some = one_byte_full 0 (min n 256) (omega arith)

part_full : (n : ℕ) → 0 < n → (part_piece n).full
unfolding part_piece
part_full n some = as_full _ _ _ (λ x right. refl) (followed_full _ _ (place_full n some) (λ c right. direction_full))

region_full : (most : ℕ) → (region most).full
unfolding region least_key_piece
region_full most = as_full _ _ _ (λ x right. refl) (followed_full _ _ id_full (λ n right. measured_full bytes bytes_long (number_piece 2 most) (full_number 2 most) (λ n right. bytes_full n)))

pub columns_full : columns_piece.full
unfolding columns_piece
columns_full = listed_full blank_column column_piece some_count some_full column_full

pub parts_full : (n : ℕ) → 0 < n → (parts n).full
unfolding parts
parts_full n some = listed_full blank_part (part_piece n) some_count some_full (part_full n some)

pub places_full : (n : ℕ) → 0 < n → (places n).full
unfolding places
places_full n some = listed_full 0 (place n) (one_byte 0 256) (one_byte_full 0 256 (omega arith)) (place_full n some)

pub regions_full : regions.full
unfolding regions regions_from
regions_full = measured_full (regions_from 0) regions_long some_count some_full
    (λ n right. chain_full no_region (λ left most. region most) (λ most r. 65535) (λ left most. Unit {0}) (λ left most p. region_full most) (λ left most r p right. tt) n 0 tt)
