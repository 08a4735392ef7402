-- The bytes of a value in a cell.
use Rattle.std.specs.Prelude.{ℕ, ◌+◌, ◌*◌, List, [], ◌∷◌, take, cond, nat_eq, pos, ◌+ℤ◌}
use Rattle.std.specs.Int.{bytes_high_first}
use Rattle.std.specs.Str.{is_utf8}
use Rattle.px_values.specs.Types.{least_of}
use Rattle.px_values.specs.declared.column.ColType.{ColType}
use Rattle.px_values.specs.declared.column.ColType.TheVariants.{Boolean, Varchar}
use Rattle.px_values.specs.declared.row.Value.{Value}
use Rattle.px_values.specs.declared.row.Value.TheVariants.{Null, Number, Truth, Text}
use Rattle.px_keys.specs.Spelling.{byte_width, rank, text_bytes}

-- a number or a truth value has its type's fixed width, a text its own bytes
abbrev pub stored : ColType → Value → List ℕ
stored Varchar v = text_bytes v
stored ty v = bytes_high_first (byte_width ty) (rank ty v)

-- the number of bytes that follow n, the highest first
unfoldable pub number_of_bytes : ℕ → List ℕ → ℕ
number_of_bytes n [] = n
number_of_bytes n (b ∷ bytes) = number_of_bytes (n * 256 + b) bytes

-- the value that lies this far above the least of its type
abbrev pub ranked : ColType → ℕ → Value
ranked Boolean n = Truth (nat_eq n 1)
ranked ty n = Number (pos n +ℤ least_of ty)

-- the value that a cell's bytes are read as; no text is stored that isn't UTF-8
abbrev pub value_of_bytes : ColType → List ℕ → Value
value_of_bytes Varchar bytes = cond (is_utf8 bytes) (Text bytes) Null
value_of_bytes ty bytes = ranked ty (number_of_bytes 0 (take (byte_width ty) bytes))
