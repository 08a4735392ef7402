-- Parts of definitions fit their fields of a record.
use Rattle.std.proofs.Common.{◌≡◌, ◌<◌, ◌≤◌, ℕ, Bool, true, false, List, [], ◌∷◌, length, refl, sym, subst, ◌∙◌, arith}
use Rattle.std.specs.Prelude.{min, ◌==◌}
use Rattle.std.specs.Str.{IsUtf8}
use Rattle.std.proofs.lemmas.Bool.{false≢true}
use Rattle.std.specs.List.{AllByRecursion}
use Rattle.px_values.specs.declared.column.ColType.{ColType}
use Rattle.px_values.specs.declared.column.ColType.TheVariants.{TinyInt, SmallInt, Integer, BigInt, UnsignedInt, UnsignedLong, Boolean, Varchar}
use Rattle.px_values.specs.declared.order.Direction.{Direction}
use Rattle.px_values.specs.declared.order.Direction.TheVariants.{Ascending, Descending}
use Rattle.px_tables.specs.declared.table.KeyPlace.{KeyPlace}
use Rattle.px_tables.specs.declared.table.TableColumn.{TableColumn}
use Rattle.px_pieces.specs.Pieces.{as_value, byte, followed_by}
use Rattle.px_pieces.specs.Bytes.{one_byte, within_true}
use Rattle.px_pieces.specs.Chains.{measured, measured_right}
use Rattle.px_schema.specs.Texts.{text, text_long}
use Rattle.px_schema.proofs.Characters.{text_right}
use Rattle.px_schema.specs.Parts.{column_piece, column_type_piece, direction_piece, flag, name_piece, part_piece, place, some_count}

pub direction_right : (d : Direction) → direction_piece.right d
unfolding direction_piece as_value one_byte byte
direction_right Ascending = (refl, refl)
direction_right Descending = (refl, refl)

pub place_right : (n c : ℕ) → c < n → c < 256 → (place n).right c
unfolding place one_byte byte
place_right n c low short = within_true 0 (min n 256) c (omega arith) (omega arith)

pub part_right : (n : ℕ) (p : KeyPlace) → p.column < n → p.column < 256 → (part_piece n).right p
unfolding part_piece as_value followed_by
part_right n p low short = ((place_right n p.column low short, direction_right p.direction), refl)

-- of at most 256 columns
pub parts_right : (n : ℕ) → n ≤ 256 → (ps : List KeyPlace) → AllByRecursion (λ p. p.column < n) ps → AllByRecursion (part_piece n).right ps
parts_right n few [] all = tt
parts_right n few (p ∷ ps) all = ((let l = all.0 in part_right n p l (omega (arith, l, few))), parts_right n few ps all.1)

pub some_right : (n : ℕ) → 0 < n → n < 256 → some_count.right n
unfolding some_count one_byte byte
some_right n some few = within_true 1 256 n (omega arith) few

type_right : (c : ColType) → column_type_piece.right c
unfolding column_type_piece as_value one_byte byte
type_right TinyInt = (refl, refl)
type_right SmallInt = (refl, refl)
type_right Integer = (refl, refl)
type_right BigInt = (refl, refl)
type_right UnsignedInt = (refl, refl)
type_right UnsignedLong = (refl, refl)
type_right Boolean = (refl, refl)
type_right Varchar = (refl, refl)

flag_right : (b : Bool) → flag.right b
unfolding flag as_value one_byte byte
flag_right true = (refl, refl)
flag_right false = (refl, refl)

pub column_right : (c : TableColumn) → name_piece.right c.name → column_piece.right c
unfolding column_piece as_value followed_by
column_right c named = ((named, (type_right c.column_type, flag_right c.not_null)), refl)

pub name_right : (l m : List ℕ) → l ≡ m → IsUtf8 l → 0 < length l → length l < 256 → name_piece.right m
unfolding name_piece
name_right l m same utf8 some few = subst (λ (x : List ℕ). (measured text text_long some_count).right x) same (measured_right text text_long some_count l (some_right (length l) some few) (text_right l utf8))

pub not_empty : (l : List ℕ) (e : Bool) → e ≡ (length l == 0) → e ≡ false → 0 < length l
not_empty [] e is none = absurd (false≢true (sym none ∙ is))
not_empty (x ∷ l) e is none = omega arith
