-- What the calls ask of the case.
use Rattle.std.proofs.Common.{◌≡◌, ◌≢◌, ◌<◌, ℕ, zero, suc, List, [], ◌∷◌, refl, sym, subst, arith}
use Rattle.std.specs.Prelude.{length, get_or, pos}
use Rattle.std.proofs.lemmas.List.Elements.{All-from_recursion}
use Rattle.std.proofs.lemmas.Str.{IsUtf8-from_ascii}
use Rattle.std.proofs.lemmas.Str.Ascii.{IsAscii-from_all}
use Rattle.px_keys.specs.Spelling.{Fits}
use Rattle.px_tables.specs.declared.table.KeyPlace.{KeyPlace}
use Rattle.px_values.specs.Types.{HasType, IsColumnText}
use Rattle.px_values.specs.declared.column.ColType.TheVariants.{BigInt, Integer, Varchar}
use Rattle.px_values.specs.declared.row.Value.TheVariants.{Null, Number, Text}
use Rattle.px_rows.specs.Keys.{IsRightTable, are_distinct, column_in, row_columns}
use Rattle.px_rows.specs.Spelled.{FitsTable}
use Rattle.px_indexrow.specs.Form.{FitsRowState, IsRightIndex, included_at}
use Rattle.px_tests_indexrow.specs.declared.worked.Case.{Case}
use Rattle.px_tests_indexrow.specs.Worked.{worked, worked_change, worked_index, worked_new, worked_old, worked_table}

one : HasType BigInt (Number (pos 1))
one = (refl, (record { le = tt }, record { le = tt }))

five : HasType Integer (Number (pos 5))
five = (refl, (record { le = tt }, record { le = tt }))

letter : (b : ℕ) → 0 < b → b ≢ 0
letter b lt e = absurd (omega (arith, lt, e))

two_letters : (a b : ℕ) → 0 < a → a < 128 → 0 < b → b < 128 → IsColumnText (a ∷ b ∷ [])
two_letters a b la ua lb ub = record {
  utf8 = IsUtf8-from_ascii (a ∷ b ∷ []) (IsAscii-from_all (a ∷ b ∷ []) (All-from_recursion (λ (c : ℕ). c < 128) (a ∷ b ∷ []) (ua, (ub, tt))));
  least = omega arith;
  most = omega arith;
  no_zero = All-from_recursion (λ (c : ℕ). c ≢ 0) (a ∷ b ∷ []) (letter a la, (letter b lb, tt));
}

one_letter : (a : ℕ) → 0 < a → a < 128 → IsColumnText (a ∷ [])
one_letter a la ua = record {
  utf8 = IsUtf8-from_ascii (a ∷ []) (IsAscii-from_all (a ∷ []) (All-from_recursion (λ (c : ℕ). c < 128) (a ∷ []) (ua, tt)));
  least = omega arith;
  most = omega arith;
  no_zero = All-from_recursion (λ (c : ℕ). c ≢ 0) (a ∷ []) (letter a la, tt);
}

bo : HasType Varchar (Text (98 ∷ 111 ∷ []))
bo = (refl, two_letters 98 111 (omega arith) (omega arith) (omega arith) (omega arith))

al : HasType Varchar (Text (97 ∷ 108 ∷ []))
al = (refl, two_letters 97 108 (omega arith) (omega arith) (omega arith) (omega arith))

x : HasType Varchar (Text (120 ∷ []))
x = (refl, one_letter 120 (omega arith) (omega arith))

-- what the calls ask
pub record IsReady (c : Case) : Type 0 where
  pub table : IsRightTable c.table
  pub index : IsRightIndex c.table c.index
  pub row : Fits (row_columns c.table) c.change.row
  pub change : FitsTable c.table c.change.row c.change.what
  pub old : FitsRowState c.table c.old
  pub new : FitsRowState c.table c.new

table_right : IsRightTable worked_table
unfolding are_distinct
table_right = record { columns = omega arith; within = All-from_recursion (λ (p : KeyPlace). p.column < length worked_table.columns) worked_table.key (omega arith, tt); distinct = refl }

within : (c : ℕ) → c < length worked_index.included → included_at worked_index c < length worked_table.columns
within zero lt = omega arith
within (suc zero) lt = omega arith
within (suc (suc c)) lt = absurd (omega (arith, lt))

once : (c d : ℕ) → c < length worked_index.included → d < length worked_index.included → included_at worked_index c ≡ included_at worked_index d → c ≡ d
once zero zero lc ld e = refl
once zero (suc zero) lc ld e = absurd (omega (arith, e))
once zero (suc (suc d)) lc ld e = absurd (omega (arith, ld))
once (suc zero) zero lc ld e = absurd (omega (arith, e))
once (suc zero) (suc zero) lc ld e = refl
once (suc zero) (suc (suc d)) lc ld e = absurd (omega (arith, ld))
once (suc (suc c)) d lc ld e = absurd (omega (arith, lc))

index_right : IsRightIndex worked_table worked_index
index_right = record { parts = All-from_recursion (λ (p : KeyPlace). p.column < length worked_table.columns) worked_index.parts (omega arith, tt); within = within; once = once }

row_fits : Fits (row_columns worked_table) worked_change.row
row_fits = ((one, λ e. (let no = e in cc)), tt)

old_value : (c : ℕ) → c < 4 → HasType (column_in worked_table.columns c).column_type (get_or (Number (pos 1) ∷ Text (98 ∷ 111 ∷ []) ∷ Number (pos 5) ∷ Null ∷ []) c Null)
old_value zero lt = one
old_value (suc zero) lt = bo
old_value (suc (suc zero)) lt = five
old_value (suc (suc (suc zero))) lt = tt
old_value (suc (suc (suc (suc c)))) lt = absurd (omega (arith, lt))

new_value : (c : ℕ) → c < 4 → HasType (column_in worked_table.columns c).column_type (get_or (Number (pos 1) ∷ Text (97 ∷ 108 ∷ []) ∷ Null ∷ Text (120 ∷ []) ∷ []) c Null)
new_value zero lt = one
new_value (suc zero) lt = al
new_value (suc (suc zero)) lt = tt
new_value (suc (suc (suc zero))) lt = x
new_value (suc (suc (suc (suc c)))) lt = absurd (omega (arith, lt))

old_fits : FitsRowState worked_table worked_old
old_fits = (refl, old_value)

new_fits : FitsRowState worked_table worked_new
new_fits = (refl, new_value)

change_fits : FitsTable worked_table worked_change.row worked_change.what
change_fits = (row_fits, (record { within = omega arith; beside = refl; has_type = al }, (record { within = omega arith; beside = refl; has_type = tt }, (record { within = omega arith; beside = refl; has_type = x }, tt))))

pub ready : (c : Case) → c ≡ worked → IsReady c
ready c is = subst IsReady (sym is) (record { table = table_right; index = index_right; row = row_fits; change = change_fits; old = old_fits; new = new_fits })
