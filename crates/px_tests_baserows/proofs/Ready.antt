-- What the calls ask of the case.
use Rattle.std.proofs.Common.{◌≡◌, ◌<◌, List, [], ◌∷◌, length, true, refl, ap, subst, sym, ◌∙◌, arith}
use Rattle.std.specs.List.{AllByRecursion}
use Rattle.std.proofs.lemmas.List.Elements.{All-from_recursion}
use Rattle.px_indexrow.specs.Form.{FitsRowState}
use Rattle.px_rows.specs.Keys.{IsRightTable, are_distinct}
use Rattle.px_tables.specs.declared.table.KeyPlace.{KeyPlace}
use Rattle.px_tables.specs.declared.table.Table.{Table}
use Rattle.px_trail.specs.Batches.{has, is_distinct}
use Rattle.px_values.specs.declared.row.Value.{Value}
use Rattle.px_baserows.specs.Rows.{AreBaseRows, IsBaseRow, owner_in}
use Rattle.px_calls.specs.declared.query.BaseRow.{BaseRow}
use Rattle.px_tests_baserows.specs.Worked.{first_row, second_row, worked_index, worked_table}

worked_right : IsRightTable worked_table
unfolding are_distinct
worked_right = record { columns = omega arith; within = All-from_recursion (λ (p : KeyPlace). p.column < length worked_table.columns) worked_table.key (omega arith, tt); distinct = refl }

pub table_right : (t : Table) → t ≡ worked_table → IsRightTable t
table_right t is = subst IsRightTable (sym is) worked_right

pub rows_fit : (xs : List BaseRow) → AllByRecursion (IsBaseRow worked_table worked_index) xs → AllByRecursion (λ x. FitsRowState worked_table (Rattle.std.proofs.Common.Some x.row)) xs
rows_fit [] a = tt
rows_fit (x ∷ xs) a = (a.0.fits, rows_fit xs a.1)

both_distinct : is_distinct (owner_in worked_table first_row ∷ owner_in worked_table second_row ∷ []) ≡ true
unfolding is_distinct has
both_distinct = refl

pub both : (x y : BaseRow) → IsBaseRow worked_table worked_index x → x.row ≡ first_row → IsBaseRow worked_table worked_index y → y.row ≡ second_row → AreBaseRows worked_table worked_index (x ∷ y ∷ [])
both x y a p b q = record {
  each = (a, (b, tt));
  distinct = ap (λ (r : List Value). is_distinct (owner_in worked_table r ∷ owner_in worked_table y.row ∷ [])) p ∙ (ap (λ (r : List Value). is_distinct (owner_in worked_table first_row ∷ owner_in worked_table r ∷ [])) q ∙ both_distinct);
}
