use Rattle.px_cellshapes.specs.Rows.{IsRightRowCell}
use Rattle.px_cellshapes.proofs.Each.{all_from_each}
use Rattle.px_cellshapes.proofs.WrittenRows.{change_each}
use Rattle.px_cellshapes.proofs.laws.law_rows_written.Goals as goal

pub returns : goal.returns
returns c = record {
  put = λ t r s w cells f l e. record { each = change_each t r s w cells f l e };
  each = λ t r s w cells f l e list. all_from_each (IsRightRowCell t) cells list.ascending (change_each t r s w cells f l e);
}
