use Rattle.px_cellshapes.specs.Rows.{IsRightRowCell}
use Rattle.px_cellshapes.proofs.Each.{each_from_all, each_reads}
use Rattle.px_cellshapes.proofs.RowsRead.{rows_owned, rows_plain, rows_plain_at}
use Rattle.px_cellshapes.proofs.Typed.{short_key, spelled_fits}
use Rattle.px_cellshapes.proofs.laws.law_rows_read.Goals as goal

pub returns : goal.returns
returns c = record {
  each = λ t cells h x r. each_reads (IsRightRowCell t) cells h.each x r;
  listed = λ t cells a. record { each = each_from_all (IsRightRowCell t) cells a };
  plain = rows_plain;
  plain_at = rows_plain_at;
  owned = rows_owned;
  typed = λ t cells right h r p. spelled_fits t cells h.each r right p;
  short = λ t cells h r row p e. short_key t cells h.each r row p e;
}
