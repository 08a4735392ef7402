use Rattle.px_cellshapes.specs.Rows.{IsRightRowCell}
use Rattle.px_cellshapes.proofs.Each.{each_fewer, each_none, each_over, each_settled}
use Rattle.px_cellshapes.proofs.Steps.{each_compacted}
use Rattle.px_cellshapes.proofs.laws.law_rows_stay.Goals as goal

pub returns : goal.returns
returns c = record {
  none = λ t. record { each = each_none (IsRightRowCell t) };
  over = λ t batch old new b o same. record { each = each_over (IsRightRowCell t) batch old new b.each o.each same };
  settled = λ t batch old b o. record { each = each_settled (IsRightRowCell t) batch old b.each o.each };
  fewer = λ t old new o f. record { each = each_fewer (IsRightRowCell t) old new o.each f };
  compacted = λ t old new h o is. record { each = each_compacted old new h is (IsRightRowCell t) o.each };
}
