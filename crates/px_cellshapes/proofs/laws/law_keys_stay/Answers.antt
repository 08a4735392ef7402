use Rattle.px_cellshapes.specs.Keys.{IsRightIndexCell}
use Rattle.px_cellshapes.proofs.Each.{each_fewer, each_none, each_over, each_settled}
use Rattle.px_cellshapes.proofs.WrittenKeys.{all_several}
use Rattle.px_cellshapes.proofs.Steps.{each_compacted}
use Rattle.px_cellshapes.proofs.laws.law_keys_stay.Goals as goal

pub returns : goal.returns
returns c = record {
  none = λ t i. record { each = each_none (IsRightIndexCell t i) };
  over = λ t i batch old new b o same. record { each = each_over (IsRightIndexCell t i) batch old new b.each o.each same };
  settled = λ t i batch old b o. record { each = each_settled (IsRightIndexCell t i) batch old b.each o.each };
  fewer = λ t i old new o f. record { each = each_fewer (IsRightIndexCell t i) old new o.each f };
  compacted = λ t i old new h o is. record { each = each_compacted old new h is (IsRightIndexCell t i) o.each };
  several = λ t i m rows a. all_several t i m rows a;
}
