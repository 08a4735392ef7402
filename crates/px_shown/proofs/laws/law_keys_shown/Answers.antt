use Rattle.px_shown.proofs.KeyLooks.{keys_shown}
use Rattle.px_shown.proofs.Points.{look_keys}
use Rattle.px_shown.proofs.laws.law_keys_shown.Goals as goal

pub returns : goal.returns
returns c = record {
  keys = λ t x g q p table is. keys_shown t x p table is g q;
  rows = λ t x right index_right b index es v kept rows i there built form short p of is high. look_keys t right b index es v kept rows p of x index_right is i there built form short high;
}
