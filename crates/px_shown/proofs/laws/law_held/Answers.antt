use Rattle.px_shown.proofs.Points.{row_held}
use Rattle.px_shown.proofs.laws.law_held.Goals as goal

pub returns : goal.returns
returns c = λ t x right index_right b index es v kept rows p of is low. row_held t right b index es v kept rows p of low x index_right is
