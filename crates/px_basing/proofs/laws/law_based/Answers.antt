use Rattle.px_basing.proofs.Right.{right_based, tallied_based, traced_based}
use Rattle.px_basing.proofs.Shown.{based_shown, based_steps, based_told}
use Rattle.px_basing.proofs.laws.law_based.Goals as goal

pub returns : goal.returns
returns g c = record {
  right = right_based g.D.Disk;
  tallied = tallied_based g.D.Disk;
  traced = traced_based g.D.Disk;
  shown = based_shown g.D.Disk;
  steps = based_steps g.D.Disk;
  told = based_told g.D.Disk;
}
