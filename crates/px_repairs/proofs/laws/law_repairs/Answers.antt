use Rattle.px_repairs.proofs.Right.{right_repaired, tallied_repaired, traced_repaired}
use Rattle.px_repairs.proofs.Shown.{repaired_shown, repaired_steps, repaired_told}
use Rattle.px_repairs.proofs.laws.law_repairs.Goals as goal

pub returns : goal.returns
returns g c = record {
  right = right_repaired g.D.Disk;
  tallied = tallied_repaired g.D.Disk;
  traced = traced_repaired g.D.Disk;
  shown = repaired_shown g.D.Disk;
  steps = repaired_steps g.D.Disk;
  told = repaired_told g.D.Disk;
}
