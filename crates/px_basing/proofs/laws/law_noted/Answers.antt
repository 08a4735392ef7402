use Rattle.px_groupworld.specs.Steps.{at_index, cells_data}
use Rattle.px_indexed.specs.Worlds.{row_event}
use Rattle.px_region.specs.Region.{read_of}
use Rattle.px_trail.specs.Batches.{has}
use Rattle.px_world.specs.Events.{Base as BaseVersion}
use Rattle.px_group.specs.Group.{form_of}
use Rattle.px_baserows.specs.Rows.{owners_in}
use Rattle.px_basing.proofs.Noted.{shown_noted, steps_noted, tallied_noted, traced_noted}
use Rattle.px_basing.proofs.Right.{hands_of, tallied_based, traced_based}
use Rattle.px_basing.proofs.Shown.{based_shown, based_steps}
use Rattle.px_basing.proofs.laws.law_noted.Goals as goal

pub returns : goal.returns
returns t c = record {
  tallied = λ g h old new place xs b es hs k w e i rows is. tallied_noted e i rows is b es h hs (tallied_based t.D.Disk g h old new place xs b es hs k (hands_of t.D.Disk g h old new place xs w));
  traced = λ g h old new place xs b es k w e i rows is. traced_noted e i rows is b es h (traced_based t.D.Disk g h old new place xs es k (hands_of t.D.Disk g h old new place xs w));
  shown = λ g h old new place xs right given b es stood index v hs k w e may i rows is. shown_noted e i rows is b index es h (cells_data place (read_of w.region) v) hs may (based_shown t.D.Disk g h old new place xs right given b es stood index v hs k w);
  steps = λ g h old new place xs right given b es stood index v hs k w e may i rows is.
      steps_noted e i rows is (form_of b index g) (λ j r. at_index place j (row_event BaseVersion (has (owners_in g.table xs) r))) es v (cells_data place (read_of w.region) v) hs may (based_steps t.D.Disk g h old new place xs right given b es stood index v hs k w);
}
