use Rattle.std.proofs.Common.{[], ◌∷◌, ◌++◌, refl}
use Rattle.px_groupworld.specs.Group.{table_form}
use Rattle.px_tablereads.proofs.Tells.{quiet_written, told_first, told_forgot, told_same, told_wrote}
use Rattle.px_tablereads.proofs.Openings.{told_opened}
use Rattle.px_tablereads.proofs.law_keeps.Goals as goal

pub returns : goal.returns
returns g c = record {
  first = λ b id index. told_first (table_form b id index g.F.Formed.rows);
  opened = λ b id index next n u. told_opened (table_form b id index g.F.Formed.rows) next n u;
  writes = λ b id index. told_wrote (table_form b id index g.F.Formed.rows);
  others = λ b id index es v k told e n now k' low cells. told_same (table_form b id index g.F.Formed.rows) es v k (es ++ e ∷ []) now k' told low cells (quiet_written (table_form b id index g.F.Formed.rows) es v k e n);
  regions = λ b id index es v k told now k' low cells. told_same (table_form b id index g.F.Formed.rows) es v k es now k' told low cells (λ r s. refl);
  forgets = λ b id index. told_forgot (table_form b id index g.F.Formed.rows);
}
