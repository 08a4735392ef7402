use Rattle.px_groupworld.specs.Group.{table_form}
use Rattle.px_groupworld.proofs.Entries.{rows_of_group}
use Rattle.px_openbatches.proofs.Pendings.{begun_new, begun_old}
use Rattle.px_openbatches.proofs.law_states.Goals as goal

pub returns : goal.returns
returns g c = record {
  old = λ b id index es v k hs held. begun_old g.F.Formed.rows b es id v.high (rows_of_group (table_form b id index g.F.Formed.rows) es v k) hs held v.low v.cells k.told;
  new = λ b id index es v k hs held. begun_new g.F.Formed.rows b es id v.high (rows_of_group (table_form b id index g.F.Formed.rows) es v k) hs held v.low v.cells k.told;
}
