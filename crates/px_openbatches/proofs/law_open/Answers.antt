use Rattle.px_groupworld.specs.Group.{table_form}
use Rattle.px_groupworld.proofs.Entries.{rows_of_group}
use Rattle.px_indexed.proofs.Idle.{act_idle}
use Rattle.px_indexed.proofs.Rows.{ending, phasing}
use Rattle.px_openbatches.proofs.Readies.{opens_begun, opens_ended, opens_idle, opens_phase, opens_wrote}
use Rattle.px_openbatches.proofs.law_open.Goals as goal

pub returns : goal.returns
returns g c = record {
  begins = λ b id index es v k hs o e s cs is new apart p newest within made rows computed. opens_begun (table_form b id index g.F.Formed.rows) es v.indexes v.high (rows_of_group (table_form b id index g.F.Formed.rows) es v k) hs o v.low v.cells k.told e s cs is new apart p newest within (λ i l. (k.indexes i l).birth) made rows computed;
  writes = λ b id index es v k hs o. opens_wrote (table_form b id index g.F.Formed.rows) es v.indexes v.high (rows_of_group (table_form b id index g.F.Formed.rows) es v k) hs o;
  ends = λ b id index es v k hs o e s is may. opens_ended (table_form b id index g.F.Formed.rows) es v.indexes v.high (rows_of_group (table_form b id index g.F.Formed.rows) es v k) hs o e s is (ending b es e.seat id.0 s k.legal may);
  phases = λ b id index es v k hs o e s phase is may. opens_phase (table_form b id index g.F.Formed.rows) es v.indexes v.high (rows_of_group (table_form b id index g.F.Formed.rows) es v k) hs o e s phase is (phasing es e.seat id.0 s phase may);
  idles = λ b id index es v k hs o e n. opens_idle (table_form b id index g.F.Formed.rows) es v.indexes v.high (rows_of_group (table_form b id index g.F.Formed.rows) es v k) hs o e (act_idle id e n).still;
}
