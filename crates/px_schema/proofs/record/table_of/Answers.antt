use Rattle.px_schema.specs.Format.{table}
use Rattle.px_schema.proofs.RecordSteps.{is_within, record_is}
use Rattle.px_schema.proofs.record.table_of.Goals as goal

pub in_record-requires : goal.in_record-requires
in_record-requires c = record { within = is_within (table) c.args.body.now c.table_in.result c.whole.result c.table_in.ensures c.whole.ensures c.requires.short }

pub returns : goal.returns
returns c = record_is (table) c.args.body.now c.table_in.result c.whole.result c.in_record.result c.table_in.ensures c.whole.ensures c.in_record.ensures
