use Rattle.px_schema.specs.Format.{index}
use Rattle.px_schema.proofs.RecordSteps.{is_within, record_is}
use Rattle.px_schema.proofs.record.index_of.Goals as goal

pub in_record-requires : goal.in_record-requires
in_record-requires c = record { within = is_within (index c.args.tables.now) c.args.body.now c.index_in.result c.whole.result c.index_in.ensures c.whole.ensures c.requires.short }

pub returns : goal.returns
returns c = record_is (index c.args.tables.now) c.args.body.now c.index_in.result c.whole.result c.in_record.result c.index_in.ensures c.whole.ensures c.in_record.ensures
