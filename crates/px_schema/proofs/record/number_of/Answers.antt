use Rattle.std.proofs.Common.{map}
use Rattle.px_pieces.specs.Numbers.{one_of_piece}
use Rattle.px_schema.proofs.RecordSteps.{is_within, record_is}
use Rattle.px_schema.proofs.record.number_of.Goals as goal

pub in_record-requires : goal.in_record-requires
in_record-requires g c = record { within = is_within (one_of_piece 4 (map g.T.Numbered.number_of c.args.standing.now)) c.args.body.now c.number_there.result c.whole.result c.number_there.ensures c.whole.ensures c.requires.short }

pub returns : goal.returns
returns g c = record_is (one_of_piece 4 (map g.T.Numbered.number_of c.args.standing.now)) c.args.body.now c.number_there.result c.whole.result c.in_record.result c.number_there.ensures c.whole.ensures c.in_record.ensures
