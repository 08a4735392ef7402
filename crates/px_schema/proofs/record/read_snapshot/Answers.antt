use Rattle.std.proofs.Common.{ℕ, subst, sym}
use Rattle.px_schema.specs.Outcomes.{AnswersRecord}
use Rattle.px_schema.specs.Records.{snapshot_in_body}
use Rattle.px_schema.specs.Format.{standing_piece}
use Rattle.px_schema.proofs.RecordSteps.{is_within, record_is}
use Rattle.px_schema.proofs.record.read_snapshot.Goals as goal

pub in_record-requires : goal.in_record-requires
in_record-requires c = record { within = is_within (standing_piece) c.args.body.now c.standing_in.result c.whole.result c.standing_in.ensures c.whole.ensures c.requires.short }

pub returns : goal.returns
returns c = subst (λ (k : ℕ). AnswersRecord (snapshot_in_body k c.args.body.now) c.in_record.result) (sym c.if-kind-ne1.false) (record_is (standing_piece) c.args.body.now c.standing_in.result c.whole.result c.in_record.result c.standing_in.ensures c.whole.ensures c.in_record.ensures)
