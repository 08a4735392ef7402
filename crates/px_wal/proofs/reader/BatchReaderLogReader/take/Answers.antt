use Rattle.std.proofs.Common.{rules, arith, ◌+◌, ap, length, None, Some}
use Rattle.px_wal.specs.Batch.{log_batch}
use Rattle.px_wal.specs.Form.{number_in, number_place}
use Rattle.px_wal.proofs.Readings.{length_of_body}
use Rattle.px_wal.proofs.Taken.{answers_body, answers_kind, older_kept, records_more}
use Rattle.px_wal.proofs.reader.BatchReaderLogReader.take.Goals as goal

pub returns-then-kind-ne-BATCH_RECORD-clause-tested : goal.returns-then-kind-ne-BATCH_RECORD-clause-tested
returns-then-kind-ne-BATCH_RECORD-clause-tested c = λ records held. answers_kind c.args.self.now.flushed records c.args.kind c.args.body.now c.if-kind-ne-BATCH_RECORD.true

pub overflow_sub-body : goal.overflow_sub-body
overflow_sub-body c = omega (arith, length_of_body (log_batch c.in-Ok.batch), ap length c.in-Ok.ensures.body)

pub keep-requires-clause-bytes : goal.keep-requires-clause-bytes
keep-requires-clause-bytes c = omega (arith, length_of_body (log_batch c.in-Ok.batch), ap length c.in-Ok.ensures.body)

pub returns-in-Err-Wrong-clause-tested : goal.returns-in-Err-Wrong-clause-tested
returns-in-Err-Wrong-clause-tested c = λ records held.
    answers_body c.args.self.now records c.args.kind c.args.body.now (Some c.in-Err-Wrong.place) held c.if-kind-ne-BATCH_RECORD.false (c.in-Err-Wrong.ensures.wrong c.in-Err-Wrong.place (search rules))

pub returns-in_ok-keep-in-Ok-clause-tested : goal.returns-in_ok-keep-in-Ok-clause-tested
returns-in_ok-keep-in-Ok-clause-tested c = λ records held.
    answers_body c.args.self.now records c.args.kind c.args.body.now None held c.if-kind-ne-BATCH_RECORD.false (c.in-Ok.ensures.right (number_place (c.args.self.now.last + 1) (number_in c.args.body.now)))

pub returns-in_ok-keep-in-Ok-clause-taken : goal.returns-in_ok-keep-in-Ok-clause-taken
returns-in_ok-keep-in-Ok-clause-taken c = λ records held none.
    records_more c.args.self.now _ records c.args.kind c.args.body.now (log_batch c.in-Ok.batch) held c.if-kind-ne-BATCH_RECORD.false c.in-Ok.ensures.body c.in_ok-keep-in-Ok.ensures.kept

pub returns-in_err-keep-in-Ok-clause-older : goal.returns-in_err-keep-in-Ok-clause-older
returns-in_err-keep-in-Ok-clause-older c = λ records told. older_kept c.args.self.now records _ _ c.keep.ensures.same c.keep.ensures.older told

pub returns-in_ok-keep-in-Ok-clause-older : goal.returns-in_ok-keep-in-Ok-clause-older
returns-in_ok-keep-in-Ok-clause-older c = λ records told. older_kept c.args.self.now records _ _ c.keep.ensures.same c.keep.ensures.older told
