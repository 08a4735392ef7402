use Rattle.std.proofs.Common.{rules, None, Some}
use Rattle.px_wal.specs.SnapshotOf.{snapshot_of}
use Rattle.px_wal.proofs.Snapshots.{answers_body, last_more, wrong_kind}
use Rattle.px_wal.proofs.snapshot_reader.SnapshotReaderLogReader.take.Goals as goal

pub returns-then-kind-ne-SNAPSHOT_RECORD-clause-tested : goal.returns-then-kind-ne-SNAPSHOT_RECORD-clause-tested
returns-then-kind-ne-SNAPSHOT_RECORD-clause-tested c = λ records held. wrong_kind records c.args.kind c.args.body.now c.if-kind-ne-SNAPSHOT_RECORD.true

pub returns-in-Err-Wrong-clause-tested : goal.returns-in-Err-Wrong-clause-tested
returns-in-Err-Wrong-clause-tested c = λ records held.
    answers_body records c.args.kind c.args.body.now (Some c.in-Err-Wrong.place) c.if-kind-ne-SNAPSHOT_RECORD.false (c.in-Err-Wrong.ensures.wrong c.in-Err-Wrong.place (search rules))

pub returns-in-Ok-clause-tested : goal.returns-in-Ok-clause-tested
returns-in-Ok-clause-tested c = λ records held. answers_body records c.args.kind c.args.body.now None c.if-kind-ne-SNAPSHOT_RECORD.false c.in-Ok.ensures.right

pub returns-in-Ok-clause-taken : goal.returns-in-Ok-clause-taken
returns-in-Ok-clause-taken c = λ records held none. record {
  last = last_more records c.args.kind c.args.body.now (snapshot_of c.in-Ok.snapshot) c.if-kind-ne-SNAPSHOT_RECORD.false c.in-Ok.ensures.body;
  right = c.in-Ok.ensures.snapshot;
}
