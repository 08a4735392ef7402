use Rattle.std.proofs.Common.{Option, subst, sym}
use Rattle.px_schema.specs.Outcomes.{AnswersRecord}
use Rattle.px_schema.specs.declared.standing.Standing.{Standing}
use Rattle.px_catalog.specs.inner.Reader.{read_on}
use Rattle.px_catalog.proofs.Values.{answers_first}
use Rattle.px_catalog.proofs.reader.read_record.Goals as goal

pub returns-in-None : goal.returns-in-None
returns-in-None c =
    subst (λ (o : Option Standing). AnswersRecord (read_on o (record { kind = c.args.kind; body = c.args.body.now })) c.read_snapshot.result) (sym c.in-None.is)
    (answers_first (record { kind = c.args.kind; body = c.args.body.now }) c.read_snapshot.result c.read_snapshot.ensures)
