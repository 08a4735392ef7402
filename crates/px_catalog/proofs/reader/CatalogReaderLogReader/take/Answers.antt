use Rattle.std.proofs.Common.{Ok, Err}
use Rattle.px_catalog.proofs.Values.{on_before, read_within, taken_more, tested_by, wrong_at}
use Rattle.px_catalog.proofs.reader.CatalogReaderLogReader.take.Goals as goal

pub returns-in-Ok-clause-tested : goal.returns-in-Ok-clause-tested
returns-in-Ok-clause-tested c = λ records held.
    tested_by c.args.self.now.standing records (record { kind = c.args.kind; body = c.args.body.now }) (Ok c.in-Ok.standing) held
    (on_before c.args.self.now.standing c.take-before.result (record { kind = c.args.kind; body = c.args.body.now }) (Ok c.in-Ok.standing) c.take-before.ensures.value c.in-Ok.ensures)

pub returns-in-Ok-clause-taken : goal.returns-in-Ok-clause-taken
returns-in-Ok-clause-taken c = λ records held none.
    taken_more c.args.self.now.standing records (record { kind = c.args.kind; body = c.args.body.now }) c.in-Ok.standing held
    (on_before c.args.self.now.standing c.take-before.result (record { kind = c.args.kind; body = c.args.body.now }) (Ok c.in-Ok.standing) c.take-before.ensures.value c.in-Ok.ensures)

pub returns-in-Err-NotADefinition-clause-within : goal.returns-in-Err-NotADefinition-clause-within
returns-in-Err-NotADefinition-clause-within c =
    read_within c.take-before.result (record { kind = c.args.kind; body = c.args.body.now }) c.in-Err-NotADefinition.place (wrong_at c.take-before.result (record { kind = c.args.kind; body = c.args.body.now }) c.in-Err-NotADefinition.field-0 c.in-Err-NotADefinition.place c.in-Err-NotADefinition.field-0-is c.in-Err-NotADefinition.ensures)

pub returns-in-Err-NotADefinition-clause-tested : goal.returns-in-Err-NotADefinition-clause-tested
returns-in-Err-NotADefinition-clause-tested c = λ records held.
    tested_by c.args.self.now.standing records (record { kind = c.args.kind; body = c.args.body.now }) (Err c.in-Err-NotADefinition.place) held
    (on_before c.args.self.now.standing c.take-before.result (record { kind = c.args.kind; body = c.args.body.now }) (Err c.in-Err-NotADefinition.place) c.take-before.ensures.value
    (wrong_at c.take-before.result (record { kind = c.args.kind; body = c.args.body.now }) c.in-Err-NotADefinition.field-0 c.in-Err-NotADefinition.place c.in-Err-NotADefinition.field-0-is c.in-Err-NotADefinition.ensures))
