use Rattle.px_schema.proofs.RecordLaws.{definition_taken}
use Rattle.px_catalog.proofs.Values.{answers_next, drawn_short, read_ok}
use Rattle.px_catalog.proofs.reader.read_next.Goals as goal

pub after-requires : goal.after-requires
after-requires c = record { short = drawn_short c.args.standing c.in-Ok.item (definition_taken c.args.standing c.args.kind c.args.body.now c.in-Ok.item c.in-Ok.ensures).1 }

pub returns-in_ok-after-in-Ok : goal.returns-in_ok-after-in-Ok
returns-in_ok-after-in-Ok c = read_ok c.args.standing c.in_ok-after-in-Ok.field-0 _ c.in-Ok.item c.in-Ok.ensures c.in_ok-after-in-Ok.ensures

pub returns-in-Err : goal.returns-in-Err
returns-in-Err c = answers_next c.args.standing _ c.in-Err.fault c.in-Err.ensures
