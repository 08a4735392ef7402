use Rattle.px_schema.proofs.RecordLaws.{definition_taken}
use Rattle.px_schema.proofs.Rights.{item_fits}
use Rattle.px_tests_schema.proofs.again.rewritten.Goals as goal

pub write_definition-requires : goal.write_definition-requires
write_definition-requires c = record { fits = item_fits c.args.standing.now c.in_ok-item.item (definition_taken c.args.standing.now c.args.kind c.args.body.now c.in_ok-item.item c.in_ok-item.ensures).1 }
