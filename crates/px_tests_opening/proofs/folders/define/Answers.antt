use Rattle.std.proofs.Common.{subst}
use Rattle.px_schema.specs.Records.{IsRightCatalogItem}
use Rattle.px_schema.specs.declared.standing.Standing.{Standing}
use Rattle.px_schema.proofs.RecordLaws.{definition_taken}
use Rattle.px_tests_opening.proofs.folders.define.Goals as goal

pub append-requires : goal.append-requires
append-requires c = record {
  right = subst (λ (s : Standing). IsRightCatalogItem s c.in-Ok.item) c.standing.ensures (definition_taken c.standing.result.now c.args.kind c.args.body.now c.in-Ok.item c.in-Ok.ensures).1;
}
