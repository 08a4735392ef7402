use Rattle.std.proofs.lemmas.Bool.{ltb-true}
use Rattle.std.proofs.Common.{length}
use Rattle.px_server.proofs.Fields.{name_right, not_empty}
use Rattle.px_server.proofs.defining.spelled.is_spelled.Goals as goal

pub returns-then-not-is_empty : goal.returns-then-not-is_empty
returns-then-not-is_empty c short =
    name_right c.as_str-text.result.now c.args.name.now c.as_str-text.ensures c.as_str-text.utf8 (not_empty c.as_str-text.result.now c.is_empty.result c.is_empty.ensures c.if-not-is_empty.true)
    (ltb-true (length c.as_str-text.result.now) 256 short)
