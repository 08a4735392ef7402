use Rattle.std.proofs.Common.{true, arith}
use Rattle.std.proofs.lemmas.Grind.{common_steps}
use Rattle.std.specs.Str.{bytes_eq}
use Rattle.std.specs.String.{string_bytes}
use Rattle.std.proofs.lemmas.List.Folds.{list_any_more}
use Rattle.std.proofs.lemmas.Map.Text.{btree_set_updates_text}
use Rattle.px_ast.specs.declared.definition.KeyPart.{KeyPart}
use Rattle.px_parse.proofs.nullness.names_of.Goals as goal

pub loop-part-preserved : goal.loop-part-preserved
loop-part-preserved c = λ name.
    let step = btree_set_updates_text (string_bytes c.in_ok-from_str.field-0) c.loop-part.names c.insert.new.self true c.in_ok-insert.ensures.updates name in
    let more = list_any_more (λ (part : KeyPart). bytes_eq part.column name) c.args.parts.now c.loop-part.part-index c.part-item.result c.loop-part-test.true in
    grind (arith, common_steps, step, more, c.loop-part.invariant name)
