use Rattle.std.proofs.lemmas.Result.{on_ok_weaker}
use Rattle.std.specs.Prelude.{codes}
use Rattle.std.specs.String.{string_bytes}
use Rattle.px_reply.specs.Printed.{with_number}
use Rattle.px_load.specs.Script.{upsert_line}
use Rattle.px_load.proofs.Adding.{four_parts, where_added}
use Rattle.px_load.proofs.script.add_upsert.Goals as goal

pub returns : goal.returns
unfolding upsert_line
returns c =
    let row = c.args.row in
    on_ok_weaker c.push_str.result (λ last.
    four_parts (string_bytes c.args.text.now) (string_bytes c.add_number.new.text) (string_bytes c.add_number-2.new.text) (string_bytes c.add_number-3.new.text) (string_bytes c.push_str.new.self)
    (with_number (codes "UPSERT INTO LOAD VALUES (") row.id) (with_number (codes ", 'G") row.group) (with_number (codes "', ") row.amount) (codes ");\n")
    c.in_ok-add_number.ensures c.in_ok-add_number-2.ensures c.in_ok-add_number-3.ensures last)
    (where_added c.push_str.result (string_bytes c.add_number-3.new.text) (string_bytes c.push_str.new.self) (codes ");\n") c.push_str.ensures.bytes)
