use Rattle.std.proofs.Common.{◌≡◌, ◌∙◌, List, subst}
use Rattle.px_keys.specs.Spelling.{IsKeyOf}
use Rattle.px_keys.specs.declared.parts.KeyColumn.{KeyColumn}
use Rattle.px_rows.specs.Keys.{row_columns}
use Rattle.px_rows.proofs.KeysBack.{row_key-fits}
use Rattle.px_rows.proofs.key.row_of_key.Goals as goal

pub returns-in-Ok-clause-ok : goal.returns-in-Ok-clause-ok
returns-in-Ok-clause-ok c =
    let columns : c.deref.result.now ≡ row_columns c.args.table.now = c.deref.ensures.value ∙ c.in_ok-columns.ensures in
    let is : IsKeyOf (row_columns c.args.table.now) c.in-Ok.row c.args.key.now = subst (λ (x : List KeyColumn). IsKeyOf x c.in-Ok.row c.args.key.now) columns c.in-Ok.ensures.ok in
    (is.fits, row_key-fits c.args.table.now c.in-Ok.row is.fits ∙ is.spells)
