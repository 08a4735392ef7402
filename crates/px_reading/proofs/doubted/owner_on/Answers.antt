use Rattle.px_reading.proofs.Looks.{ok_map}
use Rattle.px_reading.proofs.Rows.{owned_on}
use Rattle.px_reading.proofs.doubted.owner_on.Goals as goal

pub returns : goal.returns
returns c = ok_map _ _ (λ row h t x e p. owned_on t x c.args.table.now c.args.path.now c.args.columns.now c.args.key.now c.in-Ok.values row.items e p c.requires.columns c.in-Ok.ensures.ok h) c.values_among.result c.values_among.ensures
