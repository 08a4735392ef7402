use Rattle.std.proofs.Common.{rules, ◌≡◌, Err}
use Rattle.px_upkeep.specs.declared.rows.RowsFault.TheVariants.{TooLong}
use Rattle.px_upkeep.proofs.Keeping.{long-one}
use Rattle.px_upkeep.proofs.rows.keep_row.Goals as goal

pub returns-in_err-row-in-Sure-clause-too_long : goal.returns-in_err-row-in-Sure-clause-too_long
returns-in_err-row-in-Sure-clause-too_long c = λ e.
    let told : c.base_row.result ≡ Err TooLong = (let w = c.in_err-row-in-Sure.was in let r = c.from_residual.ensures in search rules) in
    long-one c.args.columns.now c.args.key c.in-Sure.found c.in-Sure.is (c.base_row.ensures.too_long told)
