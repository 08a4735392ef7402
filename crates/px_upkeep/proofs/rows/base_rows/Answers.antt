use Rattle.std.proofs.Common.{rules, arith, ◌≡◌, [], Err, List, length, sym, subst}
use Rattle.std.specs.Vec.Iter.{into_iter_items}
use Rattle.px_calls.specs.declared.query.BaseRow.{BaseRow}
use Rattle.px_upkeep.specs.Rows.{AreBasesOf}
use Rattle.px_upkeep.specs.declared.rows.RowsFault.TheVariants.{TooLong}
use Rattle.px_upkeep.proofs.Keeping.{keeps-all, keeps-long, keeps-one, no-length}
use Rattle.px_upkeep.proofs.rows.base_rows.Goals as goal

pub returns-in_err-keep_row-clause-too_long : goal.returns-in_err-keep_row-clause-too_long
returns-in_err-keep_row-clause-too_long c = λ e.
    let told : c.keep_row.result ≡ Err TooLong = (let w = c.in_err-keep_row.was in let r = c.from_residual.ensures in search rules) in
    keeps-long c.args.table.now c.args.keys.now c.args.columns.now c.args.found _ _ c.in-Some.key _ c.in-Some.ensures.steps.0 (c.keep_row.ensures.too_long told) c.loop-key.invariant

pub loop-key-preserved : goal.loop-key-preserved
loop-key-preserved c = keeps-one c.args.table.now c.args.keys.now c.args.columns.now c.args.found _ _ c.in-Some.key _ _ c.in-Some.ensures.steps.0 c.in_ok-keep_row.ensures.ok c.loop-key.invariant

pub returns-clause-ok : goal.returns-clause-ok
returns-clause-ok c =
    let z : length (into_iter_items c.loop-key.key-iterator) ≡ 0 = (let e = c.in-None.ensures.steps.0 in omega (arith, e)) in
    let none : into_iter_items c.loop-key.key-iterator ≡ [] = no-length (into_iter_items c.loop-key.key-iterator) z in
    subst (λ (l : List BaseRow). AreBasesOf c.args.table.now c.args.keys.now c.args.columns.now c.args.found l) (sym c.of.ensures) (keeps-all c.args.table.now c.args.keys.now c.args.columns.now c.args.found _ _ none c.loop-key.invariant)
