use Rattle.std.proofs.Common.{sym, ◌∙◌}
use Rattle.px_item.proofs.Following.{found_none, found_one, held_one, sought_one}
use Rattle.px_item.proofs.item.find.Goals as goal

pub returns-else-holds_rows-clause-turns : goal.returns-else-holds_rows-clause-turns
returns-else-holds_rows-clause-turns g c = λ before own f.
    found_one g.S.Steps.sound before c.args.asked own c.args.statement _ _ _ c.follow.result f (sym c.holds.ensures ∙ c.if-holds.false) (sym c.holds_rows.ensures ∙ c.if-holds_rows.false) (rw c.table_named.ensures at c.in-Ok.ensures.ok) c.follow.ensures

pub returns-then-holds_rows-clause-turns : goal.returns-then-holds_rows-clause-turns
returns-then-holds_rows-clause-turns g c = λ before own f. sought_one g.S.Steps.sound before c.args.asked own c.args.statement _ _ _ f (rw c.table_named.ensures at c.in-Ok.ensures.ok) c.seek.result (sym c.holds_rows.ensures ∙ c.if-holds_rows.true) c.seek.ensures

pub returns-then-holds-clause-turns : goal.returns-then-holds-clause-turns
returns-then-holds-clause-turns g c = λ before own f. held_one g.S.Steps.sound before c.args.asked own c.args.statement _ _ _ f (rw c.table_named.ensures at c.in-Ok.ensures.ok) c.hold.result (sym c.holds.ensures ∙ c.if-holds.true) c.hold.ensures

pub returns-in-Err-clause-turns : goal.returns-in-Err-clause-turns
returns-in-Err-clause-turns g c = λ before own f.
    found_none g.S.Steps.sound before c.args.asked own c.args.statement _ _ _ c.unfound-reply.result c.over.result f (rw c.table_named.ensures at c.in-Err.ensures.refused) c.over.ensures.first c.unfound-reply.ensures c.over.ensures.says
