use Rattle.px_upkeep.proofs.Ending.{again, ends, fails, refuses, renews}
use Rattle.px_upkeep.proofs.build.close.Goals as goal

pub returns-in-Again-clause-turns : goal.returns-in-Again-clause-turns
returns-in-Again-clause-turns g c = λ n own f. let h = rw c.in-Again.is at f in again g.S.Steps.sound n c.args.table c.args.index own c.args.point _ _ c.close_point.ensures.adds h.is.0 h.asked _ h.is.1

pub returns-in-Renew-clause-turns : goal.returns-in-Renew-clause-turns
returns-in-Renew-clause-turns g c = λ n own f. let h = rw c.in-Renew.is at f in renews g.S.Steps.sound n c.args.table c.args.index own c.args.point _ _ c.close_point.ensures.adds h.is.0 h.asked _ c.new.ensures.definition c.new.ensures.state h.is.1

pub returns-in-Active-clause-turns : goal.returns-in-Active-clause-turns
returns-in-Active-clause-turns g c = λ n own f. let h = rw c.in-Active.is at f in ends g.S.Steps.sound n c.args.table c.args.index own c.args.point _ _ c.close_point.ensures.adds h.is.0 h.asked _ h.is.1

pub returns-in-Failed-clause-turns : goal.returns-in-Failed-clause-turns
returns-in-Failed-clause-turns g c = λ n own f. let h = rw c.in-Failed.is at f in fails g.S.Steps.sound n c.args.table c.args.index own c.args.point _ _ c.close_point.ensures.adds h.is.0 h.asked _ h.is.1

pub returns-in-Refused-clause-turns : goal.returns-in-Refused-clause-turns
returns-in-Refused-clause-turns g c = λ n own f. let h = rw c.in-Refused.is at f in refuses g.S.Steps.sound n c.args.table c.args.index own c.args.point _ _ c.close_point.ensures.adds h.is.0 h.asked _ _ c.disabling.ensures h.is.1
