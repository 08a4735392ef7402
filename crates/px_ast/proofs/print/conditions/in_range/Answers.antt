use Rattle.std.proofs.lemmas.Result.{on_ok_weaker}
use Rattle.px_ast.proofs.Predicates.{prints_between}
use Rattle.px_ast.proofs.print.conditions.in_range.Goals as goal

pub returns : goal.returns
returns c = λ depth.
    on_ok_weaker c.operand-3.result
    (prints_between depth c.args.tried.now c.args.outside c.args.low.now c.args.high.now c.args.to.now c.operand.new.to c.negation.new.to c.word.new.to c.operand-2.new.to c.word-2.new.to
    c.operand-3.new.to c.in_ok-operand.ensures c.in_ok-negation.ensures c.in_ok-word.ensures c.in_ok-operand-2.ensures c.in_ok-word-2.ensures)
    c.operand-3.ensures
