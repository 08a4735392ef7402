use Rattle.std.proofs.lemmas.Result.{on_ok_weaker}
use Rattle.px_ast.proofs.Predicates.{prints_in}
use Rattle.px_ast.proofs.print.conditions.in_list.Goals as goal

pub returns : goal.returns
returns c = λ depth.
    on_ok_weaker c.literals.result
    (prints_in depth c.args.tried.now c.args.negated c.args.list.now c.args.to.now c.operand.new.to c.negation.new.to c.word.new.to c.literals.new.to c.in_ok-operand.ensures
    c.in_ok-negation.ensures c.in_ok-word.ensures)
    c.literals.ensures
