use Rattle.px_item.specs.Right as right
use Rattle.px_item.proofs.reading.read_statement.Goals as goal

pub returns-in-Err : goal.returns-in-Err
returns-in-Err c =
    (right.is_not_read _ (c.requires, c.in-Err.ensures.answer) (rw c.syntax_refusal.ensures at c.refused-in-Err.ensures.says), c.refused-in-Err.ensures.first)
