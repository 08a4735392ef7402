use Rattle.px_item.specs.Right as right
use Rattle.px_item.proofs.reading.read_line.Goals as goal

pub commanded-requires : goal.commanded-requires
commanded-requires c = (c.requires, (c.in-Some.text.now, c.in-Some.ensures, rw c.in-Ok.is at c.read_command.ensures))

pub returns-in-Err : goal.returns-in-Err
returns-in-Err c =
    (right.is_no_command c.in-Err.fault (c.requires, (c.in-Some.text.now, c.in-Some.ensures, rw c.in-Err.is at c.read_command.ensures)) (rw c.command_refusal.ensures at c.refused-in-Err.ensures.says), c.refused-in-Err.ensures.first)
