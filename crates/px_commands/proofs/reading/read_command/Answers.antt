use Rattle.std.proofs.Common.{length, refl, inr, arith}
use Rattle.px_lex.proofs.Readings.{some_reading}
use Rattle.px_commands.proofs.reading.read_command.Goals as goal

pub returns-in-Err : goal.returns-in-Err
returns-in-Err c = let some = some_reading (length c.args.text.now) c.args.text.now (omega arith) in (some.0, some.1, inr refl)
