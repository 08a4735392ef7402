use Rattle.std.proofs.Common.{lit<}
use Rattle.px_arguments.proofs.Numbers.{read, unread}
use Rattle.px_arguments.proofs.number.number_named.Goals as goal

pub returns-in-Ok : goal.returns-in-Ok
returns-in-Ok c = read c.args.word.now c.parse.result (c.if-starts_with.ensures.byte (lit< tt) (lit< tt) (λ w o h. h)) c.parse.ensures.value.0 c.in-Ok.number c.in-Ok.is

pub returns-in-Err : goal.returns-in-Err
returns-in-Err c = unread c.args.word.now c.parse.result (c.if-starts_with.ensures.byte (lit< tt) (lit< tt) (λ w o h. h)) c.parse.ensures.value.0 c.in-Err.field-0 c.in-Err.is
