use Rattle.std.proofs.Common.{[], Ok, ap, ◌∙◌}
use Rattle.px_gatelog.proofs.Older.{open_taken}
use Rattle.px_gatelog.proofs.rereading.take_open.Goals as goal

pub returns-in-Ok-clause-taken : goal.returns-in-Ok-clause-taken
returns-in-Ok-clause-taken g c = λ generation older none is.
    open_taken (g.R.LogReader.form c.args.reader.now) generation c.args.bytes.now older is c.requires c.in-Ok-Some.generation (c.in-Ok-Some.ensures.header ∙ ap (λ h. Ok h) c.in-Ok-Some.field-0-is) (g.R.LogReader.has_read c.read_segment.new.reader) c.args.in_second c.in-Ok.field-0
    (c.in-Ok.ensures.taken [] none)
