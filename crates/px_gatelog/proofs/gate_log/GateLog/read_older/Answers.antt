use Rattle.std.proofs.Common.{ℕ, List, Err, ap, sym, subst, ◌∙◌}
use Rattle.px_gatelog.specs.GateLog.{IsOlder}
use Rattle.px_gatelog.proofs.Older.{older_in}
use Rattle.px_gatelog.proofs.gate_log.GateLog.read_older.Goals as goal

pub returns-in-Ok-clause-taken : goal.returns-in-Ok-clause-taken
returns-in-Ok-clause-taken g c = λ segments none settled.
    let d = g.D.Disk in
    let form = g.R.LogReader.form c.args.reader.now in
    let s = c.in-Some.newest in
    let o = older_in d form c.args.self.now c.args.disk.now segments s c.in-Some.is settled in
    let there : IsOlder form s.generation (d.seen c.args.disk.now c.file-file.result) o.0 = subst (λ (f : ℕ). IsOlder form s.generation (d.seen c.args.disk.now f) o.0) (sym c.file-file.ensures) o.1.0 in
    let is : IsOlder form s.generation c.deref.result.now o.0 = subst (λ (l : List ℕ). IsOlder form s.generation l o.0) (sym (c.deref.ensures.value ∙ c.in_ok-bytes.ensures.bytes settled.told)) there in
    subst (g.R.LogReader.has_read c.take_open.new.reader) o.1.1 (c.in-Ok.ensures.taken s.generation o.0 none is)

pub returns-in-Err-Damaged-clause-sound : goal.returns-in-Err-Damaged-clause-sound
returns-in-Err-Damaged-clause-sound g c = λ segments none settled file place e.
    let d = g.D.Disk in
    let form = g.R.LogReader.form c.args.reader.now in
    let s = c.in-Some.newest in
    let o = older_in d form c.args.self.now c.args.disk.now segments s c.in-Some.is settled in
    let there : IsOlder form s.generation (d.seen c.args.disk.now c.file-file.result) o.0 = subst (λ (f : ℕ). IsOlder form s.generation (d.seen c.args.disk.now f) o.0) (sym c.file-file.ensures) o.1.0 in
    let is : IsOlder form s.generation c.deref.result.now o.0 = subst (λ (l : List ℕ). IsOlder form s.generation l o.0) (sym (c.deref.ensures.value ∙ c.in_ok-bytes.ensures.bytes settled.told)) there in
    c.in-Err-Damaged.ensures.sound s.generation o.0 none is c.in-Err-Damaged.at c.in-Err-Damaged.place (ap (λ f. Err f) c.in-Err-Damaged.field-0-is)
