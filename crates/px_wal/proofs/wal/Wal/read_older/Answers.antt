use Rattle.std.proofs.Common.{◌≡◌, [], Err, ap, refl}
use Rattle.px_gatelog.specs.declared.fault.StartFault.TheVariants.{Damaged}
use Rattle.px_wal.proofs.Rereading.{reread_by, settled_for}
use Rattle.px_wal.proofs.wal.Wal.read_older.Goals as goal

pub returns-in-Ok-clause-read : goal.returns-in-Ok-clause-read
returns-in-Ok-clause-read g c = λ region batches has.
    let flushed = c.new-reader.ensures.flushed in
    let taken = c.in-Ok.ensures.taken has.log.segments ([], refl, c.new-reader.ensures.empty) (settled_for g.D.Disk region c.args.flushed c.args.self.now c.args.disk.now batches has c.new-reader.result.flushed flushed) in
    reread_by g.D.Disk region c.args.flushed c.args.self.now c.args.disk.now batches has c.new-reader.result c.read_older.new.reader c.into_reread.result flushed c.read_older.ensures.same taken
    c.into_reread.ensures.0 c.into_reread.ensures.1 c.into_reread.ensures.2

pub returns-in-Err-clause-sound : goal.returns-in-Err-clause-sound
returns-in-Err-clause-sound g c = λ region batches has file place e.
    let same : c.in-Err.fault ≡ Damaged file place = cc in
    c.in-Err.ensures.sound has.log.segments ([], refl, c.new-reader.ensures.empty) (settled_for g.D.Disk region c.args.flushed c.args.self.now c.args.disk.now batches has c.new-reader.result.flushed c.new-reader.ensures.flushed) file place (ap (λ f. Err f) same)
