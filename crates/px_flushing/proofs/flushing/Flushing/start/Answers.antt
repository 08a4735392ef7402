use Rattle.std.proofs.Common.{◌≤◌, length, Some, ap, sym, arith}
use Rattle.px_flushing.specs.declared.job.Job.TheVariants as job
use Rattle.px_flushing.proofs.Compacting.{gathering_none}
use Rattle.px_flushing.proofs.Going.{by_fields}
use Rattle.px_wal.specs.Manifest.{named_snapshot}
use Rattle.px_flushing.proofs.flushing.Flushing.start.Goals as goal

pub returns-then-count-len-clause-begun : goal.returns-then-count-len-clause-begun
returns-then-count-len-clause-begun g c = λ manifest wal disk batches lists has.
    let self = c.args.self.now in
    let within : c.args.count ≤ length self.files.items = (let t = c.if-count-len.true in let l = c.len.ensures in omega arith) in
    by_fields g.D.Disk manifest wal self.number self.files.items (Some (job.Gather (record { count = c.args.count; horizon = c.args.horizon; gathering = c.begin.result }))) disk batches lists c.keep.new.self has.parts
    (gathering_none g.D.Disk self.number disk c.args.count c.args.horizon c.begin.result (named_snapshot manifest).files self.files.items lists has.parts.tells c.begin.ensures within has.parts.have) (sym c.keep.ensures.files.0) (ap (λ v. v.items) (sym c.keep.ensures.files.1)) (sym c.keep.ensures.flush)
