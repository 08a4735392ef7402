use Rattle.std.proofs.Common.{◌≡◌, ap, Err}
use Rattle.px_wal.specs.declared.snapshot.Snapshot.{Snapshot}
use Rattle.px_wal.specs.Manifest.{named_snapshot}
use Rattle.px_gatelog.specs.declared.fault.StartFault.TheVariants.{Damaged}
use Rattle.px_region.proofs.Calls.{passes_then}
use Rattle.px_region.proofs.Opening.{calls_by, file_damaged, if_both, if_ok, log_damaged, named_then, opened_by, replayed}
use Rattle.px_region.proofs.region.Region.reopen.Goals as goal

pub returns-in-Err-clause-damaged : goal.returns-in-Err-clause-damaged
returns-in-Err-clause-damaged g c = λ file place e tells.
    let manifest = c.in_ok-manifest.manifest in
    let flushed : c.snapshot.result.now.flushed ≡ (named_snapshot manifest).flushed = ap (λ (s : Snapshot). s.flushed) c.snapshot.ensures in
    let fault : c.in-Err.fault ≡ Damaged file place = cc in
    log_damaged c.args.number (g.D.Disk.seen c.args.disk.now) (g.D.Disk.seen c.start.new.disk) (named_snapshot manifest) c.snapshot.result.now.flushed file place c.start.ensures.seen flushed (c.in_ok-manifest.ensures.started tells).stood
    (c.in-Err.ensures.damaged file place (ap Err fault) tells)

pub returns-in-Ok-clause-opened : goal.returns-in-Ok-clause-opened
returns-in-Ok-clause-opened g c = λ tells.
    let manifest = c.in_ok-manifest.manifest in
    let flushed : c.snapshot.result.now.flushed ≡ (named_snapshot manifest).flushed = ap (λ (s : Snapshot). s.flushed) c.snapshot.ensures in
    let started = c.in_ok-manifest.ensures.started tells in
    let read = replayed g.D.Disk c.args.number c.args.disk.now c.start.new.disk c.replay.new.disk c.assembled.new.disk manifest c.snapshot.result.now.flushed c.in-Ok.replayed started c.start.ensures.seen flushed (c.in-Ok.ensures.replayed tells) c.replay.ensures.quiet c.replay.ensures.seen in
    let named = named_then g.D.Disk c.args.number c.args.disk.now c.start.new.disk c.replay.new.disk c.assembled.new.disk manifest c.snapshot.result.now.flushed c.in-Ok.replayed started c.start.ensures.seen flushed (c.in-Ok.ensures.replayed tells) c.replay.ensures.quiet c.replay.ensures.seen in
    if_ok c.assembled.result _ _
    (opened_by g.D.Disk c.args.number c.args.disk.now c.start.new.disk c.replay.new.disk c.assembled.new.disk manifest c.snapshot.result.now.flushed c.in-Ok.replayed started c.start.ensures.seen flushed (c.in-Ok.ensures.replayed tells) c.replay.ensures.quiet c.replay.ensures.seen)
    (c.assembled.ensures.opened read.batches tells named read.has read.stored)

pub returns-in-Ok-clause-damaged : goal.returns-in-Ok-clause-damaged
returns-in-Ok-clause-damaged g c = λ file place e tells.
    let manifest = c.in_ok-manifest.manifest in
    let flushed : c.snapshot.result.now.flushed ≡ (named_snapshot manifest).flushed = ap (λ (s : Snapshot). s.flushed) c.snapshot.ensures in
    let started = c.in_ok-manifest.ensures.started tells in
    let read = replayed g.D.Disk c.args.number c.args.disk.now c.start.new.disk c.replay.new.disk c.assembled.new.disk manifest c.snapshot.result.now.flushed c.in-Ok.replayed started c.start.ensures.seen flushed (c.in-Ok.ensures.replayed tells) c.replay.ensures.quiet c.replay.ensures.seen in
    let named = named_then g.D.Disk c.args.number c.args.disk.now c.start.new.disk c.replay.new.disk c.assembled.new.disk manifest c.snapshot.result.now.flushed c.in-Ok.replayed started c.start.ensures.seen flushed (c.in-Ok.ensures.replayed tells) c.replay.ensures.quiet c.replay.ensures.seen in
    file_damaged g.D.Disk c.args.number c.args.disk.now c.start.new.disk c.replay.new.disk c.assembled.new.disk manifest c.snapshot.result.now.flushed c.in-Ok.replayed started c.start.ensures.seen flushed (c.in-Ok.ensures.replayed tells) c.replay.ensures.quiet c.replay.ensures.seen file place
    (c.assembled.ensures.damaged read.batches file place tells named read.has e)

pub returns-in-Ok-clause-opened_by : goal.returns-in-Ok-clause-opened_by
returns-in-Ok-clause-opened_by g c = λ calls tells by.
    let manifest = c.in_ok-manifest.manifest in
    let flushed : c.snapshot.result.now.flushed ≡ (named_snapshot manifest).flushed = ap (λ (s : Snapshot). s.flushed) c.snapshot.ensures in
    let started = c.in_ok-manifest.ensures.started tells in
    let read = replayed g.D.Disk c.args.number c.args.disk.now c.start.new.disk c.replay.new.disk c.assembled.new.disk manifest c.snapshot.result.now.flushed c.in-Ok.replayed started c.start.ensures.seen flushed (c.in-Ok.ensures.replayed tells) c.replay.ensures.quiet c.replay.ensures.seen in
    let named = named_then g.D.Disk c.args.number c.args.disk.now c.start.new.disk c.replay.new.disk c.assembled.new.disk manifest c.snapshot.result.now.flushed c.in-Ok.replayed started c.start.ensures.seen flushed (c.in-Ok.ensures.replayed tells) c.replay.ensures.quiet c.replay.ensures.seen in
    if_both c.assembled.result _ _ _
    (calls_by g.D.Disk c.args.number c.args.disk.now c.start.new.disk c.replay.new.disk c.assembled.new.disk manifest c.snapshot.result.now.flushed c.in-Ok.replayed started c.start.ensures.seen flushed (c.in-Ok.ensures.replayed tells) c.replay.ensures.quiet c.replay.ensures.seen calls
    c.assembled.new.disk by)
    (c.assembled.ensures.opened read.batches tells named read.has read.stored) (if_ok c.assembled.result _ _ (λ region passes. passes_then g.D.Disk c.args.disk.now c.replay.new.disk c.assembled.new.disk 12 _ (passes_then g.D.Disk c.args.disk.now c.start.new.disk c.replay.new.disk 6 6 c.start.ensures.counts c.replay.ensures.counts) passes) c.assembled.ensures.counts)

pub returns-in-Ok-clause-counts : goal.returns-in-Ok-clause-counts
returns-in-Ok-clause-counts g c =
    if_ok c.assembled.result _ _ (λ region passes. passes_then g.D.Disk c.args.disk.now c.replay.new.disk c.assembled.new.disk 12 _ (passes_then g.D.Disk c.args.disk.now c.start.new.disk c.replay.new.disk 6 6 c.start.ensures.counts c.replay.ensures.counts) passes) c.assembled.ensures.counts
