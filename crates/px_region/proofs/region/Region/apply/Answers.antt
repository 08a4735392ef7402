use Rattle.std.proofs.Common.{◌+◌, ◌<◌, ◌∙◌, ap, arith, refl, length, ℕ, List, Err}
use Rattle.px_cells.specs.CellData.{CellData}
use Rattle.px_cellbytes.specs.Spelling.{all_bytes}
use Rattle.px_wal.specs.Manifest.{named_snapshot}
use Rattle.px_wal.specs.Wal.{next_batch}
use Rattle.px_merge.proofs.Settling.{settled_is}
use Rattle.px_wal.proofs.Appended.{written_or}
use Rattle.px_region.proofs.Holding.{log_leaves, log_more, no_room, touches_log}
use Rattle.px_region.proofs.Least.{came}
use Rattle.px_region.proofs.region.Region.apply.Goals as goal

pub returns-in-Err-clause-any_moment : goal.returns-in-Err-clause-any_moment
returns-in-Err-clause-any_moment g c = λ s holds.
    let over : (named_snapshot c.args.self.now.manifest).flushed < c.args.self.now.wal.last + 1 = (let l = c.args.self.now.later (omega arith) in omega arith) in
    log_leaves g.D.Disk c.args.self.now c.args.disk.now s holds c.append.new.disk (c.append.ensures.touches _ _ holds.batches holds.has.parts.log) (next_batch c.args.self.now.wal c.args.cells) over (c.append.ensures.any_moment _ _ holds.batches holds.has.parts.log)

pub returns-in-Err-clause-failed : goal.returns-in-Err-clause-failed
returns-in-Err-clause-failed g c = λ is.
    written_or c.in-Err._fault
    (λ e. no_room _ c.args.self.now.promised c.args.self.now.promised_bytes (length c.args.cells) (length (all_bytes c.args.cells)) _ c.args.self.now.roomy (c.args.self.now.numbered (omega arith)) c.requires.some c.requires.promised c.requires.promised_bytes (c.in-Err.ensures.full.0 (ap Err e)))
    (λ e. c.in-Err.ensures.failed (ap Err e))

pub returns-in-Err-clause-touches : goal.returns-in-Err-clause-touches
returns-in-Err-clause-touches g c = λ s holds. touches_log g.D.Disk c.args.self.now c.args.disk.now s holds c.append.new.disk (c.append.ensures.touches _ _ holds.batches holds.has.parts.log)

pub returns-in-Ok-clause-done : goal.returns-in-Ok-clause-done
returns-in-Ok-clause-done g c = λ s holds.
    let over : (named_snapshot c.args.self.now.manifest).flushed < c.args.self.now.wal.last + 1 = (let l = c.args.self.now.later (omega arith) in omega arith) in
    log_more g.D.Disk c.args.self.now c.args.disk.now s holds c.append.new.disk (c.append.ensures.touches _ _ holds.batches holds.has.parts.log) (next_batch c.args.self.now.wal c.args.cells) over _ _ _ _ _ _ (omega arith) (c.in-Ok.ensures.done _ _ holds.batches holds.has.parts.log)
    c.put.ensures.merged (ap (λ (n : ℕ). c.args.self.now.cells + n) c.len-count.ensures)
    (ap (λ (n : ℕ). c.args.self.now.bytes + n) (c.byte_len-bytes.ensures ∙ ap (λ (l : List CellData). length (all_bytes l)) c.as_slice.ensures))
    (λ batches least. came c.args.self.now.wal c.args.cells c.in-Ok.number _ c.add.new.self batches (c.in-Ok.ensures.number) c.as_slice-in-Ok.ensures (c.add.ensures batches least)) refl refl refl refl refl refl refl refl refl

pub returns-in-Ok-clause-any_moment : goal.returns-in-Ok-clause-any_moment
returns-in-Ok-clause-any_moment g c = λ s holds.
    let over : (named_snapshot c.args.self.now.manifest).flushed < c.args.self.now.wal.last + 1 = (let l = c.args.self.now.later (omega arith) in omega arith) in
    log_leaves g.D.Disk c.args.self.now c.args.disk.now s holds c.append.new.disk (c.append.ensures.touches _ _ holds.batches holds.has.parts.log) (next_batch c.args.self.now.wal c.args.cells) over (c.append.ensures.any_moment _ _ holds.batches holds.has.parts.log)

pub returns-in-Ok-clause-touches : goal.returns-in-Ok-clause-touches
returns-in-Ok-clause-touches g c = λ s holds. touches_log g.D.Disk c.args.self.now c.args.disk.now s holds c.append.new.disk (c.append.ensures.touches _ _ holds.batches holds.has.parts.log)

pub returns-in-Ok-clause-read : goal.returns-in-Ok-clause-read
returns-in-Ok-clause-read g c = settled_is _ _ c.put.ensures.merged
