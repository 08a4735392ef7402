use Rattle.std.proofs.Common.{List, ◌∷◌, Err, None, Some, drop, ap, refl, sym, subst, ◌∙◌}
use Rattle.px_file.specs.declared.region_file.RegionFile.{RegionFile}
use Rattle.px_wal.specs.Batches.{cells_over}
use Rattle.px_wal.specs.Manifest.{named_snapshot}
use Rattle.px_wal.specs.Snapshot.{SnapshotData}
use Rattle.px_wal.specs.SnapshotOf.{snapshot_of}
use Rattle.px_wal.specs.declared.manifest.Manifest.{Manifest}
use Rattle.px_naming.specs.Naming.{HasParts}
use Rattle.px_flushing.specs.Faults.{append_fault}
use Rattle.px_flushing.specs.Flushing.{IsMerging}
use Rattle.px_flushing.specs.declared.job.Job.TheVariants as job
use Rattle.px_flushing.specs.declared.job.Merge.{Merge}
use Rattle.px_flushing.specs.declared.stage.Stage.TheVariants as stage
use Rattle.px_flushing.proofs.Compacting.{compacted_by}
use Rattle.px_flushing.proofs.Going.{by_fields}
use Rattle.px_flushing.proofs.Parts.{named_leaves, parts_now}
use Rattle.px_flushing.proofs.Stages.{append_full}
use Rattle.px_flushing.proofs.flushing.Flushing.name_one.Goals as goal

pub returns-in-Err-clause-kept : goal.returns-in-Err-clause-kept
returns-in-Err-clause-kept g c = λ wal batches lists parts merging other. (
  refl,
  by_fields g.D.Disk c.args.manifest.now wal c.args.self.now.number c.args.self.now.files.items (Some (job.Merge (record { count = c.args.count; horizon = None; frozen = c.args.frozen; local = c.args.local; stage = stage.Measured c.args.file c.args.len }))) c.args.disk.now batches lists c.keep.new.self parts merging
      (sym (c.keep.ensures.files.0 ∙ c.ready_merged.ensures.same.0)) (sym (ap (λ v. v.items) c.keep.ensures.files.1 ∙ c.ready_merged.ensures.same.1)) (sym c.keep.ensures.flush),
)

pub returns-in-Err-clause-any_moment : goal.returns-in-Err-clause-any_moment
returns-in-Err-clause-any_moment g c = λ wal batches lists parts merging. parts_now g.D.Disk c.args.self.now.number c.args.manifest.now wal c.args.disk.now batches c.args.self.now.files.items lists parts g.met.D.Disk.up_to_now

pub returns-in-Ok-name_merged-clause-done : goal.returns-in-Ok-name_merged-clause-done
returns-in-Ok-name_merged-clause-done g c = λ wal batches lists parts merging.
    let self = c.args.self.now in
    let compacted = compacted_by g.D.Disk self.number c.args.manifest.now c.args.disk.now batches lists c.args.count c.args.frozen c.args.local c.args.len c.args.file merging (snapshot_of c.in-Ok.naming.after) c.in-Ok.ensures.after in
    by_fields g.D.Disk c.name_merged.new.manifest wal self.number (c.args.file ∷ drop c.args.count self.files.items) None c.name_merged.new.disk batches (c.args.frozen.cells ∷ drop c.args.count lists) _
    (c.in-Ok-name_merged.ensures.done self.number wal batches self.files.items lists c.args.count c.args.file c.args.frozen.cells parts compacted) tt (sym c.ready_merged.ensures.same.0)
    (ap (λ (l : List RegionFile). c.args.file ∷ drop c.args.count l) (sym c.ready_merged.ensures.same.1) ∙ sym c.put_in_place.ensures) (sym (c.ready_merged.ensures.same.2 ∙ c.requires))

pub returns-in-Ok-name_merged-clause-any_moment : goal.returns-in-Ok-name_merged-clause-any_moment
returns-in-Ok-name_merged-clause-any_moment g c = λ wal batches lists parts merging.
    let self = c.args.self.now in
    let compacted = compacted_by g.D.Disk self.number c.args.manifest.now c.args.disk.now batches lists c.args.count c.args.frozen c.args.local c.args.len c.args.file merging (snapshot_of c.in-Ok.naming.after) c.in-Ok.ensures.after in
    named_leaves g.D.Disk self.number c.args.manifest.now c.args.disk.now c.name_merged.new.disk (snapshot_of c.in-Ok.naming.after) (cells_over (named_snapshot c.args.manifest.now).flushed batches lists) (ap (λ (n : SnapshotData). n.horizon) c.in-Ok.ensures.after)
    (c.name_merged.ensures.any_moment self.number wal batches self.files.items lists c.args.count c.args.file c.args.frozen.cells parts compacted)

pub returns-in-Ok-name_merged-clause-touches : goal.returns-in-Ok-name_merged-clause-touches
returns-in-Ok-name_merged-clause-touches g c = λ has. c.name_merged.ensures.touches c.args.self.now.number has

pub returns-in-Ok-name_merged-clause-horizon : goal.returns-in-Ok-name_merged-clause-horizon
returns-in-Ok-name_merged-clause-horizon g c = (
  ap (λ (n : SnapshotData). n.horizon) (c.in-Ok-name_merged.ensures.named ∙ c.in-Ok.ensures.after),
  ap (λ (n : SnapshotData). n.flushed) (c.in-Ok-name_merged.ensures.named ∙ c.in-Ok.ensures.after),
)

pub returns-clause-kept : goal.returns-clause-kept
returns-clause-kept g c = λ wal batches lists parts merging other.
    let self = c.args.self.now in
    let full = append_full c.in-Err-name_merged.fault (λ is. other (ap Err (c.of_append.ensures ∙ ap append_fault is))) in
    let still = c.in-Err-name_merged.ensures.untouched (ap Err full) in
    let merge : Merge = record { count = c.args.count; horizon = None; frozen = c.args.frozen; local = c.args.local; stage = stage.Measured c.args.file c.args.len } in
    let merging-1 = subst (λ x. IsMerging g.D.Disk self.number (named_snapshot c.args.manifest.now) lists x merge) (sym still.0) merging in
    let parts-1 = subst (λ x. HasParts g.D.Disk self.number c.args.manifest.now wal x batches self.files.items lists) (sym still.0) parts in (
      still.1,
      by_fields g.D.Disk c.name_merged.new.manifest wal self.number self.files.items (Some (job.Merge merge)) c.name_merged.new.disk batches lists c.keep-in-Err-name_merged.new.self
          (subst (λ (m : Manifest). HasParts g.D.Disk self.number m wal c.name_merged.new.disk batches self.files.items lists) (sym still.1) parts-1)
          (subst (λ (m : Manifest). IsMerging g.D.Disk self.number (named_snapshot m) lists c.name_merged.new.disk merge) (sym still.1) merging-1)
          (sym (c.keep-in-Err-name_merged.ensures.files.0 ∙ c.ready_merged.ensures.same.0)) (sym (ap (λ v. v.items) c.keep-in-Err-name_merged.ensures.files.1 ∙ c.ready_merged.ensures.same.1)) (sym c.keep-in-Err-name_merged.ensures.flush),
    )

pub returns-clause-any_moment : goal.returns-clause-any_moment
returns-clause-any_moment g c = λ wal batches lists parts merging.
    let self = c.args.self.now in
    let compacted = compacted_by g.D.Disk self.number c.args.manifest.now c.args.disk.now batches lists c.args.count c.args.frozen c.args.local c.args.len c.args.file merging (snapshot_of c.in-Ok.naming.after) c.in-Ok.ensures.after in
    named_leaves g.D.Disk self.number c.args.manifest.now c.args.disk.now c.name_merged.new.disk (snapshot_of c.in-Ok.naming.after) (cells_over (named_snapshot c.args.manifest.now).flushed batches lists) (ap (λ (n : SnapshotData). n.horizon) c.in-Ok.ensures.after)
    (c.name_merged.ensures.any_moment self.number wal batches self.files.items lists c.args.count c.args.file c.args.frozen.cells parts compacted)

pub returns-clause-touches : goal.returns-clause-touches
returns-clause-touches g c = λ has. c.name_merged.ensures.touches c.args.self.now.number has

pub returns-clause-horizon : goal.returns-clause-horizon
returns-clause-horizon g c = (
  ap (λ (n : SnapshotData). n.horizon) (c.in-Err-name_merged.ensures.kept refl),
  ap (λ (n : SnapshotData). n.flushed) (c.in-Err-name_merged.ensures.kept refl),
)
