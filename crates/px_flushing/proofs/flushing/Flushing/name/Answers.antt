use Rattle.std.proofs.Common.{◌≡◌, ℕ, List, ◌∷◌, Err, None, Some, ap, refl, sym, subst, ◌∙◌}
use Rattle.px_file.specs.declared.region_file.RegionFile.{RegionFile}
use Rattle.px_wal.specs.Batches.{cells_over}
use Rattle.px_wal.specs.Manifest.{named_snapshot}
use Rattle.px_wal.specs.Snapshot.{SnapshotData}
use Rattle.px_wal.specs.SnapshotOf.{snapshot_of}
use Rattle.px_wal.specs.declared.manifest.Manifest.{Manifest}
use Rattle.px_naming.specs.Naming.{HasParts}
use Rattle.px_flushing.specs.Faults.{append_fault}
use Rattle.px_flushing.specs.Flushing.{IsBegun, named_next}
use Rattle.px_flushing.specs.declared.job.Job.TheVariants as job
use Rattle.px_flushing.specs.declared.stage.Stage.TheVariants as stage
use Rattle.px_flushing.proofs.Going.{by_fields, flushed_by}
use Rattle.px_flushing.proofs.Parts.{named_leaves, parts_now}
use Rattle.px_flushing.proofs.Stages.{append_full}
use Rattle.px_flushing.proofs.flushing.Flushing.name.Goals as goal

pub returns-in-Err-clause-kept : goal.returns-in-Err-clause-kept
returns-in-Err-clause-kept g c = λ wal batches lists parts begun other. (
  refl,
  by_fields g.D.Disk c.args.manifest.now wal c.args.self.now.number c.args.self.now.files.items (Some (job.Flush (record { frozen = c.args.frozen; local = c.args.local; stage = stage.Measured c.args.file c.args.len }))) c.args.disk.now batches lists c.keep.new.self parts begun
      (sym (c.keep.ensures.files.0 ∙ c.ready.ensures.same.0)) (sym (ap (λ v. v.items) c.keep.ensures.files.1 ∙ c.ready.ensures.same.1)) (sym c.keep.ensures.flush),
)

pub returns-in-Err-clause-any_moment : goal.returns-in-Err-clause-any_moment
returns-in-Err-clause-any_moment g c = λ wal batches lists parts begun. parts_now g.D.Disk c.args.self.now.number c.args.manifest.now wal c.args.disk.now batches c.args.self.now.files.items lists parts g.met.D.Disk.up_to_now

pub returns-in-Ok-name_file-clause-done : goal.returns-in-Ok-name_file-clause-done
returns-in-Ok-name_file-clause-done g c = λ wal batches lists parts begun.
    let self = c.args.self.now in
    let after : snapshot_of c.in-Ok.naming.after ≡ named_next (named_snapshot c.args.manifest.now) c.args.frozen.upto c.args.local c.args.len c.args.file =
    c.in-Ok.ensures.after ∙ ap (λ (n : ℕ). named_next (named_snapshot c.args.manifest.now) n c.args.local c.args.len c.args.file) c.upto.ensures in
    let flushed = flushed_by g.D.Disk self.number c.args.manifest.now c.args.disk.now batches c.args.frozen c.args.local c.args.len c.args.file begun (snapshot_of c.in-Ok.naming.after) after in
    by_fields g.D.Disk c.name_file.new.manifest wal self.number (c.args.file ∷ self.files.items) None c.name_file.new.disk batches (c.args.frozen.cells ∷ lists) _
    (c.in-Ok-name_file.ensures.done self.number wal batches self.files.items lists c.args.file c.args.frozen.cells parts flushed) tt (sym c.ready.ensures.same.0)
    (ap (λ (l : List RegionFile). c.args.file ∷ l) (sym c.ready.ensures.same.1) ∙ sym c.put_first.ensures) (sym (c.ready.ensures.same.2 ∙ c.requires))

pub returns-in-Ok-name_file-clause-any_moment : goal.returns-in-Ok-name_file-clause-any_moment
returns-in-Ok-name_file-clause-any_moment g c = λ wal batches lists parts begun.
    let self = c.args.self.now in
    let after : snapshot_of c.in-Ok.naming.after ≡ named_next (named_snapshot c.args.manifest.now) c.args.frozen.upto c.args.local c.args.len c.args.file =
    c.in-Ok.ensures.after ∙ ap (λ (n : ℕ). named_next (named_snapshot c.args.manifest.now) n c.args.local c.args.len c.args.file) c.upto.ensures in
    let flushed = flushed_by g.D.Disk self.number c.args.manifest.now c.args.disk.now batches c.args.frozen c.args.local c.args.len c.args.file begun (snapshot_of c.in-Ok.naming.after) after in
    named_leaves g.D.Disk self.number c.args.manifest.now c.args.disk.now c.name_file.new.disk (snapshot_of c.in-Ok.naming.after) (cells_over (named_snapshot c.args.manifest.now).flushed batches lists) (ap (λ (n : SnapshotData). n.horizon) after)
    (c.name_file.ensures.any_moment self.number wal batches self.files.items lists c.args.file c.args.frozen.cells parts flushed)

pub returns-in-Ok-name_file-clause-touches : goal.returns-in-Ok-name_file-clause-touches
returns-in-Ok-name_file-clause-touches g c = λ has. c.name_file.ensures.touches c.args.self.now.number has

pub returns-in-Ok-name_file-clause-horizon : goal.returns-in-Ok-name_file-clause-horizon
returns-in-Ok-name_file-clause-horizon g c = ap (λ (n : SnapshotData). n.horizon) (c.in-Ok-name_file.ensures.named ∙ c.in-Ok.ensures.after)

pub returns-clause-kept : goal.returns-clause-kept
returns-clause-kept g c = λ wal batches lists parts begun other.
    let self = c.args.self.now in
    let full = append_full c.in-Err-name_file.fault (λ is. other (ap Err (c.of_append.ensures ∙ ap append_fault is))) in
    let still = c.in-Err-name_file.ensures.untouched (ap Err full) in
    let begun-1 = subst (λ x. IsBegun g.D.Disk self.number (named_snapshot c.args.manifest.now) batches x (record { frozen = c.args.frozen; local = c.args.local; stage = stage.Measured c.args.file c.args.len })) (sym still.0) begun in
    let parts-1 = subst (λ x. HasParts g.D.Disk self.number c.args.manifest.now wal x batches self.files.items lists) (sym still.0) parts in (
      still.1,
      by_fields g.D.Disk c.name_file.new.manifest wal self.number self.files.items (Some (job.Flush (record { frozen = c.args.frozen; local = c.args.local; stage = stage.Measured c.args.file c.args.len }))) c.name_file.new.disk batches lists c.keep-in-Err-name_file.new.self
          (subst (λ (m : Manifest). HasParts g.D.Disk self.number m wal c.name_file.new.disk batches self.files.items lists) (sym still.1) parts-1)
          (subst (λ (m : Manifest). IsBegun g.D.Disk self.number (named_snapshot m) batches c.name_file.new.disk (record { frozen = c.args.frozen; local = c.args.local; stage = stage.Measured c.args.file c.args.len })) (sym still.1) begun-1)
          (sym (c.keep-in-Err-name_file.ensures.files.0 ∙ c.ready.ensures.same.0)) (sym (ap (λ v. v.items) c.keep-in-Err-name_file.ensures.files.1 ∙ c.ready.ensures.same.1)) (sym c.keep-in-Err-name_file.ensures.flush),
    )

pub returns-clause-any_moment : goal.returns-clause-any_moment
returns-clause-any_moment g c = λ wal batches lists parts begun.
    let self = c.args.self.now in
    let after : snapshot_of c.in-Ok.naming.after ≡ named_next (named_snapshot c.args.manifest.now) c.args.frozen.upto c.args.local c.args.len c.args.file =
    c.in-Ok.ensures.after ∙ ap (λ (n : ℕ). named_next (named_snapshot c.args.manifest.now) n c.args.local c.args.len c.args.file) c.upto.ensures in
    let flushed = flushed_by g.D.Disk self.number c.args.manifest.now c.args.disk.now batches c.args.frozen c.args.local c.args.len c.args.file begun (snapshot_of c.in-Ok.naming.after) after in
    named_leaves g.D.Disk self.number c.args.manifest.now c.args.disk.now c.name_file.new.disk (snapshot_of c.in-Ok.naming.after) (cells_over (named_snapshot c.args.manifest.now).flushed batches lists) (ap (λ (n : SnapshotData). n.horizon) after)
    (c.name_file.ensures.any_moment self.number wal batches self.files.items lists c.args.file c.args.frozen.cells parts flushed)

pub returns-clause-touches : goal.returns-clause-touches
returns-clause-touches g c = λ has. c.name_file.ensures.touches c.args.self.now.number has

pub returns-clause-horizon : goal.returns-clause-horizon
returns-clause-horizon g c = ap (λ (n : SnapshotData). n.horizon) (c.in-Err-name_file.ensures.kept refl)
