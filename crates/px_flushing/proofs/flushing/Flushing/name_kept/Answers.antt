use Rattle.std.proofs.Common.{◌≤◌, ℕ, [], ◌∷◌, Err, None, Some, length, ap, refl, sym, subst, ◌∙◌, arith}
use Rattle.px_merge.specs.Kept.{IsKeptList}
use Rattle.px_wal.specs.Batches.{cells_over}
use Rattle.px_wal.specs.Manifest.{named_snapshot}
use Rattle.px_wal.specs.Snapshot.{SnapshotData}
use Rattle.px_wal.specs.SnapshotOf.{snapshot_of}
use Rattle.px_wal.specs.declared.manifest.Manifest.{Manifest}
use Rattle.px_naming.specs.Naming.{HasParts}
use Rattle.px_flushing.specs.Faults.{append_fault}
use Rattle.px_flushing.specs.Flushing.{IsMerging}
use Rattle.px_flushing.specs.declared.job.Job.TheVariants as job
use Rattle.px_flushing.specs.declared.job.Merge.{Merge}
use Rattle.px_flushing.specs.declared.stage.Stage.TheVariants as stage
use Rattle.px_flushing.proofs.Compacting.{forgotten_by, have_as_many, kept_leaves, none_behind, reads_from}
use Rattle.px_flushing.proofs.Going.{by_fields}
use Rattle.px_flushing.proofs.Parts.{parts_now}
use Rattle.px_flushing.proofs.Stages.{append_full}
use Rattle.px_flushing.proofs.flushing.Flushing.name_kept.Goals as goal

pub returns-in-Err-clause-kept : goal.returns-in-Err-clause-kept
returns-in-Err-clause-kept g c = λ wal batches lists parts merging other. (
  refl,
  by_fields g.D.Disk c.args.manifest.now wal c.args.self.now.number c.args.self.now.files.items (Some (job.Merge (record { count = c.args.count; horizon = Some c.args.horizon; frozen = c.args.frozen; local = c.args.local; stage = stage.Measured c.args.file c.args.len }))) c.args.disk.now batches lists c.keep.new.self parts merging
      (sym (c.keep.ensures.files.0 ∙ c.ready_kept.ensures.same.0)) (sym (ap (λ v. v.items) c.keep.ensures.files.1 ∙ c.ready_kept.ensures.same.1)) (sym c.keep.ensures.flush),
)

pub returns-in-Err-clause-any_moment : goal.returns-in-Err-clause-any_moment
returns-in-Err-clause-any_moment g c = λ wal batches lists parts merging over.
    let self = c.args.self.now in
    reads_from (Some c.args.horizon) g.D.Disk self.number (named_snapshot c.args.manifest.now).horizon c.args.disk.now c.args.disk.now (cells_over (named_snapshot c.args.manifest.now).flushed batches lists)
    (parts_now g.D.Disk self.number c.args.manifest.now wal c.args.disk.now batches self.files.items lists parts g.met.D.Disk.up_to_now)

pub returns-in-Ok-name_forgotten-clause-done : goal.returns-in-Ok-name_forgotten-clause-done
returns-in-Ok-name_forgotten-clause-done g c = λ wal batches lists parts merging over.
    let d = g.D.Disk in
    let self = c.args.self.now in
    let long = c.in-Ok.ensures.first.1 ∙ ap length c.ready_kept.ensures.same.1 in
    let all : length lists ≤ c.args.count = (let m = have_as_many d self.number c.args.disk.now (named_snapshot c.args.manifest.now).files self.files.items lists parts.have in omega (arith, long)) in
    let forgotten = forgotten_by d self.number c.args.manifest.now c.args.disk.now batches lists c.args.count c.args.horizon c.args.frozen c.args.local c.args.len c.args.file merging over all (snapshot_of c.in-Ok.naming.after) c.in-Ok.ensures.after in
    by_fields d c.name_forgotten.new.manifest wal self.number (c.args.file ∷ []) None c.name_forgotten.new.disk batches (c.args.frozen.cells ∷ []) _
    (c.in-Ok-name_forgotten.ensures.done self.number wal batches self.files.items lists c.args.file c.args.frozen.cells parts forgotten) tt (sym c.ready_kept.ensures.same.0)
    (sym (none_behind c.args.count c.ready_kept.new.self.files.items _ c.args.file c.in-Ok.ensures.first.1 c.put_in_place.ensures)) (sym (c.ready_kept.ensures.same.2 ∙ c.requires))

pub returns-in-Ok-name_forgotten-clause-whole : goal.returns-in-Ok-name_forgotten-clause-whole
returns-in-Ok-name_forgotten-clause-whole g c = λ wal batches lists parts merging over.
    let d = g.D.Disk in
    let self = c.args.self.now in
    let long = c.in-Ok.ensures.first.1 ∙ ap length c.ready_kept.ensures.same.1 in
    let all : length lists ≤ c.args.count = (let m = have_as_many d self.number c.args.disk.now (named_snapshot c.args.manifest.now).files self.files.items lists parts.have in omega (arith, long)) in
    let forgotten = forgotten_by d self.number c.args.manifest.now c.args.disk.now batches lists c.args.count c.args.horizon c.args.frozen c.args.local c.args.len c.args.file merging over all (snapshot_of c.in-Ok.naming.after) c.in-Ok.ensures.after in
    subst (λ (k : ℕ). IsKeptList (cells_over (named_snapshot c.args.manifest.now).flushed batches lists) k (cells_over (named_snapshot c.name_forgotten.new.manifest).flushed batches (c.args.frozen.cells ∷ []))) (ap (λ (n : SnapshotData). n.horizon) c.in-Ok.ensures.after)
    (subst (λ (n : SnapshotData). IsKeptList (cells_over (named_snapshot c.args.manifest.now).flushed batches lists) (snapshot_of c.in-Ok.naming.after).horizon (cells_over n.flushed batches (c.args.frozen.cells ∷ []))) (sym c.in-Ok-name_forgotten.ensures.named)
    (c.name_forgotten.ensures.kept_whole self.number wal batches self.files.items lists c.args.file c.args.frozen.cells parts forgotten))

pub returns-in-Ok-name_forgotten-clause-any_moment : goal.returns-in-Ok-name_forgotten-clause-any_moment
returns-in-Ok-name_forgotten-clause-any_moment g c = λ wal batches lists parts merging over.
    let d = g.D.Disk in
    let self = c.args.self.now in
    let long = c.in-Ok.ensures.first.1 ∙ ap length c.ready_kept.ensures.same.1 in
    let all : length lists ≤ c.args.count = (let m = have_as_many d self.number c.args.disk.now (named_snapshot c.args.manifest.now).files self.files.items lists parts.have in omega (arith, long)) in
    let forgotten = forgotten_by d self.number c.args.manifest.now c.args.disk.now batches lists c.args.count c.args.horizon c.args.frozen c.args.local c.args.len c.args.file merging over all (snapshot_of c.in-Ok.naming.after) c.in-Ok.ensures.after in
    kept_leaves d self.number c.args.manifest.now c.args.disk.now c.name_forgotten.new.disk (snapshot_of c.in-Ok.naming.after) c.args.horizon (cells_over (named_snapshot c.args.manifest.now).flushed batches lists) (cells_over (snapshot_of c.in-Ok.naming.after).flushed batches (c.args.frozen.cells ∷ []))
    (ap (λ (n : SnapshotData). n.horizon) c.in-Ok.ensures.after) (c.name_forgotten.ensures.kept_whole self.number wal batches self.files.items lists c.args.file c.args.frozen.cells parts forgotten)
    (c.name_forgotten.ensures.any_moment self.number wal batches self.files.items lists c.args.file c.args.frozen.cells parts forgotten)

pub returns-in-Ok-name_forgotten-clause-touches : goal.returns-in-Ok-name_forgotten-clause-touches
returns-in-Ok-name_forgotten-clause-touches g c = λ has. c.name_forgotten.ensures.touches c.args.self.now.number has

pub returns-clause-kept : goal.returns-clause-kept
returns-clause-kept g c = λ wal batches lists parts merging other.
    let self = c.args.self.now in
    let full = append_full c.in-Err-name_forgotten.fault (λ is. other (ap Err (c.of_append.ensures ∙ ap append_fault is))) in
    let still = c.in-Err-name_forgotten.ensures.untouched (ap Err full) in
    let merge : Merge = record { count = c.args.count; horizon = Some c.args.horizon; frozen = c.args.frozen; local = c.args.local; stage = stage.Measured c.args.file c.args.len } in
    let merging-1 = subst (λ x. IsMerging g.D.Disk self.number (named_snapshot c.args.manifest.now) lists x merge) (sym still.0) merging in
    let parts-1 = subst (λ x. HasParts g.D.Disk self.number c.args.manifest.now wal x batches self.files.items lists) (sym still.0) parts in (
      still.1,
      by_fields g.D.Disk c.name_forgotten.new.manifest wal self.number self.files.items (Some (job.Merge merge)) c.name_forgotten.new.disk batches lists c.keep-in-Err-name_forgotten.new.self
          (subst (λ (m : Manifest). HasParts g.D.Disk self.number m wal c.name_forgotten.new.disk batches self.files.items lists) (sym still.1) parts-1)
          (subst (λ (m : Manifest). IsMerging g.D.Disk self.number (named_snapshot m) lists c.name_forgotten.new.disk merge) (sym still.1) merging-1)
          (sym (c.keep-in-Err-name_forgotten.ensures.files.0 ∙ c.ready_kept.ensures.same.0)) (sym (ap (λ v. v.items) c.keep-in-Err-name_forgotten.ensures.files.1 ∙ c.ready_kept.ensures.same.1)) (sym c.keep-in-Err-name_forgotten.ensures.flush),
    )

pub returns-clause-any_moment : goal.returns-clause-any_moment
returns-clause-any_moment g c = λ wal batches lists parts merging over.
    let d = g.D.Disk in
    let self = c.args.self.now in
    let long = c.in-Ok.ensures.first.1 ∙ ap length c.ready_kept.ensures.same.1 in
    let all : length lists ≤ c.args.count = (let m = have_as_many d self.number c.args.disk.now (named_snapshot c.args.manifest.now).files self.files.items lists parts.have in omega (arith, long)) in
    let forgotten = forgotten_by d self.number c.args.manifest.now c.args.disk.now batches lists c.args.count c.args.horizon c.args.frozen c.args.local c.args.len c.args.file merging over all (snapshot_of c.in-Ok.naming.after) c.in-Ok.ensures.after in
    kept_leaves d self.number c.args.manifest.now c.args.disk.now c.name_forgotten.new.disk (snapshot_of c.in-Ok.naming.after) c.args.horizon (cells_over (named_snapshot c.args.manifest.now).flushed batches lists) (cells_over (snapshot_of c.in-Ok.naming.after).flushed batches (c.args.frozen.cells ∷ []))
    (ap (λ (n : SnapshotData). n.horizon) c.in-Ok.ensures.after) (c.name_forgotten.ensures.kept_whole self.number wal batches self.files.items lists c.args.file c.args.frozen.cells parts forgotten)
    (c.name_forgotten.ensures.any_moment self.number wal batches self.files.items lists c.args.file c.args.frozen.cells parts forgotten)

pub returns-clause-touches : goal.returns-clause-touches
returns-clause-touches g c = λ has. c.name_forgotten.ensures.touches c.args.self.now.number has
