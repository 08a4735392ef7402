use Rattle.std.proofs.Common.{◌≡◌, List, None, Some, take, ap, refl, sym, subst, ◌∙◌}
use Rattle.px_file.specs.declared.region_file.RegionFile.{RegionFile}
use Rattle.px_loading.specs.Gathering.{HasGathered}
use Rattle.px_cellbytes.specs.Reading.{IsWritten}
use Rattle.px_flushing.specs.declared.job.Job.TheVariants as job
use Rattle.px_flushing.proofs.Compacting.{gathered_all, gathered_fit, gathering_more}
use Rattle.px_flushing.proofs.Going.{by_fields, parts_quiet}
use Rattle.px_flushing.proofs.flushing.Flushing.gather.Goals as goal

pub returns-in-Ok-More-clause-done : goal.returns-in-Ok-More-clause-done
returns-in-Ok-More-clause-done g c = λ wal batches lists parts gathering.
    let d = g.D.Disk in
    let self = c.args.self.now in
    let files : take c.args.gather.count c.deref.result.now ≡ take c.args.gather.count self.files.items = ap (take c.args.gather.count) c.deref.ensures.value in
    let has = subst (λ (l : List RegionFile). HasGathered d c.args.gather.gathering c.args.disk.now l gathering.blocks) (sym files) gathering.has in
    let new = subst (λ (l : List RegionFile). HasGathered d c.step.new.self c.step.new.disk l gathering.blocks) files (c.in-Ok-More.ensures.done gathering.blocks has) in
    by_fields d c.args.manifest.now wal self.number self.files.items (Some (job.Gather (record { count = c.args.gather.count; horizon = c.args.gather.horizon; gathering = c.step.new.self }))) c.step.new.disk batches lists c.keep.new.self
    (parts_quiet d self.number c.args.manifest.now wal c.args.disk.now c.step.new.disk batches self.files.items lists parts c.step.ensures.quiet c.step.ensures.seen)
    (gathering_more d c.args.disk.now self.files.items lists c.args.gather.count c.args.gather.horizon c.args.gather.gathering gathering c.step.new.self c.step.new.disk new) (sym c.keep.ensures.files.0) (ap (λ v. v.items) (sym c.keep.ensures.files.1)) (sym c.keep.ensures.flush)

pub returns-in-Ok-Done-clause-done : goal.returns-in-Ok-Done-clause-done
returns-in-Ok-Done-clause-done g c = λ wal batches lists parts gathering.
    let d = g.D.Disk in
    let self = c.args.self.now in
    let files : take c.args.gather.count c.deref.result.now ≡ take c.args.gather.count self.files.items = ap (take c.args.gather.count) c.deref.ensures.value in
    let has = subst (λ (l : List RegionFile). HasGathered d c.args.gather.gathering c.args.disk.now l gathering.blocks) (sym files) gathering.has in
    let new = subst (λ (l : List RegionFile). HasGathered d c.step.new.self c.step.new.disk l gathering.blocks) files (c.in-Ok-Done.ensures.done gathering.blocks has) in
    let none = c.step.ensures.all (cc) in
    c.keep_gathered.ensures.done wal c.step.new.disk batches lists
    (parts_quiet d self.number c.args.manifest.now wal c.args.disk.now c.step.new.disk batches self.files.items lists parts c.step.ensures.quiet c.step.ensures.seen)
    (c.into_cells.ensures ∙ gathered_all d c.args.disk.now self.files.items lists c.args.gather.count c.args.gather.horizon c.args.gather.gathering gathering c.step.new.self c.step.new.disk new none)

pub returns-in-Ok-Done-clause-sound : goal.returns-in-Ok-Done-clause-sound
returns-in-Ok-Done-clause-sound g c = λ lists gathering.
    let d = g.D.Disk in
    let self = c.args.self.now in
    let files : take c.args.gather.count c.deref.result.now ≡ take c.args.gather.count self.files.items = ap (take c.args.gather.count) c.deref.ensures.value in
    let has = subst (λ (l : List RegionFile). HasGathered d c.args.gather.gathering c.args.disk.now l gathering.blocks) (sym files) gathering.has in
    let new = subst (λ (l : List RegionFile). HasGathered d c.step.new.self c.step.new.disk l gathering.blocks) files (c.in-Ok-Done.ensures.done gathering.blocks has) in
    let none = c.step.ensures.all (cc) in
    c.keep_gathered.ensures.sound (subst IsWritten (sym c.into_cells.ensures) (gathered_fit d c.args.disk.now self.files.items lists c.args.gather.count c.args.gather.horizon c.args.gather.gathering gathering c.step.new.self c.step.new.disk new none))

pub returns-in-Err-clause-done : goal.returns-in-Err-clause-done
returns-in-Err-clause-done g c = λ wal batches lists parts gathering.
    let d = g.D.Disk in
    let self = c.args.self.now in
    by_fields d c.args.manifest.now wal self.number self.files.items None c.step.new.disk batches lists _
    (parts_quiet d self.number c.args.manifest.now wal c.args.disk.now c.step.new.disk batches self.files.items lists parts c.step.ensures.quiet c.step.ensures.seen) tt refl refl (sym c.requires)

pub returns-in-Err-Memory-clause-done : goal.returns-in-Err-Memory-clause-done
returns-in-Err-Memory-clause-done g c = λ wal batches lists parts gathering.
    let d = g.D.Disk in
    let self = c.args.self.now in
    by_fields d c.args.manifest.now wal self.number self.files.items None c.step.new.disk batches lists _
    (parts_quiet d self.number c.args.manifest.now wal c.args.disk.now c.step.new.disk batches self.files.items lists parts c.step.ensures.quiet c.step.ensures.seen) tt refl refl (sym c.requires)
