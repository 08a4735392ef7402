use Rattle.std.proofs.Common.{◌∙◌, Err, ap}
use Rattle.px_keptcells.specs.Kept.{laid}
use Rattle.px_repairs.specs.declared.repairing.RepairFault.TheVariants.{Damaged, ReadFault}
use Rattle.px_repairs.proofs.Handing.{failed_by, fixed_by, judged_due, no_damage, no_read}
use Rattle.px_repairs.proofs.Refusing.{err_same, repair_refused}
use Rattle.px_repairs.proofs.fixing.fix.Goals as goal

pub returns-in-Ok-clause-fixes : goal.returns-in-Ok-clause-fixes
returns-in-Ok-clause-fixes g c =
    fixed_by g.D.Disk c.args.group.now c.judge.new.group c.repair.new.group c.args.disk.now c.judge.new.disk c.repair.new.disk c.judge.ensures.only_read c.args.place c.args.key.now c.args.stamp (laid c.in-Ok-Due.kept) c.judge.ensures.looked
    (judged_due c.judge.new.group c.args.place c.args.key.now c.args.stamp c.in-Ok-Due.field-0 c.in-Ok-Due.kept c.in-Ok-Due.field-0-is c.in-Ok-Due.ensures.judged) c.repair.result c.in-Ok.field-0 c.in-Ok.is c.repair.ensures.repaired

pub returns-in-Err-repair-clause-fixes : goal.returns-in-Err-repair-clause-fixes
returns-in-Err-repair-clause-fixes g c =
    failed_by g.D.Disk c.args.group.now c.judge.new.group c.repair.new.group c.args.disk.now c.judge.new.disk c.repair.new.disk c.judge.ensures.only_read c.args.place c.args.key.now c.args.stamp (laid c.in-Ok-Due.kept) c.judge.ensures.looked
    (judged_due c.judge.new.group c.args.place c.args.key.now c.args.stamp c.in-Ok-Due.field-0 c.in-Ok-Due.kept c.in-Ok-Due.field-0-is c.in-Ok-Due.ensures.judged) c.repair.result c.in-Err-repair.fault c.in-Err-repair.is (λ e. c.repair.ensures.failed (c.in-Err-repair.is ∙ ap Err e)) c.repair.ensures.repaired

pub returns-in-Err-repair-clause-cause : goal.returns-in-Err-repair-clause-cause
returns-in-Err-repair-clause-cause g c fault x e at =
    repair_refused c.args.group.now c.judge.new.group c.judge.ensures.looked c.args.place x at c.args.key.now c.args.stamp (laid c.in-Ok-Due.kept)
    (judged_due c.judge.new.group c.args.place c.args.key.now c.args.stamp c.in-Ok-Due.field-0 c.in-Ok-Due.kept c.in-Ok-Due.field-0-is c.in-Ok-Due.ensures.judged)
    fault (λ y there. c.repair.ensures.cause fault y (c.in-Err-repair.is ∙ ap Err (err_same c.in-Err-repair.fault fault e)) there)

pub returns-in-Err-repair-clause-undamaged : goal.returns-in-Err-repair-clause-undamaged
returns-in-Err-repair-clause-undamaged g c = λ file at e.
    no_damage g.D.Disk c.judge.new.group c.repair.new.group c.judge.new.disk c.repair.new.disk c.args.place (laid c.in-Ok-Due.kept) file at c.repair.result c.repair.ensures.repaired (c.in-Err-repair.is ∙ ap Err (err_same c.in-Err-repair.fault (Damaged file at) e))

pub returns-in-Err-repair-clause-read_failed : goal.returns-in-Err-repair-clause-read_failed
returns-in-Err-repair-clause-read_failed g c = λ e.
    absurd (no_read g.D.Disk c.judge.new.group c.repair.new.group c.judge.new.disk c.repair.new.disk c.args.place (laid c.in-Ok-Due.kept) c.repair.result c.repair.ensures.repaired (c.in-Err-repair.is ∙ ap Err (err_same c.in-Err-repair.fault ReadFault e)))
