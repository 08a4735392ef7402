use Rattle.std.proofs.Common.{◌∙◌}
use Rattle.std.specs.Option.{option_copied}
use Rattle.px_planned.proofs.Chosen.{all_chosen}
use Rattle.px_planned.proofs.planned.planned_path.Goals as goal

pub returns-in-Ok-chosen-clause-ok : goal.returns-in-Ok-chosen-clause-ok
returns-in-Ok-chosen-clause-ok c =
    all_chosen c.args.planned.now c.args.point.now c.as_slice.result.now (option_copied c.in-Ok-chosen.by) c.path_by.result c.requires.bound c.requires.rising (c.as_slice.ensures.value ∙ c.in-Ok.ensures) c.in-Ok-chosen.ensures.taken c.path_by.ensures.ok
