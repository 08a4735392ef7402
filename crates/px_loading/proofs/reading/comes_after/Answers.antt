use Rattle.px_loading.proofs.Loaded.{after_tested}
use Rattle.px_loading.proofs.reading.comes_after.Goals as goal

pub returns-in-len1-up-cells : goal.returns-in-len1-up-cells
returns-in-len1-up-cells c =
    after_tested c.args.before.now c.args.cells.now c.last-item.result c.first-item.result c.is_before.result c.in-len1-up.len_at_least c.in-len1-up-cells.len_at_least c.last-item.is c.first-item.is c.is_before.ensures
