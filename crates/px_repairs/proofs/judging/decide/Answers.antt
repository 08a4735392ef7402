use Rattle.std.proofs.Common.{rules, ◌≡◌}
use Rattle.std.specs.Prelude.{◌≢◌}
use Rattle.px_indexrow.specs.declared.doubt.Repair.TheVariants.{Leave}
use Rattle.px_reading.proofs.Dues.{row_there, short_there}
use Rattle.px_repairs.proofs.Verdicts.{repair_due, under_way}
use Rattle.px_repairs.proofs.judging.decide.Goals as goal

pub returns-then-eq : goal.returns-then-eq
returns-then-eq c =
    let e : c.in_ok-repair.repair ≡ Leave = search rules in
    under_way c.args.group.now c.requires.right c.args.place c.requires.there c.args.key.now c.requires.key c.args.stamp c.args.doubted.now.row.items c.requires.row c.args.doubted.now.cells.items c.requires.cells c.args.seen.now c.requires.seen c.requires.doubt
    c.in_ok-repair.repair c.in_ok-repair.ensures.leave e

pub repair_cells-requires-clause-row : goal.repair_cells-requires-clause-row
repair_cells-requires-clause-row c = row_there c.args.group.now c.requires.right c.args.place c.requires.there c.args.key.now c.requires.key c.args.doubted.now.row.items c.requires.row c.args.doubted.now.cells.items c.requires.cells

pub repair_cells-requires-clause-short : goal.repair_cells-requires-clause-short
repair_cells-requires-clause-short c = short_there c.args.group.now c.requires.right c.args.place c.requires.there c.args.key.now c.requires.key c.args.doubted.now.row.items

pub returns : goal.returns
returns c =
    let n : c.in_ok-repair.repair ≢ Leave = search rules in
    repair_due c.args.group.now c.requires.right c.args.place c.requires.there c.args.key.now c.requires.key c.args.stamp c.args.doubted.now.row.items c.requires.row c.args.doubted.now.cells.items c.requires.cells c.args.seen.now c.requires.seen c.requires.doubt
    c.in_ok-repair.repair c.in_ok-repair.ensures.leave n c.in_ok-repair.ensures.due _ c.index-part.result.now c.index-part.ensures c.max-horizon.result c.max-horizon.ensures c.in_ok-kept.kept c.in_ok-kept.ensures
