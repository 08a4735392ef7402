use Rattle.px_reading.proofs.Asked.{cells_before, looked_cells, looked_due, looked_holder, looked_key, looked_leave, looked_row, looked_seen, looked_there, row_before}
use Rattle.px_reading.proofs.Looked.{looked_then, still_right}
use Rattle.px_reading.proofs.consulting.consult.Goals as goal

pub row_of_doubt-requires-clause-right : goal.row_of_doubt-requires-clause-right
row_of_doubt-requires-clause-right g c = still_right c.args.group.now c.version_of_doubt.new.group c.version_of_doubt.ensures.looked c.requires.right

pub row_of_doubt-requires-clause-there : goal.row_of_doubt-requires-clause-there
row_of_doubt-requires-clause-there g c = looked_there c.args.group.now c.version_of_doubt.new.group c.version_of_doubt.ensures.looked c.args.place c.requires.there

pub row_of_doubt-requires-clause-key : goal.row_of_doubt-requires-clause-key
row_of_doubt-requires-clause-key g c = looked_key c.args.group.now c.version_of_doubt.new.group c.version_of_doubt.ensures.looked c.args.place c.args.key.now c.requires.key

pub answered-requires-clause-right : goal.answered-requires-clause-right
answered-requires-clause-right g c = still_right c.args.group.now c.row_of_doubt.new.group (looked_then c.args.group.now c.version_of_doubt.new.group c.row_of_doubt.new.group c.version_of_doubt.ensures.looked c.row_of_doubt.ensures.looked) c.requires.right

pub answered-requires-clause-there : goal.answered-requires-clause-there
answered-requires-clause-there g c = looked_there c.args.group.now c.row_of_doubt.new.group (looked_then c.args.group.now c.version_of_doubt.new.group c.row_of_doubt.new.group c.version_of_doubt.ensures.looked c.row_of_doubt.ensures.looked) c.args.place c.requires.there

pub answered-requires-clause-key : goal.answered-requires-clause-key
answered-requires-clause-key g c = looked_key c.args.group.now c.row_of_doubt.new.group (looked_then c.args.group.now c.version_of_doubt.new.group c.row_of_doubt.new.group c.version_of_doubt.ensures.looked c.row_of_doubt.ensures.looked) c.args.place c.args.key.now c.requires.key

pub answered-requires-clause-row : goal.answered-requires-clause-row
answered-requires-clause-row g c = looked_row c.version_of_doubt.new.group c.row_of_doubt.new.group c.row_of_doubt.ensures.looked c.args.place c.args.key.now c.in_ok-doubted.doubted.row.items c.in_ok-doubted.ensures.row

pub answered-requires-clause-cells : goal.answered-requires-clause-cells
answered-requires-clause-cells g c = looked_cells c.version_of_doubt.new.group c.row_of_doubt.new.group c.row_of_doubt.ensures.looked c.in_ok-doubted.doubted.row.items c.in_ok-doubted.doubted.cells.items c.in_ok-doubted.ensures.cells

pub answered-requires-clause-seen : goal.answered-requires-clause-seen
answered-requires-clause-seen g c = looked_seen c.args.group.now c.row_of_doubt.new.group (looked_then c.args.group.now c.version_of_doubt.new.group c.row_of_doubt.new.group c.version_of_doubt.ensures.looked c.row_of_doubt.ensures.looked) c.args.place c.args.key.now c.args.stamp c.in_ok-seen.seen c.in_ok-seen.ensures.seen

pub returns-in-Ok-clause-leave : goal.returns-in-Ok-clause-leave
returns-in-Ok-clause-leave g c = λ x at. looked_leave c.args.group.now c.row_of_doubt.new.group (looked_then c.args.group.now c.version_of_doubt.new.group c.row_of_doubt.new.group c.version_of_doubt.ensures.looked c.row_of_doubt.ensures.looked) c.args.place x at c.args.key.now c.args.stamp c.in_ok-doubted.doubted.row.items (row_before c.args.group.now c.version_of_doubt.new.group c.version_of_doubt.ensures.looked c.args.place c.args.key.now c.in_ok-doubted.doubted.row.items c.in_ok-doubted.ensures.row x at) c.in_ok-seen.seen (c.in_ok-seen.ensures.seen x at) _ c.in-Ok.ensures.leave

pub returns-in-Ok-clause-row : goal.returns-in-Ok-clause-row
returns-in-Ok-clause-row g c = λ x at. looked_holder c.args.group.now c.row_of_doubt.new.group (looked_then c.args.group.now c.version_of_doubt.new.group c.row_of_doubt.new.group c.version_of_doubt.ensures.looked c.row_of_doubt.ensures.looked) c.requires.right c.args.place x at c.args.key.now (c.requires.key x at) c.in_ok-doubted.doubted.row.items (row_before c.args.group.now c.version_of_doubt.new.group c.version_of_doubt.ensures.looked c.args.place c.args.key.now c.in_ok-doubted.doubted.row.items c.in_ok-doubted.ensures.row x at) c.in_ok-doubted.doubted.cells.items (cells_before c.args.group.now c.version_of_doubt.new.group c.version_of_doubt.ensures.looked c.in_ok-doubted.doubted.row.items c.in_ok-doubted.doubted.cells.items c.in_ok-doubted.ensures.cells) c.args.point _ c.in-Ok.ensures.row

pub returns-in-Ok-clause-due : goal.returns-in-Ok-clause-due
returns-in-Ok-clause-due g c = λ x at. looked_due c.args.group.now c.row_of_doubt.new.group (looked_then c.args.group.now c.version_of_doubt.new.group c.row_of_doubt.new.group c.version_of_doubt.ensures.looked c.row_of_doubt.ensures.looked) c.args.place x at c.args.key.now c.args.stamp c.in_ok-doubted.doubted.row.items (row_before c.args.group.now c.version_of_doubt.new.group c.version_of_doubt.ensures.looked c.args.place c.args.key.now c.in_ok-doubted.doubted.row.items c.in_ok-doubted.ensures.row x at) c.in_ok-seen.seen (c.in_ok-seen.ensures.seen x at) _ c.in-Ok.ensures.due
