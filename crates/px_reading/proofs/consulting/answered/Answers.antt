use Rattle.px_reading.proofs.Dues.{right_there, row_there, short_there, state_there}
use Rattle.px_reading.proofs.consulting.answered.Goals as goal

pub held_in-requires-clause-index : goal.held_in-requires-clause-index
held_in-requires-clause-index c = right_there c.args.group.now c.args.place _ c.index.result.now c.index.ensures c.requires.right c.requires.there

pub held_in-requires-clause-row : goal.held_in-requires-clause-row
held_in-requires-clause-row c = row_there c.args.group.now c.requires.right c.args.place c.requires.there c.args.key.now c.requires.key c.args.doubted.now.row.items c.requires.row c.args.doubted.now.cells.items c.requires.cells

pub held_in-requires-clause-short : goal.held_in-requires-clause-short
held_in-requires-clause-short c = short_there c.args.group.now c.requires.right c.args.place c.requires.there c.args.key.now c.requires.key c.args.doubted.now.row.items

pub returns-clause-row : goal.returns-clause-row
returns-clause-row c = λ x at. state_there c.args.group.now c.args.place _ c.index.result.now c.index.ensures c.args.doubted.now.row.items c.args.key.now _ c.in_ok-row.row c.in_ok-row.ensures x at
