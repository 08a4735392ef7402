use Rattle.std.proofs.Common.{◌≡◌, ◌+◌, arith}
use Rattle.px_wal.proofs.Readings.{cells_within, cells_wrong, told_fault}
use Rattle.px_wal.proofs.batch.cells_of.Goals as goal

pub returns-in-Some-clause-wrong : goal.returns-in-Some-clause-wrong
returns-in-Some-clause-wrong c = λ place right e.
    let is : 12 + c.in-Some.place ≡ place = cc in
    cells_wrong right c.args.body.now c.in-Err.fault place c.in-Some.place (λ i. omega (arith, c.type_inv.body i)) c.requires.long
    (told_fault c.args.body.now c.count_of-count.result c.in-Err.fault c.count_of-count.ensures.count (c.in-Err.ensures.fault c.in-Some.ensures.some)) c.in-Some.ensures.place is

pub returns-in-Some-clause-within : goal.returns-in-Some-clause-within
returns-in-Some-clause-within c = λ place e.
    let is : 12 + c.in-Some.place ≡ place = cc in
    cells_within c.args.body.now c.in-Err.fault place c.in-Some.place c.requires.long
    (told_fault c.args.body.now c.count_of-count.result c.in-Err.fault c.count_of-count.ensures.count (c.in-Err.ensures.fault c.in-Some.ensures.some)) c.in-Some.ensures.place is
