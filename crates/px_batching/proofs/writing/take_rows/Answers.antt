use Rattle.px_batching.proofs.Ready.{some_parts}
use Rattle.px_batching.proofs.writing.take_rows.Goals as goal

pub returns-clause-begun : goal.returns-clause-begun
returns-clause-begun c =
    (let f = some_parts c.args.begun.now.batch.puts c.requires.cells in
    let t = (c.take_puts-cells.ensures f.0 f.1).1 in
    λ i. record { phase = c.args.begun.now.phase; count = c.args.begun.now.count; batch = t i; rows = c.take.ensures.after i; receipt = c.args.begun.now.receipt })
