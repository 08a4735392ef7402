use Rattle.std.proofs.Common.{sym, ◌∙◌}
use Rattle.px_batching.proofs.Handed.{has_written, no_cells, writes_none, written_none}
use Rattle.px_batching.proofs.handing.hand.Goals as goal

pub returns-then-is_empty-clause-writes : goal.returns-then-is_empty-clause-writes
returns-then-is_empty-clause-writes g c = writes_none g.D.Disk c.args.region.now c.args.disk.now g.met.D.Disk.up_to_now c.args.cells

pub returns-then-is_empty-clause-written : goal.returns-then-is_empty-clause-written
returns-then-is_empty-clause-written g c = written_none g.D.Disk c.args.region.now c.args.disk.now c.args.cells (no_cells c.args.cells (sym c.is_empty.ensures ∙ c.if-is_empty.true))

pub returns-clause-written : goal.returns-clause-written
returns-clause-written g c = has_written g.D.Disk c.args.region.now c.apply.new.self c.args.disk.now c.apply.new.disk c.args.cells c.apply.result c.apply.ensures.done c.apply.ensures.read
