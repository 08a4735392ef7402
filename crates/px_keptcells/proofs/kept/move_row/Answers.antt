use Rattle.std.proofs.Common.{arith}
use Rattle.px_keptcells.proofs.Rows.{moved_front, moved_none, moved_rest}
use Rattle.px_keptcells.proofs.kept.move_row.Goals as goal

pub returns-then-next-at-clause-front : goal.returns-then-next-at-clause-front
returns-then-next-at-clause-front c = moved_none c.args.cells.now.items c.args.next c.args.at c.args.count c.if-next-at.true c.requires.within

pub loop-i-preserved : goal.loop-i-preserved
loop-i-preserved c =
    let i = c.loop-i.invariant in
    let w = c.requires.within in
    let t = c.loop-i-test.true in
    let o = c.loop-i.cells.ok in
    let l = c.swap.ensures.len in
    let n = c.swap.new.self.ok in
    record {
      front = moved_front c.args.cells.now.items c.loop-i.cells.items c.swap.new.self.items c.args.next c.args.at c.loop-i.i c.requires.before (omega arith) i.front i.rest (c.swap.ensures.by_index.3);
      rest = moved_rest c.args.cells.now.items c.loop-i.cells.items c.swap.new.self.items c.args.next c.args.at c.loop-i.i c.requires.before (omega arith) i.front i.rest (c.swap.ensures.by_index.3);
      len = omega arith;
    }
