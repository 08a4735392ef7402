use Rattle.px_trail.specs.Trail.{table_shape}
use Rattle.px_held.proofs.Each.{next-held, none-left, too-many-so}
use Rattle.px_held.proofs.holding.hold_each.Goals as goal

pub changes-preserved : goal.changes-preserved
changes-preserved c = record {
  so = next-held (table_shape c.args.table.now) c.args.held.now.items c.changes.held.items c.hold.new.held.items c.args.changes.items c.pop_front.new.self.items c.in-Some.change (rw c.in-Some.ensures.items at c.changes.invariant.so) c.in-Ok.ensures.ok;
  few = λ few. c.hold.ensures.rows (c.changes.invariant.few few);
}

pub returns-in-Err-clause-fault : goal.returns-in-Err-clause-fault
returns-in-Err-clause-fault c =
    too-many-so c.in-Err.fault (table_shape c.args.table.now) c.args.held.now.items c.changes.held.items c.args.changes.items c.pop_front.new.self.items c.in-Some.change (rw c.in-Some.ensures.items at c.changes.invariant.so) c.in-Err.ensures.fault

pub returns-clause-ok : goal.returns-clause-ok
returns-clause-ok c =
    none-left (table_shape c.args.table.now) c.args.held.now.items c.changes.held.items c.args.changes.items c.changes.changes.items c.changes.changes.len c.changes.invariant.so c.changes.changes.ok.0 c.in_default.ensures.cases.0
