use Rattle.std.proofs.Common.{arith}
use Rattle.px_batch.specs.declared.batch.BatchFault.TheVariants as fault
use Rattle.px_batch.specs.declared.batch.BatchState.TheVariants as state
use Rattle.px_batch.proofs.Turning as turning
use Rattle.px_batch.proofs.Turning.{early_begin, early_settle}
use Rattle.px_batch.proofs.batch.begin.Goals as goal

pub returns-in-Ok-clause-turns : goal.returns-in-Ok-clause-turns
returns-in-Ok-clause-turns g c = turning.begins _ _ _ _ _ _ c.in-Ok.ensures.ok

pub returns-in-Err-Busy-clause-turns : goal.returns-in-Err-Busy-clause-turns
returns-in-Err-Busy-clause-turns g c = turning.is_busy _ _ _ c.args.table c.args.changes.now c.requires.fits (rw c.in-Err-Busy.field-0-is at c.in-Err-Busy.ensures.refused).1

pub returns-in-Err-NotReady-clause-turns : goal.returns-in-Err-NotReady-clause-turns
returns-in-Err-NotReady-clause-turns g c = turning.is_busy _ _ _ c.args.table c.args.changes.now c.requires.fits (rw c.in-Err-NotReady.field-0-is at c.in-Err-NotReady.ensures.refused).1

pub returns-in-Err-NoTable-clause-turns : goal.returns-in-Err-NoTable-clause-turns
returns-in-Err-NoTable-clause-turns g c =
    let h = (rw c.in-Err-NoTable.field-0-is at c.in-Err-NoTable.ensures.refused) in
    turning.stops _ _ _ c.args.table c.args.changes.now state.Beginning fault.NoTable early_begin (λ n. tt) h.0 h.1

pub returns-in-Err-Limit-clause-turns : goal.returns-in-Err-Limit-clause-turns
returns-in-Err-Limit-clause-turns g c =
    let h = (rw c.in-Err-Limit.field-0-is at c.in-Err-Limit.ensures.refused) in
    turning.stops _ _ _ c.args.table c.args.changes.now state.Beginning (fault.Limit _ _) early_begin (λ n. tt) h.0 h.1

pub returns-in-Err-Closed-clause-turns : goal.returns-in-Err-Closed-clause-turns
returns-in-Err-Closed-clause-turns g c =
    let h = (rw c.in-Err-Closed.field-0-is at c.in-Err-Closed.ensures.refused) in
    turning.stops _ _ _ c.args.table c.args.changes.now state.Beginning (fault.Closed _) early_begin (λ n. tt) h.0 h.1

pub returns-in-Err-Memory-clause-turns : goal.returns-in-Err-Memory-clause-turns
returns-in-Err-Memory-clause-turns g c =
    let h = (rw c.in-Err-Memory.field-0-is at c.in-Err-Memory.ensures.refused) in
    turning.stops _ _ _ c.args.table c.args.changes.now state.Beginning fault.Memory early_begin (λ n. tt) tt h.1

pub returns-in-Err-Damaged-clause-turns : goal.returns-in-Err-Damaged-clause-turns
returns-in-Err-Damaged-clause-turns g c =
    let h = (rw c.in-Err-Damaged.field-0-is at c.in-Err-Damaged.ensures.refused) in
    turning.stops _ _ _ c.args.table c.args.changes.now state.Beginning (fault.Damaged _ _) early_begin (λ n. tt) h.0.1 h.1

pub returns-in-Err-ReadFault-clause-turns : goal.returns-in-Err-ReadFault-clause-turns
returns-in-Err-ReadFault-clause-turns g c = turning.misses _ _ _ c.args.table c.args.changes.now state.Beginning early_begin (rw c.in-Err-ReadFault.field-0-is at c.in-Err-ReadFault.ensures.refused).1

pub returns-in-Ok-clause-spends : goal.returns-in-Ok-clause-spends
returns-in-Ok-clause-spends g c = λ alone n few_indexes. let few = c.in-Ok.ensures.few alone in omega arith

pub returns-in-Err-Busy-clause-spends : goal.returns-in-Err-Busy-clause-spends
returns-in-Err-Busy-clause-spends g c = λ alone n few_indexes. omega arith

pub returns-in-Err-NotReady-clause-spends : goal.returns-in-Err-NotReady-clause-spends
returns-in-Err-NotReady-clause-spends g c = λ alone n few_indexes. omega arith

pub returns-in-Err-NoTable-clause-spends : goal.returns-in-Err-NoTable-clause-spends
returns-in-Err-NoTable-clause-spends g c = λ alone n few_indexes. omega arith

pub returns-in-Err-Limit-clause-spends : goal.returns-in-Err-Limit-clause-spends
returns-in-Err-Limit-clause-spends g c = λ alone n few_indexes. omega arith

pub returns-in-Err-Closed-clause-spends : goal.returns-in-Err-Closed-clause-spends
returns-in-Err-Closed-clause-spends g c = λ alone n few_indexes. omega arith

pub returns-in-Err-Memory-clause-spends : goal.returns-in-Err-Memory-clause-spends
returns-in-Err-Memory-clause-spends g c = λ alone n few_indexes. omega arith

pub returns-in-Err-Damaged-clause-spends : goal.returns-in-Err-Damaged-clause-spends
returns-in-Err-Damaged-clause-spends g c = λ alone n few_indexes. omega arith

pub returns-in-Err-ReadFault-clause-spends : goal.returns-in-Err-ReadFault-clause-spends
returns-in-Err-ReadFault-clause-spends g c = λ alone n few_indexes. omega arith
