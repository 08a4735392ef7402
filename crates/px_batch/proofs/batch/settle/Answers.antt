use Rattle.std.proofs.Common.{arith}
use Rattle.px_batch.specs.declared.batch.BatchFault.TheVariants as fault
use Rattle.px_batch.specs.declared.batch.BatchState.TheVariants as state
use Rattle.px_batch.proofs.Turning as turning
use Rattle.px_batch.proofs.Turning.{early_begin, early_settle}
use Rattle.px_batch.proofs.batch.settle.Goals as goal

pub returns-in-Ok-Did-clause-turns : goal.returns-in-Ok-Did-clause-turns
returns-in-Ok-Did-clause-turns g c = λ table cs f. turning.works _ _ _ table cs f (rw c.in-Ok-Did.field-0-is at c.in-Ok-Did.ensures.ok)

pub returns-in-Ok-Idle-clause-turns : goal.returns-in-Ok-Idle-clause-turns
returns-in-Ok-Idle-clause-turns g c = λ table cs f. turning.idles _ _ _ table cs f (rw c.in-Ok-Idle.field-0-is at c.in-Ok-Idle.ensures.ok)

pub returns-in-Err-ReadFault-clause-turns : goal.returns-in-Err-ReadFault-clause-turns
returns-in-Err-ReadFault-clause-turns g c = λ table cs f. turning.misses _ _ _ table cs state.Settling early_settle (rw c.in-Err-ReadFault.field-0-is at c.in-Err-ReadFault.ensures.refused).1

pub returns-in-Err-WriteFault-clause-turns : goal.returns-in-Err-WriteFault-clause-turns
returns-in-Err-WriteFault-clause-turns g c = λ table cs f. turning.shuts _ _ _ table cs state.Settling early_settle (rw c.in-Err-WriteFault.field-0-is at c.in-Err-WriteFault.ensures.refused).1

pub returns-in-Err-Damaged-clause-turns : goal.returns-in-Err-Damaged-clause-turns
returns-in-Err-Damaged-clause-turns g c = λ table cs f.
    let h = (rw c.in-Err-Damaged.field-0-is at c.in-Err-Damaged.ensures.refused) in
    turning.stops _ _ _ table cs state.Settling (fault.Damaged _ _) early_settle (λ n. tt) h.0 h.1

pub returns-in-Err-Closed-clause-turns : goal.returns-in-Err-Closed-clause-turns
returns-in-Err-Closed-clause-turns g c = λ table cs f.
    let h = (rw c.in-Err-Closed.field-0-is at c.in-Err-Closed.ensures.refused) in
    turning.stops _ _ _ table cs state.Settling (fault.Closed _) early_settle (λ n. tt) h.0 h.1

pub returns-in-Err-Memory-clause-turns : goal.returns-in-Err-Memory-clause-turns
returns-in-Err-Memory-clause-turns g c = λ table cs f.
    let h = (rw c.in-Err-Memory.field-0-is at c.in-Err-Memory.ensures.refused) in
    turning.stops _ _ _ table cs state.Settling fault.Memory early_settle (λ n. tt) tt h.1

pub returns-in-Ok-Did-clause-spends : goal.returns-in-Ok-Did-clause-spends
returns-in-Ok-Did-clause-spends g c = λ alone n. omega arith

pub returns-in-Ok-Idle-clause-spends : goal.returns-in-Ok-Idle-clause-spends
returns-in-Ok-Idle-clause-spends g c = λ alone n. omega arith

pub returns-in-Err-ReadFault-clause-spends : goal.returns-in-Err-ReadFault-clause-spends
returns-in-Err-ReadFault-clause-spends g c = λ alone n. omega arith

pub returns-in-Err-WriteFault-clause-spends : goal.returns-in-Err-WriteFault-clause-spends
returns-in-Err-WriteFault-clause-spends g c = λ alone n. omega arith

pub returns-in-Err-Damaged-clause-spends : goal.returns-in-Err-Damaged-clause-spends
returns-in-Err-Damaged-clause-spends g c = λ alone n. omega arith

pub returns-in-Err-Closed-clause-spends : goal.returns-in-Err-Closed-clause-spends
returns-in-Err-Closed-clause-spends g c = λ alone n. omega arith

pub returns-in-Err-Memory-clause-spends : goal.returns-in-Err-Memory-clause-spends
returns-in-Err-Memory-clause-spends g c = λ alone n. omega arith
