use Rattle.px_reply.proofs.print.print_refusal.Goals as goal

pub returns-in-NameExists : goal.returns-in-NameExists
returns-in-NameExists c = rw c.in-NameExists.is (rw c.as_str.ensures at c.with_name-in-NameExists.ensures)

pub returns-in-NoColumn : goal.returns-in-NoColumn
returns-in-NoColumn c = rw c.in-NoColumn.is (rw c.as_str-in-NoColumn.ensures at c.with_name-in-NoColumn.ensures)

pub returns-in-NoTable : goal.returns-in-NoTable
returns-in-NoTable c = rw c.in-NoTable.is (rw c.as_str-in-NoTable.ensures at c.with_name-in-NoTable.ensures)

pub returns-in-NullKey : goal.returns-in-NullKey
returns-in-NullKey c = rw c.in-NullKey.is (rw c.as_str-in-NullKey.ensures at c.with_name-in-NullKey.ensures)

pub returns-in-NoIndex : goal.returns-in-NoIndex
returns-in-NoIndex c = rw c.in-NoIndex.is (rw c.as_str-in-NoIndex.ensures at c.with_name-in-NoIndex.ensures)

pub returns-in-Mismatch : goal.returns-in-Mismatch
returns-in-Mismatch c = rw c.in-Mismatch.is c.print_with_number-in-Mismatch.ensures

pub returns-in-OutOfRange : goal.returns-in-OutOfRange
returns-in-OutOfRange c = rw c.in-OutOfRange.is c.print_with_number-in-OutOfRange.ensures

pub returns-in-BelowHorizon : goal.returns-in-BelowHorizon
returns-in-BelowHorizon c = rw c.in-BelowHorizon.is c.print_with_number-in-BelowHorizon.ensures

pub returns-in-Closed : goal.returns-in-Closed
returns-in-Closed c = rw c.in-Closed.is c.print_with_number-in-Closed.ensures

pub returns-in-UnderScn : goal.returns-in-UnderScn
returns-in-UnderScn c = rw c.in-UnderScn.is c.push_str-in-UnderScn.ensures.ok

pub returns-in-ReadFault : goal.returns-in-ReadFault
returns-in-ReadFault c = rw c.in-ReadFault.is c.push_str-in-ReadFault.ensures.ok

pub returns-in-WriteFault : goal.returns-in-WriteFault
returns-in-WriteFault c = rw c.in-WriteFault.is c.push_str-in-WriteFault.ensures.ok

pub returns-in-Memory : goal.returns-in-Memory
returns-in-Memory c = rw c.in-Memory.is c.push_str-in-Memory.ensures.ok
