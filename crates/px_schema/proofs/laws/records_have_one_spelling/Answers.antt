use Rattle.std.proofs.Common.{ap}
use Rattle.px_schema.specs.Fresh.{fresh_read}
use Rattle.px_schema.specs.Records.{in_body}
use Rattle.px_schema.proofs.RecordLaws.{definition_read, definition_taken, snapshot_read, snapshot_taken}
use Rattle.px_schema.proofs.laws.records_have_one_spelling.Goals as goal

pub returns-clause-written : goal.returns-clause-written
returns-clause-written c = definition_read

pub returns-clause-read : goal.returns-clause-read
returns-clause-read c = definition_taken

pub returns-clause-snapshot_written : goal.returns-clause-snapshot_written
returns-clause-snapshot_written c = snapshot_read

pub returns-clause-snapshot_read : goal.returns-clause-snapshot_read
returns-clause-snapshot_read c = snapshot_taken

pub returns-clause-fresh : goal.returns-clause-fresh
returns-clause-fresh c = ap (in_body (λ s. s)) fresh_read
