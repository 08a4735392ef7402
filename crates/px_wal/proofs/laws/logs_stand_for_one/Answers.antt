use Rattle.px_wal.proofs.OneStanding.{log_once, manifest_once}
use Rattle.px_wal.proofs.laws.logs_stand_for_one.Goals as goal

pub returns-clause-batches : goal.returns-clause-batches
returns-clause-batches c = log_once

pub returns-clause-snapshot : goal.returns-clause-snapshot
returns-clause-snapshot c = manifest_once
