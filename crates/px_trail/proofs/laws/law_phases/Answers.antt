use Rattle.px_trail.proofs.Batches.{batch-sound, batch-none, begun-in, marked-in, wrote_some-in, wrote_all-in, verified-in, ended-in}
use Rattle.px_trail.proofs.laws.law_phases.Goals as goal

pub returns-clause-sound : goal.returns-clause-sound
returns-clause-sound c b t s es legal = batch-sound b t s es legal

pub returns-clause-fresh : goal.returns-clause-fresh
returns-clause-fresh c b t s es new = batch-none b t s es new

pub returns-clause-begins : goal.returns-clause-begins
returns-clause-begins c b es seat calls t s cs new = begun-in b es seat calls t s cs new

pub returns-clause-marks : goal.returns-clause-marks
returns-clause-marks c b es seat calls t s legal i = marked-in b es seat calls t s legal i

pub returns-clause-writes_some : goal.returns-clause-writes_some
returns-clause-writes_some c es seat calls t s rows f left = wrote_some-in es seat calls t s rows f left

pub returns-clause-writes_all : goal.returns-clause-writes_all
returns-clause-writes_all c es seat calls t s rows f left = wrote_all-in es seat calls t s rows f left

pub returns-clause-verifies : goal.returns-clause-verifies
returns-clause-verifies c es seat calls t s i = verified-in es seat calls t s i

pub returns-clause-ends : goal.returns-clause-ends
returns-clause-ends c es seat calls t s i = ended-in es seat calls t s i
