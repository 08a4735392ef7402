use Rattle.px_gatelog.proofs.OneReading.{every_reading, one_reading}
use Rattle.px_gatelog.proofs.laws.one_reading.Goals as goal

pub returns-clause-one : goal.returns-clause-one
returns-clause-one c = one_reading

pub returns-clause-read : goal.returns-clause-read
returns-clause-read c = every_reading
