use Rattle.px_arguments.proofs.Reading.{spelled, spells_one}
use Rattle.px_arguments.proofs.laws.law_spelled.Goals as goal

pub returns-clause-read : goal.returns-clause-read
returns-clause-read c = spelled

pub returns-clause-one : goal.returns-clause-one
returns-clause-one c = spells_one
