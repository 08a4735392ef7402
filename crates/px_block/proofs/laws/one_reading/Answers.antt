use Rattle.px_block.proofs.OneBlock.{front_or_fault, one_front, one_front_fault, one_reading}
use Rattle.px_block.proofs.laws.one_reading.Goals as goal

pub returns-clause-one : goal.returns-clause-one
returns-clause-one c = one_reading

pub returns-clause-front : goal.returns-clause-front
returns-clause-front c = one_front

pub returns-clause-fault : goal.returns-clause-fault
returns-clause-fault c = one_front_fault

pub returns-clause-either : goal.returns-clause-either
returns-clause-either c = front_or_fault
