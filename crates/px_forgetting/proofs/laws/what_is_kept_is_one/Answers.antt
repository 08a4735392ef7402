use Rattle.px_forgetting.proofs.Horizons.{kept_one, kept_written}
use Rattle.px_forgetting.proofs.Parts.{kept_parts}
use Rattle.px_forgetting.proofs.laws.what_is_kept_is_one.Goals as goal

pub returns-clause-one : goal.returns-clause-one
returns-clause-one c = λ cells a b horizon ka kb. kept_one cells a b horizon ka kb

pub returns-clause-parts : goal.returns-clause-parts
returns-clause-parts c = λ xs ys a b horizon sorted apart ka kb. kept_parts xs ys horizon sorted apart a b ka kb

pub returns-clause-written : goal.returns-clause-written
returns-clause-written c = λ cells kept horizon w k. kept_written cells kept horizon w k
