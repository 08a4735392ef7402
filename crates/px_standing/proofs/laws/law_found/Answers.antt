use Rattle.px_standing.proofs.Looked.{found_at, lacks, stands_at, unnamed}
use Rattle.px_standing.proofs.laws.law_found.Goals as goal

pub returns-clause-stands : goal.returns-clause-stands
returns-clause-stands c = stands_at

pub returns-clause-found : goal.returns-clause-found
returns-clause-found c = found_at

pub returns-clause-unnamed : goal.returns-clause-unnamed
returns-clause-unnamed c = unnamed

pub returns-clause-lacks : goal.returns-clause-lacks
returns-clause-lacks c = lacks
