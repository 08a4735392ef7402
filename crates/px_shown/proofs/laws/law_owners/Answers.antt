use Rattle.px_shown.proofs.Owners.{owner_fits, owner_owns, owner_read}
use Rattle.px_shown.proofs.laws.law_owners.Goals as goal

pub returns : goal.returns
returns c = record { read = owner_read; fits = owner_fits; owns = owner_owns }
