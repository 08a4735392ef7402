use Rattle.px_basing.proofs.Given.{given_owners, given_row, owner_is}
use Rattle.px_basing.proofs.laws.law_given.Goals as goal

pub returns : goal.returns
returns c = record { row = given_row; owner = owner_is; owners = given_owners }
