use Rattle.px_paths.proofs.Keys.{held_shown, index_key_fits, same_owner, shown_key}
use Rattle.px_paths.proofs.laws.law_index_keys.Goals as goal

pub returns-clause-fits : goal.returns-clause-fits
returns-clause-fits c = index_key_fits

pub returns-clause-tells : goal.returns-clause-tells
returns-clause-tells c = same_owner

pub returns-clause-shown : goal.returns-clause-shown
returns-clause-shown c = shown_key

pub returns-clause-held : goal.returns-clause-held
returns-clause-held c = held_shown
