use Rattle.px_catalog.proofs.Opening.{empty_stands}
use Rattle.px_catalog.proofs.laws.a_folder_without_one_is_fresh.Goals as goal

pub returns : goal.returns
returns c = empty_stands
