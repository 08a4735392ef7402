use Rattle.px_shown.proofs.OwnKeys.{spells_rows}
use Rattle.px_shown.proofs.laws.law_spells.Goals as goal

pub returns : goal.returns
returns c = spells_rows
