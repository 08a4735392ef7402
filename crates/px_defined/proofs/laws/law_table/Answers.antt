use Rattle.px_defined.proofs.News.{new_table_right, one_region}
use Rattle.px_defined.proofs.Right.{right_new}
use Rattle.px_defined.proofs.ShownTable.{shown_new}
use Rattle.px_defined.proofs.TalliedTable.{tallied_new}
use Rattle.px_defined.proofs.laws.law_table.Goals as goal

pub returns : goal.returns
returns c = record { new = new_table_right; one = one_region; right = right_new; tallied = tallied_new; shown = shown_new }
