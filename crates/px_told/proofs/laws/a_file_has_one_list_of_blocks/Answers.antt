use Rattle.px_told.proofs.Once.{same_blocks}
use Rattle.px_told.proofs.laws.a_file_has_one_list_of_blocks.Goals as goal

pub returns : goal.returns
returns c = same_blocks
