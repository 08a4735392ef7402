use Rattle.px_disabled.proofs.FolderLess.{index_disabled}
use Rattle.px_disabled.proofs.FolderMore.{index_rebuilt}
use Rattle.px_disabled.proofs.law_folder.Goals as goal

pub returns : goal.returns
returns c = record { gone = index_disabled; anew = index_rebuilt }
