use Rattle.px_file.proofs.Kept.{kept_apart, kept_quiet}
use Rattle.px_file.proofs.laws.a_file_is_kept.Goals as goal

pub returns-clause-apart : goal.returns-clause-apart
returns-clause-apart g c = kept_apart g.D.Disk

pub returns-clause-quiet : goal.returns-clause-quiet
returns-clause-quiet g c = kept_quiet g.D.Disk
