use Rattle.px_files.proofs.Kept.{have_apart, have_quiet, have_stand}
use Rattle.px_files.proofs.laws.files_are_kept.Goals as goal

pub returns-clause-apart : goal.returns-clause-apart
returns-clause-apart g c = λ region old new named files lists touches have. have_apart g.D.Disk region old new named files lists _ touches (λ file own touched. touched own) have

pub returns-clause-quiet : goal.returns-clause-quiet
returns-clause-quiet g c = λ region old new named files lists. have_quiet g.D.Disk region old new named files lists

pub returns-clause-stand : goal.returns-clause-stand
returns-clause-stand g c = λ region disk named files lists. have_stand g.D.Disk region disk named files lists
