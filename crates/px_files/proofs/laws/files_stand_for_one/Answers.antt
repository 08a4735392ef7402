use Rattle.px_files.proofs.Once.{file_once, files_once}
use Rattle.px_files.proofs.laws.files_stand_for_one.Goals as goal

pub returns-clause-one : goal.returns-clause-one
returns-clause-one c = file_once

pub returns-clause-all : goal.returns-clause-all
returns-clause-all c = files_once
