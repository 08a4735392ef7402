use Rattle.px_catalog.proofs.Opening.{damaged_once, damaged_stands, stands_once}
use Rattle.px_catalog.proofs.laws.an_image_stands_for_one.Goals as goal

pub returns-clause-one : goal.returns-clause-one
returns-clause-one c = stands_once

pub returns-clause-damaged : goal.returns-clause-damaged
returns-clause-damaged c = damaged_stands

pub returns-clause-at_one : goal.returns-clause-at_one
returns-clause-at_one c = damaged_once
