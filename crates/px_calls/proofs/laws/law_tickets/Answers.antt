use Rattle.px_calls.proofs.Runs.{adds-begun, adds-marked, adds-shut, adds-verified, passes-shut, passes-ticket, sees-ticket}
use Rattle.px_calls.proofs.laws.law_tickets.Goals as goal

pub returns-clause-others : goal.returns-clause-others
returns-clause-others c k k' t p h i = passes-ticket k k' t p h i

pub returns-clause-sees : goal.returns-clause-sees
returns-clause-sees c k k' t p h i = sees-ticket k k' t p h i

pub returns-clause-begins : goal.returns-clause-begins
returns-clause-begins c k k' t cs h = adds-begun k k' t cs h

pub returns-clause-marks : goal.returns-clause-marks
returns-clause-marks c k k' t h i = adds-marked k k' t h i

pub returns-clause-verifies : goal.returns-clause-verifies
returns-clause-verifies c k k' t h i = adds-verified k k' t h i

pub returns-clause-closes : goal.returns-clause-closes
returns-clause-closes c k k' call h = adds-shut k k' call h

pub returns-clause-shut : goal.returns-clause-shut
returns-clause-shut c k k' h shut = passes-shut k k' h shut
