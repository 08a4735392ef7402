use Rattle.px_commanding.proofs.Committing.{found-begun, found-refused, not-found}
use Rattle.px_commanding.proofs.commit.find.Goals as goal

pub returns-in-Ok-begun-clause-turns : goal.returns-in-Ok-begun-clause-turns
returns-in-Ok-begun-clause-turns g c = found-begun g.S.Steps.sound c.args.held.now _ _ _ _ (rw c.name.ensures at c.in-Ok.ensures.ok) (rw c.in-Ok-begun.is at c.begin-begun.ensures)

pub returns-in-Err-begun-clause-turns : goal.returns-in-Err-begun-clause-turns
returns-in-Err-begun-clause-turns g c = found-refused g.S.Steps.sound c.args.held.now _ _ _ _ (rw c.name.ensures at c.in-Ok.ensures.ok) (rw c.in-Err-begun.is at c.begin-begun.ensures)

pub returns-in-Err-clause-turns : goal.returns-in-Err-clause-turns
returns-in-Err-clause-turns g c = rw c.unfound.ensures (not-found g.S.Steps.sound c.args.held.now _ _ _ (rw c.name.ensures at c.in-Err.ensures.refused))
