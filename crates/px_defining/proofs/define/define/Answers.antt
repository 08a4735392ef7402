use Rattle.px_defining.proofs.Defining as defining
use Rattle.px_defining.proofs.define.define.Goals as goal

pub returns-in-Ok-clause-turns : goal.returns-in-Ok-clause-turns
returns-in-Ok-clause-turns g c = defining.defines _ _ _ c.args.definition.now _ c.in-Ok.ensures.ok

pub returns-in-Err-clause-turns : goal.returns-in-Err-clause-turns
returns-in-Err-clause-turns g c = rw c.refused.ensures (defining.refuses _ _ _ c.args.definition.now _ c.requires c.in-Err.ensures.refused)
