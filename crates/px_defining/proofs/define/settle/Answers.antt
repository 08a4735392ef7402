use Rattle.px_defining.proofs.Defining as defining
use Rattle.px_defining.proofs.define.settle.Goals as goal

pub returns-in-Ok-Did-clause-turns : goal.returns-in-Ok-Did-clause-turns
returns-in-Ok-Did-clause-turns g c = λ x can. defining.works _ _ _ x can (rw c.in-Ok-Did.field-0-is at c.in-Ok-Did.ensures.ok)

pub returns-in-Ok-Idle-clause-turns : goal.returns-in-Ok-Idle-clause-turns
returns-in-Ok-Idle-clause-turns g c = λ x can. defining.idles _ _ _ x can (rw c.in-Ok-Idle.field-0-is at c.in-Ok-Idle.ensures.ok)

pub returns-in-Err-clause-turns : goal.returns-in-Err-clause-turns
returns-in-Err-clause-turns g c = λ x can. rw c.fault_of.ensures (defining.upkeep_refuses _ _ _ x _ c.in-Err.ensures.refused)
