use Rattle.px_program.proofs.Ran.{keeps_still}
use Rattle.px_program.proofs.run.untouched.Goals as goal

pub returns-clause-recovers : goal.returns-clause-recovers
returns-clause-recovers g c = λ starts moment image left. c.law_starts.ensures.failed c.args.disk c.args.disk starts (λ told. keeps_still g.D.Disk c.args.disk (g.met.D.Disk.up_to_now c.args.disk) starts) moment image left
