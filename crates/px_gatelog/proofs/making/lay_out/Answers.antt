use Rattle.px_gatelog.proofs.making.lay_out.Goals as goal

pub returns-in-None-clause-lengths : goal.returns-in-None-clause-lengths
returns-in-None-clause-lengths g c most fits = c.lay_out_empty.ensures.lengths most (rw c.in-None.is at fits)

pub returns-in-Some-clause-lengths : goal.returns-in-Some-clause-lengths
returns-in-Some-clause-lengths g c most fits = c.lay_out_with.ensures.lengths most (rw c.in-Some.is at fits)
