use Rattle.px_rounds.proofs.threads.in_threads.Given as goal

abbrev pub ghosts-round_at : goal.ghosts-round_at
ghosts-round_at g a = record { base = (g.S.Steps.known a.server).base; damaged = (g.S.Steps.known a.server).damaged }
