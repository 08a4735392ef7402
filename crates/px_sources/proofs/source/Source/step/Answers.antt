use Rattle.std.proofs.Common.{◌∷◌, subst}
use Rattle.px_sources.specs.Sources.{Gives}
use Rattle.px_sources.specs.declared.source.Source.{Source}
use Rattle.px_sources.proofs.source.Source.step.Goals as goal

pub returns-in-File-clause-stepped : goal.returns-in-File-clause-stepped
returns-in-File-clause-stepped g c = λ x left gives. c.step.ensures.stepped x left (subst (λ (s : Source). Gives g.D.Disk s c.args.disk.now (x ∷ left)) c.in-File.is gives)

pub returns-in-File-clause-sound : goal.returns-in-File-clause-sound
returns-in-File-clause-sound g c = λ left at place gives e. c.step.ensures.sound left at place (subst (λ (s : Source). Gives g.D.Disk s c.args.disk.now left) c.in-File.is gives) e
