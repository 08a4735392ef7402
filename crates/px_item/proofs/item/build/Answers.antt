use Rattle.std.proofs.Common.{sym, subst}
use Rattle.std.proofs.Crossing.{crosses}
use denote.Param.Send.{sendable}
use Rattle.px_values.specs.declared.name.IndexId.{IndexId}
use Rattle.px_values.specs.declared.name.TableId.{TableId}
use Rattle.px_upkeep.specs.Turns as building
use Rattle.px_item.proofs.Built.{build_goes_on, build_is_over, build_waits}
use Rattle.px_item.proofs.item.build.Goals as goal

pub step-requires : goal.step-requires
step-requires g c =
    let j = c.requires.2.state.1 in
    let F : TableId × IndexId → Type 0 = λ q. building.FitsBuild g.S.Steps.sound j.made.at q.0 q.1 j.rest c.args.run (g.S.Steps.known c.args.s.now) in
    (search (sendable, crosses) depth 40, (j.made.at, j.rest, subst F (λ i. (sym j.fits.table i, sym j.fits.index i)) j.fits))

pub returns-in-Stepped-clause-turns : goal.returns-in-Stepped-clause-turns
returns-in-Stepped-clause-turns g c = λ before own f. build_goes_on g.S.Steps.sound before c.args.asked own c.args.statement c.args.run _ _ _ f c.in-Stepped.ensures.turns

pub returns-in-Waiting-clause-turns : goal.returns-in-Waiting-clause-turns
returns-in-Waiting-clause-turns g c = λ before own f. build_waits g.S.Steps.sound before c.args.asked own c.args.statement c.args.run _ _ _ f c.in-Waiting.ensures.turns

pub returns-in-Over-clause-turns : goal.returns-in-Over-clause-turns
returns-in-Over-clause-turns g c = λ before own f. build_is_over g.S.Steps.sound before c.args.asked own c.args.statement c.args.run _ _ _ c.built.result f c.in-Over.ensures.turns c.built.ensures
