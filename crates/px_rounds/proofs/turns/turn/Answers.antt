use Rattle.std.proofs.Common.{arith, get_or, sym, subst}
use Rattle.std.proofs.lemmas.Option.{slice_get-get_or}
use Rattle.std.proofs.Crossing.{crosses}
use denote.Param.Send.{sendable}
use Rattle.px_calls.specs.Known.{Known}
use Rattle.px_session.specs.Live.{IsSessionLive}
use Rattle.px_rounds.proofs.Lists.{get_some}
use Rattle.px_rounds.proofs.Turning as turning
use Rattle.px_rounds.proofs.turns.turn.Goals as goal

pub step-requires : goal.step-requires
step-requires g c =
    let run = get_or c.args.runs.now c.args.place c.index-runs-place.result in
    let at = slice_get-get_or c.args.runs.now c.args.place c.index-runs-place.result c.requires.place.0 in
    let live = c.requires.live in
    let st = get_some live.0 c.args.place (let n = live.1.count in let low = c.requires.place.0 in omega arith) in
    (search (sendable, crosses) depth 40, (st.0, subst (λ (k : Known). IsSessionLive g.S.Steps.sound k st.0 run) (sym c.act_as.ensures) (live.1.each c.args.place st.0 run st.1 at)))

pub returns : goal.returns
returns g c =
    let run = get_or c.args.runs.now c.args.place c.index-runs-place.result in
    let at = slice_get-get_or c.args.runs.now c.args.place c.index-runs-place.result c.requires.place.0 in
    record {
      turned = turning.turns g.S.Steps.sound c.args.place (g.S.Steps.known c.args.s.now) (g.S.Steps.known c.act_as.new.self) (g.S.Steps.known c.step.new.s) c.args.runs.now run c.step.new.self c.requires.single c.requires.live c.act_as.ensures c.requires.place.0 at
          c.step.ensures.steps;
    }
