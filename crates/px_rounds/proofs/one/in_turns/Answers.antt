use Rattle.std.proofs.Common.{rules, ◌≡◌, ◌∙◌, length, List, sym, ap, subst}
use Rattle.px_session.specs.declared.run.SessionRun.{SessionRun}
use Rattle.px_rounds.specs.inner.Desks.{AreFirst, AreSessionsTold}
use Rattle.px_rounds.specs.Turns.{AreLive}
use Rattle.px_rounds.proofs.Lists.{restored}
use Rattle.px_rounds.proofs.Rounding as rounding
use Rattle.px_rounds.proofs.one.in_turns.Goals as goal

pub run_turns-requires-clause-live : goal.run_turns-requires-clause-live
run_turns-requires-clause-live g c =
    let k = g.S.Steps.known c.args.s.now in
    let states = c.args.states.items in
    let live = rounding.first_live g.S.Steps.sound k c.args.number c.seen.result states c.args.round.now c.in-Ok.lists.pieces.items c.opened-runs.result.items c.seen.ensures (search rules) c.opened-runs.ensures.first in
    λ κs bounds. (states, subst (λ (l : List SessionRun). AreLive g.S.Steps.sound k states l) (sym c.as_mut_slice.ensures.value) live)

pub opened-runs-requires-clause-placed : goal.opened-runs-requires-clause-placed
opened-runs-requires-clause-placed g c = λ i pieces e. (c.in-Ok.ensures.cut.each i pieces e).placed

pub taken_back-requires-clause-live : goal.taken_back-requires-clause-live
taken_back-requires-clause-live g c =
    let old = c.opened-runs.result.items in
    let new = c.run_turns.new.runs in
    let turned = c.run_turns.ensures.turned in
    let count : length new ≡ length old = turned.same.count ∙ ap length c.as_mut_slice.ensures.value in
    let len : c.opened-runs.result.len ≡ length old = search rules in
    let k = g.S.Steps.known c.args.s.now in
    let k' = g.S.Steps.known c.run_turns.new.s in
    let states = c.args.states.items in
    let sound = g.S.Steps.sound in
    let live = rounding.first_live sound k c.args.number c.seen.result states c.args.round.now c.in-Ok.lists.pieces.items old c.seen.ensures (search rules) c.opened-runs.ensures.first in
    let live' = turned.live states (subst (λ (l : List SessionRun). AreLive sound k states l) (sym c.as_mut_slice.ensures.value) live) in
    (k', states, subst (λ (l : List SessionRun). AreLive sound k' states l) (sym (restored new old c.opened-runs.result.len count len)) live')

pub returns-clause-round : goal.returns-clause-round
returns-clause-round g c =
    let sound = g.S.Steps.sound in
    let k = g.S.Steps.known c.args.s.now in
    let k' = g.S.Steps.known c.run_turns.new.s in
    let states = c.args.states.items in
    let round = c.args.round.now in
    let all = c.in-Ok.lists.pieces.items in
    let old = c.opened-runs.result.items in
    let new = c.run_turns.new.runs in
    let turned = c.run_turns.ensures.turned in
    let count : length new ≡ length old = turned.same.count ∙ ap length c.as_mut_slice.ensures.value in
    let len : c.opened-runs.result.len ≡ length old = search rules in
    let back = restored new old c.opened-runs.result.len count len in
    let here = c.taken_back.result in
    let live = rounding.first_live sound k c.args.number c.seen.result states round all old c.seen.ensures (search rules) c.opened-runs.ensures.first in
    let live' = turned.live states (subst (λ (l : List SessionRun). AreLive sound k states l) (sym c.as_mut_slice.ensures.value) live) in
    let told_all = c.taken_back.ensures.told k' states (subst (λ (l : List SessionRun). AreLive sound k' states l) (sym back) live') in
    let told : AreSessionsTold sound k' states new here.transcripts.items here.states.items here.lacked = subst (λ (l : List SessionRun). AreSessionsTold sound k' states l here.transcripts.items here.states.items here.lacked) back told_all in
    let first : AreFirst c.args.number c.seen.result states all c.as_mut_slice.result.now = subst (λ (l : List SessionRun). AreFirst c.args.number c.seen.result states all l) (sym c.as_mut_slice.ensures.value) c.opened-runs.ensures.first in
    rounding.turned_round sound k k' c.args.number c.seen.result states round all c.as_mut_slice.result.now new here.transcripts.items here.states.items here.lacked c.seen.ensures (search rules) first turned told
