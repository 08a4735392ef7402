use Rattle.std.proofs.Common.{◌≡◌, ◌∙◌, ◌+◌, length, refl, sym, ap, arith, length-drop}
use Rattle.std.specs.Prelude.{slice_get}
use Rattle.px_turn.specs.Seats.{seen_by_seat}
use Rattle.px_seat.specs.Grown.{mine}
use Rattle.px_rounds.proofs.Lists.{front_is, get_lt, get_some, some_same}
use Rattle.px_rounds.proofs.Places.{get_rest}
use Rattle.px_rounds.proofs.Seating.{can_run, keeps_seat, seat_told}
use Rattle.px_rounds.proofs.threads.run_seats.Goals as goal

pub seated-jobs-requires-clause-seats : goal.seated-jobs-requires-clause-seats
seated-jobs-requires-clause-seats g c = λ i seat e. c.requires.seats.0.1 (i + 1) seat (sym (get_rest c.args.given.items i) ∙ (ap (λ l. slice_get l i) (sym c.remove-idle.ensures.items) ∙ e))

pub seated-jobs-requires-clause-few : goal.seated-jobs-requires-clause-few
seated-jobs-requires-clause-few g c = let len = ap length c.remove-idle.ensures.items ∙ length-drop 1 c.args.given.items in let n = c.requires.seats.1 in let few = c.requires.seats.2 in omega arith

pub seated-jobs-requires-clause-seen : goal.seated-jobs-requires-clause-seen
seated-jobs-requires-clause-seen g c = λ i seat e. c.requires.seen (i + 1) seat (sym (get_rest c.args.given.items i) ∙ (ap (λ l. slice_get l i) (sym c.remove-idle.ensures.items) ∙ e))

pub seated-jobs-requires-clause-sessions : goal.seated-jobs-requires-clause-sessions
seated-jobs-requires-clause-sessions g c = let len = ap length c.remove-idle.ensures.items ∙ length-drop 1 c.args.given.items in let n = c.requires.seats.1 in let pieces = c.requires.lists.pieces in (omega arith, omega arith)

pub seated-jobs-requires-clause-room : goal.seated-jobs-requires-clause-room
seated-jobs-requires-clause-room g c = let len = ap length c.remove-idle.ensures.items ∙ length-drop 1 c.args.given.items in let n = c.requires.seats.1 in let room = c.in-Ok.ensures in (room.1, omega (arith, room.3))

pub run_all-requires-clause-ready : goal.run_all-requires-clause-ready
run_all-requires-clause-ready g c = λ κs bounds i job e.
    let start = (g.S.Steps.known c.args.first.now.value).seen in
    let base = g.B.Based.base in
    let damaged = g.B.Based.damaged in
    let len = ap length c.remove-idle.ensures.items ∙ length-drop 1 c.args.given.items in
    let n = c.requires.seats.1 in
    let pieces = c.requires.lists.pieces in
    let made = c.seated-jobs.ensures.len in
    let low = get_lt c.seated-jobs.result.items job i e in
    let st = get_some c.args.states.items i (omega arith) in
    let p = get_some c.args.lists.pieces.items i (omega arith) in
    can_run base damaged start c.args.number (i + 1) st.0 p.0 (mine job.at.id base damaged (seen_by_seat job.at.seat)) job.session job.number job.stage (c.requires.lists.placed i p.0 p.1) (c.seated-jobs.ensures.each i job st.0 p.0 e st.1 p.1)

pub unseated-seats-requires-clause-idle : goal.unseated-seats-requires-clause-idle
unseated-seats-requires-clause-idle g c =
    let n = c.requires.seats.1 in
    c.requires.seats.0.1 0 c.remove-idle.result (front_is c.args.given.items c.args.given.items 0 c.remove-idle.result refl (omega arith) c.remove-idle.ensures.value)

pub unseated-seats-requires-clause-jobs : goal.unseated-seats-requires-clause-jobs
unseated-seats-requires-clause-jobs g c =
    let start = (g.S.Steps.known c.args.first.now.value).seen in
    let base = g.B.Based.base in
    let damaged = g.B.Based.damaged in
    let len = ap length c.remove-idle.ensures.items ∙ length-drop 1 c.args.given.items in
    let n = c.requires.seats.1 in
    let pieces = c.requires.lists.pieces in
    let made = c.seated-jobs.ensures.len in
    let ran = c.run_all.ensures.len in
    let all = c.requires.seats.0.0 in (
      omega arith,
      λ i job e.
          let low = get_lt c.run_all.new.jobs.items job i e in
          let old = get_some c.seated-jobs.result.items i (omega arith) in
          let st = get_some c.args.states.items i (omega arith) in
          let p = get_some c.args.lists.pieces.items i (omega arith) in
          let k = mine old.0.at.id base damaged (seen_by_seat old.0.at.seat) in
          let k' = mine job.at.id base damaged (seen_by_seat job.at.seat) in
          keeps_seat g.S.Steps.sound base damaged start c.args.number (i + 1) st.0 p.0 k k' old.0.session old.0.number old.0.stage job.stage (c.seated-jobs.ensures.each i old.0 st.0 p.0 old.1 st.1 p.1) (c.run_all.ensures.each i old.0 job old.1 e),
    )

pub unseated-seats-requires-clause-over : goal.unseated-seats-requires-clause-over
unseated-seats-requires-clause-over g c = λ i job e.
    let ran = c.run_all.ensures.len in
    let low = get_lt c.run_all.new.jobs.items job i e in
    let old = get_some c.seated-jobs.result.items i (omega arith) in
    let one = c.run_all.ensures.each i old.0 job old.1 e in
    (one.came, one.is)

pub unseated-seats-requires-clause-room : goal.unseated-seats-requires-clause-room
unseated-seats-requires-clause-room g c =
    let len = ap length c.remove-idle.ensures.items ∙ length-drop 1 c.args.given.items in
    let n = c.requires.seats.1 in
    let pieces = c.requires.lists.pieces in
    let made = c.seated-jobs.ensures.len in
    let ran = c.run_all.ensures.len in
    let room = c.in-Ok.ensures in
    let ts = c.requires.lists.transcripts in
    let sts = c.requires.lists.states in
    (room.0, omega (arith, room.2), ts.0, omega (arith, ts.1), sts.0, omega (arith, sts.1))

pub returns-clause-seats : goal.returns-clause-seats
returns-clause-seats g c = c.unseated-seats.ensures.seats

pub returns-clause-told : goal.returns-clause-told
returns-clause-told g c =
    let start = (g.S.Steps.known c.args.first.now.value).seen in
    let base = g.B.Based.base in
    let damaged = g.B.Based.damaged in
    let len = ap length c.remove-idle.ensures.items ∙ length-drop 1 c.args.given.items in
    let n = c.requires.seats.1 in
    let pieces = c.requires.lists.pieces in
    let made = c.seated-jobs.ensures.len in
    let sound = g.S.Steps.sound in
    let ran = c.run_all.ensures.len in
    let all = c.requires.seats.0.0 in
    let back = c.unseated-seats.ensures in
    let all' = back.seats.0 in
    let seats = back.count.0 in
    let sts = back.count.1 in
    let told = c.unseated-seats.result.1 in
    let idle_is = front_is c.args.given.items c.args.given.items 0 c.remove-idle.result refl (omega arith) c.remove-idle.ensures.value in
    record {
      count = omega arith;
      count' = omega arith;
      count'' = omega arith;
      idle = λ seat e. ap seen_by_seat (some_same seat c.remove-idle.result (sym e ∙ back.idle)) ∙ c.requires.seen 0 c.remove-idle.result idle_is;
      each = λ i st p seat t st' est ep es et est'.
          let low = get_lt c.args.states.items st i est in
          let new = get_some c.run_all.new.jobs.items i (omega arith) in
          let old = get_some c.seated-jobs.result.items i (omega arith) in
          let k = mine old.0.at.id base damaged (seen_by_seat old.0.at.seat) in
          let k' = mine new.0.at.id base damaged (seen_by_seat new.0.at.seat) in
          let set = c.seated-jobs.ensures.each i old.0 st p old.1 est ep in
          let one = c.run_all.ensures.each i old.0 new.0 old.1 new.1 in
          let id : new.0.at.id ≡ i + 1 = keeps_seat sound base damaged start c.args.number (i + 1) st p k k' old.0.session old.0.number old.0.stage new.0.stage set one in
          let last = back.each i new.0 seat t st' new.1 es et est' in
          seat_told sound base damaged start (seen_by_seat seat) c.args.number (i + 1) st p k k' old.0.session old.0.number old.0.stage new.0.stage t st' told.lacked set one (λ z. mine (id z) base damaged (sym last.0 z)) last.1;
    }
