use Rattle.std.proofs.Common.{◌≡◌, sym, subst, refl}
use Rattle.px_calls.specs.Known.{Sees}
use Rattle.px_calls.specs.Requires.{CanAbandon}
use Rattle.px_standing.proofs.Looked.{lacks}
use Rattle.px_server.specs.Shown.{Shown, known_by, shown_of}
use Rattle.px_server.proofs.Ends.{closed_some, end_stamp, goes_away, left_running}
use Rattle.px_server.proofs.PointOpened.{one_there}
use Rattle.px_server.proofs.Released.{place_in}
use Rattle.px_server.proofs.Running.{none_running}
use Rattle.px_server.proofs.Seen.{stays}
use Rattle.px_server.proofs.DeviceCalls.{none_by}
use Rattle.px_server.proofs.server.Server.abandon.Goals as goal

pub unreachable-requires : goal.unreachable-requires
unreachable-requires g c =
    let s = c.self.inside in
    let b = g.B.Based.base in
    let told = c.self.invariant.0.told in
    let can : CanAbandon (known_by b g.B.Based.damaged (shown_of s.seat s.trail.entries s.late s.closed s.groups.items s.lookback s.raising (g.D.Disk.calls s.disk) (g.D.Disk.faults s.disk))) c.args.t = subst (λ (v : Shown). CanAbandon (known_by b g.B.Based.damaged v) c.args.t) (sym c.self.view_is) c.requires in
    let x = left_running s.trail.entries s.seat c.args.t.table.0 c.args.t.stamp can.1 in
    none_running b s.trail.entries told.legal c.args.t.table.0 c.args.t.stamp x.0 x.1.0 x.1.1 (lacks b s.trail.entries s.standing told.agrees c.args.t.table.0 c.in_default.ensures.none)

pub invariant_of-self : goal.invariant_of-self
invariant_of-self g c =
    let s = c.self.inside in
    let b = g.B.Based.base in
    let kept = c.self.invariant.0 in
    let can : CanAbandon (known_by b g.B.Based.damaged (shown_of s.seat s.trail.entries s.late s.closed s.groups.items s.lookback s.raising (g.D.Disk.calls s.disk) (g.D.Disk.faults s.disk))) c.args.t = subst (λ (v : Shown). CanAbandon (known_by b g.B.Based.damaged v) c.args.t) (sym c.self.view_is) c.requires in
    let shut = closed_some s.trail.entries s.closed kept.told.closing can.0 in
    let same : c.index.result.now ≡ c.index_mut.result.now = one_there s.groups.items c.in-Some.place c.index.result.now c.index_mut.result.now (place_in s.groups.items s.standing.tables kept.each.stand c.in-Some.place c.in-Some.ensures.found) (sym c.index.ensures) (sym c.index_mut.ensures.value) in
    let stamp = end_stamp c.index.result.now c.index_mut.result.now same c.in-Some-batch_place.batch c.args.t.stamp c.in-Some-batch_place.ensures.found c.abandon.ensures.batch c.abandon.ensures.goes.batch in (
      goes_away g.D.Disk b g.B.Founded.sound g.B.Founded.premise g.B.Founded.began s.disk s.catalog s.standing s.groups.items s.trail s.late s.closed kept c.args.t.table c.in-Some.place c.index_mut.result.now c.in-Some.ensures.found c.in-Some.ensures.numbered (sym c.index_mut.ensures.value) c.args.t.stamp
          shut.0 shut.1 s.seat can.1 c.in-Some-batch_place.batch c.abandon.ensures.batch stamp c.abandon.ensures.goes.batch c.abandon.new.group c.abandon.ensures.goes,
      c.self.invariant.1,
    )

pub returns-in-Some-batch_place-clause-sees : goal.returns-in-Some-batch_place-clause-sees
returns-in-Some-batch_place-clause-sees g c =
    let s = c.self.inside in
    let v : Shown = shown_of s.seat s.trail.entries s.late s.closed s.groups.items s.lookback s.raising (g.D.Disk.calls s.disk) (g.D.Disk.faults s.disk) in
    subst (λ (w : Shown). Sees (known_by g.B.Based.base g.B.Based.damaged w) (known_by g.B.Based.base g.B.Based.damaged v)) c.self.view_is (stays (known_by g.B.Based.base g.B.Based.damaged v) c.self.invariant.0.told.legal)

pub returns-in_default-batch_place-clause-sees : goal.returns-in_default-batch_place-clause-sees
returns-in_default-batch_place-clause-sees g c =
    let s = c.self.inside in
    let v : Shown = shown_of s.seat s.trail.entries s.late s.closed s.groups.items s.lookback s.raising (g.D.Disk.calls s.disk) (g.D.Disk.faults s.disk) in
    subst (λ (w : Shown). Sees (known_by g.B.Based.base g.B.Based.damaged w) (known_by g.B.Based.base g.B.Based.damaged w)) c.self.view_is (stays (known_by g.B.Based.base g.B.Based.damaged v) c.self.invariant.0.told.legal)

-- ---- the calls of the disk

pub returns-in-Some-batch_place-clause-counts : goal.returns-in-Some-batch_place-clause-counts
returns-in-Some-batch_place-clause-counts g c = none_by c.self.view_is refl refl
