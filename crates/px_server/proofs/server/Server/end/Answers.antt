use Rattle.std.proofs.Common.{◌≡◌, ◌⊎◌, ℕ, None, Some, refl, sym, subst}
use Rattle.px_calls.specs.Calls.{IsReceipt}
use Rattle.px_calls.specs.Known.{Adds}
use Rattle.px_calls.specs.Requires.{CanEnd}
use Rattle.px_trail.specs.declared.entry.Act.TheVariants.{Ended as EndedAct}
use Rattle.px_standing.proofs.Looked.{lacks}
use Rattle.px_server.specs.Ending.{HasVerifiedEntry}
use Rattle.px_server.specs.Shown.{Shown, known_by, shown_of}
use Rattle.px_server.proofs.Ended.{written_batch}
use Rattle.px_server.proofs.Ends.{end_stamp, ends, has_end, if_none, if_some, receipt}
use Rattle.px_server.proofs.Released.{place_in}
use Rattle.px_server.proofs.PointOpened.{one_there}
use Rattle.px_server.proofs.Running.{none_running}
use Rattle.px_server.proofs.Seen.{one_more}
use Rattle.px_server.proofs.Stamping.{more_by_clock}
use Rattle.px_server.proofs.DeviceCalls.{none_by}
use Rattle.px_server.proofs.server.Server.end.Goals as goal

pub unreachable-requires : goal.unreachable-requires
unreachable-requires g c =
    let s = c.self.inside in
    let b = g.B.Based.base in
    let told = c.self.invariant.0.told in
    let can : CanEnd (known_by b g.B.Based.damaged (shown_of s.seat s.trail.entries s.late s.closed s.groups.items s.lookback s.raising (g.D.Disk.calls s.disk) (g.D.Disk.faults s.disk))) c.args.t = subst (λ (v : Shown). CanEnd (known_by b g.B.Based.damaged v) c.args.t) (sym c.self.view_is) c.requires in
    let w = written_batch b s.trail.entries told.legal s.seat c.args.t.table.0 c.args.t.stamp can in
    none_running b s.trail.entries told.legal c.args.t.table.0 c.args.t.stamp w.batch w.is w.running (lacks b s.trail.entries s.standing told.agrees c.args.t.table.0 c.in_default.ensures.none)

pub unreachable-requires-in_default-batch_place : goal.unreachable-requires-in_default-batch_place
unreachable-requires-in_default-batch_place g c =
    let s = c.self.inside in
    let b = g.B.Based.base in
    let can : CanEnd (known_by b g.B.Based.damaged (shown_of s.seat s.trail.entries s.late s.closed s.groups.items s.lookback s.raising (g.D.Disk.calls s.disk) (g.D.Disk.faults s.disk))) c.args.t = subst (λ (v : Shown). CanEnd (known_by b g.B.Based.damaged v) c.args.t) (sym c.self.view_is) c.requires in
    has_end g.D.Disk b g.B.Founded.sound g.B.Founded.premise g.B.Founded.began s.disk s.catalog s.standing s.groups.items s.trail s.late s.closed c.self.invariant.0 c.args.t.table c.in-Some.place c.index.result.now c.in-Some.ensures.found c.in-Some.ensures.numbered (sym c.index.ensures) c.args.t.stamp
    s.seat can c.in_default-batch_place.ensures.none

pub invariant_of-self : goal.invariant_of-self
invariant_of-self g c =
    let s = c.self.inside in
    let b = g.B.Based.base in
    let kept = c.self.invariant.0 in
    let can : CanEnd (known_by b g.B.Based.damaged (shown_of s.seat s.trail.entries s.late s.closed s.groups.items s.lookback s.raising (g.D.Disk.calls s.disk) (g.D.Disk.faults s.disk))) c.args.t = subst (λ (v : Shown). CanEnd (known_by b g.B.Based.damaged v) c.args.t) (sym c.self.view_is) c.requires in
    let place = c.in-Some in
    let same : c.index.result.now ≡ c.index_mut.result.now = one_there s.groups.items place.place c.index.result.now c.index_mut.result.now (place_in s.groups.items s.standing.tables kept.each.stand place.place place.ensures.found) (sym c.index.ensures) (sym c.index_mut.ensures.value) in
    let x = c.end-rows.ensures in
    let stamp = end_stamp c.index.result.now c.index_mut.result.now same c.in-Some-batch_place.batch c.args.t.stamp c.in-Some-batch_place.ensures.found x.batch x.goes.batch in (
      ends g.D.Disk b g.B.Founded.sound g.B.Founded.premise g.B.Founded.began s.disk s.catalog s.standing s.groups.items s.trail s.late s.closed kept c.args.t.table place.place c.index_mut.result.now place.ensures.found place.ensures.numbered (sym c.index_mut.ensures.value) c.args.t.stamp
          s.seat can c.in-Some-batch_place.batch x.batch x.goes.batch stamp c.call_count.result c.call_count.ensures g.met.D.Disk.told g.met.D.Disk.up_to_now c.end-rows.new.group x.goes c.push.new.self c.push.ensures.entries c.push.ensures.room,
      (c.self.invariant.1.0, more_by_clock g.C.Clock g.B.Founded.times g.B.Based.base g.B.Founded.lookback s.lookback s.clock s.trail.entries c.self.invariant.1.1 c.push.new.self.entries (record { seat = s.seat; calls = c.call_count.result; act = EndedAct c.args.t.table c.args.t.stamp }) c.push.ensures.entries refl),
    )

pub returns-clause-adds : goal.returns-clause-adds
returns-clause-adds g c =
    let s = c.self.inside in
    let told = c.self.invariant.0.told in
    let v : Shown = shown_of s.seat s.trail.entries s.late s.closed s.groups.items s.lookback s.raising (g.D.Disk.calls s.disk) (g.D.Disk.faults s.disk) in
    let v' : Shown = record v { entries = c.push.new.self.entries } in
    subst (λ (w : Shown). Adds (known_by g.B.Based.base g.B.Based.damaged w) (known_by g.B.Based.base g.B.Based.damaged v') (EndedAct c.args.t.table c.args.t.stamp)) c.self.view_is
    (one_more (known_by g.B.Based.base g.B.Based.damaged v) c.push.new.self.entries c.call_count.result (EndedAct c.args.t.table c.args.t.stamp) told.legal c.push.ensures.entries (invariant_of-self g c).0.told.legal)

pub returns-clause-receipt : goal.returns-clause-receipt
returns-clause-receipt g c =
    let s = c.self.inside in
    let u = c.unfinished_by-unfinished in
    let b = g.B.Based.base in
    let kept = c.self.invariant.0 in
    let can : CanEnd (known_by b g.B.Based.damaged (shown_of s.seat s.trail.entries s.late s.closed s.groups.items s.lookback s.raising (g.D.Disk.calls s.disk) (g.D.Disk.faults s.disk))) c.args.t = subst (λ (v : Shown). CanEnd (known_by b g.B.Based.damaged v) c.args.t) (sym c.self.view_is) c.requires in
    let place = c.in-Some in
    let same : c.index.result.now ≡ c.index_mut.result.now = one_there s.groups.items place.place c.index.result.now c.index_mut.result.now (place_in s.groups.items s.standing.tables kept.each.stand place.place place.ensures.found) (sym c.index.ensures) (sym c.index_mut.ensures.value) in
    let x = c.end-rows.ensures in
    let stamp = end_stamp c.index.result.now c.index_mut.result.now same c.in-Some-batch_place.batch c.args.t.stamp c.in-Some-batch_place.ensures.found x.batch x.goes.batch in
    subst (λ (n : _). IsReceipt (record { seat = s.seat; base = b; damaged = g.B.Based.damaged; alone = _; seen = c.push.new.self.entries }) c.args.t (record { table = c.args.t.table; stamp = c.args.t.stamp; rows = c.end-rows.result.rows; concurrent = c.end-rows.result.concurrent; unfinished = u.result; at = n })) (sym c.len.ensures)
    (receipt g.D.Disk b g.B.Founded.sound g.B.Founded.premise g.B.Founded.began s.disk s.catalog s.standing s.groups.items s.trail s.late s.closed kept c.args.t.table place.place c.index_mut.result.now place.ensures.found place.ensures.numbered (sym c.index_mut.ensures.value) c.args.t.stamp
    s.seat can c.in-Some-batch_place.batch x.batch x.goes.batch stamp c.call_count.result c.call_count.ensures g.B.Based.damaged c.end-rows.new.group c.end-rows.result x refl c.push.new.self c.push.ensures.entries (invariant_of-self g c).0.told.closing u.result
    (if_none ((s.closed ≡ None) ⊎ HasVerifiedEntry s.trail.entries c.args.t.table.0 c.args.t.stamp) u.result u.ensures.none) (λ call named. (if_some (λ (n : ℕ). (s.closed ≡ Some n) × (HasVerifiedEntry s.trail.entries c.args.t.table.0 c.args.t.stamp → ⊥)) u.result u.ensures.some call named).0))

-- ---- the calls of the disk

pub returns-clause-counts : goal.returns-clause-counts
returns-clause-counts g c = none_by c.self.view_is refl refl
