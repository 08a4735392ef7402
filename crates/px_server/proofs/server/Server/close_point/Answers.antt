use Rattle.std.proofs.Common.{◌≡◌, ◌<◌, refl, sym, ap, subst, arith}
use Rattle.std.specs.List.{slice_set}
use Rattle.px_calls.specs.Known.{Adds}
use Rattle.px_calls.specs.Requires.{HasOpen}
use Rattle.px_trail.specs.Trail.{open_points}
use Rattle.px_trail.specs.declared.entry.Act.TheVariants.{Released as ReleasedAct}
use Rattle.px_region.specs.declared.region.Region.{Region}
use Rattle.px_group.specs.declared.group.Group.{Group}
use Rattle.px_standing.proofs.Looked.{lacks}
use Rattle.px_server.specs.Looks.{rows_looked}
use Rattle.px_server.specs.Shown.{Shown, known_by, shown_of}
use Rattle.px_server.proofs.Lists.{sum_kept}
use Rattle.px_server.proofs.Opened.{none_open}
use Rattle.px_server.proofs.Released.{closes, has_point, place_in}
use Rattle.px_server.proofs.Seen.{one_more}
use Rattle.px_server.proofs.Stamping.{more_by_clock}
use Rattle.px_server.proofs.DeviceCalls.{none_by}
use Rattle.px_server.proofs.server.Server.close_point.Goals as goal

pub close_point-requires : goal.close_point-requires
close_point-requires g c =
    let s = c.self.inside in
    let open_ : 0 < open_points s.seat c.args.p.table.0 c.args.p.stamp s.trail.entries = subst (λ (v : Shown). HasOpen (known_by g.B.Based.base g.B.Based.damaged v) c.args.p) (sym c.self.view_is) c.requires in
    has_point g.D.Disk g.met.D.Disk.told g.met.D.Disk.up_to_now g.B.Based.base g.B.Founded.sound g.B.Founded.premise g.B.Founded.began s.disk s.catalog s.standing s.groups.items s.trail s.late s.closed c.self.invariant.0
    s.seat (g.D.Disk.calls s.disk) c.args.p.stamp c.args.p.table (λ i. g.D.Disk.calls s.disk) open_ c.in-Some.place c.index_mut.result.now c.in-Some.ensures.found c.in-Some.ensures.numbered (sym c.index_mut.ensures.value)

pub invariant_of-self : goal.invariant_of-self
invariant_of-self g c =
    let s = c.self.inside in
    let open_ : 0 < open_points s.seat c.args.p.table.0 c.args.p.stamp s.trail.entries = subst (λ (v : Shown). HasOpen (known_by g.B.Based.base g.B.Based.damaged v) c.args.p) (sym c.self.view_is) c.requires in (
      closes g.D.Disk g.met.D.Disk.told g.met.D.Disk.up_to_now g.B.Based.base g.B.Founded.sound g.B.Founded.premise g.B.Founded.began s.disk s.catalog s.standing s.groups.items s.trail s.late s.closed c.self.invariant.0
          s.seat c.call_count.result c.args.p.stamp c.args.p.table c.call_count.ensures open_ c.in-Some.place c.index_mut.result.now c.in-Some.ensures.found c.in-Some.ensures.numbered (sym c.index_mut.ensures.value)
          c.close_point.new.group c.close_point.ensures.released c.close_point.ensures.count c.push.new.self c.push.ensures.entries c.push.ensures.room,
      (c.self.invariant.1.0, more_by_clock g.C.Clock g.B.Founded.times g.B.Based.base g.B.Founded.lookback s.lookback s.clock s.trail.entries c.self.invariant.1.1 c.push.new.self.entries (record { seat = s.seat; calls = c.call_count.result; act = ReleasedAct c.args.p.table c.args.p.stamp }) c.push.ensures.entries refl),
    )

pub unreachable-requires : goal.unreachable-requires
unreachable-requires g c =
    let s = c.self.inside in
    let told = c.self.invariant.0.told in
    let open_ : 0 < open_points s.seat c.args.p.table.0 c.args.p.stamp s.trail.entries = subst (λ (v : Shown). HasOpen (known_by g.B.Based.base g.B.Based.damaged v) c.args.p) (sym c.self.view_is) c.requires in
    let none : open_points s.seat c.args.p.table.0 c.args.p.stamp s.trail.entries ≡ 0 =
    none_open g.B.Based.base s.trail.entries told.legal c.args.p.table.0 (lacks g.B.Based.base s.trail.entries s.standing told.agrees c.args.p.table.0 c.in-None.ensures.none) s.seat c.args.p.stamp in
    omega (arith, none, open_)

pub returns-clause-adds : goal.returns-clause-adds
returns-clause-adds g c =
    let s = c.self.inside in
    let told = c.self.invariant.0.told in
    let v : Shown = shown_of s.seat s.trail.entries s.late s.closed s.groups.items s.lookback s.raising (g.D.Disk.calls s.disk) (g.D.Disk.faults s.disk) in
    let v' : Shown = record v { entries = c.push.new.self.entries } in
    subst (λ (w : Shown). Adds (known_by g.B.Based.base g.B.Based.damaged w) (known_by g.B.Based.base g.B.Based.damaged v') (ReleasedAct c.args.p.table c.args.p.stamp)) c.self.view_is
    (one_more (known_by g.B.Based.base g.B.Based.damaged v) c.push.new.self.entries c.call_count.result (ReleasedAct c.args.p.table c.args.p.stamp) told.legal c.push.ensures.entries (invariant_of-self g c).0.told.legal)

pub returns-clause-unlooked : goal.returns-clause-unlooked
returns-clause-unlooked g c =
    let s = c.self.inside in
    let l = place_in s.groups.items s.standing.tables c.self.invariant.0.each.stand c.in-Some.place c.in-Some.ensures.found in
    subst (λ (w : Shown). rows_looked (slice_set s.groups.items c.in-Some.place c.close_point.new.group) ≡ rows_looked w.groups) c.self.view_is
    (sum_kept (λ (h : Group). h.rows.looked) s.groups.items c.in-Some.place c.index_mut.result.now c.close_point.new.group l (sym c.index_mut.ensures.value) (ap (λ (r : Region). r.looked) c.close_point.ensures.released.same.rows))

-- ---- the calls of the disk

pub returns-clause-counts : goal.returns-clause-counts
returns-clause-counts g c = none_by c.self.view_is refl refl
