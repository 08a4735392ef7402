use Rattle.std.proofs.Common.{◌≡◌, ◌<◌, ◌≤◌, ◌∙◌, None, Some, List, length, sym, ap, subst, arith, refl}
use Rattle.std.specs.List.{slice_set}
use Rattle.px_trail.specs.Recorded.{Recorded}
use Rattle.px_calls.specs.Calls.{DidWork}
use Rattle.px_calls.specs.Causes.{Refuses, upkeep_cause}
use Rattle.px_calls.specs.Requires.{HasOpen}
use Rattle.px_calls.specs.declared.fault.StepFault.{StepFault}
use Rattle.px_calls.specs.declared.fault.StepFault.TheVariants.{Memory}
use Rattle.px_calls.specs.declared.status.Work.TheVariants.{Did}
use Rattle.px_group.specs.declared.group.Group.{Group}
use Rattle.px_server.specs.Kept.{IsKept}
use Rattle.px_server.specs.Looks.{rows_looked}
use Rattle.px_server.specs.Shown.{Shown, known_by, shown_of}
use Rattle.px_server.specs.Sights.{have_doubt}
use Rattle.px_server.specs.Upkeep.{IsOrderedBy}
use Rattle.px_server.proofs.Lists.{sum_kept}
use Rattle.px_server.proofs.Stamping.{same_by_clock}
use Rattle.px_server.proofs.Stepped.{did_work, put_back, work_no_memory}
use Rattle.px_server.proofs.Upkept.{behind_ordered, mid_clock, mid_did, mid_doubts, mid_kept, mid_looked, raised_ordered}
use Rattle.px_server.specs.DeviceCalls.{Blames}
use Rattle.px_server.proofs.DeviceCalls.{none_by}
use Rattle.px_server.proofs.server.Server.raise_at.Goals as goal

pub returns-then-place-len-clause-ok : goal.returns-then-place-len-clause-ok
returns-then-place-len-clause-ok g c =
    let s = c.self.inside in
    let b = g.B.Based.base in
    let told = c.self.invariant.0.told in
    let v : Shown = shown_of s.seat s.trail.entries s.late s.closed s.groups.items s.lookback s.raising (g.D.Disk.calls s.disk) (g.D.Disk.faults s.disk) in
    let running : s.closed ≡ None = ap (λ (w : Shown). w.closed) c.self.view_is ∙ c.requires.running in
    subst (λ (w : Shown). DidWork (known_by b g.B.Based.damaged w) (known_by b g.B.Based.damaged v) Did) c.self.view_is (did_work (known_by b g.B.Based.damaged v) told.legal (told.closing ∙ running) Did)

pub returns-then-place-len-clause-ordered : goal.returns-then-place-len-clause-ordered
returns-then-place-len-clause-ordered g c =
    let s = c.self.inside in
    let raising : s.raising ≡ Some c.args.place = ap (λ (w : Shown). w.raising) c.self.view_is ∙ c.requires.raising in
    let over : length s.groups.items ≤ c.args.place = (let t = c.if-place-len.true in let n = c.len.ensures in omega (arith, t, n)) in
    λ job was. behind_ordered s.seat s.trail.entries s.late s.closed s.groups.items s.lookback c.args.place (g.D.Disk.calls s.disk) (g.D.Disk.faults s.disk) over job
    (subst (λ o. IsOrderedBy (shown_of s.seat s.trail.entries s.late s.closed s.groups.items s.lookback o (g.D.Disk.calls s.disk) (g.D.Disk.faults s.disk)) job) raising (subst (λ (w : Shown). IsOrderedBy w job) (sym c.self.view_is) was))

pub returns-then-place-len-clause-doubts : goal.returns-then-place-len-clause-doubts
returns-then-place-len-clause-doubts g c = λ p open_ v. ap (λ (w : Shown). have_doubt w.groups p v) c.self.view_is

pub returns-then-place-len-clause-unlooked : goal.returns-then-place-len-clause-unlooked
returns-then-place-len-clause-unlooked g c = ap (λ (w : Shown). rows_looked w.groups) c.self.view_is

pub invariant_of-self-in-Ok : goal.invariant_of-self-in-Ok
invariant_of-self-in-Ok g c =
    let s = c.self.inside in
    let running : s.closed ≡ None = ap (λ (w : Shown). w.closed) c.self.view_is ∙ c.requires.running in
    let inside : c.args.place < length s.groups.items = (let t = c.if-place-len.false in let n = c.len.ensures in omega (arith, t, n)) in (
      mid_kept g.D.Disk g.met.D.Disk.told g.met.D.Disk.up_to_now g.B.Based.base g.B.Founded.sound g.B.Founded.premise g.B.Founded.began s.disk s.catalog s.standing s.groups.items s.trail s.late s.closed c.self.invariant.0 running
          c.args.place c.index_mut-group.result.now c.raise_table.new.group inside (sym c.index_mut-group.ensures.value) s.lookback s.seat c.call_count-calls.result c.call_count-calls.ensures c.raise_table.new.trail c.in-Ok.ensures.raises,
      (
        c.self.invariant.1.0,
        mid_clock g.D.Disk g.met.D.Disk.told g.met.D.Disk.up_to_now g.B.Based.base g.B.Founded.sound g.B.Founded.premise g.B.Founded.began s.disk s.catalog s.standing s.groups.items s.trail s.late s.closed c.self.invariant.0 running
            c.args.place c.index_mut-group.result.now c.raise_table.new.group inside (sym c.index_mut-group.ensures.value) s.lookback s.seat c.call_count-calls.result c.call_count-calls.ensures c.raise_table.new.trail c.in-Ok.ensures.raises g.C.Clock g.B.Founded.times g.B.Founded.lookback s.clock c.self.invariant.1.1,
      ),
    )

pub returns-in-Ok-clause-ok : goal.returns-in-Ok-clause-ok
returns-in-Ok-clause-ok g c =
    let s = c.self.inside in
    let b = g.B.Based.base in
    let running : s.closed ≡ None = ap (λ (w : Shown). w.closed) c.self.view_is ∙ c.requires.running in
    let inside : c.args.place < length s.groups.items = (let t = c.if-place-len.false in let n = c.len.ensures in omega (arith, t, n)) in
    let v : Shown = shown_of s.seat s.trail.entries s.late s.closed s.groups.items s.lookback s.raising (g.D.Disk.calls s.disk) (g.D.Disk.faults s.disk) in
    let v' : Shown = record v { entries = c.raise_table.new.trail.entries } in
    subst (λ (w : Shown). DidWork (known_by b g.B.Based.damaged w) (known_by b g.B.Based.damaged v') Did) c.self.view_is
    (mid_did g.D.Disk g.met.D.Disk.told g.met.D.Disk.up_to_now b g.B.Founded.sound g.B.Founded.premise g.B.Founded.began s.disk s.catalog s.standing s.groups.items s.trail s.late s.closed c.self.invariant.0 running
    c.args.place c.index_mut-group.result.now c.raise_table.new.group inside (sym c.index_mut-group.ensures.value) s.lookback s.seat c.call_count-calls.result c.call_count-calls.ensures c.raise_table.new.trail c.in-Ok.ensures.raises g.B.Based.damaged)

pub returns-in-Ok-clause-unlooked : goal.returns-in-Ok-clause-unlooked
returns-in-Ok-clause-unlooked g c =
    let s = c.self.inside in
    let running : s.closed ≡ None = ap (λ (w : Shown). w.closed) c.self.view_is ∙ c.requires.running in
    let inside : c.args.place < length s.groups.items = (let t = c.if-place-len.false in let n = c.len.ensures in omega (arith, t, n)) in
    subst (λ (w : Shown). rows_looked (slice_set s.groups.items c.args.place c.raise_table.new.group) ≡ rows_looked w.groups) c.self.view_is
    (sum_kept (λ (h : Group). h.rows.looked) s.groups.items c.args.place c.index_mut-group.result.now c.raise_table.new.group inside (sym c.index_mut-group.ensures.value)
    (mid_looked g.D.Disk g.met.D.Disk.told g.met.D.Disk.up_to_now g.B.Based.base g.B.Founded.sound g.B.Founded.premise g.B.Founded.began s.disk s.catalog s.standing s.groups.items s.trail s.late s.closed c.self.invariant.0 running
    c.args.place c.index_mut-group.result.now c.raise_table.new.group inside (sym c.index_mut-group.ensures.value) s.lookback s.seat c.call_count-calls.result c.call_count-calls.ensures c.raise_table.new.trail c.in-Ok.ensures.raises))

pub returns-in-Ok-clause-doubts : goal.returns-in-Ok-clause-doubts
returns-in-Ok-clause-doubts g c = λ p open_ v.
    let s = c.self.inside in
    let b = g.B.Based.base in
    let running : s.closed ≡ None = ap (λ (w : Shown). w.closed) c.self.view_is ∙ c.requires.running in
    let inside : c.args.place < length s.groups.items = (let t = c.if-place-len.false in let n = c.len.ensures in omega (arith, t, n)) in
    subst (λ (w : Shown). have_doubt (slice_set s.groups.items c.args.place c.raise_table.new.group) p v ≡ have_doubt w.groups p v) c.self.view_is
    (mid_doubts g.D.Disk g.met.D.Disk.told g.met.D.Disk.up_to_now b g.B.Founded.sound g.B.Founded.premise g.B.Founded.began s.disk s.catalog s.standing s.groups.items s.trail s.late s.closed c.self.invariant.0 running
    c.args.place c.index_mut-group.result.now c.raise_table.new.group inside (sym c.index_mut-group.ensures.value) s.lookback s.seat c.call_count-calls.result c.call_count-calls.ensures c.raise_table.new.trail c.in-Ok.ensures.raises
    g.B.Based.damaged p (subst (λ (w : Shown). HasOpen (known_by b g.B.Based.damaged w) p) (sym c.self.view_is) open_) v)

pub returns-in-Ok-clause-ordered : goal.returns-in-Ok-clause-ordered
returns-in-Ok-clause-ordered g c =
    let s = c.self.inside in
    let running : s.closed ≡ None = ap (λ (w : Shown). w.closed) c.self.view_is ∙ c.requires.running in
    let raising : s.raising ≡ Some c.args.place = ap (λ (w : Shown). w.raising) c.self.view_is ∙ c.requires.raising in
    let inside : c.args.place < length s.groups.items = (let t = c.if-place-len.false in let n = c.len.ensures in omega (arith, t, n)) in
    λ job was.
    let was_here : IsOrderedBy (shown_of s.seat s.trail.entries s.late s.closed s.groups.items s.lookback (Some c.args.place) (g.D.Disk.calls s.disk) (g.D.Disk.faults s.disk)) job =
    subst (λ o. IsOrderedBy (shown_of s.seat s.trail.entries s.late s.closed s.groups.items s.lookback o (g.D.Disk.calls s.disk) (g.D.Disk.faults s.disk)) job) raising (subst (λ (w : Shown). IsOrderedBy w job) (sym c.self.view_is) was) in
    raised_ordered g.D.Disk g.met.D.Disk.told g.met.D.Disk.up_to_now g.B.Based.base g.B.Founded.sound g.B.Founded.premise g.B.Founded.began s.disk s.catalog s.standing s.groups.items s.trail s.late s.closed c.self.invariant.0 running
    c.args.place c.index_mut-group.result.now c.raise_table.new.group inside (sym c.index_mut-group.ensures.value) s.lookback s.seat c.call_count-calls.result c.call_count-calls.ensures c.raise_table.new.trail c.in-Ok.ensures.raises c.in-Ok.ensures.risen (g.D.Disk.calls s.disk) (g.D.Disk.faults s.disk) job was_here

pub invariant_of-self-in-Err : goal.invariant_of-self-in-Err
invariant_of-self-in-Err g c =
    let s = c.self.inside in
    let same = c.in-Err.ensures.refused.1 in (
      subst (λ (t : Recorded). IsKept g.D.Disk g.B.Based.base g.B.Founded.sound g.B.Founded.premise g.B.Founded.began s.disk s.catalog s.standing (slice_set s.groups.items c.args.place c.raise_table.new.group) t s.late s.closed) (sym same.1)
          (subst (λ (x : Group). IsKept g.D.Disk g.B.Based.base g.B.Founded.sound g.B.Founded.premise g.B.Founded.began s.disk s.catalog s.standing (slice_set s.groups.items c.args.place x) s.trail s.late s.closed) (sym same.0)
          (subst (λ (gs : List Group). IsKept g.D.Disk g.B.Based.base g.B.Founded.sound g.B.Founded.premise g.B.Founded.began s.disk s.catalog s.standing gs s.trail s.late s.closed) (sym (put_back s.groups.items c.args.place c.index_mut-group.result.now (sym c.index_mut-group.ensures.value))) c.self.invariant.0)),
      (c.self.invariant.1.0, same_by_clock g.C.Clock g.B.Founded.times g.B.Based.base g.B.Founded.lookback s.lookback s.clock s.trail.entries c.self.invariant.1.1 c.raise_table.new.trail.entries (ap (λ (t : Recorded). t.entries) same.1)),
    )

pub returns-in-Err-clause-refused : goal.returns-in-Err-clause-refused
returns-in-Err-clause-refused g c =
    let s = c.self.inside in
    let b = g.B.Based.base in
    let told = c.self.invariant.0.told in
    let v : Shown = shown_of s.seat s.trail.entries s.late s.closed s.groups.items s.lookback s.raising (g.D.Disk.calls s.disk) (g.D.Disk.faults s.disk) in
    let running : s.closed ≡ None = ap (λ (w : Shown). w.closed) c.self.view_is ∙ c.requires.running in
    let r = c.in-Err.ensures.refused in
    subst (λ (f : StepFault). Refuses (upkeep_cause g.B.Founded.sound) (known_by b g.B.Based.damaged c.args.self.now) (known_by b g.B.Based.damaged (record v { entries = c.raise_table.new.trail.entries })) f) (sym r.0)
    (subst (λ (t : Recorded). Refuses (upkeep_cause g.B.Founded.sound) (known_by b g.B.Based.damaged c.args.self.now) (known_by b g.B.Based.damaged (record v { entries = t.entries })) Memory) (sym r.1.1)
    (subst (λ (w : Shown). Refuses (upkeep_cause g.B.Founded.sound) (known_by b g.B.Based.damaged w) (known_by b g.B.Based.damaged v) Memory) c.self.view_is (work_no_memory (known_by b g.B.Based.damaged v) told.legal g.B.Founded.sound (told.closing ∙ running))))

pub returns-in-Err-clause-unlooked : goal.returns-in-Err-clause-unlooked
returns-in-Err-clause-unlooked g c =
    let s = c.self.inside in
    let inside : c.args.place < length s.groups.items = (let t = c.if-place-len.false in let n = c.len.ensures in omega (arith, t, n)) in
    subst (λ (w : Shown). rows_looked (slice_set s.groups.items c.args.place c.raise_table.new.group) ≡ rows_looked w.groups) c.self.view_is
    (sum_kept (λ (h : Group). h.rows.looked) s.groups.items c.args.place c.index_mut-group.result.now c.raise_table.new.group inside (sym c.index_mut-group.ensures.value) (ap (λ (h : Group). h.rows.looked) c.in-Err.ensures.refused.1.0))

-- ---- the calls of the disk

pub returns-then-place-len-clause-counts : goal.returns-then-place-len-clause-counts
returns-then-place-len-clause-counts g c = none_by c.self.view_is refl refl

pub returns-in-Ok-clause-counts : goal.returns-in-Ok-clause-counts
returns-in-Ok-clause-counts g c = none_by c.self.view_is refl refl

pub returns-in-Err-clause-counts : goal.returns-in-Err-clause-counts
returns-in-Err-clause-counts g c = none_by c.self.view_is refl refl

pub returns-in-Err-clause-blames : goal.returns-in-Err-clause-blames
returns-in-Err-clause-blames g c = subst (Blames c.args.self.now (record c.args.self.now { calls = g.D.Disk.calls c.self.inside.disk; faults = g.D.Disk.faults c.self.inside.disk })) (sym c.in-Err.ensures.refused.0) tt
