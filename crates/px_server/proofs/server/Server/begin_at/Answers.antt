use Rattle.std.proofs.Common.{◌≡◌, ◌<◌, ◌∙◌, None, List, get_or, length, sym, ap, subst, arith, refl}
use Rattle.std.specs.List.{slice_set}
use Rattle.std.proofs.lemmas.Result.{err_from_is_err_and}
use Rattle.px_trail.specs.Recorded.{Recorded}
use Rattle.px_calls.specs.Calls.{DidWork}
use Rattle.px_calls.specs.Causes.{Refuses, upkeep_cause}
use Rattle.px_calls.specs.Requires.{HasOpen}
use Rattle.px_calls.specs.declared.fault.StepFault.{StepFault}
use Rattle.px_calls.specs.declared.fault.StepFault.TheVariants.{Memory}
use Rattle.px_calls.specs.declared.status.Work.TheVariants.{Did}
use Rattle.px_group.specs.declared.group.Group.{Group}
use Rattle.px_server.specs.Kept.{IsKept}
use Rattle.px_server.specs.Looks.{rows_looked}
use Rattle.px_server.specs.Shown.{Shown, known_by, shown_of}
use Rattle.px_server.specs.Sights.{have_doubt}
use Rattle.px_server.specs.Upkeep.{IsOrderedBy}
use Rattle.px_server.proofs.Lists.{sum_kept}
use Rattle.px_server.proofs.Stamping.{same_by_clock}
use Rattle.px_server.proofs.Stepped.{put_back, work_no_memory}
use Rattle.px_server.proofs.Upkept.{begun_doubts, begun_kept, begun_ordered, mid_clock, mid_did, mid_looked, unraised_due}
use Rattle.px_server.proofs.DeviceCalls.{none_by}
use Rattle.px_server.proofs.server.Server.begin_at.Goals as goal

pub index_mut-group-requires : goal.index_mut-group-requires
index_mut-group-requires g c =
    let inside : c.args.place < length c.self.inside.groups.items = subst (λ (w : Shown). c.args.place < length w.groups) (sym c.self.view_is) c.requires.place in
    omega (arith, inside, c.self.inside.groups.ok.0)

pub begin_table-requires : goal.begin_table-requires
begin_table-requires g c = unraised_due c.self.inside.lookback c.self.inside.seat c.call_count-calls.result c.index_mut-group.result.now c.raise_table.new.group c.self.inside.trail c.raise_table.new.trail c.in_ok-raise_table.ensures.raises c.args.region
    (c.requires.region c.index_mut-group.result.now (subst (λ (w : Shown). get_or w.groups c.args.place c.index_mut-group.result.now ≡ c.index_mut-group.result.now) c.self.view_is (sym c.index_mut-group.ensures.value)))

pub invariant_of-self-2 : goal.invariant_of-self-2
invariant_of-self-2 g c =
    let s = c.self.inside in
    let running : s.closed ≡ None = ap (λ (w : Shown). w.closed) c.self.view_is ∙ c.requires.running in
    let inside : c.args.place < length s.groups.items = subst (λ (w : Shown). c.args.place < length w.groups) (sym c.self.view_is) c.requires.place in (
      begun_kept g.D.Disk g.met.D.Disk.told g.met.D.Disk.up_to_now g.B.Based.base g.B.Founded.sound g.B.Founded.premise g.B.Founded.began s.disk s.catalog s.standing s.groups.items s.trail s.late s.closed c.self.invariant.0 running
          c.args.place c.index_mut-group.result.now c.raise_table.new.group inside (sym c.index_mut-group.ensures.value) s.lookback s.seat c.call_count-calls.result c.call_count-calls.ensures c.raise_table.new.trail c.in_ok-raise_table.ensures.raises c.begin_table.new.group (c.begin_table.ensures.steps s.disk),
      (
        c.self.invariant.1.0,
        mid_clock g.D.Disk g.met.D.Disk.told g.met.D.Disk.up_to_now g.B.Based.base g.B.Founded.sound g.B.Founded.premise g.B.Founded.began s.disk s.catalog s.standing s.groups.items s.trail s.late s.closed c.self.invariant.0 running
            c.args.place c.index_mut-group.result.now c.raise_table.new.group inside (sym c.index_mut-group.ensures.value) s.lookback s.seat c.call_count-calls.result c.call_count-calls.ensures c.raise_table.new.trail c.in_ok-raise_table.ensures.raises g.C.Clock g.B.Founded.times g.B.Founded.lookback s.clock c.self.invariant.1.1,
      ),
    )

pub returns-clause-ok : goal.returns-clause-ok
returns-clause-ok g c =
    let s = c.self.inside in
    let b = g.B.Based.base in
    let running : s.closed ≡ None = ap (λ (w : Shown). w.closed) c.self.view_is ∙ c.requires.running in
    let inside : c.args.place < length s.groups.items = subst (λ (w : Shown). c.args.place < length w.groups) (sym c.self.view_is) c.requires.place in
    let v : Shown = shown_of s.seat s.trail.entries s.late s.closed s.groups.items s.lookback s.raising (g.D.Disk.calls s.disk) (g.D.Disk.faults s.disk) in
    let v' : Shown = record v { entries = c.raise_table.new.trail.entries } in
    subst (λ (w : Shown). DidWork (known_by b g.B.Based.damaged w) (known_by b g.B.Based.damaged v') Did) c.self.view_is
    (mid_did g.D.Disk g.met.D.Disk.told g.met.D.Disk.up_to_now b g.B.Founded.sound g.B.Founded.premise g.B.Founded.began s.disk s.catalog s.standing s.groups.items s.trail s.late s.closed c.self.invariant.0 running
    c.args.place c.index_mut-group.result.now c.raise_table.new.group inside (sym c.index_mut-group.ensures.value) s.lookback s.seat c.call_count-calls.result c.call_count-calls.ensures c.raise_table.new.trail c.in_ok-raise_table.ensures.raises g.B.Based.damaged)

pub returns-clause-unlooked : goal.returns-clause-unlooked
returns-clause-unlooked g c =
    let s = c.self.inside in
    let running : s.closed ≡ None = ap (λ (w : Shown). w.closed) c.self.view_is ∙ c.requires.running in
    let inside : c.args.place < length s.groups.items = subst (λ (w : Shown). c.args.place < length w.groups) (sym c.self.view_is) c.requires.place in
    subst (λ (w : Shown). rows_looked (slice_set s.groups.items c.args.place c.begin_table.new.group) ≡ rows_looked w.groups) c.self.view_is
    (sum_kept (λ (h : Group). h.rows.looked) s.groups.items c.args.place c.index_mut-group.result.now c.begin_table.new.group inside (sym c.index_mut-group.ensures.value)
    (c.begin_table.ensures.looked ∙ mid_looked g.D.Disk g.met.D.Disk.told g.met.D.Disk.up_to_now g.B.Based.base g.B.Founded.sound g.B.Founded.premise g.B.Founded.began s.disk s.catalog s.standing s.groups.items s.trail s.late s.closed c.self.invariant.0 running
    c.args.place c.index_mut-group.result.now c.raise_table.new.group inside (sym c.index_mut-group.ensures.value) s.lookback s.seat c.call_count-calls.result c.call_count-calls.ensures c.raise_table.new.trail c.in_ok-raise_table.ensures.raises))

pub returns-clause-doubts : goal.returns-clause-doubts
returns-clause-doubts g c = λ p open_ v.
    let s = c.self.inside in
    let b = g.B.Based.base in
    let running : s.closed ≡ None = ap (λ (w : Shown). w.closed) c.self.view_is ∙ c.requires.running in
    let inside : c.args.place < length s.groups.items = subst (λ (w : Shown). c.args.place < length w.groups) (sym c.self.view_is) c.requires.place in
    subst (λ (w : Shown). have_doubt (slice_set s.groups.items c.args.place c.begin_table.new.group) p v ≡ have_doubt w.groups p v) c.self.view_is
    (begun_doubts g.D.Disk g.met.D.Disk.told g.met.D.Disk.up_to_now b g.B.Founded.sound g.B.Founded.premise g.B.Founded.began s.disk s.catalog s.standing s.groups.items s.trail s.late s.closed c.self.invariant.0 running
    c.args.place c.index_mut-group.result.now c.raise_table.new.group inside (sym c.index_mut-group.ensures.value) s.lookback s.seat c.call_count-calls.result c.call_count-calls.ensures c.raise_table.new.trail c.in_ok-raise_table.ensures.raises c.begin_table.new.group (c.begin_table.ensures.steps s.disk)
    g.B.Based.damaged p (subst (λ (w : Shown). HasOpen (known_by b g.B.Based.damaged w) p) (sym c.self.view_is) open_) v)

pub returns-clause-ordered : goal.returns-clause-ordered
returns-clause-ordered g c =
    let s = c.self.inside in
    let running : s.closed ≡ None = ap (λ (w : Shown). w.closed) c.self.view_is ∙ c.requires.running in
    let raised : s.raising ≡ None = ap (λ (w : Shown). w.raising) c.self.view_is ∙ c.requires.raised in
    let inside : c.args.place < length s.groups.items = subst (λ (w : Shown). c.args.place < length w.groups) (sym c.self.view_is) c.requires.place in
    let then = slice_set s.groups.items c.args.place c.begin_table.new.group in
    λ job was.
    let was_here : IsOrderedBy (shown_of s.seat s.trail.entries s.late s.closed s.groups.items s.lookback None (g.D.Disk.calls s.disk) (g.D.Disk.faults s.disk)) job =
    subst (λ o. IsOrderedBy (shown_of s.seat s.trail.entries s.late s.closed s.groups.items s.lookback o (g.D.Disk.calls s.disk) (g.D.Disk.faults s.disk)) job) raised (subst (λ (w : Shown). IsOrderedBy w job) (sym c.self.view_is) was) in
    subst (λ o. IsOrderedBy (shown_of s.seat c.raise_table.new.trail.entries s.late s.closed then s.lookback o (g.D.Disk.calls s.disk) (g.D.Disk.faults s.disk)) job) (sym raised)
    (begun_ordered g.D.Disk g.met.D.Disk.told g.met.D.Disk.up_to_now g.B.Based.base g.B.Founded.sound g.B.Founded.premise g.B.Founded.began s.disk s.catalog s.standing s.groups.items s.trail s.late s.closed c.self.invariant.0 running
    c.args.place c.index_mut-group.result.now c.raise_table.new.group inside (sym c.index_mut-group.ensures.value) s.lookback s.seat c.call_count-calls.result c.call_count-calls.ensures c.raise_table.new.trail c.in_ok-raise_table.ensures.raises c.begin_table.new.group (c.begin_table.ensures.steps s.disk)
    c.begin_table.ensures.ordered c.begin_table.ensures.to_forget (g.D.Disk.calls s.disk) (g.D.Disk.faults s.disk) job was_here)

pub invariant_of-self : goal.invariant_of-self
invariant_of-self g c =
    let s = c.self.inside in
    let same = c.in_err-raise_table.ensures.refused.1 in (
      subst (λ (t : Recorded). IsKept g.D.Disk g.B.Based.base g.B.Founded.sound g.B.Founded.premise g.B.Founded.began s.disk s.catalog s.standing (slice_set s.groups.items c.args.place c.raise_table.new.group) t s.late s.closed) (sym same.1)
          (subst (λ (x : Group). IsKept g.D.Disk g.B.Based.base g.B.Founded.sound g.B.Founded.premise g.B.Founded.began s.disk s.catalog s.standing (slice_set s.groups.items c.args.place x) s.trail s.late s.closed) (sym same.0)
          (subst (λ (gs : List Group). IsKept g.D.Disk g.B.Based.base g.B.Founded.sound g.B.Founded.premise g.B.Founded.began s.disk s.catalog s.standing gs s.trail s.late s.closed) (sym (put_back s.groups.items c.args.place c.index_mut-group.result.now (sym c.index_mut-group.ensures.value))) c.self.invariant.0)),
      (c.self.invariant.1.0, same_by_clock g.C.Clock g.B.Founded.times g.B.Based.base g.B.Founded.lookback s.lookback s.clock s.trail.entries c.self.invariant.1.1 c.raise_table.new.trail.entries (ap (λ (t : Recorded). t.entries) same.1)),
    )

pub returns-in_err-raise_table-clause-refused : goal.returns-in_err-raise_table-clause-refused
returns-in_err-raise_table-clause-refused g c =
    let s = c.self.inside in
    let b = g.B.Based.base in
    let told = c.self.invariant.0.told in
    let v : Shown = shown_of s.seat s.trail.entries s.late s.closed s.groups.items s.lookback s.raising (g.D.Disk.calls s.disk) (g.D.Disk.faults s.disk) in
    let running : s.closed ≡ None = ap (λ (w : Shown). w.closed) c.self.view_is ∙ c.requires.running in
    let r = c.in_err-raise_table.ensures.refused in
    let p = err_from_is_err_and c.from_residual.result c.from_residual.ensures.1 in
    rw p.1 (subst (λ (f : StepFault). Refuses (upkeep_cause g.B.Founded.sound) (known_by b g.B.Based.damaged c.args.self.now) (known_by b g.B.Based.damaged (record v { entries = c.raise_table.new.trail.entries })) f) (sym (p.2 ∙ r.0))
    (subst (λ (t : Recorded). Refuses (upkeep_cause g.B.Founded.sound) (known_by b g.B.Based.damaged c.args.self.now) (known_by b g.B.Based.damaged (record v { entries = t.entries })) Memory) (sym r.1.1)
    (subst (λ (w : Shown). Refuses (upkeep_cause g.B.Founded.sound) (known_by b g.B.Based.damaged w) (known_by b g.B.Based.damaged v) Memory) c.self.view_is (work_no_memory (known_by b g.B.Based.damaged v) told.legal g.B.Founded.sound (told.closing ∙ running)))))

pub returns-in_err-raise_table-clause-unlooked : goal.returns-in_err-raise_table-clause-unlooked
returns-in_err-raise_table-clause-unlooked g c =
    let s = c.self.inside in
    let inside : c.args.place < length s.groups.items = subst (λ (w : Shown). c.args.place < length w.groups) (sym c.self.view_is) c.requires.place in
    subst (λ (w : Shown). rows_looked (slice_set s.groups.items c.args.place c.raise_table.new.group) ≡ rows_looked w.groups) c.self.view_is
    (sum_kept (λ (h : Group). h.rows.looked) s.groups.items c.args.place c.index_mut-group.result.now c.raise_table.new.group inside (sym c.index_mut-group.ensures.value) (ap (λ (h : Group). h.rows.looked) c.in_err-raise_table.ensures.refused.1.0))

-- ---- the calls of the disk

pub returns-clause-counts : goal.returns-clause-counts
returns-clause-counts g c = none_by c.self.view_is refl refl

pub returns-in_err-raise_table-clause-counts : goal.returns-in_err-raise_table-clause-counts
returns-in_err-raise_table-clause-counts g c = none_by c.self.view_is refl refl
