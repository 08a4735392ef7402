use Rattle.std.proofs.Common.{rules, ◌≡◌, ◌≤◌, ◌+◌, ◌++◌, ◌∷◌, [], ℕ, None, Err, List, refl, sym, ap, subst, ◌∙◌, arith}
use Rattle.std.specs.Prelude.{IsSome, sum_by}
use Rattle.std.specs.List.{slice_set}
use Rattle.px_trail.specs.Recorded.{Recorded}
use Rattle.px_trail.specs.Trail.{last_of}
use Rattle.px_trail.specs.declared.entry.Act.TheVariants.{Begun as BegunAct}
use Rattle.px_trail.specs.declared.entry.Entry.{Entry}
use Rattle.px_trail.specs.States.{greatest_stamp}
use Rattle.px_calls.specs.Calls.{DidBegin}
use Rattle.px_calls.specs.Causes.{Refuses, begin_cause}
use Rattle.px_calls.specs.Requires.{AreFitting}
use Rattle.px_calls.specs.declared.fault.StepFault.TheVariants.{Closed, Memory, NoTable, ReadFault}
use Rattle.px_turns.specs.Turns.{drawn_stamp}
use Rattle.px_standing.proofs.Looked.{lacks}
use Rattle.px_repairs.proofs.Handing.{got_some}
use Rattle.px_trail.specs.Count.{counted_bytes, counted_change}
use Rattle.px_values.specs.Limits.{most_of}
use Rattle.px_values.specs.declared.limit.Limit.TheVariants as bound
use Rattle.px_server.proofs.Seen.{stays}
use Rattle.px_server.specs.Beginning.{IsUnbegun, RefusesBatch}
use Rattle.px_server.specs.Shown.{Shown, known_by, shown_of}
use Rattle.px_server.specs.Stamps.{draw}
use Rattle.px_server.proofs.Begun.{drawn_above}
use Rattle.px_server.proofs.Found.{closed_by}
use Rattle.px_server.proofs.Left.{left_none}
use Rattle.px_server.proofs.Letting.{begun_kept, bytes_there, cells_there, few_there, fit_here, last_here, left_kept, light_there, long_there, right_here, short_there, stands_here}
use Rattle.px_server.proofs.CallsLeft.{few}
use Rattle.px_server.proofs.OnlyRead.{read_kept}
use Rattle.px_server.proofs.Refusing.{begun_no_table, did_begin, refuses_batch, unbegun}
use Rattle.px_server.proofs.Released.{group_of, none_of, place_in}
use Rattle.px_server.proofs.Stamping.{drawn_by_clock, read_by_clock}
use Rattle.px_server.specs.DeviceCalls.{Blames, HasFailedIn}
use Rattle.px_server.specs.inner.Missing.{TellsFault}
use Rattle.px_server.proofs.Blamed.{failed_rose}
use Rattle.px_server.proofs.DeviceCalls.{none_by, rose_by, unbegun_blames}
use Rattle.px_server.proofs.Missed.{missed_table, told_as, told_by_clock, told_refused, told_set}
use Rattle.px_server.proofs.server.Server.begin.Goals as goal

pub returns-in-Some-clause-refused : goal.returns-in-Some-clause-refused
returns-in-Some-clause-refused g c =
    let s = c.self.inside in
    let b = g.B.Based.base in
    let told = c.self.invariant.0.told in
    let v : Shown = shown_of s.seat s.trail.entries s.late s.closed s.groups.items s.lookback s.raising (g.D.Disk.calls s.disk) (g.D.Disk.faults s.disk) in
    subst (λ (w : Shown). Refuses (begin_cause g.B.Founded.sound c.args.table.0 c.args.changes.now) (known_by b g.B.Based.damaged w) (known_by b g.B.Based.damaged w) (Closed c.in-Some.call)) c.self.view_is
    (closed_by (known_by b g.B.Based.damaged v) told.legal s.closed told.closing c.in-Some.call c.in-Some.is)

pub returns-in_default-numbered_place-clause-refused : goal.returns-in_default-numbered_place-clause-refused
returns-in_default-numbered_place-clause-refused g c =
    let s = c.self.inside in
    let b = g.B.Based.base in
    let told = c.self.invariant.0.told in
    let running : s.closed ≡ None = none_of s.closed (λ x is. search rules) in
    let v : Shown = shown_of s.seat s.trail.entries s.late s.closed s.groups.items s.lookback s.raising (g.D.Disk.calls s.disk) (g.D.Disk.faults s.disk) in
    subst (λ (w : Shown). Refuses (begin_cause g.B.Founded.sound c.args.table.0 c.args.changes.now) (known_by b g.B.Based.damaged w) (known_by b g.B.Based.damaged w) NoTable) c.self.view_is
    (begun_no_table (known_by b g.B.Based.damaged v) told.legal (told.closing ∙ running) g.B.Founded.sound c.args.table.0 c.args.changes.now (lacks b s.trail.entries s.standing told.agrees c.args.table.0 c.in_default-numbered_place.ensures.none))

pub returns-then-is_err-clause-refused : goal.returns-then-is_err-clause-refused
returns-then-is_err-clause-refused g c =
    let s = c.self.inside in
    let told = c.self.invariant.0.told in
    let running : s.closed ≡ None = none_of s.closed (λ x is. search rules) in
    let v : Shown = shown_of s.seat s.trail.entries s.late s.closed s.groups.items s.lookback s.raising (g.D.Disk.calls s.disk) (g.D.Disk.faults s.disk) in
    let k = known_by g.B.Based.base g.B.Based.damaged v in
    subst (λ (w : Shown). Refuses (begin_cause g.B.Founded.sound c.args.table.0 c.args.changes.now) (known_by g.B.Based.base g.B.Based.damaged w) (record k { seen = c.reserve.new.self.entries }) Memory) c.self.view_is
    (subst (λ (es : List Entry). Refuses (begin_cause g.B.Founded.sound c.args.table.0 c.args.changes.now) k (record k { seen = es }) Memory) (sym c.reserve.ensures.same)
    (tt, stays k told.legal, told.closing ∙ running))

pub told-requires : goal.told-requires
told-requires g c = (let t = ap (λ (t : Recorded). t.room) c.in-Err.ensures.trail in let o : c.reserve.new.self.room ≡ c.self.inside.trail.room + 1 = search rules in omega (arith, t, o))

pub let_in-begun-requires-clause-fit : goal.let_in-begun-requires-clause-fit
let_in-begun-requires-clause-fit g c =
    let s = c.self.inside in
    let b = g.B.Based.base in
    let told = c.self.invariant.0.told in
    let running : s.closed ≡ None = none_of s.closed (λ x is. search rules) in
    let v : Shown = shown_of s.seat s.trail.entries s.late s.closed s.groups.items s.lookback s.raising (g.D.Disk.calls s.disk) (g.D.Disk.faults s.disk) in
    let cs = c.args.changes.now in
    let fits : AreFitting (known_by b g.B.Based.damaged v) c.args.table.0 cs = subst (λ (w : Shown). AreFitting (known_by b g.B.Based.damaged w) c.args.table.0 cs) (sym c.self.view_is) c.requires.fits in
    let fit = fit_here g.D.Disk b g.B.Founded.sound g.B.Founded.premise g.B.Founded.began s.disk s.catalog s.standing s.groups.items s.trail s.late s.closed c.self.invariant.0 running c.args.table c.in-Some-numbered_place.place c.index_mut.result.now c.in-Some-numbered_place.ensures.found c.in-Some-numbered_place.ensures.numbered (sym c.index_mut.ensures.value) cs fits.each in
    fit

pub invariant_of-self-in-Ok : goal.invariant_of-self-in-Ok
invariant_of-self-in-Ok g c =
    let s = c.self.inside in
    let b = g.B.Based.base in
    let told = c.self.invariant.0.told in
    let running : s.closed ≡ None = none_of s.closed (λ x is. search rules) in
    let read = read_kept g.D.Disk s.disk c.let_in-begun.new.disk c.let_in-begun.ensures.only_read g.met.D.Disk.told g.met.D.Disk.up_to_now b g.B.Founded.sound g.B.Founded.premise g.B.Founded.began s.catalog s.standing s.groups.items s.trail s.late s.closed c.self.invariant.0 running in
    let v : Shown = shown_of s.seat s.trail.entries s.late s.closed s.groups.items s.lookback s.raising (g.D.Disk.calls s.disk) (g.D.Disk.faults s.disk) in
    let cs = c.args.changes.now in
    let fits : AreFitting (known_by b g.B.Based.damaged v) c.args.table.0 cs = subst (λ (w : Shown). AreFitting (known_by b g.B.Based.damaged w) c.args.table.0 cs) (sym c.self.view_is) c.requires.fits in
    let fit = fit_here g.D.Disk b g.B.Founded.sound g.B.Founded.premise g.B.Founded.began s.disk s.catalog s.standing s.groups.items s.trail s.late s.closed c.self.invariant.0 running c.args.table c.in-Some-numbered_place.place c.index_mut.result.now c.in-Some-numbered_place.ensures.found c.in-Some-numbered_place.ensures.numbered (sym c.index_mut.ensures.value) cs fits.each in
    let m = c.in-Ok.ensures.begun in
    let taken = c.in-Ok.ensures.taken in
    let stamp = drawn_above c.index_mut.result.now.last c.now-clock.result c.in-Ok.started.stamp m.stamp in
    let last : last_of b c.args.table.0 s.trail.entries ≡ c.index_mut.result.now.last = last_here g.D.Disk b g.B.Founded.sound g.B.Founded.premise g.B.Founded.began s.disk s.catalog s.standing s.groups.items s.trail s.late s.closed c.self.invariant.0 running c.args.table c.in-Some-numbered_place.place c.index_mut.result.now c.in-Some-numbered_place.ensures.found c.in-Some-numbered_place.ensures.numbered (sym c.index_mut.ensures.value) in
    let e : Entry = record { seat = s.seat; calls = c.call_count.result; act = BegunAct c.args.table c.in-Ok.started.stamp cs } in
    let same : c.give_back.new.self.entries ≡ s.trail.entries = c.give_back.ensures.same ∙ (taken.entries ∙ c.reserve.ensures.same) in
    let entries : c.push.new.self.entries ≡ s.trail.entries ++ e ∷ [] = c.push.ensures.entries
    ∙ (λ i. same i ++ record { seat = s.seat; calls = c.call_count.result; act = BegunAct c.args.table c.in-Ok.started.stamp (m.changes i) } ∷ []) in (
      begun_kept g.D.Disk b g.B.Founded.sound g.B.Founded.premise g.B.Founded.began c.let_in-begun.new.disk s.catalog s.standing s.groups.items s.trail s.late s.closed read running c.args.table c.in-Some-numbered_place.place c.index_mut.result.now c.in-Some-numbered_place.ensures.found c.in-Some-numbered_place.ensures.numbered (sym c.index_mut.ensures.value) g.met.D.Disk.told g.met.D.Disk.up_to_now s.seat c.call_count.result c.in-Ok.started.stamp c.call_count.ensures cs c.requires.distinct c.requires.some fit stamp.0 stamp.1
          m.taken c.let_in-begun.new.group m.leaves m.batch m.is m.admits m.before m.after c.push.new.self entries (let less = c.push.ensures.room in let back = c.give_back.ensures.room in let more = taken.room in let o : c.reserve.new.self.room ≡ s.trail.room + 1 = search rules in omega (arith, less, back, more, o)),
      (
        c.self.invariant.1.0,
        drawn_by_clock g.C.Clock g.B.Founded.times g.B.Based.base g.B.Founded.lookback s.lookback s.clock s.trail.entries c.self.invariant.1.1 c.now-clock.new.self c.now-clock.ensures.rest c.push.new.self.entries e (draw c.args.table.0 c.in-Ok.started.stamp) entries refl
            (λ tells. ap (λ (n : ℕ). drawn_stamp (last_of b c.args.table.0 s.trail.entries) n) (sym (c.now-clock.ensures.time tells)) ∙ (ap (λ (n : ℕ). drawn_stamp n c.now-clock.result) last ∙ m.stamp)),
      ),
    )

pub invariant_of-self-in-Err : goal.invariant_of-self-in-Err
invariant_of-self-in-Err g c =
    let s = c.self.inside in
    let b = g.B.Based.base in
    let k = c.self.invariant.0 in
    let place = c.in-Some-numbered_place.place in
    let running : s.closed ≡ None = none_of s.closed (λ x is. search rules) in
    let l = place_in s.groups.items s.standing.tables k.each.stand place c.in-Some-numbered_place.ensures.found in
    let read = read_kept g.D.Disk s.disk c.let_in-begun.new.disk c.let_in-begun.ensures.only_read g.met.D.Disk.told g.met.D.Disk.up_to_now b g.B.Founded.sound g.B.Founded.premise g.B.Founded.began s.catalog s.standing s.groups.items s.trail s.late s.closed k running in
    let left = left_kept g.D.Disk b g.B.Founded.sound g.B.Founded.premise g.B.Founded.began c.let_in-begun.new.disk s.catalog s.standing s.groups.items s.trail s.late s.closed read running c.args.table place c.index_mut.result.now c.in-Some-numbered_place.ensures.found c.in-Some-numbered_place.ensures.numbered (sym c.index_mut.ensures.value) c.let_in-begun.new.group c.in-Err.ensures.leaves.0 c.in-Err.ensures.leaves.1 in
    let same : c.let_in-begun.new.trail.entries ≡ s.trail.entries = ap (λ (t : Recorded). t.entries) c.in-Err.ensures.trail ∙ c.reserve.ensures.same in
    let told = subst (λ (es : List Entry). TellsFault s.seat c.call_count-calls.result es c.told.new.trail.entries c.in-Err.fault c.told.result) same c.told.ensures.told in (
      told_set g.D.Disk g.met.D.Disk.told g.met.D.Disk.up_to_now b g.B.Founded.sound g.B.Founded.premise g.B.Founded.began c.let_in-begun.new.disk s.catalog s.standing s.groups.items place c.let_in-begun.new.group l s.trail s.late s.closed left running s.seat c.call_count-calls.result c.call_count-calls.ensures
          c.told.new.trail (let r = c.told.ensures.room in let t = ap (λ (t : Recorded). t.room) c.in-Err.ensures.trail in let o : c.reserve.new.self.room ≡ s.trail.room + 1 = search rules in omega (arith, r, t, o)) c.in-Err.fault c.told.result
          (λ same. failed_rose g.D.Disk s.disk c.let_in-begun.new.disk (c.let_in-begun.ensures.failed (c.in-Err.is ∙ ap Err same))) told,
      (
        c.self.invariant.1.0,
        told_by_clock g.C.Clock g.B.Founded.times b g.B.Founded.lookback s.lookback c.now-clock.new.self s.trail.entries
            (read_by_clock g.C.Clock g.B.Founded.times g.B.Based.base g.B.Founded.lookback s.lookback s.clock s.trail.entries c.self.invariant.1.1 c.now-clock.new.self c.now-clock.ensures.rest)
            s.seat c.call_count-calls.result c.told.new.trail.entries c.in-Err.fault c.told.result told,
      ),
    )

pub returns-in-Ok-clause-ok : goal.returns-in-Ok-clause-ok
returns-in-Ok-clause-ok g c =
    let s = c.self.inside in
    let b = g.B.Based.base in
    let told = c.self.invariant.0.told in
    let running : s.closed ≡ None = none_of s.closed (λ x is. search rules) in
    let v : Shown = shown_of s.seat s.trail.entries s.late s.closed s.groups.items s.lookback s.raising (g.D.Disk.calls s.disk) (g.D.Disk.faults s.disk) in
    let cs = c.args.changes.now in
    let fits : AreFitting (known_by b g.B.Based.damaged v) c.args.table.0 cs = subst (λ (w : Shown). AreFitting (known_by b g.B.Based.damaged w) c.args.table.0 cs) (sym c.self.view_is) c.requires.fits in
    let fit = fit_here g.D.Disk b g.B.Founded.sound g.B.Founded.premise g.B.Founded.began s.disk s.catalog s.standing s.groups.items s.trail s.late s.closed c.self.invariant.0 running c.args.table c.in-Some-numbered_place.place c.index_mut.result.now c.in-Some-numbered_place.ensures.found c.in-Some-numbered_place.ensures.numbered (sym c.index_mut.ensures.value) cs fits.each in
    let m = c.in-Ok.ensures.begun in
    let taken = c.in-Ok.ensures.taken in
    let stamp = drawn_above c.index_mut.result.now.last c.now-clock.result c.in-Ok.started.stamp m.stamp in
    let e : Entry = record { seat = s.seat; calls = c.call_count.result; act = BegunAct c.args.table c.in-Ok.started.stamp cs } in
    let same : c.give_back.new.self.entries ≡ s.trail.entries = c.give_back.ensures.same ∙ (taken.entries ∙ c.reserve.ensures.same) in
    let entries : c.push.new.self.entries ≡ s.trail.entries ++ e ∷ [] = c.push.ensures.entries
    ∙ (λ i. same i ++ record { seat = s.seat; calls = c.call_count.result; act = BegunAct c.args.table c.in-Ok.started.stamp (m.changes i) } ∷ []) in
    let v' : Shown = record v { entries = c.push.new.self.entries } in
    let early : c.index_mut.result.now.last ≤ greatest_stamp = (let l = stamp.0 in let m' = stamp.1 in omega (arith, l, m')) in
    subst (λ (w : Shown). DidBegin g.B.Founded.sound (known_by b g.B.Based.damaged w) (known_by b g.B.Based.damaged v') c.args.table cs (record { table = c.args.table; stamp = c.in-Ok.started.stamp })) c.self.view_is
    (did_begin (known_by b g.B.Based.damaged v) told.legal g.B.Founded.sound c.args.table cs c.in-Ok.started.stamp c.call_count.result c.push.new.self.entries entries (invariant_of-self-in-Ok g c).0.told.legal stamp.1 (subst (λ (es : List Entry). counted_bytes es + sum_by counted_change cs ≤ most_of bound.Trail) c.reserve.ensures.same taken.few)
    (λ given. short_there g.D.Disk b g.B.Founded.sound g.B.Founded.premise g.B.Founded.began s.disk s.catalog s.standing s.groups.items s.trail s.late s.closed c.self.invariant.0 running c.args.table c.in-Some-numbered_place.place c.index_mut.result.now c.in-Some-numbered_place.ensures.found c.in-Some-numbered_place.ensures.numbered (sym c.index_mut.ensures.value) cs fit early given m.taken m.leaves m.before c.in-Ok.started.stamp m.batch m.is)
    (λ given. few_there g.D.Disk b g.B.Founded.sound g.B.Founded.premise g.B.Founded.began s.disk s.catalog s.standing s.groups.items s.trail s.late s.closed c.self.invariant.0 running c.args.table c.in-Some-numbered_place.place c.index_mut.result.now c.in-Some-numbered_place.ensures.found c.in-Some-numbered_place.ensures.numbered (sym c.index_mut.ensures.value) cs fit early given m.taken m.leaves m.before c.in-Ok.started.stamp m.batch m.is m.few)
    (λ given. light_there g.D.Disk b g.B.Founded.sound g.B.Founded.premise g.B.Founded.began s.disk s.catalog s.standing s.groups.items s.trail s.late s.closed c.self.invariant.0 running c.args.table c.in-Some-numbered_place.place c.index_mut.result.now c.in-Some-numbered_place.ensures.found c.in-Some-numbered_place.ensures.numbered (sym c.index_mut.ensures.value) cs fit early given m.taken m.leaves m.before c.in-Ok.started.stamp m.batch m.is m.light))

pub returns-in-Err-clause-refused : goal.returns-in-Err-clause-refused
returns-in-Err-clause-refused g c =
    let s = c.self.inside in
    let b = g.B.Based.base in
    let told = c.self.invariant.0.told in
    let running : s.closed ≡ None = none_of s.closed (λ x is. search rules) in
    let v : Shown = shown_of s.seat s.trail.entries s.late s.closed s.groups.items s.lookback s.raising (g.D.Disk.calls s.disk) (g.D.Disk.faults s.disk) in
    let cs = c.args.changes.now in
    let fits : AreFitting (known_by b g.B.Based.damaged v) c.args.table.0 cs = subst (λ (w : Shown). AreFitting (known_by b g.B.Based.damaged w) c.args.table.0 cs) (sym c.self.view_is) c.requires.fits in
    let fit = fit_here g.D.Disk b g.B.Founded.sound g.B.Founded.premise g.B.Founded.began s.disk s.catalog s.standing s.groups.items s.trail s.late s.closed c.self.invariant.0 running c.args.table c.in-Some-numbered_place.place c.index_mut.result.now c.in-Some-numbered_place.ensures.found c.in-Some-numbered_place.ensures.numbered (sym c.index_mut.ensures.value) cs fits.each in
    let k = known_by b g.B.Based.damaged v in
    let same : c.let_in-begun.new.trail.entries ≡ s.trail.entries = ap (λ (t : Recorded). t.entries) c.in-Err.ensures.trail ∙ c.reserve.ensures.same in
    let tells = subst (λ (es : List Entry). TellsFault s.seat c.call_count-calls.result es c.told.new.trail.entries c.in-Err.fault c.told.result) same c.told.ensures.told in
    let refused = subst (λ (es : List Entry). IsUnbegun c.index_mut.result.now es cs c.now-clock.result c.in-Err.fault) c.reserve.ensures.same c.in-Err.ensures.refused in
    let stands = stands_here g.D.Disk b g.B.Founded.sound g.B.Founded.premise g.B.Founded.began s.disk s.catalog s.standing s.groups.items s.trail s.late s.closed c.self.invariant.0 running c.args.table c.in-Some-numbered_place.place c.index_mut.result.now c.in-Some-numbered_place.ensures.found c.in-Some-numbered_place.ensures.numbered (sym c.index_mut.ensures.value) in
    subst (λ (w : Shown). Refuses (begin_cause g.B.Founded.sound c.args.table.0 cs) (known_by b g.B.Based.damaged w) (record k { seen = c.told.new.trail.entries }) c.told.result) c.self.view_is
    (told_refused k told.legal (told.closing ∙ running) (begin_cause g.B.Founded.sound c.args.table.0 cs) c.call_count-calls.result c.told.new.trail.entries (invariant_of-self-in-Err g c).0.told.legal c.in-Err.fault c.told.result tells
    (λ entries. subst IsSome (sym (missed_table b s.trail.entries c.told.new.trail.entries s.seat c.call_count-calls.result c.args.table.0 entries)) stands) tt
    (λ other. unbegun k told.legal (told.closing ∙ running) g.B.Founded.sound c.args.table.0 cs stands c.index_mut.result.now (last_here g.D.Disk b g.B.Founded.sound g.B.Founded.premise g.B.Founded.began s.disk s.catalog s.standing s.groups.items s.trail s.late s.closed c.self.invariant.0 running c.args.table c.in-Some-numbered_place.place c.index_mut.result.now c.in-Some-numbered_place.ensures.found c.in-Some-numbered_place.ensures.numbered (sym c.index_mut.ensures.value))
    (λ early needs given. long_there g.D.Disk b g.B.Founded.sound g.B.Founded.premise g.B.Founded.began s.disk s.catalog s.standing s.groups.items s.trail s.late s.closed c.self.invariant.0 running c.args.table c.in-Some-numbered_place.place c.index_mut.result.now c.in-Some-numbered_place.ensures.found c.in-Some-numbered_place.ensures.numbered (sym c.index_mut.ensures.value) cs fit early given c.index_mut.result.now (left_none c.index_mut.result.now) (right_here g.D.Disk b g.B.Founded.sound g.B.Founded.premise g.B.Founded.began s.disk s.catalog s.standing s.groups.items s.trail s.late s.closed c.self.invariant.0 running c.args.table c.in-Some-numbered_place.place c.index_mut.result.now c.in-Some-numbered_place.ensures.found c.in-Some-numbered_place.ensures.numbered (sym c.index_mut.ensures.value)) needs)
    (λ s' early needs given. cells_there g.D.Disk b g.B.Founded.sound g.B.Founded.premise g.B.Founded.began s.disk s.catalog s.standing s.groups.items s.trail s.late s.closed c.self.invariant.0 running c.args.table c.in-Some-numbered_place.place c.index_mut.result.now c.in-Some-numbered_place.ensures.found c.in-Some-numbered_place.ensures.numbered (sym c.index_mut.ensures.value) cs fit early given c.index_mut.result.now (left_none c.index_mut.result.now) (right_here g.D.Disk b g.B.Founded.sound g.B.Founded.premise g.B.Founded.began s.disk s.catalog s.standing s.groups.items s.trail s.late s.closed c.self.invariant.0 running c.args.table c.in-Some-numbered_place.place c.index_mut.result.now c.in-Some-numbered_place.ensures.found c.in-Some-numbered_place.ensures.numbered (sym c.index_mut.ensures.value)) s' needs)
    (λ s' early needs given. bytes_there g.D.Disk b g.B.Founded.sound g.B.Founded.premise g.B.Founded.began s.disk s.catalog s.standing s.groups.items s.trail s.late s.closed c.self.invariant.0 running c.args.table c.in-Some-numbered_place.place c.index_mut.result.now c.in-Some-numbered_place.ensures.found c.in-Some-numbered_place.ensures.numbered (sym c.index_mut.ensures.value) cs fit early given c.index_mut.result.now (left_none c.index_mut.result.now) (right_here g.D.Disk b g.B.Founded.sound g.B.Founded.premise g.B.Founded.began s.disk s.catalog s.standing s.groups.items s.trail s.late s.closed c.self.invariant.0 running c.args.table c.in-Some-numbered_place.place c.index_mut.result.now c.in-Some-numbered_place.ensures.found c.in-Some-numbered_place.ensures.numbered (sym c.index_mut.ensures.value)) s' needs) c.now-clock.result c.in-Err.fault other refused))

pub returns-in-Err-clause-caused : goal.returns-in-Err-clause-caused
returns-in-Err-clause-caused g c =
    let s = c.self.inside in
    let k = c.self.invariant.0 in
    let cs = c.args.changes.now in
    let place = c.in-Some-numbered_place.place in
    let inside = place_in s.groups.items s.standing.tables k.each.stand place c.in-Some-numbered_place.ensures.found in
    told_as (RefusesBatch c.args.self.now.groups c.args.table c.args.self.now.entries cs) s.seat c.call_count-calls.result c.let_in-begun.new.trail.entries c.told.new.trail.entries c.in-Err.fault c.told.result c.told.ensures.told (λ same. tt) tt
    (subst (λ (w : Shown). RefusesBatch w.groups c.args.table w.entries cs c.in-Err.fault) c.self.view_is
    (refuses_batch s.groups.items c.args.table s.trail.entries cs c.in-Err.fault (record {
      place = place;
      group = c.index_mut.result.now;
      at = got_some s.groups.items place _ c.index_mut.result.now inside c.index_mut.ensures.value;
      id = group_of s.groups.items s.standing.tables k.each.stand place c.index_mut.result.now inside (sym c.index_mut.ensures.value) c.args.table c.in-Some-numbered_place.ensures.numbered;
      clock = c.now-clock.result;
      unbegun = subst (λ (es : List Entry). IsUnbegun c.index_mut.result.now es cs c.now-clock.result c.in-Err.fault) c.reserve.ensures.same c.in-Err.ensures.refused;
    })))

pub returns-in-Ok-clause-few : goal.returns-in-Ok-clause-few
returns-in-Ok-clause-few g c =
    let s = c.self.inside in
    let running : s.closed ≡ None = none_of s.closed (λ x is. search rules) in
    few g.D.Disk g.B.Based.base g.B.Founded.sound g.B.Founded.premise g.B.Founded.began c.let_in-begun.new.disk s.catalog s.standing (slice_set s.groups.items c.in-Some-numbered_place.place c.let_in-begun.new.group) c.push.new.self s.late s.closed (invariant_of-self-in-Ok g c).0 running
    (record { table = c.args.table; stamp = c.in-Ok.started.stamp })

-- ---- the calls of the disk

pub returns-in-Ok-clause-counts : goal.returns-in-Ok-clause-counts
returns-in-Ok-clause-counts g c = none_by c.self.view_is c.let_in-begun.ensures.only_read.calls c.let_in-begun.ensures.only_read.faults

pub returns-in-Err-clause-counts : goal.returns-in-Err-clause-counts
returns-in-Err-clause-counts g c = none_by c.self.view_is c.let_in-begun.ensures.only_read.calls c.let_in-begun.ensures.only_read.faults

pub returns-in-Err-clause-blames : goal.returns-in-Err-clause-blames
returns-in-Err-clause-blames g c =
    let s = c.self.inside in
    let new : Shown = record c.args.self.now { calls = g.D.Disk.calls c.let_in-begun.new.disk; faults = g.D.Disk.faults c.let_in-begun.new.disk } in
    let failed : c.in-Err.fault ≡ ReadFault → HasFailedIn c.args.self.now new = λ same. rose_by g.D.Disk s.disk c.let_in-begun.new.disk (c.let_in-begun.ensures.failed (c.in-Err.is ∙ ap Err same)) c.self.view_is refl in
    told_as (Blames c.args.self.now new) s.seat c.call_count-calls.result c.let_in-begun.new.trail.entries c.told.new.trail.entries c.in-Err.fault c.told.result c.told.ensures.told failed tt
    (unbegun_blames c.args.self.now new c.index_mut.result.now c.reserve.new.self.entries c.args.changes.now c.now-clock.result c.in-Err.fault failed c.in-Err.ensures.refused)
