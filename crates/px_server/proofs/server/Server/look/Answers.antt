use Rattle.std.proofs.Common.{rules, ◌≡◌, ◌∙◌, ◌+◌, ◌<◌, None, Err, List, length, map, refl, sym, subst, ap, arith}
use Rattle.std.specs.List.{slice_set}
use Rattle.px_calls.specs.Calls.{DidLook}
use Rattle.px_calls.specs.Causes.{Refuses, read_cause}
use Rattle.px_calls.specs.Counts.{HasRisenBy}
use Rattle.px_calls.specs.declared.fault.StepFault.TheVariants.{Closed, Memory}
use Rattle.px_calls.specs.declared.query.By.{By}
use Rattle.px_calls.specs.declared.query.FoundKey.{FoundKey}
use Rattle.px_looks.specs.Counted.{HasCounted}
use Rattle.px_pointreads.specs.Counted.{HasCountedBy}
use Rattle.px_server.specs.Looks.{AreOfIndexAt, HasCountedOf, rows_in, rows_looked}
use Rattle.px_server.specs.Shown.{Shown, known_by, shown_of}
use Rattle.px_server.proofs.Found.{closed_by}
use Rattle.px_server.proofs.Lists.{map_set}
use Rattle.px_server.proofs.Looked.{looked_kept}
use Rattle.px_server.proofs.ReadAt.{counted_at, did_look, inside, no_memory, read_at, versions_at}
use Rattle.px_server.proofs.OnlyRead.{read_kept}
use Rattle.px_server.proofs.Released.{none_of}
use Rattle.px_server.proofs.RowsLooked.{risen_at}
use Rattle.px_server.proofs.Sighted.{found_doubts}
use Rattle.px_region.specs.declared.fault.LookFault.TheVariants as look
use Rattle.px_server.specs.DeviceCalls.{Blames, HasFailedIn}
use Rattle.px_server.specs.inner.Missing.{TellsFault}
use Rattle.px_trail.specs.declared.entry.Entry.{Entry}
use Rattle.px_server.proofs.Reserved.{roomy}
use Rattle.px_server.proofs.Stamping.{same_by_clock}
use Rattle.px_server.proofs.Blamed.{failed_rose}
use Rattle.px_server.proofs.DeviceCalls.{none_by, rose_by, unread_blames}
use Rattle.px_server.proofs.Missed.{told_as, told_by_clock, told_set, unread_refused, unread_was}
use Rattle.px_server.proofs.server.Server.look.Goals as goal

pub returns-in-Some-clause-refused : goal.returns-in-Some-clause-refused
returns-in-Some-clause-refused g c =
    let s = c.self.inside in
    let told = c.self.invariant.0.told in
    let v : Shown = shown_of s.seat s.trail.entries s.late s.closed s.groups.items s.lookback s.raising (g.D.Disk.calls s.disk) (g.D.Disk.faults s.disk) in
    subst (λ (w : Shown). Refuses (read_cause g.B.Founded.sound) (known_by g.B.Based.base g.B.Based.damaged w) (known_by g.B.Based.base g.B.Based.damaged w) (Closed c.in-Some.call)) c.self.view_is
    (closed_by (known_by g.B.Based.base g.B.Based.damaged v) told.legal s.closed told.closing c.in-Some.call c.in-Some.is)

pub returns-in_default-point_place-clause-refused : goal.returns-in_default-point_place-clause-refused
returns-in_default-point_place-clause-refused g c =
    let s = c.self.inside in
    let told = c.self.invariant.0.told in
    let v : Shown = shown_of s.seat s.trail.entries s.late s.closed s.groups.items s.lookback s.raising (g.D.Disk.calls s.disk) (g.D.Disk.faults s.disk) in
    let running : s.closed ≡ None = none_of s.closed (λ x is. search rules) in
    subst (λ (w : Shown). Refuses (read_cause g.B.Founded.sound) (known_by g.B.Based.base g.B.Based.damaged w) (known_by g.B.Based.base g.B.Based.damaged w) Memory) c.self.view_is
    (no_memory (known_by g.B.Based.base g.B.Based.damaged v) told.legal s.closed told.closing running g.B.Founded.sound)

pub look-requires-clause-at : goal.look-requires-clause-at
look-requires-clause-at g c = read_at c.args.p.now c.self.inside.groups.items c.deref.result.now c.in-Some-point_place.place c.index_mut-group.result.now _ c.deref.ensures.value c.in-Some-point_place.ensures.within c.in-Some-point_place.ensures.read c.index_mut-group.ensures.value

pub returns-then-is_err-clause-refused : goal.returns-then-is_err-clause-refused
returns-then-is_err-clause-refused g c =
    let s = c.self.inside in
    let told = c.self.invariant.0.told in
    let v : Shown = shown_of s.seat s.trail.entries s.late s.closed s.groups.items s.lookback s.raising (g.D.Disk.calls s.disk) (g.D.Disk.faults s.disk) in
    let k = known_by g.B.Based.base g.B.Based.damaged v in
    let running : s.closed ≡ None = none_of s.closed (λ x is. search rules) in
    subst (λ (w : Shown). Refuses (read_cause g.B.Founded.sound) (known_by g.B.Based.base g.B.Based.damaged w) (record k { seen = c.reserve.new.self.entries }) Memory) c.self.view_is
    (subst (λ (es : List Entry). Refuses (read_cause g.B.Founded.sound) k (record k { seen = es }) Memory) (sym c.reserve.ensures.same)
    (no_memory k told.legal s.closed told.closing running g.B.Founded.sound))

pub invariant_of-self-in-Ok : goal.invariant_of-self-in-Ok
invariant_of-self-in-Ok g c =
    let s = c.self.inside in
    let place = c.in-Some-point_place.place in
    let running : s.closed ≡ None = none_of s.closed (λ x is. search rules) in
    let l : place < length s.groups.items = inside s.groups.items c.deref.result.now place c.deref.ensures.value c.in-Some-point_place.ensures.within in
    let kept = read_kept g.D.Disk s.disk c.look.new.disk c.look.ensures.only_read g.met.D.Disk.told g.met.D.Disk.up_to_now g.B.Based.base g.B.Founded.sound g.B.Founded.premise g.B.Founded.began s.catalog s.standing (slice_set s.groups.items place c.look.new.group) s.trail s.late s.closed
    (looked_kept g.D.Disk g.B.Based.base g.B.Founded.sound g.B.Founded.premise g.B.Founded.began s.disk s.catalog s.standing s.groups.items s.trail s.late s.closed c.self.invariant.0 place c.index_mut-group.result.now c.look.new.group l (sym c.index_mut-group.ensures.value) c.look.ensures.looked) running in
    let same : c.give_back.new.self.entries ≡ s.trail.entries = c.give_back.ensures.same ∙ c.reserve.ensures.same in (
      roomy g.D.Disk g.B.Based.base g.B.Founded.sound g.B.Founded.premise g.B.Founded.began c.look.new.disk s.catalog s.standing (slice_set s.groups.items place c.look.new.group) s.trail s.late s.closed kept c.give_back.new.self same
          (let r = c.give_back.ensures.room in let o : c.reserve.new.self.room ≡ s.trail.room + 1 = search rules in omega (arith, r, o)),
      (c.self.invariant.1.0, same_by_clock g.C.Clock g.B.Founded.times g.B.Based.base g.B.Founded.lookback s.lookback s.clock s.trail.entries c.self.invariant.1.1 c.give_back.new.self.entries same),
    )

pub returns-in-Ok-clause-ok : goal.returns-in-Ok-clause-ok
returns-in-Ok-clause-ok g c =
    let s = c.self.inside in
    let b = g.B.Based.base in
    let k = c.self.invariant.0 in
    let told = k.told in
    let v : Shown = shown_of s.seat s.trail.entries s.late s.closed s.groups.items s.lookback s.raising (g.D.Disk.calls s.disk) (g.D.Disk.faults s.disk) in
    let running : s.closed ≡ None = none_of s.closed (λ x is. search rules) in
    let l : c.in-Some-point_place.place < length s.groups.items = inside s.groups.items c.deref.result.now c.in-Some-point_place.place c.deref.ensures.value c.in-Some-point_place.ensures.within in
    let same : c.give_back.new.self.entries ≡ s.trail.entries = c.give_back.ensures.same ∙ c.reserve.ensures.same in
    subst (λ (u : Shown). DidLook g.B.Founded.sound (known_by b g.B.Based.damaged u) (known_by b g.B.Based.damaged (record v { entries = c.give_back.new.self.entries })) c.args.p.now c.args.path.now c.args.after.now c.chunk.result) c.self.view_is
    (subst (λ (es : List Entry). DidLook g.B.Founded.sound (known_by b g.B.Based.damaged v) (known_by b g.B.Based.damaged (record v { entries = es })) c.args.p.now c.args.path.now c.args.after.now c.chunk.result) (sym same)
    (did_look (known_by b g.B.Based.damaged v) told.legal s.closed told.closing running g.B.Founded.sound s.standing.indexes s.groups.items c.in-Some-point_place.place c.index_mut-group.result.now l (sym c.index_mut-group.ensures.value) (λ given. k.shown given running)
    c.args.p.now c.args.path.now c.args.after.now c.chunk.result c.in-Ok.next.found c.in-Ok.next.next c.chunk.ensures.0 c.chunk.ensures.1.0 (c.chunk.ensures.1.1 ∙ (c.len.ensures ∙ ap (length {A = Entry}) same)) c.in-Ok.ensures.keys c.in-Ok.ensures.rows))

pub returns-in-Ok-clause-versions : goal.returns-in-Ok-clause-versions
returns-in-Ok-clause-versions g c =
    let s = c.self.inside in
    (λ i by. subst (λ (u : Shown). AreOfIndexAt u.groups c.args.p.now c.args.path.now i c.args.after.now c.chunk.result.found c.chunk.result.next) c.self.view_is
    (versions_at c.args.p.now s.groups.items c.deref.result.now c.in-Some-point_place.place c.index_mut-group.result.now _ c.deref.ensures.value c.in-Some-point_place.ensures.within c.in-Some-point_place.ensures.read c.index_mut-group.ensures.value
    c.args.path.now i c.args.after.now c.in-Ok.next.found c.chunk.result.found c.chunk.ensures.0 c.in-Ok.next.next c.chunk.result.next c.chunk.ensures.1.0 (c.in-Ok.ensures.versions i by)))

pub returns-in-Ok-clause-no_row : goal.returns-in-Ok-clause-no_row
returns-in-Ok-clause-no_row g c = λ i by.
    let s = c.self.inside in
    let l : c.in-Some-point_place.place < length s.groups.items = inside s.groups.items c.deref.result.now c.in-Some-point_place.place c.deref.ensures.value c.in-Some-point_place.ensures.within in
    subst (λ (u : Shown). map rows_in (slice_set s.groups.items c.in-Some-point_place.place c.look.new.group) ≡ map rows_in u.groups) c.self.view_is
    (map_set rows_in s.groups.items c.in-Some-point_place.place c.index_mut-group.result.now c.look.new.group l (sym c.index_mut-group.ensures.value) (c.look.ensures.no_row i by))

pub returns-in-Err-clause-no_row : goal.returns-in-Err-clause-no_row
returns-in-Err-clause-no_row g c = λ i by.
    let s = c.self.inside in
    let l : c.in-Some-point_place.place < length s.groups.items = inside s.groups.items c.deref.result.now c.in-Some-point_place.place c.deref.ensures.value c.in-Some-point_place.ensures.within in
    subst (λ (u : Shown). map rows_in (slice_set s.groups.items c.in-Some-point_place.place c.look.new.group) ≡ map rows_in u.groups) c.self.view_is
    (map_set rows_in s.groups.items c.in-Some-point_place.place c.index_mut-group.result.now c.look.new.group l (sym c.index_mut-group.ensures.value) (c.look.ensures.no_row i by))

pub returns-in-Ok-clause-counted : goal.returns-in-Ok-clause-counted
returns-in-Ok-clause-counted g c =
    let s = c.self.inside in
    (subst (λ (u : Shown). HasCountedOf u.groups (slice_set s.groups.items c.in-Some-point_place.place c.look.new.group) c.args.p.now c.args.path.now.by (length c.chunk.result.found)) c.self.view_is
    (counted_at c.args.p.now s.groups.items c.deref.result.now c.in-Some-point_place.place c.index_mut-group.result.now _ c.look.new.group c.deref.ensures.value c.in-Some-point_place.ensures.within c.in-Some-point_place.ensures.read c.index_mut-group.ensures.value
    c.args.path.now.by c.in-Ok.next.found c.chunk.result.found c.chunk.ensures.0 c.in-Ok.ensures.counted))

pub returns-in-Ok-clause-risen : goal.returns-in-Ok-clause-risen
returns-in-Ok-clause-risen g c =
    let s = c.self.inside in
    let place = c.in-Some-point_place.place in
    let h = c.index_mut-group.result.now in
    let l : place < length s.groups.items = inside s.groups.items c.deref.result.now place c.deref.ensures.value c.in-Some-point_place.ensures.within in
    (λ by. subst (λ (u : Shown). HasRisenBy (length c.chunk.result.found) (rows_looked u.groups) (rows_looked (slice_set s.groups.items place c.look.new.group))) c.self.view_is
    (risen_at s.groups.items place h c.look.new.group l (sym c.index_mut-group.ensures.value) (length c.chunk.result.found)
    (subst (λ (fs : List FoundKey). HasCounted h.rows c.look.new.group.rows (length fs)) (sym c.chunk.ensures.0) (subst (λ (q : By). HasCountedBy h c.look.new.group q (length c.in-Ok.next.found)) by c.in-Ok.ensures.counted))))

pub returns-in-Ok-clause-doubts : goal.returns-in-Ok-clause-doubts
returns-in-Ok-clause-doubts g c =
    let s = c.self.inside in
    (found_doubts c.args.p.now s.groups.items c.deref.result.now c.in-Some-point_place.place c.index_mut-group.result.now _ c.look.new.group c.deref.ensures.value c.in-Some-point_place.ensures.within c.in-Some-point_place.ensures.read c.index_mut-group.ensures.value c.look.ensures.looked
    c.args.path.now c.args.after.now c.in-Ok.next.found c.chunk.result.found c.chunk.ensures.0 c.in-Ok.next.next c.in-Ok.ensures.keys.doubts c.in-Ok.ensures.versions)

-- ---- the calls of the disk

pub returns-in-Ok-clause-counts : goal.returns-in-Ok-clause-counts
returns-in-Ok-clause-counts g c = none_by c.self.view_is c.look.ensures.only_read.calls c.look.ensures.only_read.faults

pub returns-in-Err-clause-counts : goal.returns-in-Err-clause-counts
returns-in-Err-clause-counts g c = none_by c.self.view_is c.look.ensures.only_read.calls c.look.ensures.only_read.faults

-- ---- why nothing was read

pub invariant_of-self-in-Err : goal.invariant_of-self-in-Err
invariant_of-self-in-Err g c =
    let s = c.self.inside in
    let place = c.in-Some-point_place.place in
    let running : s.closed ≡ None = none_of s.closed (λ x is. search rules) in
    let l : place < length s.groups.items = inside s.groups.items c.deref.result.now place c.deref.ensures.value c.in-Some-point_place.ensures.within in
    let kept = read_kept g.D.Disk s.disk c.look.new.disk c.look.ensures.only_read g.met.D.Disk.told g.met.D.Disk.up_to_now g.B.Based.base g.B.Founded.sound g.B.Founded.premise g.B.Founded.began s.catalog s.standing (slice_set s.groups.items place c.look.new.group) s.trail s.late s.closed
    (looked_kept g.D.Disk g.B.Based.base g.B.Founded.sound g.B.Founded.premise g.B.Founded.began s.disk s.catalog s.standing s.groups.items s.trail s.late s.closed c.self.invariant.0 place c.index_mut-group.result.now c.look.new.group l (sym c.index_mut-group.ensures.value) c.look.ensures.looked) running in
    let tells = subst (λ (es : List Entry). TellsFault s.seat c.call_count-calls.result es c.told.new.trail.entries c.unread.result c.told.result) c.reserve.ensures.same c.told.ensures.told in (
      told_set g.D.Disk g.met.D.Disk.told g.met.D.Disk.up_to_now g.B.Based.base g.B.Founded.sound g.B.Founded.premise g.B.Founded.began c.look.new.disk s.catalog s.standing s.groups.items place c.look.new.group l s.trail s.late s.closed kept running s.seat c.call_count-calls.result c.call_count-calls.ensures
          c.told.new.trail (let r = c.told.ensures.room in let o : c.reserve.new.self.room ≡ s.trail.room + 1 = search rules in omega (arith, r, o)) c.unread.result c.told.result
          (λ same. failed_rose g.D.Disk s.disk c.look.new.disk (c.look.ensures.failed (c.in-Err.is ∙ ap Err (unread_was c.in-Err.fault (sym c.unread.ensures ∙ same))))) tells,
      (c.self.invariant.1.0, told_by_clock g.C.Clock g.B.Founded.times g.B.Based.base g.B.Founded.lookback s.lookback s.clock s.trail.entries c.self.invariant.1.1 s.seat c.call_count-calls.result c.told.new.trail.entries c.unread.result c.told.result tells),
    )

pub returns-in-Err-clause-refused : goal.returns-in-Err-clause-refused
returns-in-Err-clause-refused g c =
    let s = c.self.inside in
    let b = g.B.Based.base in
    let told = c.self.invariant.0.told in
    let running : s.closed ≡ None = none_of s.closed (λ x is. search rules) in
    let v : Shown = shown_of s.seat s.trail.entries s.late s.closed s.groups.items s.lookback s.raising (g.D.Disk.calls s.disk) (g.D.Disk.faults s.disk) in
    let k = known_by b g.B.Based.damaged v in
    let tells = subst (λ (es : List Entry). TellsFault s.seat c.call_count-calls.result es c.told.new.trail.entries c.unread.result c.told.result) c.reserve.ensures.same c.told.ensures.told in
    subst (λ (u : Shown). Refuses (read_cause g.B.Founded.sound) (known_by b g.B.Based.damaged u) (record k { seen = c.told.new.trail.entries }) c.told.result) c.self.view_is
    (unread_refused k told.legal (told.closing ∙ running) g.B.Founded.sound c.call_count-calls.result c.told.new.trail.entries (invariant_of-self-in-Err g c).0.told.legal
    c.in-Err.fault (λ file at same. c.look.ensures.undamaged file at (c.in-Err.is ∙ ap Err same)) c.unread.result c.unread.ensures c.told.result tells)

pub returns-in-Err-clause-blames : goal.returns-in-Err-clause-blames
returns-in-Err-clause-blames g c =
    let s = c.self.inside in
    let new : Shown = record c.args.self.now { calls = g.D.Disk.calls c.look.new.disk; faults = g.D.Disk.faults c.look.new.disk } in
    let failed : c.in-Err.fault ≡ look.ReadFault → HasFailedIn c.args.self.now new = λ same. rose_by g.D.Disk s.disk c.look.new.disk (c.look.ensures.failed (c.in-Err.is ∙ ap Err same)) c.self.view_is refl in
    told_as (Blames c.args.self.now new) s.seat c.call_count-calls.result c.reserve.new.self.entries c.told.new.trail.entries c.unread.result c.told.result c.told.ensures.told (λ same. failed (unread_was c.in-Err.fault (sym c.unread.ensures ∙ same))) tt
    (subst (Blames c.args.self.now new) (sym c.unread.ensures) (unread_blames c.args.self.now new c.in-Err.fault failed))
