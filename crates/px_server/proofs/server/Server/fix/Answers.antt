use Rattle.std.proofs.Common.{rules, ◌≡◌, ◌∙◌, ◌<◌, None, List, length, sym, subst, arith}
use Rattle.std.proofs.Common.{◌≢◌, true, ◌≤◌, ◌+◌, ◌++◌, ◌∷◌, [], ap, get_or, inl, Some, Err, refl}
use Rattle.std.specs.Prelude.{IfErr, IfOk, Option, ℕ}
use Rattle.std.specs.List.{AllByRecursion, slice_set}
use Rattle.px_calls.specs.Calls.{DidFix, Finds, IsInFlight}
use Rattle.px_calls.specs.Causes.{Refuses, fix_cause}
use Rattle.px_calls.specs.declared.fault.StepFault.TheVariants.{Closed, Memory}
use Rattle.px_trail.specs.declared.entry.Entry.{Entry}
use Rattle.px_calls.specs.declared.query.Fixing.TheVariants.{Fixed as AsFixed, Gone}
use Rattle.px_group.specs.declared.group.Group.{Group}
use Rattle.px_pointreads.specs.Points.{GroupLacksIndex}
use Rattle.px_server.specs.Looks.{rows_looked}
use Rattle.px_server.specs.Sights.{have_doubt}
use Rattle.px_calls.specs.Doubtful.{IndexVersion, IsForRoom, version_of}
use Rattle.px_calls.specs.declared.query.Point.{Point}
use Rattle.px_server.specs.Repairs.{Mends, RefusesFix, AddsNoEntry}
use Rattle.px_server.specs.Kept.{IsKept}
use Rattle.px_repairs.specs.Refused.{RefusesRepair}
use Rattle.px_repairs.specs.Repairs.{Fixes}
use Rattle.px_repairs.proofs.Handing.{got_some}
use Rattle.px_calls.specs.Known.{Adds}
use Rattle.px_calls.specs.declared.query.Fixing.{Fixing}
use Rattle.px_trail.specs.declared.entry.Act.TheVariants.{Fixed as FixedAct, Shut as ShutAct}
use Rattle.px_trail.specs.Legal.{IsLegal}
use Rattle.px_server.proofs.Seen.{one_more}
use Rattle.px_server.specs.Shown.{Shown, known_by, shown_of}
use Rattle.px_server.proofs.Fixes.{doubt_at, answers_caused, answers_ok, answers_refused, failed_kept, failed_of, fix_stayed, fixed_flight, fixed_kept, fixed_mends, fixed_of, missed_of, stayed, stayed_flight, stayed_mends}
use Rattle.px_server.proofs.Found.{closed_by}
use Rattle.px_server.proofs.Lists.{sum_set}
use Rattle.px_server.proofs.ReadAt.{finds, inside}
use Rattle.px_server.proofs.OnlyRead.{read_kept}
use Rattle.px_server.proofs.Released.{none_of}
use Rattle.px_server.proofs.Reserved.{roomy}
use Rattle.px_server.proofs.Seen.{stays}
use Rattle.px_server.proofs.Sighted.{answers_there, fixed_others, none_there, others_told, stayed_doubts, still_told}
use Rattle.px_server.proofs.Stamping.{more_by_clock, same_by_clock}
use Rattle.px_server.specs.DeviceCalls.{Blames}
use Rattle.px_server.specs.inner.Missing.{Misses}
use Rattle.px_server.proofs.Blamed.{failed_rose}
use Rattle.px_server.proofs.DeviceCalls.{few_by, made_by, rose_by, fixed_passes, answered_blames}
use Rattle.px_server.proofs.Missed.{misses_as, misses_by_clock, misses_refused, misses_set}
use Rattle.px_repairs.specs.declared.repairing.RepairFault.TheVariants.{ReadFault}
use Rattle.px_server.proofs.server.Server.fix.Goals as goal

pub returns-in-Some-clause-refused : goal.returns-in-Some-clause-refused
returns-in-Some-clause-refused g c =
    let s = c.self.inside in
    let told = c.self.invariant.0.told in
    let v : Shown = shown_of s.seat s.trail.entries s.late s.closed s.groups.items s.lookback s.raising (g.D.Disk.calls s.disk) (g.D.Disk.faults s.disk) in
    subst (λ (w : Shown). Refuses (fix_cause g.B.Founded.sound) (known_by g.B.Based.base g.B.Based.damaged w) (known_by g.B.Based.base g.B.Based.damaged w) (Closed c.in-Some.call)) c.self.view_is
    (closed_by (known_by g.B.Based.base g.B.Based.damaged v) told.legal s.closed told.closing c.in-Some.call c.in-Some.is)

pub returns-in_default-doubt_place-clause-ok : goal.returns-in_default-doubt_place-clause-ok
returns-in_default-doubt_place-clause-ok g c =
    let s = c.self.inside in
    let told = c.self.invariant.0.told in
    let v : Shown = shown_of s.seat s.trail.entries s.late s.closed s.groups.items s.lookback s.raising (g.D.Disk.calls s.disk) (g.D.Disk.faults s.disk) in
    let running : s.closed ≡ None = none_of s.closed (λ x is. search rules) in
    subst (λ (w : Shown). Finds (known_by g.B.Based.base g.B.Based.damaged w) (known_by g.B.Based.base g.B.Based.damaged w)) c.self.view_is
    (finds (known_by g.B.Based.base g.B.Based.damaged v) told.legal s.closed told.closing running)

pub returns-in_default-doubt_place-clause-fixes : goal.returns-in_default-doubt_place-clause-fixes
returns-in_default-doubt_place-clause-fixes g c = subst (λ (w : Shown). Mends w.groups w.groups c.args.d.now Gone) c.self.view_is (inl (subst (AllByRecursion (GroupLacksIndex c.args.d.now.index)) c.deref.ensures.value c.in_default-doubt_place.ensures.none))

pub returns-in_default-copied-clause-refused : goal.returns-in_default-copied-clause-refused
returns-in_default-copied-clause-refused g c =
    let s = c.self.inside in
    let told = c.self.invariant.0.told in
    let v : Shown = shown_of s.seat s.trail.entries s.late s.closed s.groups.items s.lookback s.raising (g.D.Disk.calls s.disk) (g.D.Disk.faults s.disk) in
    let running : s.closed ≡ None = none_of s.closed (λ x is. search rules) in
    subst (λ (w : Shown). Refuses (fix_cause g.B.Founded.sound) (known_by g.B.Based.base g.B.Based.damaged w) (known_by g.B.Based.base g.B.Based.damaged w) Memory) c.self.view_is
    (tt, stays (known_by g.B.Based.base g.B.Based.damaged v) told.legal, told.closing ∙ running)

pub index-requires : goal.index-requires
index-requires g c = (let l = (doubt_at c.self.inside.groups.items c.deref.result.now c.in-Some-doubt_place.at.group c.in-Some-doubt_place.at.index c.args.d.now.index c.index_mut-group.result.now _ c.deref.ensures.value c.in-Some-doubt_place.ensures.within c.in-Some-doubt_place.ensures.numbered c.index_mut-group.ensures.value).0 in let o = c.index_mut-group.result.now.indexes.ok.0 in omega arith)

pub fix-fixed-requires-clause-there : goal.fix-fixed-requires-clause-there
fix-fixed-requires-clause-there g c = (doubt_at c.self.inside.groups.items c.deref.result.now c.in-Some-doubt_place.at.group c.in-Some-doubt_place.at.index c.args.d.now.index c.index_mut-group.result.now _ c.deref.ensures.value c.in-Some-doubt_place.ensures.within c.in-Some-doubt_place.ensures.numbered c.index_mut-group.ensures.value).0

pub returns-then-is_err-clause-refused : goal.returns-then-is_err-clause-refused
returns-then-is_err-clause-refused g c =
    let s = c.self.inside in
    let b = g.B.Based.base in
    let k = c.self.invariant.0 in
    let told = k.told in
    let v : Shown = shown_of s.seat s.trail.entries s.late s.closed s.groups.items s.lookback s.raising (g.D.Disk.calls s.disk) (g.D.Disk.faults s.disk) in
    let running : s.closed ≡ None = none_of s.closed (λ x is. search rules) in
    subst (λ (w : Shown). Refuses (fix_cause g.B.Founded.sound) (known_by b g.B.Based.damaged w) (known_by b g.B.Based.damaged (record v { entries = c.reserve.new.self.entries })) Memory) c.self.view_is
    (subst (λ (es : List Entry). Refuses (fix_cause g.B.Founded.sound) (known_by b g.B.Based.damaged v) (known_by b g.B.Based.damaged (record v { entries = es })) Memory) (sym c.reserve.ensures.same)
    (tt, stays (known_by b g.B.Based.damaged v) told.legal, told.closing ∙ running))

pub invariant_of-self-then-has_stayed : goal.invariant_of-self-then-has_stayed
invariant_of-self-then-has_stayed g c =
    let s = c.self.inside in
    let b = g.B.Based.base in
    let k = c.self.invariant.0 in
    let told = k.told in
    let v : Shown = shown_of s.seat s.trail.entries s.late s.closed s.groups.items s.lookback s.raising (g.D.Disk.calls s.disk) (g.D.Disk.faults s.disk) in
    let running : s.closed ≡ None = none_of s.closed (λ x is. search rules) in
    let l : c.in-Some-doubt_place.at.group < length s.groups.items = inside s.groups.items c.deref.result.now c.in-Some-doubt_place.at.group c.deref.ensures.value c.in-Some-doubt_place.ensures.within in
    let named = (doubt_at s.groups.items c.deref.result.now c.in-Some-doubt_place.at.group c.in-Some-doubt_place.at.index c.args.d.now.index c.index_mut-group.result.now _ c.deref.ensures.value c.in-Some-doubt_place.ensures.within c.in-Some-doubt_place.ensures.numbered c.index_mut-group.ensures.value).1 in
    let here : AddsNoEntry c.fix-fixed.result = search rules in
    let h = stayed g.D.Disk c.index_mut-group.result.now c.fix-fixed.new.group s.disk c.fix-fixed.new.disk c.in-Some-doubt_place.at.index c.as_slice.result.now c.args.d.now.stamp c.fix-fixed.result here c.fix-fixed.ensures.fixes in (
      roomy g.D.Disk b g.B.Founded.sound g.B.Founded.premise g.B.Founded.began c.fix-fixed.new.disk s.catalog s.standing (slice_set s.groups.items c.in-Some-doubt_place.at.group c.fix-fixed.new.group) s.trail s.late s.closed
          (fix_stayed g.D.Disk g.met.D.Disk.told g.met.D.Disk.up_to_now b g.B.Founded.sound g.B.Founded.premise g.B.Founded.began s.disk s.catalog s.standing s.groups.items s.trail s.late s.closed k running c.in-Some-doubt_place.at.group c.index_mut-group.result.now c.fix-fixed.new.group l (sym c.index_mut-group.ensures.value) c.fix-fixed.new.disk h)
          c.give_back.new.self (c.give_back.ensures.same ∙ c.reserve.ensures.same) (let r = c.give_back.ensures.room in let o : c.reserve.new.self.room ≡ s.trail.room + 1 = search rules in omega (arith, r, o)),
      (c.self.invariant.1.0, same_by_clock g.C.Clock g.B.Founded.times g.B.Based.base g.B.Founded.lookback s.lookback s.clock s.trail.entries c.self.invariant.1.1 c.give_back.new.self.entries (c.give_back.ensures.same ∙ c.reserve.ensures.same)),
    )

pub returns-then-has_stayed-clause-ok : goal.returns-then-has_stayed-clause-ok
returns-then-has_stayed-clause-ok g c =
    let s = c.self.inside in
    let b = g.B.Based.base in
    let k = c.self.invariant.0 in
    let told = k.told in
    let v : Shown = shown_of s.seat s.trail.entries s.late s.closed s.groups.items s.lookback s.raising (g.D.Disk.calls s.disk) (g.D.Disk.faults s.disk) in
    let running : s.closed ≡ None = none_of s.closed (λ x is. search rules) in
    let l : c.in-Some-doubt_place.at.group < length s.groups.items = inside s.groups.items c.deref.result.now c.in-Some-doubt_place.at.group c.deref.ensures.value c.in-Some-doubt_place.ensures.within in
    let named = (doubt_at s.groups.items c.deref.result.now c.in-Some-doubt_place.at.group c.in-Some-doubt_place.at.index c.args.d.now.index c.index_mut-group.result.now _ c.deref.ensures.value c.in-Some-doubt_place.ensures.within c.in-Some-doubt_place.ensures.numbered c.index_mut-group.ensures.value).1 in
    let here : AddsNoEntry c.fix-fixed.result = search rules in
    let h = stayed g.D.Disk c.index_mut-group.result.now c.fix-fixed.new.group s.disk c.fix-fixed.new.disk c.in-Some-doubt_place.at.index c.as_slice.result.now c.args.d.now.stamp c.fix-fixed.result here c.fix-fixed.ensures.fixes in
    let same : c.as_slice.result.now ≡ c.args.d.now.key = search rules in
    let fixes = subst (λ (kk : List ℕ). Fixes g.D.Disk c.index_mut-group.result.now c.fix-fixed.new.group s.disk c.fix-fixed.new.disk c.in-Some-doubt_place.at.index kk c.args.d.now.stamp c.fix-fixed.result) same c.fix-fixed.ensures.fixes in
    subst (λ (w : Shown). IfOk c.answered.result (DidFix (known_by b g.B.Based.damaged w) (known_by b g.B.Based.damaged (record v { entries = c.give_back.new.self.entries })) c.args.d.now)) c.self.view_is
    (subst (λ (es : List Entry). IfOk c.answered.result (DidFix (known_by b g.B.Based.damaged v) (known_by b g.B.Based.damaged (record v { entries = es })) c.args.d.now)) (sym (c.give_back.ensures.same ∙ c.reserve.ensures.same))
    (answers_ok g.D.Disk c.index_mut-group.result.now c.fix-fixed.new.group s.disk c.fix-fixed.new.disk c.in-Some-doubt_place.at.index c.number-region.result (known_by b g.B.Based.damaged v) (known_by b g.B.Based.damaged v) c.args.d.now
    (finds (known_by b g.B.Based.damaged v) told.legal s.closed told.closing running)
    (stayed_flight g.D.Disk g.met.D.Disk.told g.met.D.Disk.up_to_now b g.B.Founded.sound g.B.Founded.premise g.B.Founded.began s.disk s.catalog s.standing s.groups.items s.trail s.late s.closed k running c.in-Some-doubt_place.at.group c.index_mut-group.result.now c.fix-fixed.new.group l (sym c.index_mut-group.ensures.value) c.fix-fixed.new.disk h c.in-Some-doubt_place.at.index c.args.d.now named)
    c.fix-fixed.result here fixes c.answered.result c.answered.ensures))

pub returns-then-has_stayed-clause-fixes : goal.returns-then-has_stayed-clause-fixes
returns-then-has_stayed-clause-fixes g c =
    let s = c.self.inside in
    let l : c.in-Some-doubt_place.at.group < length s.groups.items = inside s.groups.items c.deref.result.now c.in-Some-doubt_place.at.group c.deref.ensures.value c.in-Some-doubt_place.ensures.within in
    let named = doubt_at s.groups.items c.deref.result.now c.in-Some-doubt_place.at.group c.in-Some-doubt_place.at.index c.args.d.now.index c.index_mut-group.result.now _ c.deref.ensures.value c.in-Some-doubt_place.ensures.within c.in-Some-doubt_place.ensures.numbered c.index_mut-group.ensures.value in
    let here : AddsNoEntry c.fix-fixed.result = search rules in
    let same : c.as_slice.result.now ≡ c.args.d.now.key = search rules in
    let fixes = subst (λ (kk : List ℕ). Fixes g.D.Disk c.index_mut-group.result.now c.fix-fixed.new.group s.disk c.fix-fixed.new.disk c.in-Some-doubt_place.at.index kk c.args.d.now.stamp c.fix-fixed.result) same c.fix-fixed.ensures.fixes in
    subst (λ (w : Shown). IfOk c.answered.result (Mends w.groups (slice_set s.groups.items c.in-Some-doubt_place.at.group c.fix-fixed.new.group) c.args.d.now)) c.self.view_is
    (stayed_mends g.D.Disk s.groups.items c.in-Some-doubt_place.at.group c.index_mut-group.result.now c.fix-fixed.new.group l (sym c.index_mut-group.ensures.value) s.disk c.fix-fixed.new.disk c.in-Some-doubt_place.at.index c.args.d.now named.0 named.1 c.number-region.result c.fix-fixed.result here fixes c.answered.result c.answered.ensures)

pub returns-then-has_stayed-clause-refused : goal.returns-then-has_stayed-clause-refused
returns-then-has_stayed-clause-refused g c =
    let s = c.self.inside in
    let b = g.B.Based.base in
    let k = c.self.invariant.0 in
    let told = k.told in
    let v : Shown = shown_of s.seat s.trail.entries s.late s.closed s.groups.items s.lookback s.raising (g.D.Disk.calls s.disk) (g.D.Disk.faults s.disk) in
    let running : s.closed ≡ None = none_of s.closed (λ x is. search rules) in
    let l : c.in-Some-doubt_place.at.group < length s.groups.items = inside s.groups.items c.deref.result.now c.in-Some-doubt_place.at.group c.deref.ensures.value c.in-Some-doubt_place.ensures.within in
    let named = (doubt_at s.groups.items c.deref.result.now c.in-Some-doubt_place.at.group c.in-Some-doubt_place.at.index c.args.d.now.index c.index_mut-group.result.now _ c.deref.ensures.value c.in-Some-doubt_place.ensures.within c.in-Some-doubt_place.ensures.numbered c.index_mut-group.ensures.value).1 in
    let here : AddsNoEntry c.fix-fixed.result = search rules in
    let h = stayed g.D.Disk c.index_mut-group.result.now c.fix-fixed.new.group s.disk c.fix-fixed.new.disk c.in-Some-doubt_place.at.index c.as_slice.result.now c.args.d.now.stamp c.fix-fixed.result here c.fix-fixed.ensures.fixes in
    subst (λ (w : Shown). IfErr c.answered.result (Refuses (fix_cause g.B.Founded.sound) (known_by b g.B.Based.damaged w) (known_by b g.B.Based.damaged (record v { entries = c.give_back.new.self.entries })))) c.self.view_is
    (subst (λ (es : List Entry). IfErr c.answered.result (Refuses (fix_cause g.B.Founded.sound) (known_by b g.B.Based.damaged v) (known_by b g.B.Based.damaged (record v { entries = es })))) (sym (c.give_back.ensures.same ∙ c.reserve.ensures.same))
    (answers_refused g.D.Disk c.index_mut-group.result.now c.fix-fixed.new.group s.disk c.fix-fixed.new.disk c.in-Some-doubt_place.at.index c.number-region.result (known_by b g.B.Based.damaged v) (known_by b g.B.Based.damaged v) c.args.d.now
    (finds (known_by b g.B.Based.damaged v) told.legal s.closed told.closing running)
    (stayed_flight g.D.Disk g.met.D.Disk.told g.met.D.Disk.up_to_now b g.B.Founded.sound g.B.Founded.premise g.B.Founded.began s.disk s.catalog s.standing s.groups.items s.trail s.late s.closed k running c.in-Some-doubt_place.at.group c.index_mut-group.result.now c.fix-fixed.new.group l (sym c.index_mut-group.ensures.value) c.fix-fixed.new.disk h c.in-Some-doubt_place.at.index c.args.d.now named)
    g.B.Founded.sound c.fix-fixed.result c.fix-fixed.ensures.undamaged here c.answered.result c.answered.ensures))

pub returns-then-has_stayed-clause-caused : goal.returns-then-has_stayed-clause-caused
returns-then-has_stayed-clause-caused g c =
    let s = c.self.inside in
    let place = c.in-Some-doubt_place.at.group in
    let at = c.in-Some-doubt_place.at.index in
    let h = c.index_mut-group.result.now in
    let x = c.index.result.now in
    let l : place < length s.groups.items = inside s.groups.items c.deref.result.now place c.deref.ensures.value c.in-Some-doubt_place.ensures.within in
    let named = doubt_at s.groups.items c.deref.result.now place at c.args.d.now.index h _ c.deref.ensures.value c.in-Some-doubt_place.ensures.within c.in-Some-doubt_place.ensures.numbered c.index_mut-group.ensures.value in
    let there = got_some h.indexes.items at x x named.0 c.index.ensures in
    let same : c.as_slice.result.now ≡ c.args.d.now.key = search rules in
    subst (λ (w : Shown). IfErr c.answered.result (RefusesFix w.groups c.args.d.now)) c.self.view_is
    (answers_caused s.groups.items place h (got_some s.groups.items place h h l c.index_mut-group.ensures.value) at x there c.args.d.now (named.1 x there) c.number-region.result c.number-region.ensures c.fix-fixed.result
    (λ fault is. subst (λ (kk : List ℕ). RefusesRepair h at x kk c.args.d.now.stamp fault) same (c.fix-fixed.ensures.cause fault x is there)) c.answered.result c.answered.ensures)

pub invariant_of-self-in-Ok-fixed : goal.invariant_of-self-in-Ok-fixed
invariant_of-self-in-Ok-fixed g c =
    let s = c.self.inside in
    let b = g.B.Based.base in
    let k = c.self.invariant.0 in
    let told = k.told in
    let v : Shown = shown_of s.seat s.trail.entries s.late s.closed s.groups.items s.lookback s.raising (g.D.Disk.calls s.disk) (g.D.Disk.faults s.disk) in
    let running : s.closed ≡ None = none_of s.closed (λ x is. search rules) in
    let l : c.in-Some-doubt_place.at.group < length s.groups.items = inside s.groups.items c.deref.result.now c.in-Some-doubt_place.at.group c.deref.ensures.value c.in-Some-doubt_place.ensures.within in
    let named = (doubt_at s.groups.items c.deref.result.now c.in-Some-doubt_place.at.group c.in-Some-doubt_place.at.index c.args.d.now.index c.index_mut-group.result.now _ c.deref.ensures.value c.in-Some-doubt_place.ensures.within c.in-Some-doubt_place.ensures.numbered c.index_mut-group.ensures.value).1 in
    let never : AddsNoEntry c.fix-fixed.result → ⊥ = λ st. search rules in
    let f = (fixed_of g.D.Disk c.index_mut-group.result.now c.fix-fixed.new.group s.disk c.fix-fixed.new.disk c.in-Some-doubt_place.at.index c.as_slice.result.now c.args.d.now.stamp c.fix-fixed.result c.in-Ok-fixed.fixing never c.in-Ok-fixed.is c.fix-fixed.ensures.fixes).0 in
    let o : c.reserve.new.self.room ≡ s.trail.room + 1 = search rules in
    let p = c.push.ensures.room in (
      fixed_kept g.D.Disk g.met.D.Disk.told g.met.D.Disk.up_to_now b g.B.Founded.sound g.B.Founded.premise g.B.Founded.began s.disk s.catalog s.standing s.groups.items s.trail s.late s.closed k running c.in-Some-doubt_place.at.group c.index_mut-group.result.now c.fix-fixed.new.group l (sym c.index_mut-group.ensures.value) c.fix-fixed.new.disk
          c.in-Some-doubt_place.at.index c.as_slice.result.now c.args.d.now.stamp f s.seat c.call_count-calls.result c.args.d.now.index c.in-Ok.key named c.call_count-calls.ensures c.push.new.self (c.push.ensures.entries ∙ ap (λ (es : List Entry). es ++ (record { seat = s.seat; calls = c.call_count-calls.result; act = FixedAct c.args.d.now.index c.in-Ok.key }) ∷ []) c.reserve.ensures.same) (omega (arith, o, p)),
      (c.self.invariant.1.0, more_by_clock g.C.Clock g.B.Founded.times g.B.Based.base g.B.Founded.lookback s.lookback s.clock s.trail.entries c.self.invariant.1.1 c.push.new.self.entries (record { seat = s.seat; calls = c.call_count-calls.result; act = FixedAct c.args.d.now.index c.in-Ok.key }) (c.push.ensures.entries ∙ ap (λ (es : List Entry). es ++ (record { seat = s.seat; calls = c.call_count-calls.result; act = FixedAct c.args.d.now.index c.in-Ok.key }) ∷ []) c.reserve.ensures.same) refl),
    )

pub returns-in-Ok-fixed-clause-ok : goal.returns-in-Ok-fixed-clause-ok
returns-in-Ok-fixed-clause-ok g c =
    let s = c.self.inside in
    let b = g.B.Based.base in
    let k = c.self.invariant.0 in
    let told = k.told in
    let v : Shown = shown_of s.seat s.trail.entries s.late s.closed s.groups.items s.lookback s.raising (g.D.Disk.calls s.disk) (g.D.Disk.faults s.disk) in
    let running : s.closed ≡ None = none_of s.closed (λ x is. search rules) in
    let l : c.in-Some-doubt_place.at.group < length s.groups.items = inside s.groups.items c.deref.result.now c.in-Some-doubt_place.at.group c.deref.ensures.value c.in-Some-doubt_place.ensures.within in
    let named = (doubt_at s.groups.items c.deref.result.now c.in-Some-doubt_place.at.group c.in-Some-doubt_place.at.index c.args.d.now.index c.index_mut-group.result.now _ c.deref.ensures.value c.in-Some-doubt_place.ensures.within c.in-Some-doubt_place.ensures.numbered c.index_mut-group.ensures.value).1 in
    let never : AddsNoEntry c.fix-fixed.result → ⊥ = λ st. search rules in
    let same : c.as_slice.result.now ≡ c.args.d.now.key = search rules in
    let fixes = subst (λ (kk : List ℕ). Fixes g.D.Disk c.index_mut-group.result.now c.fix-fixed.new.group s.disk c.fix-fixed.new.disk c.in-Some-doubt_place.at.index kk c.args.d.now.stamp c.fix-fixed.result) same c.fix-fixed.ensures.fixes in
    let f = fixed_of g.D.Disk c.index_mut-group.result.now c.fix-fixed.new.group s.disk c.fix-fixed.new.disk c.in-Some-doubt_place.at.index c.args.d.now.key c.args.d.now.stamp c.fix-fixed.result c.in-Ok-fixed.fixing never c.in-Ok-fixed.is fixes in
    let key_is : c.in-Ok.key ≡ c.args.d.now.key = search rules in
    let v' : Shown = record v { entries = c.push.new.self.entries } in
    let pushed : c.push.new.self.entries ≡ s.trail.entries ++ (record { seat = s.seat; calls = c.call_count-calls.result; act = FixedAct c.args.d.now.index c.in-Ok.key }) ∷ [] = c.push.ensures.entries ∙ ap (λ (es : List Entry). es ++ (record { seat = s.seat; calls = c.call_count-calls.result; act = FixedAct c.args.d.now.index c.in-Ok.key }) ∷ []) c.reserve.ensures.same in
    let adds = one_more (known_by b g.B.Based.damaged v) c.push.new.self.entries c.call_count-calls.result (FixedAct c.args.d.now.index c.in-Ok.key) told.legal pushed (invariant_of-self-in-Ok-fixed g c).0.told.legal in
    let es' : List Entry = s.trail.entries ++ (record { seat = s.seat; calls = c.call_count-calls.result; act = FixedAct c.args.d.now.index c.in-Ok.key }) ∷ [] in
    let flight : IsInFlight b c.push.new.self.entries c.args.d.now → ⊥ = subst (λ (es : List Entry). IsInFlight b es c.args.d.now → ⊥) (sym pushed)
    (fixed_flight g.D.Disk g.met.D.Disk.told g.met.D.Disk.up_to_now b g.B.Founded.sound g.B.Founded.premise g.B.Founded.began s.disk s.catalog s.standing s.groups.items s.trail s.late s.closed k running c.in-Some-doubt_place.at.group c.index_mut-group.result.now c.fix-fixed.new.group l (sym c.index_mut-group.ensures.value) c.fix-fixed.new.disk
    c.in-Some-doubt_place.at.index c.args.d.now f.0 named s.seat c.call_count-calls.result c.args.d.now.index c.in-Ok.key (subst (λ (es : List Entry). IsLegal b es) pushed (invariant_of-self-in-Ok-fixed g c).0.told.legal)) in
    subst (λ (w : Shown). DidFix (known_by b g.B.Based.damaged w) (known_by b g.B.Based.damaged v') c.args.d.now c.in-Ok-fixed.fixing) c.self.view_is
    (subst (λ (x : Fixing). DidFix (known_by b g.B.Based.damaged v) (known_by b g.B.Based.damaged v') c.args.d.now x) (sym f.1)
    (subst (λ (kk : List ℕ). Adds (known_by b g.B.Based.damaged v) (known_by b g.B.Based.damaged v') (FixedAct c.args.d.now.index kk)) key_is adds, flight))

pub returns-in-Ok-fixed-clause-fixes : goal.returns-in-Ok-fixed-clause-fixes
returns-in-Ok-fixed-clause-fixes g c =
    let s = c.self.inside in
    let l : c.in-Some-doubt_place.at.group < length s.groups.items = inside s.groups.items c.deref.result.now c.in-Some-doubt_place.at.group c.deref.ensures.value c.in-Some-doubt_place.ensures.within in
    let named = doubt_at s.groups.items c.deref.result.now c.in-Some-doubt_place.at.group c.in-Some-doubt_place.at.index c.args.d.now.index c.index_mut-group.result.now _ c.deref.ensures.value c.in-Some-doubt_place.ensures.within c.in-Some-doubt_place.ensures.numbered c.index_mut-group.ensures.value in
    let never : AddsNoEntry c.fix-fixed.result → ⊥ = λ st. search rules in
    let same : c.as_slice.result.now ≡ c.args.d.now.key = search rules in
    let fixes = subst (λ (kk : List ℕ). Fixes g.D.Disk c.index_mut-group.result.now c.fix-fixed.new.group s.disk c.fix-fixed.new.disk c.in-Some-doubt_place.at.index kk c.args.d.now.stamp c.fix-fixed.result) same c.fix-fixed.ensures.fixes in
    let f = fixed_of g.D.Disk c.index_mut-group.result.now c.fix-fixed.new.group s.disk c.fix-fixed.new.disk c.in-Some-doubt_place.at.index c.args.d.now.key c.args.d.now.stamp c.fix-fixed.result c.in-Ok-fixed.fixing never c.in-Ok-fixed.is fixes in
    let then : List Group = slice_set s.groups.items c.in-Some-doubt_place.at.group c.fix-fixed.new.group in
    subst (λ (w : Shown). Mends w.groups then c.args.d.now c.in-Ok-fixed.fixing) c.self.view_is
    (subst (Mends s.groups.items then c.args.d.now) (sym f.1)
    (fixed_mends g.D.Disk s.groups.items c.in-Some-doubt_place.at.group c.index_mut-group.result.now c.fix-fixed.new.group l (sym c.index_mut-group.ensures.value) s.disk c.fix-fixed.new.disk c.in-Some-doubt_place.at.index c.args.d.now named.0 named.1 f.0))

pub invariant_of-self-in-Err : goal.invariant_of-self-in-Err
invariant_of-self-in-Err g c =
    let s = c.self.inside in
    let b = g.B.Based.base in
    let k = c.self.invariant.0 in
    let told = k.told in
    let v : Shown = shown_of s.seat s.trail.entries s.late s.closed s.groups.items s.lookback s.raising (g.D.Disk.calls s.disk) (g.D.Disk.faults s.disk) in
    let running : s.closed ≡ None = none_of s.closed (λ x is. search rules) in
    let l : c.in-Some-doubt_place.at.group < length s.groups.items = inside s.groups.items c.deref.result.now c.in-Some-doubt_place.at.group c.deref.ensures.value c.in-Some-doubt_place.ensures.within in
    let named = (doubt_at s.groups.items c.deref.result.now c.in-Some-doubt_place.at.group c.in-Some-doubt_place.at.index c.args.d.now.index c.index_mut-group.result.now _ c.deref.ensures.value c.in-Some-doubt_place.ensures.within c.in-Some-doubt_place.ensures.numbered c.index_mut-group.ensures.value).1 in
    let never : AddsNoEntry c.fix-fixed.result → ⊥ = λ st. search rules in
    let unread : c.fix-fixed.result ≡ Err ReadFault → ⊥ = λ same. search rules in
    let f = (failed_of g.D.Disk c.index_mut-group.result.now c.fix-fixed.new.group s.disk c.fix-fixed.new.disk c.in-Some-doubt_place.at.index c.as_slice.result.now c.args.d.now.stamp c.fix-fixed.result c.in-Err.field-0 never unread c.in-Err.is c.fix-fixed.ensures.fixes) in
    let read = read_kept g.D.Disk s.disk f.0.read f.0.reads g.met.D.Disk.told g.met.D.Disk.up_to_now b g.B.Founded.sound g.B.Founded.premise g.B.Founded.began s.catalog s.standing s.groups.items s.trail s.late s.closed k running in
    let o : c.reserve.new.self.room ≡ s.trail.room + 1 = search rules in
    let p = c.shut.ensures.room in
    let unlate : s.late ≡ None = k.server.unlate running in
    let shut : Entry = record { seat = s.seat; calls = c.call_count-calls.result; act = ShutAct c.call_count-calls.result } in (
      subst (λ (la : Option Entry). IsKept g.D.Disk b g.B.Founded.sound g.B.Founded.premise g.B.Founded.began c.fix-fixed.new.disk s.catalog s.standing (slice_set s.groups.items c.in-Some-doubt_place.at.group c.fix-fixed.new.group) c.shut.new.trail la (Some c.call_count-calls.result)) (sym unlate)
          (failed_kept g.D.Disk g.met.D.Disk.told g.met.D.Disk.up_to_now b g.B.Founded.sound g.B.Founded.premise g.B.Founded.began f.0.read s.catalog s.standing s.groups.items s.trail s.late s.closed read running c.in-Some-doubt_place.at.group c.index_mut-group.result.now c.fix-fixed.new.group l (sym c.index_mut-group.ensures.value) c.fix-fixed.new.disk
          c.in-Some-doubt_place.at.index c.as_slice.result.now c.args.d.now.stamp f.0.looked f.0.has f.0.kept f.0.due f.0.hands shut c.call_count-calls.result refl c.call_count-calls.ensures f.0.rose c.shut.new.trail (c.shut.ensures.entries ∙ ap (λ (es : List Entry). es ++ shut ∷ []) c.reserve.ensures.same) (omega (arith, o, p))),
      (c.self.invariant.1.0, more_by_clock g.C.Clock g.B.Founded.times g.B.Based.base g.B.Founded.lookback s.lookback s.clock s.trail.entries c.self.invariant.1.1 c.shut.new.trail.entries shut (c.shut.ensures.entries ∙ ap (λ (es : List Entry). es ++ shut ∷ []) c.reserve.ensures.same) refl),
    )

pub returns-in-Err-clause-refused : goal.returns-in-Err-clause-refused
returns-in-Err-clause-refused g c =
    let s = c.self.inside in
    let b = g.B.Based.base in
    let k = c.self.invariant.0 in
    let told = k.told in
    let v : Shown = shown_of s.seat s.trail.entries s.late s.closed s.groups.items s.lookback s.raising (g.D.Disk.calls s.disk) (g.D.Disk.faults s.disk) in
    let running : s.closed ≡ None = none_of s.closed (λ x is. search rules) in
    let shut : Entry = record { seat = s.seat; calls = c.call_count-calls.result; act = ShutAct c.call_count-calls.result } in
    let pushed : c.shut.new.trail.entries ≡ s.trail.entries ++ shut ∷ [] = c.shut.ensures.entries ∙ ap (λ (es : List Entry). es ++ shut ∷ []) c.reserve.ensures.same in
    let v' : Shown = record v { entries = c.shut.new.trail.entries } in (
      tt,
      (
        c.call_count-calls.result,
        subst (λ (w : Shown). Adds (known_by b g.B.Based.damaged w) (known_by b g.B.Based.damaged v') (ShutAct c.call_count-calls.result)) c.self.view_is
            (one_more (known_by b g.B.Based.damaged v) c.shut.new.trail.entries c.call_count-calls.result (ShutAct c.call_count-calls.result) told.legal pushed (invariant_of-self-in-Err g c).0.told.legal),
      ),
    )

-- at most one row of a table was looked at
counted_by : (groups : List Group) (place : ℕ) (g g' : Group) → place < length groups → get_or groups place g ≡ g → g'.rows.looked ≤ g.rows.looked + 1 → rows_looked (slice_set groups place g') ≤ rows_looked groups + 1
counted_by groups place g g' l is more = sum_set (λ (h : Group). h.rows.looked) groups place g g' l is more

pub returns-then-has_stayed-clause-counted : goal.returns-then-has_stayed-clause-counted
returns-then-has_stayed-clause-counted g c =
    let s = c.self.inside in
    let l : c.in-Some-doubt_place.at.group < length s.groups.items = inside s.groups.items c.deref.result.now c.in-Some-doubt_place.at.group c.deref.ensures.value c.in-Some-doubt_place.ensures.within in
    subst (λ (u : Shown). rows_looked (slice_set s.groups.items c.in-Some-doubt_place.at.group c.fix-fixed.new.group) ≤ rows_looked u.groups + 1) c.self.view_is
    (counted_by s.groups.items c.in-Some-doubt_place.at.group c.index_mut-group.result.now c.fix-fixed.new.group l (sym c.index_mut-group.ensures.value) c.fix-fixed.ensures.counted)

pub returns-in-Ok-fixed-clause-counted : goal.returns-in-Ok-fixed-clause-counted
returns-in-Ok-fixed-clause-counted g c =
    let s = c.self.inside in
    let l : c.in-Some-doubt_place.at.group < length s.groups.items = inside s.groups.items c.deref.result.now c.in-Some-doubt_place.at.group c.deref.ensures.value c.in-Some-doubt_place.ensures.within in
    subst (λ (u : Shown). rows_looked (slice_set s.groups.items c.in-Some-doubt_place.at.group c.fix-fixed.new.group) ≤ rows_looked u.groups + 1) c.self.view_is
    (counted_by s.groups.items c.in-Some-doubt_place.at.group c.index_mut-group.result.now c.fix-fixed.new.group l (sym c.index_mut-group.ensures.value) c.fix-fixed.ensures.counted)

pub returns-in-Err-clause-counted : goal.returns-in-Err-clause-counted
returns-in-Err-clause-counted g c =
    let s = c.self.inside in
    let l : c.in-Some-doubt_place.at.group < length s.groups.items = inside s.groups.items c.deref.result.now c.in-Some-doubt_place.at.group c.deref.ensures.value c.in-Some-doubt_place.ensures.within in
    subst (λ (u : Shown). rows_looked (slice_set s.groups.items c.in-Some-doubt_place.at.group c.fix-fixed.new.group) ≤ rows_looked u.groups + 1) c.self.view_is
    (counted_by s.groups.items c.in-Some-doubt_place.at.group c.index_mut-group.result.now c.fix-fixed.new.group l (sym c.index_mut-group.ensures.value) c.fix-fixed.ensures.counted)

-- ---- a read failed

pub invariant_of-self-then-has_missed : goal.invariant_of-self-then-has_missed
invariant_of-self-then-has_missed g c =
    let s = c.self.inside in
    let b = g.B.Based.base in
    let k = c.self.invariant.0 in
    let place = c.in-Some-doubt_place.at.group in
    let running : s.closed ≡ None = none_of s.closed (λ x is. search rules) in
    let l : place < length s.groups.items = inside s.groups.items c.deref.result.now place c.deref.ensures.value c.in-Some-doubt_place.ensures.within in
    let missed : c.fix-fixed.result ≡ Err ReadFault = search rules in
    let h = missed_of g.D.Disk c.index_mut-group.result.now c.fix-fixed.new.group s.disk c.fix-fixed.new.disk c.in-Some-doubt_place.at.index c.as_slice.result.now c.args.d.now.stamp c.fix-fixed.result missed c.fix-fixed.ensures.fixes in
    let o : c.reserve.new.self.room ≡ s.trail.room + 1 = search rules in
    let told = subst (λ (es : List Entry). Misses s.seat c.call_count-calls.result es c.miss.new.trail.entries c.miss.result) c.reserve.ensures.same c.miss.ensures.told in (
      misses_set g.D.Disk g.met.D.Disk.told g.met.D.Disk.up_to_now b g.B.Founded.sound g.B.Founded.premise g.B.Founded.began c.fix-fixed.new.disk s.catalog s.standing s.groups.items place c.fix-fixed.new.group l s.trail s.late s.closed
          (fix_stayed g.D.Disk g.met.D.Disk.told g.met.D.Disk.up_to_now b g.B.Founded.sound g.B.Founded.premise g.B.Founded.began s.disk s.catalog s.standing s.groups.items s.trail s.late s.closed k running place c.index_mut-group.result.now c.fix-fixed.new.group l (sym c.index_mut-group.ensures.value) c.fix-fixed.new.disk h)
          running s.seat c.call_count-calls.result c.call_count-calls.ensures c.miss.new.trail (let r = c.miss.ensures.room in omega (arith, r, o)) c.miss.result (failed_rose g.D.Disk s.disk c.fix-fixed.new.disk (c.fix-fixed.ensures.read_failed missed)) told,
      (c.self.invariant.1.0, misses_by_clock g.C.Clock g.B.Founded.times g.B.Based.base g.B.Founded.lookback s.lookback s.clock s.trail.entries c.self.invariant.1.1 s.seat c.call_count-calls.result c.miss.new.trail.entries c.miss.result told),
    )

pub returns-then-has_missed-clause-refused : goal.returns-then-has_missed-clause-refused
returns-then-has_missed-clause-refused g c =
    let s = c.self.inside in
    let b = g.B.Based.base in
    let told = c.self.invariant.0.told in
    let running : s.closed ≡ None = none_of s.closed (λ x is. search rules) in
    let v : Shown = shown_of s.seat s.trail.entries s.late s.closed s.groups.items s.lookback s.raising (g.D.Disk.calls s.disk) (g.D.Disk.faults s.disk) in
    let k = known_by b g.B.Based.damaged v in
    let tells = subst (λ (es : List Entry). Misses s.seat c.call_count-calls.result es c.miss.new.trail.entries c.miss.result) c.reserve.ensures.same c.miss.ensures.told in
    subst (λ (w : Shown). Refuses (fix_cause g.B.Founded.sound) (known_by b g.B.Based.damaged w) (record k { seen = c.miss.new.trail.entries }) c.miss.result) c.self.view_is
    (misses_refused k told.legal (told.closing ∙ running) (fix_cause g.B.Founded.sound) c.call_count-calls.result c.miss.new.trail.entries (invariant_of-self-then-has_missed g c).0.told.legal c.miss.result tells (λ entries. tt) tt)

pub returns-then-has_missed-clause-caused : goal.returns-then-has_missed-clause-caused
returns-then-has_missed-clause-caused g c = misses_as (RefusesFix c.args.self.now.groups c.args.d.now) c.self.inside.seat c.call_count-calls.result c.reserve.new.self.entries c.miss.new.trail.entries c.miss.result c.miss.ensures.told tt tt

pub returns-then-has_missed-clause-counted : goal.returns-then-has_missed-clause-counted
returns-then-has_missed-clause-counted g c =
    let s = c.self.inside in
    let l : c.in-Some-doubt_place.at.group < length s.groups.items = inside s.groups.items c.deref.result.now c.in-Some-doubt_place.at.group c.deref.ensures.value c.in-Some-doubt_place.ensures.within in
    subst (λ (u : Shown). rows_looked (slice_set s.groups.items c.in-Some-doubt_place.at.group c.fix-fixed.new.group) ≤ rows_looked u.groups + 1) c.self.view_is
    (counted_by s.groups.items c.in-Some-doubt_place.at.group c.index_mut-group.result.now c.fix-fixed.new.group l (sym c.index_mut-group.ensures.value) c.fix-fixed.ensures.counted)

pub returns-then-has_missed-clause-still : goal.returns-then-has_missed-clause-still
returns-then-has_missed-clause-still g c =
    let s = c.self.inside in
    let after : List Group = slice_set s.groups.items c.in-Some-doubt_place.at.group c.fix-fixed.new.group in
    misses_as (λ f. IsForRoom f → (p : Point) (v : IndexVersion) → have_doubt after p v ≡ have_doubt c.args.self.now.groups p v) s.seat c.call_count-calls.result c.reserve.new.self.entries c.miss.new.trail.entries c.miss.result c.miss.ensures.told (λ room. absurd room) (λ room. absurd room)

pub returns-then-has_missed-clause-counts : goal.returns-then-has_missed-clause-counts
returns-then-has_missed-clause-counts g c = made_by g.D.Disk c.self.inside.disk c.fix-fixed.new.disk (fixed_passes g.D.Disk c.self.inside.disk c.fix-fixed.new.disk c.index_mut-group.result.now c.fix-fixed.new.group c.in-Some-doubt_place.at.index c.as_slice.result.now c.args.d.now.stamp c.fix-fixed.result c.fix-fixed.ensures.fixes) (omega arith) c.self.view_is refl refl refl refl

pub returns-then-has_missed-clause-blames : goal.returns-then-has_missed-clause-blames
returns-then-has_missed-clause-blames g c =
    let s = c.self.inside in
    let new : Shown = record c.args.self.now { calls = g.D.Disk.calls c.fix-fixed.new.disk; faults = g.D.Disk.faults c.fix-fixed.new.disk } in
    let missed : c.fix-fixed.result ≡ Err ReadFault = search rules in
    misses_as (Blames c.args.self.now new) s.seat c.call_count-calls.result c.reserve.new.self.entries c.miss.new.trail.entries c.miss.result c.miss.ensures.told (rose_by g.D.Disk s.disk c.fix-fixed.new.disk (c.fix-fixed.ensures.read_failed missed) c.self.view_is refl) tt

-- ---- what is in doubt

pub returns-in-Some-clause-still : goal.returns-in-Some-clause-still
returns-in-Some-clause-still g c = λ room. absurd room

pub returns-in_default-copied-clause-still : goal.returns-in_default-copied-clause-still
returns-in_default-copied-clause-still g c = λ room. absurd room

pub returns-then-is_err-clause-still : goal.returns-then-is_err-clause-still
returns-then-is_err-clause-still g c = λ room. absurd room

pub returns-in-Err-clause-still : goal.returns-in-Err-clause-still
returns-in-Err-clause-still g c = λ room. absurd room

pub returns-in_default-doubt_place-clause-others : goal.returns-in_default-doubt_place-clause-others
returns-in_default-doubt_place-clause-others g c = λ given p v apart. refl

pub returns-in_default-doubt_place-clause-there : goal.returns-in_default-doubt_place-clause-there
returns-in_default-doubt_place-clause-there g c =
    let s = c.self.inside in
    subst (λ (w : Shown). (p : Point) → have_doubt w.groups p (version_of c.args.d.now) ≡ true → Gone ≢ Gone) c.self.view_is
    (λ p had same. none_there s.groups.items c.args.d.now (subst (AllByRecursion (GroupLacksIndex c.args.d.now.index)) c.deref.ensures.value c.in_default-doubt_place.ensures.none) p had)

pub returns-then-has_stayed-clause-there : goal.returns-then-has_stayed-clause-there
returns-then-has_stayed-clause-there g c =
    let s = c.self.inside in
    let b = g.B.Based.base in
    let k = c.self.invariant.0 in
    let place = c.in-Some-doubt_place.at.group in
    let at = c.in-Some-doubt_place.at.index in
    let h = c.index_mut-group.result.now in
    let h' = c.fix-fixed.new.group in
    let running : s.closed ≡ None = none_of s.closed (λ x is. search rules) in
    let l : place < length s.groups.items = inside s.groups.items c.deref.result.now place c.deref.ensures.value c.in-Some-doubt_place.ensures.within in
    let named = doubt_at s.groups.items c.deref.result.now place at c.args.d.now.index h _ c.deref.ensures.value c.in-Some-doubt_place.ensures.within c.in-Some-doubt_place.ensures.numbered c.index_mut-group.ensures.value in
    let same : c.as_slice.result.now ≡ c.args.d.now.key = search rules in
    let fixes = subst (λ (kk : List ℕ). Fixes g.D.Disk h h' s.disk c.fix-fixed.new.disk at kk c.args.d.now.stamp c.fix-fixed.result) same c.fix-fixed.ensures.fixes in
    let here : AddsNoEntry c.fix-fixed.result = search rules in
    subst (λ (w : Shown). IfOk c.answered.result (λ f. (p : Point) → have_doubt w.groups p (version_of c.args.d.now) ≡ true → f ≢ Gone)) c.self.view_is
    (answers_there g.D.Disk b g.B.Founded.sound g.B.Founded.premise g.B.Founded.began s.disk s.catalog s.standing s.groups.items s.trail s.late s.closed k running place h h' l (sym c.index_mut-group.ensures.value) c.fix-fixed.new.disk at c.args.d.now named.0 named.1 c.number-region.result c.fix-fixed.result here fixes c.answered.result c.answered.ensures)

pub returns-then-has_stayed-clause-others : goal.returns-then-has_stayed-clause-others
returns-then-has_stayed-clause-others g c =
    let s = c.self.inside in
    let b = g.B.Based.base in
    let k = c.self.invariant.0 in
    let place = c.in-Some-doubt_place.at.group in
    let at = c.in-Some-doubt_place.at.index in
    let h = c.index_mut-group.result.now in
    let h' = c.fix-fixed.new.group in
    let running : s.closed ≡ None = none_of s.closed (λ x is. search rules) in
    let l : place < length s.groups.items = inside s.groups.items c.deref.result.now place c.deref.ensures.value c.in-Some-doubt_place.ensures.within in
    let here : AddsNoEntry c.fix-fixed.result = search rules in
    let h-stayed = stayed g.D.Disk h h' s.disk c.fix-fixed.new.disk at c.as_slice.result.now c.args.d.now.stamp c.fix-fixed.result here c.fix-fixed.ensures.fixes in
    subst (λ (w : Shown). IfOk c.answered.result (λ f. g.B.Founded.sound → (p : Point) (v : IndexVersion) → v.key ≢ c.args.d.now.key → have_doubt (slice_set s.groups.items place h') p v ≡ have_doubt w.groups p v)) c.self.view_is
    (others_told (g.B.Founded.sound → (p : Point) (v : IndexVersion) → v.key ≢ c.args.d.now.key → have_doubt (slice_set s.groups.items place h') p v ≡ have_doubt s.groups.items p v)
    (λ given p v apart. stayed_doubts g.D.Disk b g.B.Founded.sound g.B.Founded.premise g.B.Founded.began s.disk s.catalog s.standing s.groups.items s.trail s.late s.closed k running place h h' l (sym c.index_mut-group.ensures.value) c.fix-fixed.new.disk h-stayed p v) c.answered.result)

pub returns-then-has_stayed-clause-still : goal.returns-then-has_stayed-clause-still
returns-then-has_stayed-clause-still g c =
    let s = c.self.inside in
    let b = g.B.Based.base in
    let k = c.self.invariant.0 in
    let place = c.in-Some-doubt_place.at.group in
    let at = c.in-Some-doubt_place.at.index in
    let h = c.index_mut-group.result.now in
    let h' = c.fix-fixed.new.group in
    let running : s.closed ≡ None = none_of s.closed (λ x is. search rules) in
    let l : place < length s.groups.items = inside s.groups.items c.deref.result.now place c.deref.ensures.value c.in-Some-doubt_place.ensures.within in
    let here : AddsNoEntry c.fix-fixed.result = search rules in
    let h-stayed = stayed g.D.Disk h h' s.disk c.fix-fixed.new.disk at c.as_slice.result.now c.args.d.now.stamp c.fix-fixed.result here c.fix-fixed.ensures.fixes in
    subst (λ (w : Shown). IfErr c.answered.result (λ f. IsForRoom f → (p : Point) (v : IndexVersion) → have_doubt (slice_set s.groups.items place h') p v ≡ have_doubt w.groups p v)) c.self.view_is
    (still_told ((p : Point) (v : IndexVersion) → have_doubt (slice_set s.groups.items place h') p v ≡ have_doubt s.groups.items p v)
    (λ p v. stayed_doubts g.D.Disk b g.B.Founded.sound g.B.Founded.premise g.B.Founded.began s.disk s.catalog s.standing s.groups.items s.trail s.late s.closed k running place h h' l (sym c.index_mut-group.ensures.value) c.fix-fixed.new.disk h-stayed p v) c.answered.result)

not_gone : (x : Fixing) → x ≡ AsFixed → x ≢ Gone
not_gone x fixed gone = (let z : ◌≡◌ {A = Fixing} AsFixed Gone = sym fixed ∙ gone in cc)

pub returns-in-Ok-fixed-clause-there : goal.returns-in-Ok-fixed-clause-there
returns-in-Ok-fixed-clause-there g c = λ p had.
    let s = c.self.inside in
    let never : AddsNoEntry c.fix-fixed.result → ⊥ = λ st. search rules in
    let f = fixed_of g.D.Disk c.index_mut-group.result.now c.fix-fixed.new.group s.disk c.fix-fixed.new.disk c.in-Some-doubt_place.at.index c.as_slice.result.now c.args.d.now.stamp c.fix-fixed.result c.in-Ok-fixed.fixing never c.in-Ok-fixed.is c.fix-fixed.ensures.fixes in
    not_gone c.in-Ok-fixed.fixing f.1

pub returns-in-Ok-fixed-clause-others : goal.returns-in-Ok-fixed-clause-others
returns-in-Ok-fixed-clause-others g c =
    let s = c.self.inside in
    let b = g.B.Based.base in
    let k = c.self.invariant.0 in
    let place = c.in-Some-doubt_place.at.group in
    let at = c.in-Some-doubt_place.at.index in
    let h = c.index_mut-group.result.now in
    let h' = c.fix-fixed.new.group in
    let running : s.closed ≡ None = none_of s.closed (λ x is. search rules) in
    let l : place < length s.groups.items = inside s.groups.items c.deref.result.now place c.deref.ensures.value c.in-Some-doubt_place.ensures.within in
    let same : c.as_slice.result.now ≡ c.args.d.now.key = search rules in
    let fixes = subst (λ (kk : List ℕ). Fixes g.D.Disk h h' s.disk c.fix-fixed.new.disk at kk c.args.d.now.stamp c.fix-fixed.result) same c.fix-fixed.ensures.fixes in
    let never : AddsNoEntry c.fix-fixed.result → ⊥ = λ st. search rules in
    let f = fixed_of g.D.Disk h h' s.disk c.fix-fixed.new.disk at c.args.d.now.key c.args.d.now.stamp c.fix-fixed.result c.in-Ok-fixed.fixing never c.in-Ok-fixed.is fixes in
    subst (λ (w : Shown). g.B.Founded.sound → (p : Point) (v : IndexVersion) → v.key ≢ c.args.d.now.key → have_doubt (slice_set s.groups.items place h') p v ≡ have_doubt w.groups p v) c.self.view_is
    (λ given p v apart. fixed_others g.D.Disk b g.B.Founded.sound g.B.Founded.premise g.B.Founded.began s.disk s.catalog s.standing s.groups.items s.trail s.late s.closed k running place h h' l (sym c.index_mut-group.ensures.value) given c.fix-fixed.new.disk at c.args.d.now.key c.args.d.now.stamp f.0 p v apart)

-- ---- the calls of the disk

pub returns-then-has_stayed-clause-counts : goal.returns-then-has_stayed-clause-counts
returns-then-has_stayed-clause-counts g c = made_by g.D.Disk c.self.inside.disk c.fix-fixed.new.disk (fixed_passes g.D.Disk c.self.inside.disk c.fix-fixed.new.disk c.index_mut-group.result.now c.fix-fixed.new.group c.in-Some-doubt_place.at.index c.as_slice.result.now c.args.d.now.stamp c.fix-fixed.result c.fix-fixed.ensures.fixes) (omega arith) c.self.view_is refl refl refl refl

pub returns-in-Ok-fixed-clause-counts : goal.returns-in-Ok-fixed-clause-counts
returns-in-Ok-fixed-clause-counts g c = made_by g.D.Disk c.self.inside.disk c.fix-fixed.new.disk (fixed_passes g.D.Disk c.self.inside.disk c.fix-fixed.new.disk c.index_mut-group.result.now c.fix-fixed.new.group c.in-Some-doubt_place.at.index c.as_slice.result.now c.args.d.now.stamp c.fix-fixed.result c.fix-fixed.ensures.fixes) (omega arith) c.self.view_is refl refl refl refl

pub returns-in-Err-clause-counts : goal.returns-in-Err-clause-counts
returns-in-Err-clause-counts g c = made_by g.D.Disk c.self.inside.disk c.fix-fixed.new.disk (fixed_passes g.D.Disk c.self.inside.disk c.fix-fixed.new.disk c.index_mut-group.result.now c.fix-fixed.new.group c.in-Some-doubt_place.at.index c.as_slice.result.now c.args.d.now.stamp c.fix-fixed.result c.fix-fixed.ensures.fixes) (omega arith) c.self.view_is refl refl refl refl

pub returns-then-is_err-clause-counts : goal.returns-then-is_err-clause-counts
returns-then-is_err-clause-counts g c = few_by c.self.view_is refl refl

pub returns-then-has_stayed-clause-blames : goal.returns-then-has_stayed-clause-blames
returns-then-has_stayed-clause-blames g c = answered_blames c.args.self.now (record c.args.self.now { calls = g.D.Disk.calls c.fix-fixed.new.disk; faults = g.D.Disk.faults c.fix-fixed.new.disk }) c.number-region.result c.fix-fixed.result c.answered.result (search rules) c.answered.ensures

pub returns-in-Err-clause-blames : goal.returns-in-Err-clause-blames
returns-in-Err-clause-blames g c = rose_by g.D.Disk c.self.inside.disk c.fix-fixed.new.disk (c.fix-fixed.ensures.failed (failed_of g.D.Disk c.index_mut-group.result.now c.fix-fixed.new.group c.self.inside.disk c.fix-fixed.new.disk c.in-Some-doubt_place.at.index c.as_slice.result.now c.args.d.now.stamp c.fix-fixed.result c.in-Err.field-0 (λ st. search rules) (λ same. search rules) c.in-Err.is c.fix-fixed.ensures.fixes).1) c.self.view_is refl
