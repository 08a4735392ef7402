use Rattle.std.proofs.Common.{rules, ◌≡◌, ◌<◌, ◌≤◌, ◌+◌, ◌∙◌, None, Some, Err, Option, List, [], ◌∷◌, ◌++◌, length, get_or, slice_get, refl, sym, ap, subst, arith}
use Rattle.std.specs.List.{slice_set}
use Rattle.px_values.specs.declared.row.Value.{Value}
use Rattle.px_trail.specs.Trail.{table_of}
use Rattle.px_trail.specs.declared.entry.Act.TheVariants.{Based as BasedAct, Shut as ShutAct}
use Rattle.px_trail.specs.declared.entry.Entry.{Entry}
use Rattle.px_calls.specs.Calls.{DidBase}
use Rattle.px_calls.specs.Causes.{Refuses, base_cause}
use Rattle.px_calls.specs.Known.{Adds}
use Rattle.px_calls.specs.Requires.{MayBase}
use Rattle.px_calls.specs.declared.fault.StepFault.TheVariants.{Closed, Memory}
use Rattle.px_calls.specs.declared.query.BaseRow.{BaseRow}
use Rattle.px_group.specs.declared.group.Group.{Group}
use Rattle.px_group.specs.declared.group.IndexRegion.{IndexRegion}
use Rattle.px_basing.specs.declared.fault.BaseFault.TheVariants.{WriteFault}
use Rattle.px_baserows.specs.Rows.{owners_in}
use Rattle.px_standing.proofs.Looked.{lacks}
use Rattle.px_region.specs.OnlyRead.{HasOnlyRead}
use Rattle.px_region.proofs.OnlyRead.{reads_none}
use Rattle.px_repairs.specs.Repairs.{HasOnlyLooked}
use Rattle.px_repairs.proofs.Handing.{got_some}
use Rattle.px_server.specs.Kept.{IsKept}
use Rattle.px_server.specs.Shown.{Shown, known_by, shown_of}
use Rattle.px_server.proofs.Acted.{right_at}
use Rattle.px_server.specs.Bases.{RefusesBases}
use Rattle.px_server.proofs.Based.{bases_failed, bases_stayed, bases_written, based_kept, did_base, given, got_ok, index_there, refuses_bases, there_at, unbased_kept, unbased_refused}
use Rattle.px_server.proofs.Fixes.{fix_stayed}
use Rattle.px_server.proofs.Found.{closed_by}
use Rattle.px_server.proofs.Released.{group_of, none_of, place_in}
use Rattle.px_server.proofs.Reserved.{roomy, same_there}
use Rattle.px_server.proofs.Seen.{one_more, stays}
use Rattle.px_server.proofs.Stamping.{more_by_clock, same_by_clock}
use Rattle.px_server.proofs.DeviceCalls.{unbased_blames, made_by, rose_by, based_passes}
use Rattle.px_server.proofs.server.Server.base.Goals as goal

pub returns-in-Some-clause-refused : goal.returns-in-Some-clause-refused
returns-in-Some-clause-refused g c =
    let s = c.self.inside in
    let b = g.B.Based.base in
    let k = c.self.invariant.0 in
    let told = k.told in
    let v : Shown = shown_of s.seat s.trail.entries s.late s.closed s.groups.items s.lookback s.raising (g.D.Disk.calls s.disk) (g.D.Disk.faults s.disk) in
    subst (λ (w : Shown). Refuses base_cause (known_by b g.B.Based.damaged w) (known_by b g.B.Based.damaged w) (Closed c.in-Some.call)) c.self.view_is
    (closed_by (known_by b g.B.Based.damaged v) told.legal s.closed told.closing c.in-Some.call c.in-Some.is)

pub unreachable-requires : goal.unreachable-requires
unreachable-requires g c =
    let s = c.self.inside in
    let b = g.B.Based.base in
    let k = c.self.invariant.0 in
    let told = k.told in
    let v : Shown = shown_of s.seat s.trail.entries s.late s.closed s.groups.items s.lookback s.raising (g.D.Disk.calls s.disk) (g.D.Disk.faults s.disk) in
    let may : MayBase g.B.Founded.sound (known_by b g.B.Based.damaged v) c.args.p.now c.args.index.0 c.args.rows.now = subst (λ (w : Shown). MayBase g.B.Founded.sound (known_by b g.B.Based.damaged w) c.args.p.now c.args.index.0 c.args.rows.now) (sym c.self.view_is) c.requires.rows in
    let none : table_of b s.trail.entries c.args.p.now.table.0 ≡ None = lacks b s.trail.entries s.standing told.agrees c.args.p.now.table.0 c.in_default-numbered_place.ensures.none in
    (let z : None ≡ Some may.table = sym none ∙ may.table_is in cc)

pub unreachable-requires-in_default-index_place : goal.unreachable-requires-in_default-index_place
unreachable-requires-in_default-index_place g c =
    let s = c.self.inside in
    let b = g.B.Based.base in
    let k = c.self.invariant.0 in
    let told = k.told in
    let v : Shown = shown_of s.seat s.trail.entries s.late s.closed s.groups.items s.lookback s.raising (g.D.Disk.calls s.disk) (g.D.Disk.faults s.disk) in
    let running : s.closed ≡ None = none_of s.closed (λ x is. search rules) in
    let may : MayBase g.B.Founded.sound (known_by b g.B.Based.damaged v) c.args.p.now c.args.index.0 c.args.rows.now = subst (λ (w : Shown). MayBase g.B.Founded.sound (known_by b g.B.Based.damaged w) c.args.p.now c.args.index.0 c.args.rows.now) (sym c.self.view_is) c.requires.rows in
    let place = c.in-Some-numbered_place.place in
    let l : place < length s.groups.items = place_in s.groups.items s.standing.tables k.each.stand place c.in-Some-numbered_place.ensures.found in
    let h = c.index.result.now in
    let h_is : get_or s.groups.items place h ≡ h = sym c.index.ensures in
    let own : h.table.id ≡ c.args.p.now.table = group_of s.groups.items s.standing.tables k.each.stand place h l h_is c.args.p.now.table c.in-Some-numbered_place.ensures.numbered in
    index_there g.D.Disk g.met.D.Disk.told g.met.D.Disk.up_to_now b g.B.Founded.sound g.B.Founded.premise g.B.Founded.began s.disk s.catalog s.standing s.groups.items s.trail s.late s.closed k running place h l h_is s.seat g.B.Based.damaged c.args.p.now own c.args.index c.args.rows.now may c.in_default-index_place.ensures.none

pub returns-then-is_err-clause-refused : goal.returns-then-is_err-clause-refused
returns-then-is_err-clause-refused g c =
    let s = c.self.inside in
    let b = g.B.Based.base in
    let k = c.self.invariant.0 in
    let told = k.told in
    let v : Shown = shown_of s.seat s.trail.entries s.late s.closed s.groups.items s.lookback s.raising (g.D.Disk.calls s.disk) (g.D.Disk.faults s.disk) in
    let running : s.closed ≡ None = none_of s.closed (λ x is. search rules) in
    subst (λ (w : Shown). Refuses base_cause (known_by b g.B.Based.damaged w) (known_by b g.B.Based.damaged (record v { entries = c.reserve.new.self.entries })) Memory) c.self.view_is
    (subst (λ (es : List Entry). Refuses base_cause (known_by b g.B.Based.damaged v) (known_by b g.B.Based.damaged (record v { entries = es })) Memory) (sym c.reserve.ensures.same)
    (tt, stays (known_by b g.B.Based.damaged v) told.legal, told.closing ∙ running))

pub base-based-requires-clause-right : goal.base-based-requires-clause-right
base-based-requires-clause-right g c =
    let s = c.self.inside in
    let b = g.B.Based.base in
    let k = c.self.invariant.0 in
    let told = k.told in
    let v : Shown = shown_of s.seat s.trail.entries s.late s.closed s.groups.items s.lookback s.raising (g.D.Disk.calls s.disk) (g.D.Disk.faults s.disk) in
    let running : s.closed ≡ None = none_of s.closed (λ x is. search rules) in
    let place = c.in-Some-numbered_place.place in
    let l : place < length s.groups.items = place_in s.groups.items s.standing.tables k.each.stand place c.in-Some-numbered_place.ensures.found in
    let h = c.index_mut.result.now in
    let h_is : get_or s.groups.items place h ≡ h = sym c.index_mut.ensures.value in
    let own : h.table.id ≡ c.args.p.now.table = group_of s.groups.items s.standing.tables k.each.stand place h l h_is c.args.p.now.table c.in-Some-numbered_place.ensures.numbered in
    right_at g.D.Disk b g.B.Founded.sound g.B.Founded.premise g.B.Founded.began s.disk s.catalog s.standing s.groups.items s.trail s.late s.closed k place h l h_is running

pub base-based-requires-clause-there : goal.base-based-requires-clause-there
base-based-requires-clause-there g c =
    let s = c.self.inside in
    let b = g.B.Based.base in
    let k = c.self.invariant.0 in
    let told = k.told in
    let v : Shown = shown_of s.seat s.trail.entries s.late s.closed s.groups.items s.lookback s.raising (g.D.Disk.calls s.disk) (g.D.Disk.faults s.disk) in
    let place = c.in-Some-numbered_place.place in
    let l : place < length s.groups.items = place_in s.groups.items s.standing.tables k.each.stand place c.in-Some-numbered_place.ensures.found in
    let h = c.index_mut.result.now in
    let h_is : get_or s.groups.items place h ≡ h = sym c.index_mut.ensures.value in
    let own : h.table.id ≡ c.args.p.now.table = group_of s.groups.items s.standing.tables k.each.stand place h l h_is c.args.p.now.table c.in-Some-numbered_place.ensures.numbered in
    let at = c.in-Some-index_place.at in
    let one : c.index.result.now ≡ h = same_there s.groups.items place c.index.result.now h l (sym c.index.ensures) h_is in
    let named : (x : IndexRegion) → slice_get h.indexes.items at ≡ Some x → x.index.id ≡ c.args.index = λ x there. c.in-Some-index_place.ensures.found.1 x (ap (λ (y : Group). slice_get y.indexes.items at) one ∙ there) in
    subst (λ (y : Group). at < length y.indexes.items) one c.in-Some-index_place.ensures.found.0

pub base-based-requires-clause-rows : goal.base-based-requires-clause-rows
base-based-requires-clause-rows g c =
    let s = c.self.inside in
    let b = g.B.Based.base in
    let k = c.self.invariant.0 in
    let told = k.told in
    let v : Shown = shown_of s.seat s.trail.entries s.late s.closed s.groups.items s.lookback s.raising (g.D.Disk.calls s.disk) (g.D.Disk.faults s.disk) in
    let running : s.closed ≡ None = none_of s.closed (λ x is. search rules) in
    let may : MayBase g.B.Founded.sound (known_by b g.B.Based.damaged v) c.args.p.now c.args.index.0 c.args.rows.now = subst (λ (w : Shown). MayBase g.B.Founded.sound (known_by b g.B.Based.damaged w) c.args.p.now c.args.index.0 c.args.rows.now) (sym c.self.view_is) c.requires.rows in
    let place = c.in-Some-numbered_place.place in
    let l : place < length s.groups.items = place_in s.groups.items s.standing.tables k.each.stand place c.in-Some-numbered_place.ensures.found in
    let h = c.index_mut.result.now in
    let h_is : get_or s.groups.items place h ≡ h = sym c.index_mut.ensures.value in
    let own : h.table.id ≡ c.args.p.now.table = group_of s.groups.items s.standing.tables k.each.stand place h l h_is c.args.p.now.table c.in-Some-numbered_place.ensures.numbered in
    let at = c.in-Some-index_place.at in
    let one : c.index.result.now ≡ h = same_there s.groups.items place c.index.result.now h l (sym c.index.ensures) h_is in
    let named : (x : IndexRegion) → slice_get h.indexes.items at ≡ Some x → x.index.id ≡ c.args.index = λ x there. c.in-Some-index_place.ensures.found.1 x (ap (λ (y : Group). slice_get y.indexes.items at) one ∙ there) in
    let xs : List BaseRow = c.as_slice.result.now in
    let same : xs ≡ c.args.rows.now = search rules in
    let may' = subst (λ (ys : List BaseRow). MayBase g.B.Founded.sound (known_by b g.B.Based.damaged v) c.args.p.now c.args.index.0 ys) (sym same) may in
    λ x there. given g.D.Disk g.met.D.Disk.told g.met.D.Disk.up_to_now b g.B.Founded.sound g.B.Founded.premise g.B.Founded.began s.disk s.catalog s.standing s.groups.items s.trail s.late s.closed k running place h l h_is s.seat g.B.Based.damaged c.args.p.now own c.args.index xs may' at named x there

pub invariant_of-self-in-Ok : goal.invariant_of-self-in-Ok
invariant_of-self-in-Ok g c =
    let s = c.self.inside in
    let b = g.B.Based.base in
    let k = c.self.invariant.0 in
    let told = k.told in
    let v : Shown = shown_of s.seat s.trail.entries s.late s.closed s.groups.items s.lookback s.raising (g.D.Disk.calls s.disk) (g.D.Disk.faults s.disk) in
    let running : s.closed ≡ None = none_of s.closed (λ x is. search rules) in
    let may : MayBase g.B.Founded.sound (known_by b g.B.Based.damaged v) c.args.p.now c.args.index.0 c.args.rows.now = subst (λ (w : Shown). MayBase g.B.Founded.sound (known_by b g.B.Based.damaged w) c.args.p.now c.args.index.0 c.args.rows.now) (sym c.self.view_is) c.requires.rows in
    let place = c.in-Some-numbered_place.place in
    let l : place < length s.groups.items = place_in s.groups.items s.standing.tables k.each.stand place c.in-Some-numbered_place.ensures.found in
    let h = c.index_mut.result.now in
    let h_is : get_or s.groups.items place h ≡ h = sym c.index_mut.ensures.value in
    let own : h.table.id ≡ c.args.p.now.table = group_of s.groups.items s.standing.tables k.each.stand place h l h_is c.args.p.now.table c.in-Some-numbered_place.ensures.numbered in
    let at = c.in-Some-index_place.at in
    let one : c.index.result.now ≡ h = same_there s.groups.items place c.index.result.now h l (sym c.index.ensures) h_is in
    let named : (x : IndexRegion) → slice_get h.indexes.items at ≡ Some x → x.index.id ≡ c.args.index = λ x there. c.in-Some-index_place.ensures.found.1 x (ap (λ (y : Group). slice_get y.indexes.items at) one ∙ there) in
    let xs : List BaseRow = c.as_slice.result.now in
    let same : xs ≡ c.args.rows.now = search rules in
    let may' = subst (λ (ys : List BaseRow). MayBase g.B.Founded.sound (known_by b g.B.Based.damaged v) c.args.p.now c.args.index.0 ys) (sym same) may in
    let w = bases_written g.D.Disk h c.base-based.new.group s.disk c.base-based.new.disk at xs c.base-based.result c.in-Ok.owners c.in-Ok.is c.base-based.ensures.bases in
    let owners : c.in-Ok.owners ≡ owners_in h.table xs = got_ok (λ (os : List (List Value)). os ≡ owners_in h.table xs) c.base-based.result c.in-Ok.owners c.in-Ok.is c.base-based.ensures.owners in
    let pushed : c.push.new.self.entries ≡ s.trail.entries ++ record { seat = s.seat; calls = c.call_count-calls.result; act = BasedAct c.args.index (owners_in h.table xs) } ∷ [] =
    c.push.ensures.entries ∙ (ap (λ (es : List Entry). es ++ record { seat = s.seat; calls = c.call_count-calls.result; act = BasedAct c.args.index c.in-Ok.owners } ∷ []) c.reserve.ensures.same
    ∙ ap (λ (os : List (List Value)). s.trail.entries ++ record { seat = s.seat; calls = c.call_count-calls.result; act = BasedAct c.args.index os } ∷ []) owners) in
    let o : c.reserve.new.self.room ≡ s.trail.room + 1 = search rules in
    let q = c.push.ensures.room in
    let room : s.trail.room ≤ c.push.new.self.room = omega (arith, o, q) in (
      based_kept g.D.Disk g.met.D.Disk.told g.met.D.Disk.up_to_now b g.B.Founded.sound g.B.Founded.premise g.B.Founded.began s.disk s.catalog s.standing s.groups.items s.trail s.late s.closed k running place h l h_is s.seat g.B.Based.damaged c.args.p.now own c.args.index xs may' at named c.base-based.new.group c.base-based.new.disk w c.call_count-calls.result c.call_count-calls.ensures c.push.new.self pushed room,
      (c.self.invariant.1.0, more_by_clock g.C.Clock g.B.Founded.times g.B.Based.base g.B.Founded.lookback s.lookback s.clock s.trail.entries c.self.invariant.1.1 c.push.new.self.entries (record { seat = s.seat; calls = c.call_count-calls.result; act = BasedAct c.args.index (owners_in h.table xs) }) pushed refl),
    )

pub returns-in-Ok-clause-ok : goal.returns-in-Ok-clause-ok
returns-in-Ok-clause-ok g c =
    let s = c.self.inside in
    let b = g.B.Based.base in
    let k = c.self.invariant.0 in
    let told = k.told in
    let v : Shown = shown_of s.seat s.trail.entries s.late s.closed s.groups.items s.lookback s.raising (g.D.Disk.calls s.disk) (g.D.Disk.faults s.disk) in
    let running : s.closed ≡ None = none_of s.closed (λ x is. search rules) in
    let may : MayBase g.B.Founded.sound (known_by b g.B.Based.damaged v) c.args.p.now c.args.index.0 c.args.rows.now = subst (λ (w : Shown). MayBase g.B.Founded.sound (known_by b g.B.Based.damaged w) c.args.p.now c.args.index.0 c.args.rows.now) (sym c.self.view_is) c.requires.rows in
    let place = c.in-Some-numbered_place.place in
    let l : place < length s.groups.items = place_in s.groups.items s.standing.tables k.each.stand place c.in-Some-numbered_place.ensures.found in
    let h = c.index_mut.result.now in
    let h_is : get_or s.groups.items place h ≡ h = sym c.index_mut.ensures.value in
    let own : h.table.id ≡ c.args.p.now.table = group_of s.groups.items s.standing.tables k.each.stand place h l h_is c.args.p.now.table c.in-Some-numbered_place.ensures.numbered in
    let at = c.in-Some-index_place.at in
    let one : c.index.result.now ≡ h = same_there s.groups.items place c.index.result.now h l (sym c.index.ensures) h_is in
    let named : (x : IndexRegion) → slice_get h.indexes.items at ≡ Some x → x.index.id ≡ c.args.index = λ x there. c.in-Some-index_place.ensures.found.1 x (ap (λ (y : Group). slice_get y.indexes.items at) one ∙ there) in
    let xs : List BaseRow = c.as_slice.result.now in
    let same : xs ≡ c.args.rows.now = search rules in
    let may' = subst (λ (ys : List BaseRow). MayBase g.B.Founded.sound (known_by b g.B.Based.damaged v) c.args.p.now c.args.index.0 ys) (sym same) may in
    let w = bases_written g.D.Disk h c.base-based.new.group s.disk c.base-based.new.disk at xs c.base-based.result c.in-Ok.owners c.in-Ok.is c.base-based.ensures.bases in
    let owners : c.in-Ok.owners ≡ owners_in h.table xs = got_ok (λ (os : List (List Value)). os ≡ owners_in h.table xs) c.base-based.result c.in-Ok.owners c.in-Ok.is c.base-based.ensures.owners in
    let pushed : c.push.new.self.entries ≡ s.trail.entries ++ record { seat = s.seat; calls = c.call_count-calls.result; act = BasedAct c.args.index (owners_in h.table xs) } ∷ [] =
    c.push.ensures.entries ∙ (ap (λ (es : List Entry). es ++ record { seat = s.seat; calls = c.call_count-calls.result; act = BasedAct c.args.index c.in-Ok.owners } ∷ []) c.reserve.ensures.same
    ∙ ap (λ (os : List (List Value)). s.trail.entries ++ record { seat = s.seat; calls = c.call_count-calls.result; act = BasedAct c.args.index os } ∷ []) owners) in
    let o : c.reserve.new.self.room ≡ s.trail.room + 1 = search rules in
    let q = c.push.ensures.room in
    let room : s.trail.room ≤ c.push.new.self.room = omega (arith, o, q) in
    let v' : Shown = record v { entries = c.push.new.self.entries } in
    subst (λ (u : Shown). DidBase (known_by b g.B.Based.damaged u) (known_by b g.B.Based.damaged v') c.args.p.now c.args.index c.args.rows.now c.len.result) c.self.view_is
    (subst (λ (ys : List BaseRow). DidBase (known_by b g.B.Based.damaged v) (known_by b g.B.Based.damaged v') c.args.p.now c.args.index ys c.len.result) same
    (did_base g.D.Disk g.met.D.Disk.told g.met.D.Disk.up_to_now b g.B.Founded.sound g.B.Founded.premise g.B.Founded.began s.disk s.catalog s.standing s.groups.items s.trail s.late s.closed k running place h l h_is s.seat g.B.Based.damaged c.args.p.now own c.args.index xs may' at named c.base-based.new.group c.base-based.new.disk w c.call_count-calls.result c.call_count-calls.ensures c.push.new.self pushed room c.len.result c.len.ensures))

pub invariant_of-self-in-Err-WriteFault : goal.invariant_of-self-in-Err-WriteFault
invariant_of-self-in-Err-WriteFault g c =
    let s = c.self.inside in
    let b = g.B.Based.base in
    let k = c.self.invariant.0 in
    let told = k.told in
    let v : Shown = shown_of s.seat s.trail.entries s.late s.closed s.groups.items s.lookback s.raising (g.D.Disk.calls s.disk) (g.D.Disk.faults s.disk) in
    let running : s.closed ≡ None = none_of s.closed (λ x is. search rules) in
    let may : MayBase g.B.Founded.sound (known_by b g.B.Based.damaged v) c.args.p.now c.args.index.0 c.args.rows.now = subst (λ (w : Shown). MayBase g.B.Founded.sound (known_by b g.B.Based.damaged w) c.args.p.now c.args.index.0 c.args.rows.now) (sym c.self.view_is) c.requires.rows in
    let place = c.in-Some-numbered_place.place in
    let l : place < length s.groups.items = place_in s.groups.items s.standing.tables k.each.stand place c.in-Some-numbered_place.ensures.found in
    let h = c.index_mut.result.now in
    let h_is : get_or s.groups.items place h ≡ h = sym c.index_mut.ensures.value in
    let own : h.table.id ≡ c.args.p.now.table = group_of s.groups.items s.standing.tables k.each.stand place h l h_is c.args.p.now.table c.in-Some-numbered_place.ensures.numbered in
    let at = c.in-Some-index_place.at in
    let one : c.index.result.now ≡ h = same_there s.groups.items place c.index.result.now h l (sym c.index.ensures) h_is in
    let named : (x : IndexRegion) → slice_get h.indexes.items at ≡ Some x → x.index.id ≡ c.args.index = λ x there. c.in-Some-index_place.ensures.found.1 x (ap (λ (y : Group). slice_get y.indexes.items at) one ∙ there) in
    let xs : List BaseRow = c.as_slice.result.now in
    let same : xs ≡ c.args.rows.now = search rules in
    let may' = subst (λ (ys : List BaseRow). MayBase g.B.Founded.sound (known_by b g.B.Based.damaged v) c.args.p.now c.args.index.0 ys) (sym same) may in
    let shut : Entry = record { seat = s.seat; calls = c.call_count-calls.result; act = ShutAct c.call_count-calls.result } in
    let pushed : c.shut.new.trail.entries ≡ s.trail.entries ++ shut ∷ [] = c.shut.ensures.entries ∙ ap (λ (es : List Entry). es ++ shut ∷ []) c.reserve.ensures.same in
    let failed : c.base-based.result ≡ Err WriteFault = search rules in
    let o : c.reserve.new.self.room ≡ s.trail.room + 1 = search rules in
    let q = c.shut.ensures.room in
    let unlate : s.late ≡ None = k.server.unlate running in (
      subst (λ (la : Option Entry). IsKept g.D.Disk b g.B.Founded.sound g.B.Founded.premise g.B.Founded.began c.base-based.new.disk s.catalog s.standing (slice_set s.groups.items place c.base-based.new.group) c.shut.new.trail la (Some c.call_count-calls.result)) (sym unlate)
          (unbased_kept g.D.Disk g.met.D.Disk.told g.met.D.Disk.up_to_now b g.B.Founded.sound g.B.Founded.premise g.B.Founded.began s.disk s.catalog s.standing s.groups.items s.trail s.late s.closed k running place h l h_is s.seat g.B.Based.damaged c.args.p.now own c.args.index xs may' at named c.base-based.new.group c.base-based.new.disk (bases_failed g.D.Disk h c.base-based.new.group s.disk c.base-based.new.disk at xs c.base-based.result failed c.base-based.ensures.bases) shut c.call_count-calls.result refl c.call_count-calls.ensures (c.base-based.ensures.failed failed) c.shut.new.trail pushed (omega (arith, o, q))),
      (c.self.invariant.1.0, more_by_clock g.C.Clock g.B.Founded.times g.B.Based.base g.B.Founded.lookback s.lookback s.clock s.trail.entries c.self.invariant.1.1 c.shut.new.trail.entries shut pushed refl),
    )

pub returns-in-Err-WriteFault-clause-refused : goal.returns-in-Err-WriteFault-clause-refused
returns-in-Err-WriteFault-clause-refused g c =
    let s = c.self.inside in
    let b = g.B.Based.base in
    let k = c.self.invariant.0 in
    let told = k.told in
    let v : Shown = shown_of s.seat s.trail.entries s.late s.closed s.groups.items s.lookback s.raising (g.D.Disk.calls s.disk) (g.D.Disk.faults s.disk) in
    let running : s.closed ≡ None = none_of s.closed (λ x is. search rules) in
    let shut : Entry = record { seat = s.seat; calls = c.call_count-calls.result; act = ShutAct c.call_count-calls.result } in
    let pushed : c.shut.new.trail.entries ≡ s.trail.entries ++ shut ∷ [] = c.shut.ensures.entries ∙ ap (λ (es : List Entry). es ++ shut ∷ []) c.reserve.ensures.same in
    let v' : Shown = record v { entries = c.shut.new.trail.entries } in (
      tt,
      (
        c.call_count-calls.result,
        subst (λ (w : Shown). Adds (known_by b g.B.Based.damaged w) (known_by b g.B.Based.damaged v') (ShutAct c.call_count-calls.result)) c.self.view_is
            (one_more (known_by b g.B.Based.damaged v) c.shut.new.trail.entries c.call_count-calls.result (ShutAct c.call_count-calls.result) told.legal pushed (invariant_of-self-in-Err-WriteFault g c).0.told.legal),
      ),
    )

pub invariant_of-self-in-Err : goal.invariant_of-self-in-Err
invariant_of-self-in-Err g c =
    let s = c.self.inside in
    let b = g.B.Based.base in
    let k = c.self.invariant.0 in
    let told = k.told in
    let v : Shown = shown_of s.seat s.trail.entries s.late s.closed s.groups.items s.lookback s.raising (g.D.Disk.calls s.disk) (g.D.Disk.faults s.disk) in
    let running : s.closed ≡ None = none_of s.closed (λ x is. search rules) in
    let place = c.in-Some-numbered_place.place in
    let l : place < length s.groups.items = place_in s.groups.items s.standing.tables k.each.stand place c.in-Some-numbered_place.ensures.found in
    let h = c.index_mut.result.now in
    let h_is : get_or s.groups.items place h ≡ h = sym c.index_mut.ensures.value in
    let own : h.table.id ≡ c.args.p.now.table = group_of s.groups.items s.standing.tables k.each.stand place h l h_is c.args.p.now.table c.in-Some-numbered_place.ensures.numbered in
    let at = c.in-Some-index_place.at in
    let one : c.index.result.now ≡ h = same_there s.groups.items place c.index.result.now h l (sym c.index.ensures) h_is in
    let named : (x : IndexRegion) → slice_get h.indexes.items at ≡ Some x → x.index.id ≡ c.args.index = λ x there. c.in-Some-index_place.ensures.found.1 x (ap (λ (y : Group). slice_get y.indexes.items at) one ∙ there) in
    let xs : List BaseRow = c.as_slice.result.now in
    let other : c.in-Err.fault ≡ WriteFault → ⊥ = λ e. search rules in
    let stayed = bases_stayed g.D.Disk h c.base-based.new.group s.disk c.base-based.new.disk at xs c.base-based.result c.in-Err.fault c.in-Err.is other c.base-based.ensures.bases in
    let only : HasOnlyLooked g.D.Disk h c.base-based.new.group s.disk c.base-based.new.disk = record { looked = stayed.looked; reads = subst (HasOnlyRead g.D.Disk s.disk) (sym stayed.untouched) (reads_none g.D.Disk g.met.D.Disk.up_to_now s.disk) } in (
      roomy g.D.Disk b g.B.Founded.sound g.B.Founded.premise g.B.Founded.began c.base-based.new.disk s.catalog s.standing (slice_set s.groups.items place c.base-based.new.group) s.trail s.late s.closed
          (fix_stayed g.D.Disk g.met.D.Disk.told g.met.D.Disk.up_to_now b g.B.Founded.sound g.B.Founded.premise g.B.Founded.began s.disk s.catalog s.standing s.groups.items s.trail s.late s.closed k running place h c.base-based.new.group l h_is c.base-based.new.disk only)
          c.give_back.new.self (c.give_back.ensures.same ∙ c.reserve.ensures.same) (let r = c.give_back.ensures.room in let o : c.reserve.new.self.room ≡ s.trail.room + 1 = search rules in omega (arith, r, o)),
      (c.self.invariant.1.0, same_by_clock g.C.Clock g.B.Founded.times g.B.Based.base g.B.Founded.lookback s.lookback s.clock s.trail.entries c.self.invariant.1.1 c.give_back.new.self.entries (c.give_back.ensures.same ∙ c.reserve.ensures.same)),
    )

pub returns-in-Err : goal.returns-in-Err
returns-in-Err g c =
    let s = c.self.inside in
    let b = g.B.Based.base in
    let k = c.self.invariant.0 in
    let told = k.told in
    let v : Shown = shown_of s.seat s.trail.entries s.late s.closed s.groups.items s.lookback s.raising (g.D.Disk.calls s.disk) (g.D.Disk.faults s.disk) in
    let running : s.closed ≡ None = none_of s.closed (λ x is. search rules) in
    let other : c.in-Err.fault ≡ WriteFault → ⊥ = λ e. search rules in
    let place = c.in-Some-numbered_place.place in
    let l : place < length s.groups.items = place_in s.groups.items s.standing.tables k.each.stand place c.in-Some-numbered_place.ensures.found in
    let h = c.index_mut.result.now in
    let h_is : get_or s.groups.items place h ≡ h = sym c.index_mut.ensures.value in
    let own : h.table.id ≡ c.args.p.now.table = group_of s.groups.items s.standing.tables k.each.stand place h l h_is c.args.p.now.table c.in-Some-numbered_place.ensures.numbered in
    let at = c.in-Some-index_place.at in
    let one : c.index.result.now ≡ h = same_there s.groups.items place c.index.result.now h l (sym c.index.ensures) h_is in
    let named : (x : IndexRegion) → slice_get h.indexes.items at ≡ Some x → x.index.id ≡ c.args.index = λ x there. c.in-Some-index_place.ensures.found.1 x (ap (λ (y : Group). slice_get y.indexes.items at) one ∙ there) in
    let inside : at < length h.indexes.items = subst (λ (y : Group). at < length y.indexes.items) one c.in-Some-index_place.ensures.found.0 in
    let xs : List BaseRow = c.as_slice.result.now in
    let same : xs ≡ c.args.rows.now = search rules in
    let part = there_at h.indexes.items at inside in
    record {
      ok = tt;
      caused =
          subst (λ (w : Shown). RefusesBases w.groups c.args.p.now c.args.index c.args.rows.now c.unbased.result) c.self.view_is
          (subst (λ (ys : List BaseRow). RefusesBases s.groups.items c.args.p.now c.args.index ys c.unbased.result) same
          (refuses_bases s.groups.items c.args.p.now c.args.index xs c.in-Err.fault c.unbased.result c.unbased.ensures (record {
            place = place;
            group = h;
            at = got_some s.groups.items place h h l (sym h_is);
            part = at;
            index = part.0;
            of = part.1;
            id = named part.0 part.1;
            refused = (own, c.base-based.ensures.cause c.in-Err.fault part.0 c.in-Err.is part.1);
          })));
      refused =
          subst (λ (w : Shown). Refuses base_cause (known_by b g.B.Based.damaged w) (known_by b g.B.Based.damaged (record v { entries = c.give_back.new.self.entries })) c.unbased.result) c.self.view_is
          (subst (λ (es : List Entry). Refuses base_cause (known_by b g.B.Based.damaged v) (known_by b g.B.Based.damaged (record v { entries = es })) c.unbased.result) (sym (c.give_back.ensures.same ∙ c.reserve.ensures.same))
          (unbased_refused (known_by b g.B.Based.damaged v) told.legal (told.closing ∙ running) c.in-Err.fault c.unbased.result c.unbased.ensures other));
      counts = made_by g.D.Disk c.self.inside.disk c.base-based.new.disk (based_passes g.D.Disk c.self.inside.disk c.base-based.new.disk c.index_mut.result.now c.base-based.new.group c.in-Some-index_place.at c.as_slice.result.now c.base-based.result c.base-based.ensures.bases) (omega arith) c.self.view_is refl refl refl refl;
      blames = unbased_blames c.args.self.now (record c.args.self.now { calls = g.D.Disk.calls c.base-based.new.disk; faults = g.D.Disk.faults c.base-based.new.disk }) c.in-Err.fault c.unbased.result c.unbased.ensures other;
    }

-- ---- the calls of the disk

pub returns-in-Ok-clause-counts : goal.returns-in-Ok-clause-counts
returns-in-Ok-clause-counts g c = made_by g.D.Disk c.self.inside.disk c.base-based.new.disk (based_passes g.D.Disk c.self.inside.disk c.base-based.new.disk c.index_mut.result.now c.base-based.new.group c.in-Some-index_place.at c.as_slice.result.now c.base-based.result c.base-based.ensures.bases) (omega arith) c.self.view_is refl refl refl refl

pub returns-in-Err-WriteFault-clause-counts : goal.returns-in-Err-WriteFault-clause-counts
returns-in-Err-WriteFault-clause-counts g c = made_by g.D.Disk c.self.inside.disk c.base-based.new.disk (based_passes g.D.Disk c.self.inside.disk c.base-based.new.disk c.index_mut.result.now c.base-based.new.group c.in-Some-index_place.at c.as_slice.result.now c.base-based.result c.base-based.ensures.bases) (omega arith) c.self.view_is refl refl refl refl

pub returns-in-Err-WriteFault-clause-blames : goal.returns-in-Err-WriteFault-clause-blames
returns-in-Err-WriteFault-clause-blames g c = rose_by g.D.Disk c.self.inside.disk c.base-based.new.disk (c.base-based.ensures.failed (search rules)) c.self.view_is refl
