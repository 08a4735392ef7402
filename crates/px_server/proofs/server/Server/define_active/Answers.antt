use Rattle.std.proofs.Common.{rules, ◌≡◌, ◌<◌, ◌^◌, inl, inr, None, Some, Err, List, [], ◌∷◌, ◌++◌, length, get_or, slice_get, refl, sym, ap, subst, ◌∙◌, arith}
use Rattle.std.proofs.lemmas.Result.{err_from_is_err_and}
use Rattle.px_values.specs.declared.name.TableId.{TableId}
use Rattle.px_tables.specs.declared.index.IndexState.TheVariants.{Active}
use Rattle.px_trail.specs.declared.entry.Act.TheVariants as act
use Rattle.px_trail.specs.declared.entry.Entry.{Entry}
use Rattle.px_calls.specs.Calls.{DidDefine}
use Rattle.px_calls.specs.Causes.{Refuses, define_cause}
use Rattle.px_calls.specs.Requires.{MayActivate}
use Rattle.px_calls.specs.declared.definition.Definition.TheVariants as definition
use Rattle.px_calls.specs.declared.fault.StepFault.{StepFault}
use Rattle.px_calls.specs.declared.fault.StepFault.TheVariants.{Closed, Memory, NoIndex, NoTable}
use Rattle.px_standing.proofs.Looked.{lacks}
use Rattle.px_server.specs.Shown.{Shown, known_by, shown_of}
use Rattle.px_server.proofs.Entered.{entered_kept, of_ok}
use Rattle.px_server.proofs.Found.{closed_by}
use Rattle.px_server.proofs.Released.{group_of, place_in}
use Rattle.px_server.proofs.Seen.{stays}
use Rattle.px_server.proofs.Stamping.{more_by_clock, same_by_clock, unwritten_entry_by_clock}
use Rattle.px_server.proofs.Unwritten.{no_memory}
use Rattle.px_calls.specs.declared.definition.Made.{Made as Answered}
use Rattle.px_group.specs.declared.group.Group.{Group}
use Rattle.px_defined.proofs.Lists.{within}
use Rattle.px_server.proofs.ActiveSteps.{activating_did, activating_failed, activating_kept, activating_refused, fits_active, got_at}
use Rattle.px_server.proofs.IndexActivating.{no_index, part}
use Rattle.px_server.proofs.Reserved.{roomy, same_there}
use Rattle.px_server.specs.DeviceCalls.{Blames}
use Rattle.px_server.proofs.DeviceCalls.{few_by, made_by, rose_by, unwritten_blames}
use Rattle.px_server.proofs.server.Server.define_active.Goals as goal

pub returns-in-Some-clause-refused : goal.returns-in-Some-clause-refused
returns-in-Some-clause-refused g c = (let
    s = c.self.inside
    in let
    k = c.self.invariant.0
    in let
    b = g.B.Based.base
    in let
    v : Shown = shown_of s.seat s.trail.entries s.late s.closed s.groups.items s.lookback s.raising (g.D.Disk.calls s.disk) (g.D.Disk.faults s.disk)
    in
    subst (λ (w : Shown). Refuses (define_cause (definition.Active c.args.table c.args.index)) (known_by b g.B.Based.damaged w) (known_by b g.B.Based.damaged w) (Closed c.in-Some.call)) c.self.view_is
    (closed_by (known_by b g.B.Based.damaged v) k.told.legal s.closed k.told.closing c.in-Some.call c.in-Some.is))

pub returns-in_default-numbered_place-clause-refused : goal.returns-in_default-numbered_place-clause-refused
returns-in_default-numbered_place-clause-refused g c = (let
    s = c.self.inside
    in let
    k = c.self.invariant.0
    in let
    b = g.B.Based.base
    in let
    v : Shown = shown_of s.seat s.trail.entries s.late s.closed s.groups.items s.lookback s.raising (g.D.Disk.calls s.disk) (g.D.Disk.faults s.disk)
    in let
    running : s.closed ≡ None = c.in_default.is
    in
    subst (λ (w : Shown). Refuses (define_cause (definition.Active c.args.table c.args.index)) (known_by b g.B.Based.damaged w) (known_by b g.B.Based.damaged w) NoTable) c.self.view_is
    ((lacks b s.trail.entries s.standing k.told.agrees c.args.table.0 c.in_default-numbered_place.ensures.none, stays (known_by b g.B.Based.damaged v) k.told.legal, k.told.closing ∙ running)))

pub returns-in_default-index_place-clause-refused : goal.returns-in_default-index_place-clause-refused
returns-in_default-index_place-clause-refused g c = (let
    s = c.self.inside
    in let
    k = c.self.invariant.0
    in let
    b = g.B.Based.base
    in let
    v : Shown = shown_of s.seat s.trail.entries s.late s.closed s.groups.items s.lookback s.raising (g.D.Disk.calls s.disk) (g.D.Disk.faults s.disk)
    in let
    running : s.closed ≡ None = c.in_default.is
    in let
    may : MayActivate g.B.Founded.sound (known_by b g.B.Based.damaged v) c.args.table.0 c.args.index.0 = subst (λ (w : Shown). MayActivate g.B.Founded.sound (known_by b g.B.Based.damaged w) c.args.table.0 c.args.index.0) (sym c.self.view_is) (record { index = c.requires.index; table = c.requires.table; each = c.requires.each })
    in let
    l = place_in s.groups.items s.standing.tables k.each.stand c.in-Some-numbered_place.place c.in-Some-numbered_place.ensures.found
    in let
    h = c.index-group.result.now
    in let
    h_is : get_or s.groups.items c.in-Some-numbered_place.place h ≡ h = sym c.index-group.ensures
    in let
    own : h.table.id ≡ c.args.table = group_of s.groups.items s.standing.tables k.each.stand c.in-Some-numbered_place.place h l h_is c.args.table c.in-Some-numbered_place.ensures.numbered
    in
    subst (λ (w : Shown). Refuses (define_cause (definition.Active c.args.table c.args.index)) (known_by b g.B.Based.damaged w) (known_by b g.B.Based.damaged w) NoIndex) c.self.view_is
    ((no_index g.D.Disk g.met.D.Disk.told g.met.D.Disk.up_to_now b g.B.Based.damaged g.B.Founded.sound g.B.Founded.premise g.B.Founded.began s.disk s.catalog s.standing s.groups.items s.trail s.late s.closed k running c.in-Some-numbered_place.place h l h_is s.seat c.args.table own c.args.index may c.in_default-index_place.ensures.none, stays (known_by b g.B.Based.damaged v) k.told.legal, k.told.closing ∙ running)))

pub returns-in_err-made-clause-refused : goal.returns-in_err-made-clause-refused
returns-in_err-made-clause-refused g c = (let
    s = c.self.inside
    in let
    k = c.self.invariant.0
    in let
    b = g.B.Based.base
    in let
    v : Shown = shown_of s.seat s.trail.entries s.late s.closed s.groups.items s.lookback s.raising (g.D.Disk.calls s.disk) (g.D.Disk.faults s.disk)
    in let
    running : s.closed ≡ None = c.in_default.is
    in let
    e = err_from_is_err_and c.from_residual.result c.from_residual.ensures.1
    in
    rw e.1 (subst (λ (f : StepFault). Refuses (define_cause (definition.Active c.args.table c.args.index)) (known_by b g.B.Based.damaged c.args.self.now) (known_by b g.B.Based.damaged c.args.self.now) f) (sym (e.2 ∙ c.in_err-made.ensures.refused))
    (subst (λ (w : Shown). Refuses (define_cause (definition.Active c.args.table c.args.index)) (known_by b g.B.Based.damaged w) (known_by b g.B.Based.damaged w) Memory) c.self.view_is
    (no_memory (known_by b g.B.Based.damaged v) k.told.legal s.closed k.told.closing running (definition.Active c.args.table c.args.index)))))

pub invariant_of-self : goal.invariant_of-self
invariant_of-self g c = (let
    s = c.self.inside
    in let
    k = c.self.invariant.0
    in let
    b = g.B.Based.base
    in let
    v : Shown = shown_of s.seat s.trail.entries s.late s.closed s.groups.items s.lookback s.raising (g.D.Disk.calls s.disk) (g.D.Disk.faults s.disk)
    in let
    running : s.closed ≡ None = c.in_default.is
    in let
    l = place_in s.groups.items s.standing.tables k.each.stand c.in-Some-numbered_place.place c.in-Some-numbered_place.ensures.found
    in let
    h = c.index-group.result.now
    in let
    h_is : get_or s.groups.items c.in-Some-numbered_place.place h ≡ h = sym c.index-group.ensures
    in let
    own : h.table.id ≡ c.args.table = group_of s.groups.items s.standing.tables k.each.stand c.in-Some-numbered_place.place h l h_is c.args.table c.in-Some-numbered_place.ensures.numbered
    in
    (roomy g.D.Disk b g.B.Founded.sound g.B.Founded.premise g.B.Founded.began s.disk s.catalog s.standing s.groups.items s.trail s.late s.closed k c.take_entry.new.trail c.take_entry.ensures.same c.take_entry.ensures.least, (c.self.invariant.1.0, same_by_clock g.C.Clock g.B.Founded.times g.B.Based.base g.B.Founded.lookback s.lookback s.clock s.trail.entries c.self.invariant.1.1 c.take_entry.new.trail.entries c.take_entry.ensures.same)))

pub returns-in_default-take_entry-clause-refused : goal.returns-in_default-take_entry-clause-refused
returns-in_default-take_entry-clause-refused g c = (let
    s = c.self.inside
    in let
    k = c.self.invariant.0
    in let
    b = g.B.Based.base
    in let
    v : Shown = shown_of s.seat s.trail.entries s.late s.closed s.groups.items s.lookback s.raising (g.D.Disk.calls s.disk) (g.D.Disk.faults s.disk)
    in let
    running : s.closed ≡ None = c.in_default.is
    in
    subst (λ (es : List Entry). Refuses (define_cause (definition.Active c.args.table c.args.index)) (known_by b g.B.Based.damaged c.args.self.now) (known_by b g.B.Based.damaged (record v { entries = es })) Memory) (sym c.take_entry.ensures.same)
    (subst (λ (w : Shown). Refuses (define_cause (definition.Active c.args.table c.args.index)) (known_by b g.B.Based.damaged w) (known_by b g.B.Based.damaged v) Memory) c.self.view_is
    (no_memory (known_by b g.B.Based.damaged v) k.told.legal s.closed k.told.closing running (definition.Active c.args.table c.args.index))))

pub append-requires : goal.append-requires
append-requires g c = (let
    s = c.self.inside
    in let
    k = c.self.invariant.0
    in let
    b = g.B.Based.base
    in let
    v : Shown = shown_of s.seat s.trail.entries s.late s.closed s.groups.items s.lookback s.raising (g.D.Disk.calls s.disk) (g.D.Disk.faults s.disk)
    in let
    running : s.closed ≡ None = c.in_default.is
    in let
    may : MayActivate g.B.Founded.sound (known_by b g.B.Based.damaged v) c.args.table.0 c.args.index.0 = subst (λ (w : Shown). MayActivate g.B.Founded.sound (known_by b g.B.Based.damaged w) c.args.table.0 c.args.index.0) (sym c.self.view_is) (record { index = c.requires.index; table = c.requires.table; each = c.requires.each })
    in let
    l = place_in s.groups.items s.standing.tables k.each.stand c.in-Some-numbered_place.place c.in-Some-numbered_place.ensures.found
    in let
    h = c.index-group.result.now
    in let
    h_is : get_or s.groups.items c.in-Some-numbered_place.place h ≡ h = sym c.index-group.ensures
    in let
    own : h.table.id ≡ c.args.table = group_of s.groups.items s.standing.tables k.each.stand c.in-Some-numbered_place.place h l h_is c.args.table c.in-Some-numbered_place.ensures.numbered
    in let
    x = c.index-part.result.now
    in let
    x_is : slice_get h.indexes.items c.in-Some-index_place.at ≡ Some x = got_at h.indexes.items c.in-Some-index_place.at x c.in-Some-index_place.ensures.found.0 c.index-part.ensures
    in let
    id : x.index.id ≡ c.args.index = c.in-Some-index_place.ensures.found.1 x x_is
    in let
    short : c.args.table.0 < 256 ^ 4 = search rules
    in let
    here = part g.D.Disk g.met.D.Disk.told g.met.D.Disk.up_to_now b g.B.Based.damaged g.B.Founded.sound g.B.Founded.premise g.B.Founded.began s.disk s.catalog s.standing s.groups.items s.trail s.late s.closed k running c.in-Some-numbered_place.place h l h_is s.seat c.args.table own c.args.index may c.in-Some-index_place.at x x_is id
    in
    record { right = fits_active g.D.Disk g.met.D.Disk.told g.met.D.Disk.up_to_now b g.B.Based.damaged g.B.Founded.sound g.B.Founded.premise g.B.Founded.began s.disk s.catalog s.standing s.groups.items s.trail s.late s.closed k running c.in-Some-numbered_place.place h l h_is s.seat c.args.table own c.args.index may c.in-Some-index_place.at x x_is id c.in_ok-made.made c.in_ok-made.ensures.ok (subst (λ (y : TableId). y.0 < 256 ^ 4) (sym (here.table ∙ own)) short) })

pub make_active-requires : goal.make_active-requires
make_active-requires g c = (let
    s = c.self.inside
    in let
    k = c.self.invariant.0
    in let
    b = g.B.Based.base
    in let
    v : Shown = shown_of s.seat s.trail.entries s.late s.closed s.groups.items s.lookback s.raising (g.D.Disk.calls s.disk) (g.D.Disk.faults s.disk)
    in let
    running : s.closed ≡ None = c.in_default.is
    in let
    l = place_in s.groups.items s.standing.tables k.each.stand c.in-Some-numbered_place.place c.in-Some-numbered_place.ensures.found
    in let
    h = c.index-group.result.now
    in let
    h_is : get_or s.groups.items c.in-Some-numbered_place.place h ≡ h = sym c.index-group.ensures
    in let
    own : h.table.id ≡ c.args.table = group_of s.groups.items s.standing.tables k.each.stand c.in-Some-numbered_place.place h l h_is c.args.table c.in-Some-numbered_place.ensures.numbered
    in let
    x = c.index-part.result.now
    in let
    x_is : slice_get h.indexes.items c.in-Some-index_place.at ≡ Some x = got_at h.indexes.items c.in-Some-index_place.at x c.in-Some-index_place.ensures.found.0 c.index-part.ensures
    in let
    id : x.index.id ≡ c.args.index = c.in-Some-index_place.ensures.found.1 x x_is
    in let
    there : c.index_mut.result.now ≡ h = same_there s.groups.items c.in-Some-numbered_place.place c.index_mut.result.now h l (sym c.index_mut.ensures.value) h_is
    in let
    low = within h.indexes.items c.in-Some-index_place.at x x_is
    in let
    count = ap (λ (y : Group). length y.indexes.items) there
    in
    omega (arith, low, count))

pub invariant_of-self-in-Ok-entered : goal.invariant_of-self-in-Ok-entered
invariant_of-self-in-Ok-entered g c = (let
    s = c.self.inside
    in let
    k = c.self.invariant.0
    in let
    b = g.B.Based.base
    in let
    v : Shown = shown_of s.seat s.trail.entries s.late s.closed s.groups.items s.lookback s.raising (g.D.Disk.calls s.disk) (g.D.Disk.faults s.disk)
    in let
    running : s.closed ≡ None = c.in_default.is
    in let
    may : MayActivate g.B.Founded.sound (known_by b g.B.Based.damaged v) c.args.table.0 c.args.index.0 = subst (λ (w : Shown). MayActivate g.B.Founded.sound (known_by b g.B.Based.damaged w) c.args.table.0 c.args.index.0) (sym c.self.view_is) (record { index = c.requires.index; table = c.requires.table; each = c.requires.each })
    in let
    l = place_in s.groups.items s.standing.tables k.each.stand c.in-Some-numbered_place.place c.in-Some-numbered_place.ensures.found
    in let
    h = c.index-group.result.now
    in let
    h_is : get_or s.groups.items c.in-Some-numbered_place.place h ≡ h = sym c.index-group.ensures
    in let
    own : h.table.id ≡ c.args.table = group_of s.groups.items s.standing.tables k.each.stand c.in-Some-numbered_place.place h l h_is c.args.table c.in-Some-numbered_place.ensures.numbered
    in let
    x = c.index-part.result.now
    in let
    x_is : slice_get h.indexes.items c.in-Some-index_place.at ≡ Some x = got_at h.indexes.items c.in-Some-index_place.at x c.in-Some-index_place.ensures.found.0 c.index-part.ensures
    in let
    id : x.index.id ≡ c.args.index = c.in-Some-index_place.ensures.found.1 x x_is
    in (
      entered_kept g.D.Disk b g.B.Founded.sound g.B.Founded.premise g.B.Founded.began c.append.new.disk c.append.new.self _ _ c.entered.new.trail s.late c.entered.new.late s.closed c.entered.new.closed _ _ c.in-Ok-entered.ensures.ok.1
          (activating_kept g.D.Disk g.met.D.Disk.told g.met.D.Disk.up_to_now b g.B.Based.damaged g.B.Founded.sound g.B.Founded.premise g.B.Founded.began s.disk s.catalog s.standing s.groups.items s.trail s.late s.closed k running c.in-Some-numbered_place.place h l h_is s.seat c.args.table own c.args.index may c.in-Some-index_place.at x x_is id c.in_ok-made.made c.in_ok-made.ensures.ok c.take_entry.new.trail c.take_entry.ensures.same c.in-Ok.ensures.ok c.append.new.disk c.append.new.self c.append.ensures.counts c.append.ensures.touches c.append.ensures.any_moment (λ h. of_ok c.append.result tt _ c.in-Ok-entered.ensures.ok.0 (c.append.ensures.done h)) (of_ok c.append.result tt _ c.in-Ok-entered.ensures.ok.0 c.append.ensures.defined) c.index_mut.result.now (same_there s.groups.items c.in-Some-numbered_place.place c.index_mut.result.now h l (sym c.index_mut.ensures.value) h_is) c.make_active.new.group c.make_active.ensures c.replace-before.new.dest c.replace-before.ensures.after c.entered.new.trail (g.D.Disk.calls c.append.new.disk) refl c.in-Ok-entered.ensures.ok.1.entries c.entered.ensures.room),
      (c.self.invariant.1.0, more_by_clock g.C.Clock g.B.Founded.times g.B.Based.base g.B.Founded.lookback s.lookback s.clock s.trail.entries c.self.invariant.1.1 c.entered.new.trail.entries (record { seat = s.seat; calls = g.D.Disk.calls c.append.new.disk; act = act.IndexState c.args.table c.args.index Active c.index-part.result.now.index.birth }) (c.in-Ok-entered.ensures.ok.1.entries ∙ ap (λ (es : List Entry). es ++ (record { seat = s.seat; calls = g.D.Disk.calls c.append.new.disk; act = act.IndexState c.args.table c.args.index Active c.index-part.result.now.index.birth }) ∷ []) c.take_entry.ensures.same) refl),
    ))

pub invariant_of-self-in-Err : goal.invariant_of-self-in-Err
invariant_of-self-in-Err g c = (let
    s = c.self.inside
    in let
    k = c.self.invariant.0
    in let
    b = g.B.Based.base
    in let
    v : Shown = shown_of s.seat s.trail.entries s.late s.closed s.groups.items s.lookback s.raising (g.D.Disk.calls s.disk) (g.D.Disk.faults s.disk)
    in let
    running : s.closed ≡ None = c.in_default.is
    in let
    may : MayActivate g.B.Founded.sound (known_by b g.B.Based.damaged v) c.args.table.0 c.args.index.0 = subst (λ (w : Shown). MayActivate g.B.Founded.sound (known_by b g.B.Based.damaged w) c.args.table.0 c.args.index.0) (sym c.self.view_is) (record { index = c.requires.index; table = c.requires.table; each = c.requires.each })
    in let
    l = place_in s.groups.items s.standing.tables k.each.stand c.in-Some-numbered_place.place c.in-Some-numbered_place.ensures.found
    in let
    h = c.index-group.result.now
    in let
    h_is : get_or s.groups.items c.in-Some-numbered_place.place h ≡ h = sym c.index-group.ensures
    in let
    own : h.table.id ≡ c.args.table = group_of s.groups.items s.standing.tables k.each.stand c.in-Some-numbered_place.place h l h_is c.args.table c.in-Some-numbered_place.ensures.numbered
    in let
    x = c.index-part.result.now
    in let
    x_is : slice_get h.indexes.items c.in-Some-index_place.at ≡ Some x = got_at h.indexes.items c.in-Some-index_place.at x c.in-Some-index_place.ensures.found.0 c.index-part.ensures
    in let
    id : x.index.id ≡ c.args.index = c.in-Some-index_place.ensures.found.1 x x_is
    in
    (activating_failed g.D.Disk g.met.D.Disk.told g.met.D.Disk.up_to_now b g.B.Based.damaged g.B.Founded.sound g.B.Founded.premise g.B.Founded.began s.disk s.catalog s.standing s.groups.items s.trail s.late s.closed k running c.in-Some-numbered_place.place h l h_is s.seat c.args.table own c.args.index may c.in-Some-index_place.at x x_is id c.in_ok-made.made c.in_ok-made.ensures.ok c.take_entry.new.trail c.take_entry.ensures.same c.in-Ok.ensures.ok c.append.new.disk c.append.new.self c.append.ensures.counts c.append.ensures.touches c.append.ensures.any_moment c.entered.new.trail c.entered.new.late c.entered.new.closed c.in-Err.ensures.refused.0 (λ e. c.append.ensures.untouched (elim e [ inl x ↦ inl (c.in-Err.ensures.refused.1 ∙ ap Err x) | inr x ↦ inr (c.in-Err.ensures.refused.1 ∙ ap Err x) ])) (λ e. c.append.ensures.failed (c.in-Err.ensures.refused.1 ∙ ap Err e)) c.in-Err.ensures.refused.2.kept c.in-Err.ensures.refused.2.shut c.entered.ensures.room, (c.self.invariant.1.0, unwritten_entry_by_clock g.C.Clock g.B.Founded.times g.B.Based.base g.B.Founded.lookback s.lookback s.clock s.trail.entries c.self.invariant.1.1 c.take_entry.new.trail.entries c.take_entry.ensures.same c.in-Err.ensures.refused.0 _ c.entered.new.trail.entries _ _ _ _ _ c.in-Err.ensures.refused.2)))

pub returns-in-Ok-entered-clause-ok : goal.returns-in-Ok-entered-clause-ok
returns-in-Ok-entered-clause-ok g c = (let
    s = c.self.inside
    in let
    k = c.self.invariant.0
    in let
    b = g.B.Based.base
    in let
    v : Shown = shown_of s.seat s.trail.entries s.late s.closed s.groups.items s.lookback s.raising (g.D.Disk.calls s.disk) (g.D.Disk.faults s.disk)
    in let
    running : s.closed ≡ None = c.in_default.is
    in let
    may : MayActivate g.B.Founded.sound (known_by b g.B.Based.damaged v) c.args.table.0 c.args.index.0 = subst (λ (w : Shown). MayActivate g.B.Founded.sound (known_by b g.B.Based.damaged w) c.args.table.0 c.args.index.0) (sym c.self.view_is) (record { index = c.requires.index; table = c.requires.table; each = c.requires.each })
    in let
    l = place_in s.groups.items s.standing.tables k.each.stand c.in-Some-numbered_place.place c.in-Some-numbered_place.ensures.found
    in let
    h = c.index-group.result.now
    in let
    h_is : get_or s.groups.items c.in-Some-numbered_place.place h ≡ h = sym c.index-group.ensures
    in let
    own : h.table.id ≡ c.args.table = group_of s.groups.items s.standing.tables k.each.stand c.in-Some-numbered_place.place h l h_is c.args.table c.in-Some-numbered_place.ensures.numbered
    in let
    x = c.index-part.result.now
    in let
    x_is : slice_get h.indexes.items c.in-Some-index_place.at ≡ Some x = got_at h.indexes.items c.in-Some-index_place.at x c.in-Some-index_place.ensures.found.0 c.index-part.ensures
    in let
    id : x.index.id ≡ c.args.index = c.in-Some-index_place.ensures.found.1 x x_is
    in let
    v' : Shown = record v { entries = c.entered.new.trail.entries }
    in let
    m : Answered = record { number = c.args.index.0; stamp = x.index.birth; at = c.len.result }
    in
    subst (λ (w : Shown). DidDefine (known_by b g.B.Based.damaged w) (known_by b g.B.Based.damaged v') (definition.Active c.args.table c.args.index) m) c.self.view_is
    (activating_did g.D.Disk g.met.D.Disk.told g.met.D.Disk.up_to_now b g.B.Based.damaged g.B.Founded.sound g.B.Founded.premise g.B.Founded.began s.disk s.catalog s.standing s.groups.items s.trail s.late s.closed k running c.in-Some-numbered_place.place h l h_is s.seat c.args.table own c.args.index may c.in-Some-index_place.at x x_is id c.in_ok-made.made c.in_ok-made.ensures.ok c.take_entry.new.trail c.take_entry.ensures.same c.in-Ok.ensures.ok c.append.new.disk c.append.new.self c.append.ensures.counts c.append.ensures.touches c.append.ensures.any_moment (λ h. of_ok c.append.result tt _ c.in-Ok-entered.ensures.ok.0 (c.append.ensures.done h)) (of_ok c.append.result tt _ c.in-Ok-entered.ensures.ok.0 c.append.ensures.defined) c.index_mut.result.now (same_there s.groups.items c.in-Some-numbered_place.place c.index_mut.result.now h l (sym c.index_mut.ensures.value) h_is) c.make_active.new.group c.make_active.ensures c.replace-before.new.dest c.replace-before.ensures.after c.entered.new.trail (g.D.Disk.calls c.append.new.disk) refl c.in-Ok-entered.ensures.ok.1.entries c.entered.ensures.room c.len.result c.len.ensures))

pub returns-in-Err-clause-refused : goal.returns-in-Err-clause-refused
returns-in-Err-clause-refused g c = (let
    s = c.self.inside
    in let
    k = c.self.invariant.0
    in let
    b = g.B.Based.base
    in let
    v : Shown = shown_of s.seat s.trail.entries s.late s.closed s.groups.items s.lookback s.raising (g.D.Disk.calls s.disk) (g.D.Disk.faults s.disk)
    in let
    running : s.closed ≡ None = c.in_default.is
    in let
    may : MayActivate g.B.Founded.sound (known_by b g.B.Based.damaged v) c.args.table.0 c.args.index.0 = subst (λ (w : Shown). MayActivate g.B.Founded.sound (known_by b g.B.Based.damaged w) c.args.table.0 c.args.index.0) (sym c.self.view_is) (record { index = c.requires.index; table = c.requires.table; each = c.requires.each })
    in let
    l = place_in s.groups.items s.standing.tables k.each.stand c.in-Some-numbered_place.place c.in-Some-numbered_place.ensures.found
    in let
    h = c.index-group.result.now
    in let
    h_is : get_or s.groups.items c.in-Some-numbered_place.place h ≡ h = sym c.index-group.ensures
    in let
    own : h.table.id ≡ c.args.table = group_of s.groups.items s.standing.tables k.each.stand c.in-Some-numbered_place.place h l h_is c.args.table c.in-Some-numbered_place.ensures.numbered
    in let
    x = c.index-part.result.now
    in let
    x_is : slice_get h.indexes.items c.in-Some-index_place.at ≡ Some x = got_at h.indexes.items c.in-Some-index_place.at x c.in-Some-index_place.ensures.found.0 c.index-part.ensures
    in let
    id : x.index.id ≡ c.args.index = c.in-Some-index_place.ensures.found.1 x x_is
    in let
    v' : Shown = record v { entries = c.entered.new.trail.entries; late = c.entered.new.late; closed = c.entered.new.closed }
    in
    subst (λ (w : Shown). Refuses (define_cause (definition.Active c.args.table c.args.index)) (known_by b g.B.Based.damaged w) (known_by b g.B.Based.damaged v') c.in-Err.fault) c.self.view_is
    (activating_refused g.D.Disk g.met.D.Disk.told g.met.D.Disk.up_to_now b g.B.Based.damaged g.B.Founded.sound g.B.Founded.premise g.B.Founded.began s.disk s.catalog s.standing s.groups.items s.trail s.late s.closed k running c.in-Some-numbered_place.place h l h_is s.seat c.args.table own c.args.index may c.in-Some-index_place.at x x_is id c.in_ok-made.made c.in_ok-made.ensures.ok c.take_entry.new.trail c.take_entry.ensures.same c.in-Ok.ensures.ok c.append.new.disk c.append.new.self c.append.ensures.counts c.append.ensures.touches c.append.ensures.any_moment c.entered.new.trail c.entered.new.late c.entered.new.closed c.in-Err.ensures.refused.0 (λ e. c.append.ensures.untouched (elim e [ inl x ↦ inl (c.in-Err.ensures.refused.1 ∙ ap Err x) | inr x ↦ inr (c.in-Err.ensures.refused.1 ∙ ap Err x) ])) (λ e. c.append.ensures.failed (c.in-Err.ensures.refused.1 ∙ ap Err e)) c.in-Err.ensures.refused.2.kept c.in-Err.ensures.refused.2.shut c.entered.ensures.room c.in-Err.fault c.in-Err.ensures.refused.2.full c.in-Err.ensures.refused.2.memory c.in-Err.ensures.refused.2.failed))

-- ---- the calls of the disk

pub returns-in_default-take_entry-clause-counts : goal.returns-in_default-take_entry-clause-counts
returns-in_default-take_entry-clause-counts g c = few_by c.self.view_is refl refl

pub returns-in-Ok-entered-clause-counts : goal.returns-in-Ok-entered-clause-counts
returns-in-Ok-entered-clause-counts g c = made_by g.D.Disk c.self.inside.disk c.append.new.disk (c.append.ensures.counts) (omega arith) c.self.view_is refl refl refl refl

pub returns-in-Err-clause-counts : goal.returns-in-Err-clause-counts
returns-in-Err-clause-counts g c = made_by g.D.Disk c.self.inside.disk c.append.new.disk (c.append.ensures.counts) (omega arith) c.self.view_is refl refl refl refl

pub returns-in-Err-clause-blames : goal.returns-in-Err-clause-blames
returns-in-Err-clause-blames g c = (let u = c.in-Err.ensures.refused in unwritten_blames c.args.self.now (record c.args.self.now { calls = g.D.Disk.calls c.append.new.disk; faults = g.D.Disk.faults c.append.new.disk }) u.0 _ _ _ _ _ _ _ c.in-Err.fault u.2 (λ failed. rose_by g.D.Disk c.self.inside.disk c.append.new.disk (c.append.ensures.failed (u.1 ∙ ap Err failed)) c.self.view_is refl))

pub returns-in_err-made-clause-blames : goal.returns-in_err-made-clause-blames
returns-in_err-made-clause-blames g c = (let e = err_from_is_err_and c.from_residual.result c.from_residual.ensures.1 in rw e.1 (subst (Blames c.args.self.now c.args.self.now) (sym (e.2 ∙ c.in_err-made.ensures.refused)) tt))
