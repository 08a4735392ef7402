use Rattle.std.proofs.Common.{rules, ◌≡◌, ◌<◌, ◌^◌, inl, inr, ℕ, IsSome, Option, None, Some, Err, List, [], ◌∷◌, ◌++◌, get_or, refl, sym, ap, subst, ◌∙◌, arith}
use Rattle.std.proofs.lemmas.Bool.{false≢true}
use Rattle.std.proofs.lemmas.Result.{err_from_is_err_and}
use Rattle.px_values.specs.declared.name.TableId.{TableId}
use Rattle.px_tables.specs.declared.table.Table.{Table}
use Rattle.px_trail.specs.Trail.{last_of, table_of}
use Rattle.px_trail.specs.declared.entry.Act.TheVariants as act
use Rattle.px_trail.specs.declared.entry.Entry.{Entry}
use Rattle.px_turns.specs.Turns.{drawn_stamp}
use Rattle.px_calls.specs.Calls.{DidDefine}
use Rattle.px_calls.specs.Causes.{Refuses, define_cause}
use Rattle.px_calls.specs.Requires.{IsIndexFit}
use Rattle.px_calls.specs.declared.definition.Definition.TheVariants as definition
use Rattle.px_calls.specs.declared.fault.StepFault.{StepFault}
use Rattle.px_calls.specs.declared.fault.StepFault.TheVariants.{Memory}
use Rattle.px_standing.proofs.Looked.{lacks}
use Rattle.px_server.specs.Kept.{HasTallied}
use Rattle.px_server.specs.Shown.{Shown, known_by, shown_of}
use Rattle.px_server.specs.Stamps.{draw}
use Rattle.px_server.proofs.Entered.{entered_kept, of_ok}
use Rattle.px_server.proofs.Lists.{all_at}
use Rattle.px_server.proofs.Released.{group_of, place_in}
use Rattle.px_server.proofs.Stamping.{drawn_by_clock, read_by_clock, same_by_clock, unwritten_entry_by_clock}
use Rattle.px_server.proofs.Unwritten.{no_memory, reserved}
use Rattle.px_calls.specs.declared.definition.Made.{Made as Answered}
use Rattle.px_group.specs.declared.group.Group.{Group}
use Rattle.px_server.specs.inner.Indexing.{MayMakeIndex}
use Rattle.px_server.proofs.IndexFits.{fits_made}
use Rattle.px_server.proofs.IndexSteps.{making_did, making_failed, making_kept, making_refused}
use Rattle.px_server.proofs.Reserved.{roomy, same_there}
use Rattle.px_server.specs.DeviceCalls.{Blames}
use Rattle.px_server.proofs.DeviceCalls.{few_by, made_by, rose_by, unwritten_blames}
use Rattle.px_server.proofs.server.Server.make_index.Goals as goal

pub unreachable-requires : goal.unreachable-requires
unreachable-requires g c = (let
    s = c.self.inside
    in let
    k = c.self.invariant.0
    in let
    b = g.B.Based.base
    in let
    v : Shown = shown_of s.seat s.trail.entries s.late s.closed s.groups.items s.lookback s.raising (g.D.Disk.calls s.disk) (g.D.Disk.faults s.disk)
    in let
    may : MayMakeIndex (known_by b g.B.Based.damaged v) c.args.what.now = subst (λ (w : Shown). MayMakeIndex (known_by b g.B.Based.damaged w) c.args.what.now) (sym c.self.view_is) c.requires.may
    in let
    none : table_of b s.trail.entries c.args.what.now.table.0 ≡ None = lacks b s.trail.entries s.standing k.told.agrees c.args.what.now.table.0 c.in_default.ensures.none
    in
    false≢true (subst (λ (o : Option Table). IsSome o) none may.stands))

pub next_stamp-stamp-requires : goal.next_stamp-stamp-requires
next_stamp-stamp-requires g c = (let
    s = c.self.inside
    in let
    k = c.self.invariant.0
    in let
    b = g.B.Based.base
    in let
    v : Shown = shown_of s.seat s.trail.entries s.late s.closed s.groups.items s.lookback s.raising (g.D.Disk.calls s.disk) (g.D.Disk.faults s.disk)
    in let
    may : MayMakeIndex (known_by b g.B.Based.damaged v) c.args.what.now = subst (λ (w : Shown). MayMakeIndex (known_by b g.B.Based.damaged w) c.args.what.now) (sym c.self.view_is) c.requires.may
    in let
    running : s.closed ≡ None = sym k.told.closing ∙ may.running
    in let
    l = place_in s.groups.items s.standing.tables k.each.stand c.in-Some.place c.in-Some.ensures.found
    in let
    h = c.index.result.now
    in let
    h_is : get_or s.groups.items c.in-Some.place h ≡ h = sym c.index.ensures
    in let
    own : h.table.id ≡ c.args.what.now.table = group_of s.groups.items s.standing.tables k.each.stand c.in-Some.place h l h_is c.args.what.now.table c.in-Some.ensures.numbered
    in let
    tallied : HasTallied b s.trail.entries h = all_at (HasTallied b s.trail.entries) s.groups.items c.in-Some.place h l h_is (k.each.tallied running)
    in let
    last_is : last_of b c.args.what.now.table.0 s.trail.entries ≡ h.last = ap (λ (t : TableId). last_of b t.0 s.trail.entries) (sym own) ∙ tallied.tallied.last
    in let
    low = may.stamps
    in
    omega (arith, low, last_is))

pub invariant_of-self : goal.invariant_of-self
invariant_of-self g c = (let
    s = c.self.inside
    in let
    b = g.B.Based.base
    in
    (c.self.invariant.0, (c.self.invariant.1.0, read_by_clock g.C.Clock g.B.Founded.times b g.B.Founded.lookback s.lookback s.clock s.trail.entries c.self.invariant.1.1 c.next_stamp-stamp.new.clock c.next_stamp-stamp.ensures.rest)))

pub returns-in_err-made-clause-refused : goal.returns-in_err-made-clause-refused
returns-in_err-made-clause-refused g c = (let
    s = c.self.inside
    in let
    k = c.self.invariant.0
    in let
    b = g.B.Based.base
    in let
    v : Shown = shown_of s.seat s.trail.entries s.late s.closed s.groups.items s.lookback s.raising (g.D.Disk.calls s.disk) (g.D.Disk.faults s.disk)
    in let
    may : MayMakeIndex (known_by b g.B.Based.damaged v) c.args.what.now = subst (λ (w : Shown). MayMakeIndex (known_by b g.B.Based.damaged w) c.args.what.now) (sym c.self.view_is) c.requires.may
    in let
    running : s.closed ≡ None = sym k.told.closing ∙ may.running
    in let
    e = err_from_is_err_and c.from_residual.result c.from_residual.ensures.1
    in
    rw e.1 (subst (λ (f : StepFault). Refuses (define_cause (definition.Index c.args.what.now)) (known_by b g.B.Based.damaged c.args.self.now) (known_by b g.B.Based.damaged v) f) (sym (e.2 ∙ c.in_err-made.ensures.refused))
    (subst (λ (w : Shown). Refuses (define_cause (definition.Index c.args.what.now)) (known_by b g.B.Based.damaged w) (known_by b g.B.Based.damaged v) Memory) c.self.view_is
    (no_memory (known_by b g.B.Based.damaged v) k.told.legal s.closed k.told.closing running (definition.Index c.args.what.now)))))

pub invariant_of-self-in_default-take_entry : goal.invariant_of-self-in_default-take_entry
invariant_of-self-in_default-take_entry g c = (let
    s = c.self.inside
    in let
    b = g.B.Based.base
    in (
      roomy g.D.Disk b g.B.Founded.sound g.B.Founded.premise g.B.Founded.began s.disk s.catalog s.standing s.groups.items s.trail s.late s.closed c.self.invariant.0 c.take_entry.new.trail c.take_entry.ensures.same c.take_entry.ensures.least,
      (c.self.invariant.1.0, same_by_clock g.C.Clock g.B.Founded.times b g.B.Founded.lookback s.lookback c.next_stamp-stamp.new.clock s.trail.entries (read_by_clock g.C.Clock g.B.Founded.times b g.B.Founded.lookback s.lookback s.clock s.trail.entries c.self.invariant.1.1 c.next_stamp-stamp.new.clock c.next_stamp-stamp.ensures.rest) c.take_entry.new.trail.entries c.take_entry.ensures.same),
    ))

pub returns-in_default-take_entry-clause-refused : goal.returns-in_default-take_entry-clause-refused
returns-in_default-take_entry-clause-refused g c = (let
    s = c.self.inside
    in let
    k = c.self.invariant.0
    in let
    b = g.B.Based.base
    in let
    v : Shown = shown_of s.seat s.trail.entries s.late s.closed s.groups.items s.lookback s.raising (g.D.Disk.calls s.disk) (g.D.Disk.faults s.disk)
    in let
    may : MayMakeIndex (known_by b g.B.Based.damaged v) c.args.what.now = subst (λ (w : Shown). MayMakeIndex (known_by b g.B.Based.damaged w) c.args.what.now) (sym c.self.view_is) c.requires.may
    in let
    running : s.closed ≡ None = sym k.told.closing ∙ may.running
    in
    subst (λ (es : List Entry). Refuses (define_cause (definition.Index c.args.what.now)) (known_by b g.B.Based.damaged c.args.self.now) (known_by b g.B.Based.damaged (record v { entries = es })) Memory) (sym c.take_entry.ensures.same)
    (subst (λ (w : Shown). Refuses (define_cause (definition.Index c.args.what.now)) (known_by b g.B.Based.damaged w) (known_by b g.B.Based.damaged v) Memory) c.self.view_is
    (no_memory (known_by b g.B.Based.damaged v) k.told.legal s.closed k.told.closing running (definition.Index c.args.what.now))))

pub invariant_of-self-in_default-reserve_index : goal.invariant_of-self-in_default-reserve_index
invariant_of-self-in_default-reserve_index g c = (let
    s = c.self.inside
    in let
    k = c.self.invariant.0
    in let
    b = g.B.Based.base
    in let
    l = place_in s.groups.items s.standing.tables k.each.stand c.in-Some.place c.in-Some.ensures.found
    in let
    h1 = c.index_mut.result.now
    in let
    h1_is : get_or s.groups.items c.in-Some.place h1 ≡ h1 = sym c.index_mut.ensures.value
    in (
      reserved g.D.Disk b g.B.Founded.sound g.B.Founded.premise g.B.Founded.began s.disk s.catalog s.standing s.groups.items s.trail s.late s.closed k c.in-Some.place h1 c.reserve_index.new.group l h1_is c.reserve_index.ensures.same c.take_entry.new.trail c.take_entry.ensures.same c.take_entry.ensures.least,
      (c.self.invariant.1.0, same_by_clock g.C.Clock g.B.Founded.times b g.B.Founded.lookback s.lookback c.next_stamp-stamp.new.clock s.trail.entries (read_by_clock g.C.Clock g.B.Founded.times b g.B.Founded.lookback s.lookback s.clock s.trail.entries c.self.invariant.1.1 c.next_stamp-stamp.new.clock c.next_stamp-stamp.ensures.rest) c.take_entry.new.trail.entries c.take_entry.ensures.same),
    ))

pub returns-in_default-reserve_index-clause-refused : goal.returns-in_default-reserve_index-clause-refused
returns-in_default-reserve_index-clause-refused g c = (let
    s = c.self.inside
    in let
    k = c.self.invariant.0
    in let
    b = g.B.Based.base
    in let
    v : Shown = shown_of s.seat s.trail.entries s.late s.closed s.groups.items s.lookback s.raising (g.D.Disk.calls s.disk) (g.D.Disk.faults s.disk)
    in let
    may : MayMakeIndex (known_by b g.B.Based.damaged v) c.args.what.now = subst (λ (w : Shown). MayMakeIndex (known_by b g.B.Based.damaged w) c.args.what.now) (sym c.self.view_is) c.requires.may
    in let
    running : s.closed ≡ None = sym k.told.closing ∙ may.running
    in
    subst (λ (es : List Entry). Refuses (define_cause (definition.Index c.args.what.now)) (known_by b g.B.Based.damaged c.args.self.now) (known_by b g.B.Based.damaged (record v { entries = es })) Memory) (sym c.take_entry.ensures.same)
    (subst (λ (w : Shown). Refuses (define_cause (definition.Index c.args.what.now)) (known_by b g.B.Based.damaged w) (known_by b g.B.Based.damaged v) Memory) c.self.view_is
    (no_memory (known_by b g.B.Based.damaged v) k.told.legal s.closed k.told.closing running (definition.Index c.args.what.now))))

pub append-requires : goal.append-requires
append-requires g c = (let
    s = c.self.inside
    in let
    k = c.self.invariant.0
    in let
    b = g.B.Based.base
    in let
    v : Shown = shown_of s.seat s.trail.entries s.late s.closed s.groups.items s.lookback s.raising (g.D.Disk.calls s.disk) (g.D.Disk.faults s.disk)
    in let
    may : MayMakeIndex (known_by b g.B.Based.damaged v) c.args.what.now = subst (λ (w : Shown). MayMakeIndex (known_by b g.B.Based.damaged w) c.args.what.now) (sym c.self.view_is) c.requires.may
    in let
    running : s.closed ≡ None = sym k.told.closing ∙ may.running
    in let
    fit : IsIndexFit (known_by b g.B.Based.damaged v) c.args.what.now = subst (λ (w : Shown). IsIndexFit (known_by b g.B.Based.damaged w) c.args.what.now) (sym c.self.view_is) c.requires.fits
    in let
    l = place_in s.groups.items s.standing.tables k.each.stand c.in-Some.place c.in-Some.ensures.found
    in let
    h = c.index.result.now
    in let
    h_is : get_or s.groups.items c.in-Some.place h ≡ h = sym c.index.ensures
    in let
    own : h.table.id ≡ c.args.what.now.table = group_of s.groups.items s.standing.tables k.each.stand c.in-Some.place h l h_is c.args.what.now.table c.in-Some.ensures.numbered
    in let
    tallied : HasTallied b s.trail.entries h = all_at (HasTallied b s.trail.entries) s.groups.items c.in-Some.place h l h_is (k.each.tallied running)
    in let
    stands : table_of b s.trail.entries c.args.what.now.table.0 ≡ Some h.table = ap (λ (t : TableId). table_of b s.trail.entries t.0) (sym own) ∙ tallied.tallied.standing.table
    in let
    short : c.args.what.now.table.0 < 256 ^ 4 = search rules
    in
    record { right = fits_made g.D.Disk b g.B.Founded.sound g.B.Founded.premise g.B.Founded.began s.disk s.catalog s.standing s.groups.items s.trail s.late s.closed k running c.in-Some.place h l h_is c.args.what.now own (fit.fits h.table stands) short c.next_stamp-stamp.result c.in_ok-made.made c.in_ok-made.ensures.ok })

pub invariant_of-self-in-Ok-entered : goal.invariant_of-self-in-Ok-entered
invariant_of-self-in-Ok-entered g c = (let
    s = c.self.inside
    in let
    k = c.self.invariant.0
    in let
    b = g.B.Based.base
    in let
    v : Shown = shown_of s.seat s.trail.entries s.late s.closed s.groups.items s.lookback s.raising (g.D.Disk.calls s.disk) (g.D.Disk.faults s.disk)
    in let
    may : MayMakeIndex (known_by b g.B.Based.damaged v) c.args.what.now = subst (λ (w : Shown). MayMakeIndex (known_by b g.B.Based.damaged w) c.args.what.now) (sym c.self.view_is) c.requires.may
    in let
    running : s.closed ≡ None = sym k.told.closing ∙ may.running
    in let
    fit : IsIndexFit (known_by b g.B.Based.damaged v) c.args.what.now = subst (λ (w : Shown). IsIndexFit (known_by b g.B.Based.damaged w) c.args.what.now) (sym c.self.view_is) c.requires.fits
    in let
    l = place_in s.groups.items s.standing.tables k.each.stand c.in-Some.place c.in-Some.ensures.found
    in let
    h = c.index_mut.result.now
    in let
    h_is : get_or s.groups.items c.in-Some.place h ≡ h = sym c.index_mut.ensures.value
    in let
    own : h.table.id ≡ c.args.what.now.table = group_of s.groups.items s.standing.tables k.each.stand c.in-Some.place h l h_is c.args.what.now.table c.in-Some.ensures.numbered
    in let
    above : h.last < c.next_stamp-stamp.result = (let a = c.next_stamp-stamp.ensures.above in let same = ap (λ (x : Group). x.last) (same_there s.groups.items c.in-Some.place h c.index.result.now l h_is (sym c.index.ensures)) in omega (arith, a, same))
    in let
    tallied : HasTallied b s.trail.entries h = all_at (HasTallied b s.trail.entries) s.groups.items c.in-Some.place h l h_is (k.each.tallied running)
    in let
    there = same_there s.groups.items c.in-Some.place h c.index.result.now l h_is (sym c.index.ensures)
    in let
    last_is : last_of b c.args.what.now.table.0 s.trail.entries ≡ c.index.result.now.last = ap (λ (t : TableId). last_of b t.0 s.trail.entries) (sym own) ∙ (tallied.tallied.last ∙ ap (λ (x : Group). x.last) there)
    in let
    e : Entry = record { seat = s.seat; calls = g.D.Disk.calls c.append.new.disk; act = act.IndexMade c.args.what.now.table c.in_ok-made.made.index.id c.next_stamp-stamp.result c.in_ok-made.made.what }
    in (
      entered_kept g.D.Disk b g.B.Founded.sound g.B.Founded.premise g.B.Founded.began c.append.new.disk c.append.new.self _ _ c.entered.new.trail s.late c.entered.new.late s.closed c.entered.new.closed _ _ c.in-Ok-entered.ensures.ok.1
          (making_kept g.D.Disk g.met.D.Disk.told g.met.D.Disk.up_to_now b g.B.Based.damaged g.B.Founded.sound g.B.Founded.premise g.B.Founded.began s.disk s.catalog s.standing s.groups.items s.trail s.late s.closed k running c.in-Some.place h l h_is s.seat c.take_entry.new.trail c.take_entry.ensures.same c.in-Ok.ensures.ok c.append.new.disk c.append.new.self c.append.ensures.counts c.append.ensures.touches c.args.what.now own may fit c.next_stamp-stamp.result above c.next_stamp-stamp.ensures.most c.in_ok-made.made c.in_ok-made.ensures.ok c.reserve_index.new.group c.reserve_index.ensures.same c.append.ensures.any_moment (λ h. of_ok c.append.result tt _ c.in-Ok-entered.ensures.ok.0 (c.append.ensures.done h)) (of_ok c.append.result tt _ c.in-Ok-entered.ensures.ok.0 c.append.ensures.defined) c.index_mut-in-Ok-entered.result.now c.index_mut-in-Ok-entered.ensures.value c.add_index.new.group c.add_index.ensures c.replace-before.new.dest c.replace-before.ensures.after c.entered.new.trail (g.D.Disk.calls c.append.new.disk) refl c.in-Ok-entered.ensures.ok.1.entries c.entered.ensures.room),
      (
        c.self.invariant.1.0,
        drawn_by_clock g.C.Clock g.B.Founded.times b g.B.Founded.lookback s.lookback s.clock s.trail.entries c.self.invariant.1.1 c.next_stamp-stamp.new.clock c.next_stamp-stamp.ensures.rest c.entered.new.trail.entries e (draw c.args.what.now.table.0 c.next_stamp-stamp.result) (c.in-Ok-entered.ensures.ok.1.entries ∙ ap (λ (es : List Entry). es ++ e ∷ []) c.take_entry.ensures.same) refl
            (λ tells. ap (λ (n : ℕ). drawn_stamp n (g.C.Clock.times s.clock 0)) last_is ∙ c.next_stamp-stamp.ensures.drawn tells),
      ),
    ))

pub invariant_of-self-in-Err : goal.invariant_of-self-in-Err
invariant_of-self-in-Err g c = (let
    s = c.self.inside
    in let
    k = c.self.invariant.0
    in let
    b = g.B.Based.base
    in let
    v : Shown = shown_of s.seat s.trail.entries s.late s.closed s.groups.items s.lookback s.raising (g.D.Disk.calls s.disk) (g.D.Disk.faults s.disk)
    in let
    may : MayMakeIndex (known_by b g.B.Based.damaged v) c.args.what.now = subst (λ (w : Shown). MayMakeIndex (known_by b g.B.Based.damaged w) c.args.what.now) (sym c.self.view_is) c.requires.may
    in let
    running : s.closed ≡ None = sym k.told.closing ∙ may.running
    in let
    fit : IsIndexFit (known_by b g.B.Based.damaged v) c.args.what.now = subst (λ (w : Shown). IsIndexFit (known_by b g.B.Based.damaged w) c.args.what.now) (sym c.self.view_is) c.requires.fits
    in let
    l = place_in s.groups.items s.standing.tables k.each.stand c.in-Some.place c.in-Some.ensures.found
    in let
    h = c.index_mut.result.now
    in let
    h_is : get_or s.groups.items c.in-Some.place h ≡ h = sym c.index_mut.ensures.value
    in let
    own : h.table.id ≡ c.args.what.now.table = group_of s.groups.items s.standing.tables k.each.stand c.in-Some.place h l h_is c.args.what.now.table c.in-Some.ensures.numbered
    in let
    above : h.last < c.next_stamp-stamp.result = (let a = c.next_stamp-stamp.ensures.above in let same = ap (λ (x : Group). x.last) (same_there s.groups.items c.in-Some.place h c.index.result.now l h_is (sym c.index.ensures)) in omega (arith, a, same))
    in (
      making_failed g.D.Disk g.met.D.Disk.told g.met.D.Disk.up_to_now b g.B.Based.damaged g.B.Founded.sound g.B.Founded.premise g.B.Founded.began s.disk s.catalog s.standing s.groups.items s.trail s.late s.closed k running c.in-Some.place h l h_is s.seat c.take_entry.new.trail c.take_entry.ensures.same c.in-Ok.ensures.ok c.append.new.disk c.append.new.self c.append.ensures.counts c.append.ensures.touches c.args.what.now own may fit c.next_stamp-stamp.result above c.next_stamp-stamp.ensures.most c.in_ok-made.made c.in_ok-made.ensures.ok c.reserve_index.new.group c.reserve_index.ensures.same c.append.ensures.any_moment c.entered.new.trail c.entered.new.late c.entered.new.closed c.in-Err.ensures.refused.0 (λ e. c.append.ensures.untouched (elim e [ inl x ↦ inl (c.in-Err.ensures.refused.1 ∙ ap Err x) | inr x ↦ inr (c.in-Err.ensures.refused.1 ∙ ap Err x) ])) (λ e. c.append.ensures.failed (c.in-Err.ensures.refused.1 ∙ ap Err e)) c.in-Err.ensures.refused.2.kept c.in-Err.ensures.refused.2.shut c.entered.ensures.room,
      (
        c.self.invariant.1.0,
        unwritten_entry_by_clock g.C.Clock g.B.Founded.times b g.B.Founded.lookback s.lookback c.next_stamp-stamp.new.clock s.trail.entries (read_by_clock g.C.Clock g.B.Founded.times b g.B.Founded.lookback s.lookback s.clock s.trail.entries c.self.invariant.1.1 c.next_stamp-stamp.new.clock c.next_stamp-stamp.ensures.rest) c.take_entry.new.trail.entries c.take_entry.ensures.same c.in-Err.ensures.refused.0 _ c.entered.new.trail.entries _ _ _ _ _ c.in-Err.ensures.refused.2,
      ),
    ))

pub returns-in-Ok-entered-clause-ok : goal.returns-in-Ok-entered-clause-ok
returns-in-Ok-entered-clause-ok g c = (let
    s = c.self.inside
    in let
    k = c.self.invariant.0
    in let
    b = g.B.Based.base
    in let
    v : Shown = shown_of s.seat s.trail.entries s.late s.closed s.groups.items s.lookback s.raising (g.D.Disk.calls s.disk) (g.D.Disk.faults s.disk)
    in let
    may : MayMakeIndex (known_by b g.B.Based.damaged v) c.args.what.now = subst (λ (w : Shown). MayMakeIndex (known_by b g.B.Based.damaged w) c.args.what.now) (sym c.self.view_is) c.requires.may
    in let
    running : s.closed ≡ None = sym k.told.closing ∙ may.running
    in let
    fit : IsIndexFit (known_by b g.B.Based.damaged v) c.args.what.now = subst (λ (w : Shown). IsIndexFit (known_by b g.B.Based.damaged w) c.args.what.now) (sym c.self.view_is) c.requires.fits
    in let
    l = place_in s.groups.items s.standing.tables k.each.stand c.in-Some.place c.in-Some.ensures.found
    in let
    h = c.index_mut.result.now
    in let
    h_is : get_or s.groups.items c.in-Some.place h ≡ h = sym c.index_mut.ensures.value
    in let
    own : h.table.id ≡ c.args.what.now.table = group_of s.groups.items s.standing.tables k.each.stand c.in-Some.place h l h_is c.args.what.now.table c.in-Some.ensures.numbered
    in let
    above : h.last < c.next_stamp-stamp.result = (let a = c.next_stamp-stamp.ensures.above in let same = ap (λ (x : Group). x.last) (same_there s.groups.items c.in-Some.place h c.index.result.now l h_is (sym c.index.ensures)) in omega (arith, a, same))
    in let
    v' : Shown = record v { entries = c.entered.new.trail.entries }
    in let
    m : Answered = record { number = c.in_ok-made.made.index.id.0; stamp = c.next_stamp-stamp.result; at = c.len.result }
    in
    subst (λ (w : Shown). DidDefine (known_by b g.B.Based.damaged w) (known_by b g.B.Based.damaged v') (definition.Index c.args.what.now) m) c.self.view_is
    (making_did g.D.Disk g.met.D.Disk.told g.met.D.Disk.up_to_now b g.B.Based.damaged g.B.Founded.sound g.B.Founded.premise g.B.Founded.began s.disk s.catalog s.standing s.groups.items s.trail s.late s.closed k running c.in-Some.place h l h_is s.seat c.take_entry.new.trail c.take_entry.ensures.same c.in-Ok.ensures.ok c.append.new.disk c.append.new.self c.append.ensures.counts c.append.ensures.touches c.args.what.now own may fit c.next_stamp-stamp.result above c.next_stamp-stamp.ensures.most c.in_ok-made.made c.in_ok-made.ensures.ok c.reserve_index.new.group c.reserve_index.ensures.same c.append.ensures.any_moment (λ h. of_ok c.append.result tt _ c.in-Ok-entered.ensures.ok.0 (c.append.ensures.done h)) (of_ok c.append.result tt _ c.in-Ok-entered.ensures.ok.0 c.append.ensures.defined) c.index_mut-in-Ok-entered.result.now c.index_mut-in-Ok-entered.ensures.value c.add_index.new.group c.add_index.ensures c.replace-before.new.dest c.replace-before.ensures.after c.entered.new.trail (g.D.Disk.calls c.append.new.disk) refl c.in-Ok-entered.ensures.ok.1.entries c.entered.ensures.room c.len.result c.len.ensures))

pub returns-in-Err-clause-refused : goal.returns-in-Err-clause-refused
returns-in-Err-clause-refused g c = (let
    s = c.self.inside
    in let
    k = c.self.invariant.0
    in let
    b = g.B.Based.base
    in let
    v : Shown = shown_of s.seat s.trail.entries s.late s.closed s.groups.items s.lookback s.raising (g.D.Disk.calls s.disk) (g.D.Disk.faults s.disk)
    in let
    may : MayMakeIndex (known_by b g.B.Based.damaged v) c.args.what.now = subst (λ (w : Shown). MayMakeIndex (known_by b g.B.Based.damaged w) c.args.what.now) (sym c.self.view_is) c.requires.may
    in let
    running : s.closed ≡ None = sym k.told.closing ∙ may.running
    in let
    fit : IsIndexFit (known_by b g.B.Based.damaged v) c.args.what.now = subst (λ (w : Shown). IsIndexFit (known_by b g.B.Based.damaged w) c.args.what.now) (sym c.self.view_is) c.requires.fits
    in let
    l = place_in s.groups.items s.standing.tables k.each.stand c.in-Some.place c.in-Some.ensures.found
    in let
    h = c.index_mut.result.now
    in let
    h_is : get_or s.groups.items c.in-Some.place h ≡ h = sym c.index_mut.ensures.value
    in let
    own : h.table.id ≡ c.args.what.now.table = group_of s.groups.items s.standing.tables k.each.stand c.in-Some.place h l h_is c.args.what.now.table c.in-Some.ensures.numbered
    in let
    above : h.last < c.next_stamp-stamp.result = (let a = c.next_stamp-stamp.ensures.above in let same = ap (λ (x : Group). x.last) (same_there s.groups.items c.in-Some.place h c.index.result.now l h_is (sym c.index.ensures)) in omega (arith, a, same))
    in let
    v' : Shown = record v { entries = c.entered.new.trail.entries; late = c.entered.new.late; closed = c.entered.new.closed }
    in
    subst (λ (w : Shown). Refuses (define_cause (definition.Index c.args.what.now)) (known_by b g.B.Based.damaged w) (known_by b g.B.Based.damaged v') c.in-Err.fault) c.self.view_is
    (making_refused g.D.Disk g.met.D.Disk.told g.met.D.Disk.up_to_now b g.B.Based.damaged g.B.Founded.sound g.B.Founded.premise g.B.Founded.began s.disk s.catalog s.standing s.groups.items s.trail s.late s.closed k running c.in-Some.place h l h_is s.seat c.take_entry.new.trail c.take_entry.ensures.same c.in-Ok.ensures.ok c.append.new.disk c.append.new.self c.append.ensures.counts c.append.ensures.touches c.args.what.now own may fit c.next_stamp-stamp.result above c.next_stamp-stamp.ensures.most c.in_ok-made.made c.in_ok-made.ensures.ok c.reserve_index.new.group c.reserve_index.ensures.same c.append.ensures.any_moment c.entered.new.trail c.entered.new.late c.entered.new.closed c.in-Err.ensures.refused.0 (λ e. c.append.ensures.untouched (elim e [ inl x ↦ inl (c.in-Err.ensures.refused.1 ∙ ap Err x) | inr x ↦ inr (c.in-Err.ensures.refused.1 ∙ ap Err x) ])) (λ e. c.append.ensures.failed (c.in-Err.ensures.refused.1 ∙ ap Err e)) c.in-Err.ensures.refused.2.kept c.in-Err.ensures.refused.2.shut c.entered.ensures.room c.in-Err.fault c.in-Err.ensures.refused.2.full c.in-Err.ensures.refused.2.memory c.in-Err.ensures.refused.2.failed))

-- ---- the calls of the disk

pub returns-in_default-take_entry-clause-counts : goal.returns-in_default-take_entry-clause-counts
returns-in_default-take_entry-clause-counts g c = few_by c.self.view_is refl refl

pub returns-in_default-reserve_index-clause-counts : goal.returns-in_default-reserve_index-clause-counts
returns-in_default-reserve_index-clause-counts g c = few_by c.self.view_is refl refl

pub returns-in-Ok-entered-clause-counts : goal.returns-in-Ok-entered-clause-counts
returns-in-Ok-entered-clause-counts g c = made_by g.D.Disk c.self.inside.disk c.append.new.disk (c.append.ensures.counts) (omega arith) c.self.view_is refl refl refl refl

pub returns-in-Err-clause-counts : goal.returns-in-Err-clause-counts
returns-in-Err-clause-counts g c = made_by g.D.Disk c.self.inside.disk c.append.new.disk (c.append.ensures.counts) (omega arith) c.self.view_is refl refl refl refl

pub returns-in-Err-clause-blames : goal.returns-in-Err-clause-blames
returns-in-Err-clause-blames g c = (let u = c.in-Err.ensures.refused in unwritten_blames c.args.self.now (record c.args.self.now { calls = g.D.Disk.calls c.append.new.disk; faults = g.D.Disk.faults c.append.new.disk }) u.0 _ _ _ _ _ _ _ c.in-Err.fault u.2 (λ failed. rose_by g.D.Disk c.self.inside.disk c.append.new.disk (c.append.ensures.failed (u.1 ∙ ap Err failed)) c.self.view_is refl))

pub returns-in_err-made-clause-blames : goal.returns-in_err-made-clause-blames
returns-in_err-made-clause-blames g c = (let e = err_from_is_err_and c.from_residual.result c.from_residual.ensures.1 in rw e.1 (subst (Blames c.args.self.now (record c.args.self.now { calls = g.D.Disk.calls c.self.inside.disk; faults = g.D.Disk.faults c.self.inside.disk })) (sym (e.2 ∙ c.in_err-made.ensures.refused)) tt))
