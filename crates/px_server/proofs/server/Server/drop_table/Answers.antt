use Rattle.std.proofs.Common.{rules, inl, inr, ◌≡◌, ◌++◌, ◌∷◌, ◌∙◌, ◌+◌, [], List, None, Err, length, refl, sym, ap, subst, arith}
use Rattle.std.specs.Prelude.{◌==◌, not}
use Rattle.std.proofs.lemmas.Fn.{filter_same}
use Rattle.px_trail.specs.declared.entry.Act.TheVariants.{Dropped, Shut}
use Rattle.px_trail.specs.declared.entry.Entry.{Entry}
use Rattle.px_calls.specs.Calls.{DidDefine}
use Rattle.px_calls.specs.Causes.{Refuses, define_cause}
use Rattle.px_calls.specs.declared.definition.Definition.TheVariants.{DropTable as DropTableOf}
use Rattle.px_calls.specs.declared.definition.Made.{Made as Answered}
use Rattle.px_calls.specs.declared.fault.StepFault.TheVariants.{Closed, InUse, Memory, NoTable}
use Rattle.px_schema.specs.declared.standing.Standing.{Standing}
use Rattle.px_catalog.specs.Catalogue.{standing_of}
use Rattle.px_group.specs.declared.group.Group.{Group}
use Rattle.px_server.specs.Shown.{Shown, known_by, shown_of}
use Rattle.px_server.proofs.Entered.{entered_kept, of_ok}
use Rattle.px_server.proofs.Released.{none_of}
use Rattle.px_server.proofs.Stamping.{more_by_clock, unwritten_entry_by_clock}
use Rattle.px_server.proofs.TableCauses.{did_drop, drop_full, drop_in_use, drop_no_table, refused_closed, refused_memory}
use Rattle.px_server.proofs.TableRecord.{gone_right}
use Rattle.px_server.proofs.TableSteps.{dropping_failed, dropping_kept, table_uses, unwritten_refused}
use Rattle.px_server.proofs.DeviceCalls.{few_by, made_by, rose_by, unwritten_blames}
use Rattle.px_server.proofs.server.Server.drop_table.Goals as goal

pub returns-in-Some-clause-refused : goal.returns-in-Some-clause-refused
returns-in-Some-clause-refused g c =
    let s = c.self.inside in
    let b = g.B.Based.base in
    let told = c.self.invariant.0.told in
    let v : Shown = shown_of s.seat s.trail.entries s.late s.closed s.groups.items s.lookback s.raising (g.D.Disk.calls s.disk) (g.D.Disk.faults s.disk) in
    subst (λ (w : Shown). Refuses (define_cause (DropTableOf c.args.table)) (known_by b g.B.Based.damaged w) (known_by b g.B.Based.damaged w) (Closed c.in-Some.call)) c.self.view_is
    (refused_closed (known_by b g.B.Based.damaged v) told.legal s.closed told.closing (DropTableOf c.args.table) c.in-Some.call c.in-Some.is)

pub returns-in_default-numbered_place-clause-refused : goal.returns-in_default-numbered_place-clause-refused
returns-in_default-numbered_place-clause-refused g c =
    let s = c.self.inside in
    let b = g.B.Based.base in
    let told = c.self.invariant.0.told in
    let v : Shown = shown_of s.seat s.trail.entries s.late s.closed s.groups.items s.lookback s.raising (g.D.Disk.calls s.disk) (g.D.Disk.faults s.disk) in
    let running : s.closed ≡ None = none_of s.closed (λ x is. search rules) in
    subst (λ (w : Shown). Refuses (define_cause (DropTableOf c.args.table)) (known_by b g.B.Based.damaged w) (known_by b g.B.Based.damaged w) (NoTable)) c.self.view_is
    (drop_no_table (known_by b g.B.Based.damaged v) told.legal s.closed told.closing s.standing told.agrees running c.args.table c.in_default-numbered_place.ensures.none)

pub returns-then-count-gt0-clause-refused : goal.returns-then-count-gt0-clause-refused
returns-then-count-gt0-clause-refused g c =
    let s = c.self.inside in
    let b = g.B.Based.base in
    let told = c.self.invariant.0.told in
    let v : Shown = shown_of s.seat s.trail.entries s.late s.closed s.groups.items s.lookback s.raising (g.D.Disk.calls s.disk) (g.D.Disk.faults s.disk) in
    let running : s.closed ≡ None = none_of s.closed (λ x is. search rules) in
    subst (λ (w : Shown). Refuses (define_cause (DropTableOf c.args.table)) (known_by b g.B.Based.damaged w) (known_by b g.B.Based.damaged w) (InUse c.uses-count.result)) c.self.view_is
    (drop_in_use (known_by b g.B.Based.damaged v) told.legal s.closed told.closing running c.args.table c.uses-count.result (table_uses g.D.Disk b g.B.Founded.sound g.B.Founded.premise g.B.Founded.began s.disk s.catalog s.standing s.groups.items s.trail s.late s.closed c.self.invariant.0 running c.args.table c.in-Some-numbered_place.place c.in-Some-numbered_place.ensures.found c.in-Some-numbered_place.ensures.numbered c.index.result.now (sym c.index.ensures) ∙ sym c.uses-count.ensures) c.if-count-gt0.true)

pub returns-in_default-standing_after-clause-refused : goal.returns-in_default-standing_after-clause-refused
returns-in_default-standing_after-clause-refused g c =
    let s = c.self.inside in
    let b = g.B.Based.base in
    let told = c.self.invariant.0.told in
    let v : Shown = shown_of s.seat s.trail.entries s.late s.closed s.groups.items s.lookback s.raising (g.D.Disk.calls s.disk) (g.D.Disk.faults s.disk) in
    let running : s.closed ≡ None = none_of s.closed (λ x is. search rules) in
    subst (λ (w : Shown). Refuses (define_cause (DropTableOf c.args.table)) (known_by b g.B.Based.damaged w) (known_by b g.B.Based.damaged w) (Memory)) c.self.view_is
    (refused_memory (known_by b g.B.Based.damaged v) told.legal s.closed told.closing running (DropTableOf c.args.table))

pub returns-in_default-take_entry-clause-refused : goal.returns-in_default-take_entry-clause-refused
returns-in_default-take_entry-clause-refused g c =
    let s = c.self.inside in
    let b = g.B.Based.base in
    let told = c.self.invariant.0.told in
    let v : Shown = shown_of s.seat s.trail.entries s.late s.closed s.groups.items s.lookback s.raising (g.D.Disk.calls s.disk) (g.D.Disk.faults s.disk) in
    let running : s.closed ≡ None = none_of s.closed (λ x is. search rules) in
    subst (λ (w : Shown). Refuses (define_cause (DropTableOf c.args.table)) (known_by b g.B.Based.damaged w) (record (known_by b g.B.Based.damaged v) { seen = c.take_entry.new.trail.entries }) Memory) c.self.view_is
    (subst (λ (es : List Entry). Refuses (define_cause (DropTableOf c.args.table)) (known_by b g.B.Based.damaged v) (record (known_by b g.B.Based.damaged v) { seen = es }) Memory) (sym c.take_entry.ensures.same)
    (refused_memory (known_by b g.B.Based.damaged v) told.legal s.closed told.closing running (DropTableOf c.args.table)))

pub append-requires : goal.append-requires
append-requires g c =
    let s = c.self.inside in
    let running : s.closed ≡ None = none_of s.closed (λ x is. search rules) in
    record {
      right = gone_right (standing_of s.catalog) s.standing c.args.table c.in-Some-numbered_place.place c.index.result.now.table (ap (λ (st : Standing). st.tables) (c.self.invariant.0.told.same running)) c.in-Some-numbered_place.ensures.found
          (c.in-Some-numbered_place.ensures.numbered c.index.result.now.table) (search rules);
    }

pub invariant_of-self-in-Ok-entered : goal.invariant_of-self-in-Ok-entered
invariant_of-self-in-Ok-entered g c =
    let s = c.self.inside in
    let running : s.closed ≡ None = none_of s.closed (λ x is. search rules) in
    let unused : length c.index.result.now.points.items + length c.index.result.now.batches.items ≡ 0 = (let n = c.uses-count.ensures in let z = c.if-count-gt0.false in omega (arith, n, z)) in (
      entered_kept g.D.Disk g.B.Based.base g.B.Founded.sound g.B.Founded.premise g.B.Founded.began c.append.new.disk c.append.new.self _ _ c.entered.new.trail s.late c.entered.new.late s.closed c.entered.new.closed _ _ c.in-Ok-entered.ensures.ok.1
          (dropping_kept g.D.Disk g.met.D.Disk.told g.met.D.Disk.up_to_now g.B.Based.base g.B.Founded.sound g.B.Founded.premise g.B.Founded.began s.disk s.catalog s.standing s.groups.items s.trail s.late s.closed c.self.invariant.0
          c.append.new.disk c.append.new.self c.append.ensures.counts c.append.ensures.touches s.seat c.take_entry.new.trail c.take_entry.ensures.same c.in-Ok-take_entry.ensures.ok s.groups.items refl
          running c.args.table c.in-Some-numbered_place.place c.in-Some-numbered_place.ensures.found c.in-Some-numbered_place.ensures.numbered c.index.result.now (sym c.index.ensures) unused c.append.ensures.any_moment
          (λ h. of_ok c.append.result tt _ c.in-Ok-entered.ensures.ok.0 (c.append.ensures.done h)) (of_ok c.append.result tt _ c.in-Ok-entered.ensures.ok.0 c.append.ensures.defined) c.replace-before.new.dest (c.replace-before.ensures.after ∙ c.in-Ok.ensures) c.retain.new.self.items
          (filter_same _ (λ (x : Group). not (x.table.id.0 == c.args.table.0)) _ (λ x v f' k. search rules) _ _ c.retain.ensures.filtered)
          c.entered.new.trail (g.D.Disk.calls c.append.new.disk) refl c.in-Ok-entered.ensures.ok.1.entries c.entered.ensures.room),
      (c.self.invariant.1.0, more_by_clock g.C.Clock g.B.Founded.times g.B.Based.base g.B.Founded.lookback s.lookback s.clock s.trail.entries c.self.invariant.1.1 c.entered.new.trail.entries (record { seat = s.seat; calls = g.D.Disk.calls c.append.new.disk; act = Dropped c.args.table None }) (c.in-Ok-entered.ensures.ok.1.entries ∙ ap (λ (es : List Entry). es ++ (record { seat = s.seat; calls = g.D.Disk.calls c.append.new.disk; act = Dropped c.args.table None }) ∷ []) c.take_entry.ensures.same) refl),
    )

pub invariant_of-self-in-Err : goal.invariant_of-self-in-Err
invariant_of-self-in-Err g c =
    let s = c.self.inside in
    let running : s.closed ≡ None = none_of s.closed (λ x is. search rules) in
    let unused : length c.index.result.now.points.items + length c.index.result.now.batches.items ≡ 0 = (let n = c.uses-count.ensures in let z = c.if-count-gt0.false in omega (arith, n, z)) in (
      dropping_failed g.D.Disk g.met.D.Disk.told g.met.D.Disk.up_to_now g.B.Based.base g.B.Founded.sound g.B.Founded.premise g.B.Founded.began s.disk s.catalog s.standing s.groups.items s.trail s.late s.closed c.self.invariant.0
          c.append.new.disk c.append.new.self c.append.ensures.counts c.append.ensures.touches s.seat c.take_entry.new.trail c.take_entry.ensures.same c.in-Ok-take_entry.ensures.ok s.groups.items refl
          running c.args.table c.in-Some-numbered_place.place c.in-Some-numbered_place.ensures.found c.in-Some-numbered_place.ensures.numbered c.index.result.now (sym c.index.ensures) unused c.append.ensures.any_moment
          c.entered.new.trail c.entered.new.late c.entered.new.closed c.in-Err.ensures.refused.0 (λ e. c.append.ensures.untouched (elim e [ inl x ↦ inl (c.in-Err.ensures.refused.1 ∙ ap Err x) | inr x ↦ inr (c.in-Err.ensures.refused.1 ∙ ap Err x) ])) (λ e. c.append.ensures.failed (c.in-Err.ensures.refused.1 ∙ ap Err e))
          c.in-Err.ensures.refused.2.kept c.in-Err.ensures.refused.2.shut c.entered.ensures.room,
      (c.self.invariant.1.0, unwritten_entry_by_clock g.C.Clock g.B.Founded.times g.B.Based.base g.B.Founded.lookback s.lookback s.clock s.trail.entries c.self.invariant.1.1 c.take_entry.new.trail.entries c.take_entry.ensures.same c.in-Err.ensures.refused.0 _ c.entered.new.trail.entries _ _ _ _ _ c.in-Err.ensures.refused.2),
    )

pub returns-in-Ok-entered-clause-ok : goal.returns-in-Ok-entered-clause-ok
returns-in-Ok-entered-clause-ok g c =
    let s = c.self.inside in
    let b = g.B.Based.base in
    let told = c.self.invariant.0.told in
    let v : Shown = shown_of s.seat s.trail.entries s.late s.closed s.groups.items s.lookback s.raising (g.D.Disk.calls s.disk) (g.D.Disk.faults s.disk) in
    let v' : Shown = record v { entries = c.entered.new.trail.entries } in
    let m : Answered = record { number = c.args.table.0; stamp = 0; at = c.len.result } in
    subst (λ (w : Shown). DidDefine (known_by b g.B.Based.damaged w) (known_by b g.B.Based.damaged v') (DropTableOf c.args.table) m) c.self.view_is
    (did_drop (known_by b g.B.Based.damaged v) told.legal s.closed told.closing c.entered.new.trail.entries (g.D.Disk.calls c.append.new.disk) (invariant_of-self-in-Ok-entered g c).0.told.legal c.args.table m refl refl c.len.ensures
    (c.in-Ok-entered.ensures.ok.1.entries ∙ ap (λ (es : List Entry). es ++ record { seat = s.seat; calls = g.D.Disk.calls c.append.new.disk; act = Dropped c.args.table None } ∷ []) c.take_entry.ensures.same))

pub returns-in-Err-clause-refused : goal.returns-in-Err-clause-refused
returns-in-Err-clause-refused g c =
    let s = c.self.inside in
    let b = g.B.Based.base in
    let told = c.self.invariant.0.told in
    let v : Shown = shown_of s.seat s.trail.entries s.late s.closed s.groups.items s.lookback s.raising (g.D.Disk.calls s.disk) (g.D.Disk.faults s.disk) in
    let running : s.closed ≡ None = none_of s.closed (λ x is. search rules) in
    let v' : Shown = record v { entries = c.entered.new.trail.entries; late = c.entered.new.late; closed = c.entered.new.closed } in
    let calls = g.D.Disk.calls c.append.new.disk in
    subst (λ (w : Shown). Refuses (define_cause (DropTableOf c.args.table)) (known_by b g.B.Based.damaged w) (known_by b g.B.Based.damaged v') c.in-Err.fault) c.self.view_is
    (unwritten_refused (known_by b g.B.Based.damaged v) told.legal s.closed told.closing (DropTableOf c.args.table) (drop_full (known_by b g.B.Based.damaged v) told.legal s.closed told.closing running c.args.table) (refused_memory (known_by b g.B.Based.damaged v) told.legal s.closed told.closing running (DropTableOf c.args.table))
    c.in-Err.fault c.entered.new.trail.entries calls (invariant_of-self-in-Err g c).0.told.legal c.in-Err.ensures.refused.0 c.in-Err.ensures.refused.2.full c.in-Err.ensures.refused.2.memory c.in-Err.ensures.refused.2.failed
    (λ n. (c.in-Err.ensures.refused.2.kept n).0 ∙ c.take_entry.ensures.same)
    (λ e. (c.in-Err.ensures.refused.2.shut e).0 ∙ ap (λ (es : List Entry). es ++ record { seat = s.seat; calls = calls; act = Shut calls } ∷ []) c.take_entry.ensures.same))

-- ---- the calls of the disk

pub returns-in_default-take_entry-clause-counts : goal.returns-in_default-take_entry-clause-counts
returns-in_default-take_entry-clause-counts g c = few_by c.self.view_is refl refl

pub returns-in-Ok-entered-clause-counts : goal.returns-in-Ok-entered-clause-counts
returns-in-Ok-entered-clause-counts g c = made_by g.D.Disk c.self.inside.disk c.append.new.disk (c.append.ensures.counts) (omega arith) c.self.view_is refl refl refl refl

pub returns-in-Err-clause-counts : goal.returns-in-Err-clause-counts
returns-in-Err-clause-counts g c = made_by g.D.Disk c.self.inside.disk c.append.new.disk (c.append.ensures.counts) (omega arith) c.self.view_is refl refl refl refl

pub returns-in-Err-clause-blames : goal.returns-in-Err-clause-blames
returns-in-Err-clause-blames g c = (let u = c.in-Err.ensures.refused in unwritten_blames c.args.self.now (record c.args.self.now { calls = g.D.Disk.calls c.append.new.disk; faults = g.D.Disk.faults c.append.new.disk }) u.0 _ _ _ _ _ _ _ c.in-Err.fault u.2 (λ failed. rose_by g.D.Disk c.self.inside.disk c.append.new.disk (c.append.ensures.failed (u.1 ∙ ap Err failed)) c.self.view_is refl))
