use Rattle.std.proofs.Common.{rules, inl, inr, ◌++◌, ◌∷◌, ◌∙◌, [], List, Err, refl, sym, ap, subst, arith}
use Rattle.px_tables.specs.declared.table.NewTable.{NewTable}
use Rattle.px_tables.specs.declared.table.Table.{Table}
use Rattle.px_trail.specs.declared.entry.Act.TheVariants.{Made as MadeAct, Shut}
use Rattle.px_trail.specs.declared.entry.Entry.{Entry}
use Rattle.px_calls.specs.Calls.{DidDefine}
use Rattle.px_calls.specs.Causes.{Refuses, define_cause}
use Rattle.px_calls.specs.declared.definition.Definition.TheVariants.{Table as NewTableOf}
use Rattle.px_calls.specs.declared.definition.Made.{Made as Answered}
use Rattle.px_calls.specs.declared.fault.StepFault.TheVariants.{Memory}
use Rattle.px_schema.specs.Records.{IsRightCatalogItem}
use Rattle.px_schema.specs.declared.item.CatalogItem.TheVariants.{TableIs}
use Rattle.px_schema.specs.declared.standing.Standing.{Standing}
use Rattle.px_catalog.specs.Catalogue.{standing_of}
use Rattle.px_server.specs.Shown.{Shown, known_by, shown_of}
use Rattle.px_server.specs.inner.Making.{MayMake}
use Rattle.px_server.proofs.Entered.{entered_kept, of_ok}
use Rattle.px_server.proofs.Stamping.{more_by_clock, unwritten_entry_by_clock}
use Rattle.px_server.proofs.TableCauses.{did_make, refused_memory, refused_unmade, table_full}
use Rattle.px_server.proofs.TableRecord.{made_right}
use Rattle.px_server.proofs.TableSteps.{making_failed, making_kept, on_ok, unwritten_refused}
use Rattle.px_server.proofs.DeviceCalls.{few_by, made_by, rose_by, unwritten_blames, unmade_blames}
use Rattle.px_server.proofs.server.Server.define_table.Goals as goal

pub returns-in-Err-clause-refused : goal.returns-in-Err-clause-refused
returns-in-Err-clause-refused g c =
    let s = c.self.inside in
    let b = g.B.Based.base in
    let told = c.self.invariant.0.told in
    let v : Shown = shown_of s.seat s.trail.entries s.late s.closed s.groups.items s.lookback s.raising (g.D.Disk.calls s.disk) (g.D.Disk.faults s.disk) in
    subst (λ (w : Shown). Refuses (define_cause (NewTableOf c.args.what.now)) (known_by b g.B.Based.damaged w) (known_by b g.B.Based.damaged w) c.in-Err.fault) c.self.view_is
    (refused_unmade (known_by b g.B.Based.damaged v) told.legal s.closed told.closing s.standing told.agrees c.args.what.now c.in-Err.fault c.in-Err.ensures.refused)

pub returns-in_default-parts_of-clause-refused : goal.returns-in_default-parts_of-clause-refused
returns-in_default-parts_of-clause-refused g c =
    let s = c.self.inside in
    let b = g.B.Based.base in
    let told = c.self.invariant.0.told in
    let may : MayMake s.standing s.closed c.args.what.now = on_ok c.check_table.result (MayMake s.standing s.closed c.args.what.now) c.check_table.ensures.ok (λ e is. search rules) in
    let v : Shown = shown_of s.seat s.trail.entries s.late s.closed s.groups.items s.lookback s.raising (g.D.Disk.calls s.disk) (g.D.Disk.faults s.disk) in
    subst (λ (w : Shown). Refuses (define_cause (NewTableOf c.args.what.now)) (known_by b g.B.Based.damaged w) (known_by b g.B.Based.damaged w) Memory) c.self.view_is
    (refused_memory (known_by b g.B.Based.damaged v) told.legal s.closed told.closing may.running (NewTableOf c.args.what.now))

pub returns-in_default-take_room-clause-refused : goal.returns-in_default-take_room-clause-refused
returns-in_default-take_room-clause-refused g c =
    let s = c.self.inside in
    let b = g.B.Based.base in
    let told = c.self.invariant.0.told in
    let may : MayMake s.standing s.closed c.args.what.now = on_ok c.check_table.result (MayMake s.standing s.closed c.args.what.now) c.check_table.ensures.ok (λ e is. search rules) in
    let v : Shown = shown_of s.seat s.trail.entries s.late s.closed s.groups.items s.lookback s.raising (g.D.Disk.calls s.disk) (g.D.Disk.faults s.disk) in
    subst (λ (w : Shown). Refuses (define_cause (NewTableOf c.args.what.now)) (known_by b g.B.Based.damaged w) (record (known_by b g.B.Based.damaged v) { seen = c.take_room.new.trail.entries }) Memory) c.self.view_is
    (subst (λ (es : List Entry). Refuses (define_cause (NewTableOf c.args.what.now)) (known_by b g.B.Based.damaged v) (record (known_by b g.B.Based.damaged v) { seen = es }) Memory) (sym c.take_room.ensures.same)
    (refused_memory (known_by b g.B.Based.damaged v) told.legal s.closed told.closing may.running (NewTableOf c.args.what.now)))

pub append-requires : goal.append-requires
append-requires g c =
    let s = c.self.inside in
    let may : MayMake s.standing s.closed c.args.what.now = on_ok c.check_table.result (MayMake s.standing s.closed c.args.what.now) c.check_table.ensures.ok (λ e is. search rules) in
    record {
      right = subst (λ (i : Table). IsRightCatalogItem (standing_of s.catalog) (TableIs i)) (sym c.in-Ok.ensures.item_is)
          (made_right (standing_of s.catalog) s.standing s.closed c.args.what.now (ap (λ (st : Standing). st.tables) (c.self.invariant.0.told.same may.running)) c.requires may);
    }

pub invariant_of-self-in-Ok-entered : goal.invariant_of-self-in-Ok-entered
invariant_of-self-in-Ok-entered g c =
    let s = c.self.inside in
    let may : MayMake s.standing s.closed c.args.what.now = on_ok c.check_table.result (MayMake s.standing s.closed c.args.what.now) c.check_table.ensures.ok (λ e is. search rules) in (
      entered_kept g.D.Disk g.B.Based.base g.B.Founded.sound g.B.Founded.premise g.B.Founded.began c.append.new.disk c.append.new.self _ _ c.entered.new.trail s.late c.entered.new.late s.closed c.entered.new.closed _ _ c.in-Ok-entered.ensures.ok.1
          (making_kept g.D.Disk g.met.D.Disk.told g.met.D.Disk.up_to_now g.B.Based.base g.B.Founded.sound g.B.Founded.premise g.B.Founded.began s.disk s.catalog s.standing s.groups.items s.trail s.late s.closed c.self.invariant.0
          c.append.new.disk c.append.new.self c.append.ensures.counts c.append.ensures.touches s.seat c.take_room.new.trail c.take_room.ensures.same c.in-Ok-take_room.ensures.ok.1 c.take_room.new.groups.items c.take_room.ensures.groups
          c.args.what.now c.requires may c.in-Ok.parts.item c.in-Ok.parts.group c.in-Ok.parts.standing c.in-Ok.parts.copy c.in-Ok.ensures c.append.ensures.any_moment
          (λ h. of_ok c.append.result tt _ c.in-Ok-entered.ensures.ok.0 (c.append.ensures.done h)) (of_ok c.append.result tt _ c.in-Ok-entered.ensures.ok.0 c.append.ensures.defined) c.replace-before.new.dest c.replace-before.ensures.after c.push_reserved.new.self.items c.push_reserved.ensures.items
          c.entered.new.trail (g.D.Disk.calls c.append.new.disk) refl c.in-Ok-entered.ensures.ok.1.entries c.entered.ensures.room),
      (c.self.invariant.1.0, more_by_clock g.C.Clock g.B.Founded.times g.B.Based.base g.B.Founded.lookback s.lookback s.clock s.trail.entries c.self.invariant.1.1 c.entered.new.trail.entries (record { seat = s.seat; calls = g.D.Disk.calls c.append.new.disk; act = MadeAct c.in-Ok.parts.group.table.id c.in-Ok.parts.copy }) (c.in-Ok-entered.ensures.ok.1.entries ∙ ap (λ (es : List Entry). es ++ (record { seat = s.seat; calls = g.D.Disk.calls c.append.new.disk; act = MadeAct c.in-Ok.parts.group.table.id c.in-Ok.parts.copy }) ∷ []) c.take_room.ensures.same) refl),
    )

pub invariant_of-self-in-Err-entered : goal.invariant_of-self-in-Err-entered
invariant_of-self-in-Err-entered g c =
    let s = c.self.inside in
    let may : MayMake s.standing s.closed c.args.what.now = on_ok c.check_table.result (MayMake s.standing s.closed c.args.what.now) c.check_table.ensures.ok (λ e is. search rules) in (
      making_failed g.D.Disk g.met.D.Disk.told g.met.D.Disk.up_to_now g.B.Based.base g.B.Founded.sound g.B.Founded.premise g.B.Founded.began s.disk s.catalog s.standing s.groups.items s.trail s.late s.closed c.self.invariant.0
          c.append.new.disk c.append.new.self c.append.ensures.counts c.append.ensures.touches s.seat c.take_room.new.trail c.take_room.ensures.same c.in-Ok-take_room.ensures.ok.1 c.take_room.new.groups.items c.take_room.ensures.groups
          c.args.what.now c.requires may c.in-Ok.parts.item c.in-Ok.parts.group c.in-Ok.parts.standing c.in-Ok.parts.copy c.in-Ok.ensures c.append.ensures.any_moment
          c.entered.new.trail c.entered.new.late c.entered.new.closed c.in-Err-entered.ensures.refused.0 (λ e. c.append.ensures.untouched (elim e [ inl x ↦ inl (c.in-Err-entered.ensures.refused.1 ∙ ap Err x) | inr x ↦ inr (c.in-Err-entered.ensures.refused.1 ∙ ap Err x) ])) (λ e. c.append.ensures.failed (c.in-Err-entered.ensures.refused.1 ∙ ap Err e))
          c.in-Err-entered.ensures.refused.2.kept c.in-Err-entered.ensures.refused.2.shut c.entered.ensures.room,
      (c.self.invariant.1.0, unwritten_entry_by_clock g.C.Clock g.B.Founded.times g.B.Based.base g.B.Founded.lookback s.lookback s.clock s.trail.entries c.self.invariant.1.1 c.take_room.new.trail.entries c.take_room.ensures.same c.in-Err-entered.ensures.refused.0 _ c.entered.new.trail.entries _ _ _ _ _ c.in-Err-entered.ensures.refused.2),
    )

pub returns-in-Ok-entered-clause-ok : goal.returns-in-Ok-entered-clause-ok
returns-in-Ok-entered-clause-ok g c =
    let s = c.self.inside in
    let b = g.B.Based.base in
    let told = c.self.invariant.0.told in
    let v : Shown = shown_of s.seat s.trail.entries s.late s.closed s.groups.items s.lookback s.raising (g.D.Disk.calls s.disk) (g.D.Disk.faults s.disk) in
    let v' : Shown = record v { entries = c.entered.new.trail.entries } in
    let id = c.in-Ok.parts.group.table.id in
    let m : Answered = record { number = id.0; stamp = 0; at = c.len.result } in
    subst (λ (w : Shown). DidDefine (known_by b g.B.Based.damaged w) (known_by b g.B.Based.damaged v') (NewTableOf c.args.what.now) m) c.self.view_is
    (did_make (known_by b g.B.Based.damaged v) told.legal s.closed told.closing c.entered.new.trail.entries (g.D.Disk.calls c.append.new.disk) (invariant_of-self-in-Ok-entered g c).0.told.legal c.args.what.now m refl c.len.ensures
    (c.in-Ok-entered.ensures.ok.1.entries ∙ (ap (λ (es : List Entry). es ++ record { seat = s.seat; calls = g.D.Disk.calls c.append.new.disk; act = MadeAct id c.in-Ok.parts.copy } ∷ []) c.take_room.ensures.same
    ∙ ap (λ (w : NewTable). s.trail.entries ++ record { seat = s.seat; calls = g.D.Disk.calls c.append.new.disk; act = MadeAct id w } ∷ []) c.in-Ok.ensures.copy_is)))

pub returns-in-Err-entered-clause-refused : goal.returns-in-Err-entered-clause-refused
returns-in-Err-entered-clause-refused g c =
    let s = c.self.inside in
    let b = g.B.Based.base in
    let told = c.self.invariant.0.told in
    let may : MayMake s.standing s.closed c.args.what.now = on_ok c.check_table.result (MayMake s.standing s.closed c.args.what.now) c.check_table.ensures.ok (λ e is. search rules) in
    let v : Shown = shown_of s.seat s.trail.entries s.late s.closed s.groups.items s.lookback s.raising (g.D.Disk.calls s.disk) (g.D.Disk.faults s.disk) in
    let v' : Shown = record v { entries = c.entered.new.trail.entries; late = c.entered.new.late; closed = c.entered.new.closed } in
    let calls = g.D.Disk.calls c.append.new.disk in
    subst (λ (w : Shown). Refuses (define_cause (NewTableOf c.args.what.now)) (known_by b g.B.Based.damaged w) (known_by b g.B.Based.damaged v') c.in-Err-entered.fault) c.self.view_is
    (unwritten_refused (known_by b g.B.Based.damaged v) told.legal s.closed told.closing (NewTableOf c.args.what.now)
    (table_full (known_by b g.B.Based.damaged v) told.legal s.closed told.closing may.running c.args.what.now)
    (refused_memory (known_by b g.B.Based.damaged v) told.legal s.closed told.closing may.running (NewTableOf c.args.what.now))
    c.in-Err-entered.fault c.entered.new.trail.entries calls (invariant_of-self-in-Err-entered g c).0.told.legal c.in-Err-entered.ensures.refused.0 c.in-Err-entered.ensures.refused.2.full c.in-Err-entered.ensures.refused.2.memory c.in-Err-entered.ensures.refused.2.failed
    (λ n. (c.in-Err-entered.ensures.refused.2.kept n).0 ∙ c.take_room.ensures.same)
    (λ e. (c.in-Err-entered.ensures.refused.2.shut e).0 ∙ ap (λ (es : List Entry). es ++ record { seat = s.seat; calls = calls; act = Shut calls } ∷ []) c.take_room.ensures.same))

-- ---- the calls of the disk

pub returns-in_default-take_room-clause-counts : goal.returns-in_default-take_room-clause-counts
returns-in_default-take_room-clause-counts g c = few_by c.self.view_is refl refl

pub returns-in-Ok-entered-clause-counts : goal.returns-in-Ok-entered-clause-counts
returns-in-Ok-entered-clause-counts g c = made_by g.D.Disk c.self.inside.disk c.append.new.disk (c.append.ensures.counts) (omega arith) c.self.view_is refl refl refl refl

pub returns-in-Err-entered-clause-counts : goal.returns-in-Err-entered-clause-counts
returns-in-Err-entered-clause-counts g c = made_by g.D.Disk c.self.inside.disk c.append.new.disk (c.append.ensures.counts) (omega arith) c.self.view_is refl refl refl refl

pub returns-in-Err-entered-clause-blames : goal.returns-in-Err-entered-clause-blames
returns-in-Err-entered-clause-blames g c = (let u = c.in-Err-entered.ensures.refused in unwritten_blames c.args.self.now (record c.args.self.now { calls = g.D.Disk.calls c.append.new.disk; faults = g.D.Disk.faults c.append.new.disk }) u.0 _ _ _ _ _ _ _ c.in-Err-entered.fault u.2 (λ failed. rose_by g.D.Disk c.self.inside.disk c.append.new.disk (c.append.ensures.failed (u.1 ∙ ap Err failed)) c.self.view_is refl))

pub returns-in-Err-clause-blames : goal.returns-in-Err-clause-blames
returns-in-Err-clause-blames g c = unmade_blames c.args.self.now c.args.self.now c.self.inside.standing c.self.inside.closed c.args.what.now c.in-Err.fault c.in-Err.ensures.refused
