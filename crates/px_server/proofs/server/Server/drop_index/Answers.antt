use Rattle.std.proofs.Common.{rules, ◌≡◌, ◌<◌, ◌+◌, ◌^◌, inl, inr, Some, Err, List, [], ◌∷◌, ◌++◌, length, get_or, refl, sym, ap, subst, ◌∙◌, arith}
use Rattle.std.proofs.lemmas.Result.{err_from_is_err_and}
use Rattle.px_trail.specs.declared.entry.Act.TheVariants as act
use Rattle.px_trail.specs.declared.entry.Entry.{Entry}
use Rattle.px_calls.specs.Calls.{DidDefine}
use Rattle.px_calls.specs.Causes.{Refuses, define_cause}
use Rattle.px_calls.specs.declared.definition.Definition.TheVariants as definition
use Rattle.px_calls.specs.declared.fault.StepFault.{StepFault}
use Rattle.px_calls.specs.declared.fault.StepFault.TheVariants.{Memory}
use Rattle.px_group.specs.declared.group.Group.{Group}
use Rattle.px_server.specs.Shown.{Shown, known_by, shown_of}
use Rattle.px_server.proofs.Entered.{entered_kept, of_ok}
use Rattle.px_server.proofs.Released.{group_of, place_in}
use Rattle.px_server.proofs.Stamping.{more_by_clock, unwritten_entry_by_clock}
use Rattle.px_server.proofs.Unwritten.{no_memory}
use Rattle.px_calls.specs.declared.definition.Made.{Made as Answered}
use Rattle.px_server.specs.inner.Quiet.{IsQuietPlace, IsUnquiet}
use Rattle.px_server.proofs.IndexFits.{fits_end}
use Rattle.px_server.proofs.IndexFound.{HasIndexOf, has_at}
use Rattle.px_server.proofs.IndexSteps.{dropping_did, dropping_failed, dropping_kept, dropping_refused}
use Rattle.px_server.proofs.QuietPlaces.{unquiet_dropping}
use Rattle.px_server.proofs.Reserved.{same_there, some_there}
use Rattle.px_server.specs.DeviceCalls.{Blames}
use Rattle.px_server.proofs.DeviceCalls.{few_by, made_by, rose_by, unwritten_blames, unquiet_blames}
use Rattle.px_server.proofs.server.Server.drop_index.Goals as goal

pub returns-in_err-place-clause-refused : goal.returns-in_err-place-clause-refused
returns-in_err-place-clause-refused g c = (let
    s = c.self.inside
    in let
    k = c.self.invariant.0
    in let
    b = g.B.Based.base
    in let
    v : Shown = shown_of s.seat s.trail.entries s.late s.closed s.groups.items s.lookback s.raising (g.D.Disk.calls s.disk) (g.D.Disk.faults s.disk)
    in let
    f = c.in_err-place.field-0.0
    in let
    why : IsUnquiet s.standing s.groups.items s.closed c.args.table c.args.index f = subst (λ (gs : List Group). IsUnquiet s.standing gs s.closed c.args.table c.args.index f) c.as_slice.ensures.value c.in_err-place.ensures.refused
    in let
    e = err_from_is_err_and c.from_residual.result c.from_residual.ensures.1
    in
    rw e.1 (subst (λ (x : StepFault). Refuses (define_cause (definition.DropIndex c.args.table c.args.index)) (known_by b g.B.Based.damaged c.args.self.now) (known_by b g.B.Based.damaged c.args.self.now) x) (sym e.2)
    (subst (λ (w : Shown). Refuses (define_cause (definition.DropIndex c.args.table c.args.index)) (known_by b g.B.Based.damaged w) (known_by b g.B.Based.damaged w) f) c.self.view_is
    (unquiet_dropping g.D.Disk g.met.D.Disk.told g.met.D.Disk.up_to_now b g.B.Based.damaged g.B.Founded.sound g.B.Founded.premise g.B.Founded.began s.disk s.catalog s.standing s.groups.items s.trail s.late s.closed k s.seat c.args.table c.args.index f why))))

pub returns-in_default-clause-refused : goal.returns-in_default-clause-refused
returns-in_default-clause-refused g c = (let
    s = c.self.inside
    in let
    k = c.self.invariant.0
    in let
    b = g.B.Based.base
    in let
    v : Shown = shown_of s.seat s.trail.entries s.late s.closed s.groups.items s.lookback s.raising (g.D.Disk.calls s.disk) (g.D.Disk.faults s.disk)
    in let
    p = c.in_ok-place.place
    in let
    at : IsQuietPlace s.standing s.groups.items s.closed c.args.table c.args.index p = subst (λ (gs : List Group). IsQuietPlace s.standing gs s.closed c.args.table c.args.index p) c.as_slice.ensures.value c.in_ok-place.ensures.ok
    in
    subst (λ (w : Shown). Refuses (define_cause (definition.DropIndex c.args.table c.args.index)) (known_by b g.B.Based.damaged w) (known_by b g.B.Based.damaged w) Memory) c.self.view_is
    (no_memory (known_by b g.B.Based.damaged v) k.told.legal s.closed k.told.closing at.running (definition.DropIndex c.args.table c.args.index)))

pub returns-in_default-take_entry-clause-refused : goal.returns-in_default-take_entry-clause-refused
returns-in_default-take_entry-clause-refused g c = (let
    s = c.self.inside
    in let
    k = c.self.invariant.0
    in let
    b = g.B.Based.base
    in let
    v : Shown = shown_of s.seat s.trail.entries s.late s.closed s.groups.items s.lookback s.raising (g.D.Disk.calls s.disk) (g.D.Disk.faults s.disk)
    in let
    p = c.in_ok-place.place
    in let
    at : IsQuietPlace s.standing s.groups.items s.closed c.args.table c.args.index p = subst (λ (gs : List Group). IsQuietPlace s.standing gs s.closed c.args.table c.args.index p) c.as_slice.ensures.value c.in_ok-place.ensures.ok
    in
    subst (λ (es : List Entry). Refuses (define_cause (definition.DropIndex c.args.table c.args.index)) (known_by b g.B.Based.damaged c.args.self.now) (known_by b g.B.Based.damaged (record v { entries = es })) Memory) (sym c.take_entry.ensures.same)
    (subst (λ (w : Shown). Refuses (define_cause (definition.DropIndex c.args.table c.args.index)) (known_by b g.B.Based.damaged w) (known_by b g.B.Based.damaged v) Memory) c.self.view_is
    (no_memory (known_by b g.B.Based.damaged v) k.told.legal s.closed k.told.closing at.running (definition.DropIndex c.args.table c.args.index))))

pub append-requires : goal.append-requires
append-requires g c = (let
    s = c.self.inside
    in let
    k = c.self.invariant.0
    in let
    b = g.B.Based.base
    in let
    v : Shown = shown_of s.seat s.trail.entries s.late s.closed s.groups.items s.lookback s.raising (g.D.Disk.calls s.disk) (g.D.Disk.faults s.disk)
    in let
    p = c.in_ok-place.place
    in let
    at : IsQuietPlace s.standing s.groups.items s.closed c.args.table c.args.index p = subst (λ (gs : List Group). IsQuietPlace s.standing gs s.closed c.args.table c.args.index p) c.as_slice.ensures.value c.in_ok-place.ensures.ok
    in let
    has : HasIndexOf s.standing.indexes c.args.table c.args.index = has_at s.standing.indexes c.args.table c.args.index p.index at.low at.id at.own
    in let
    short : c.args.index.0 < 256 ^ 4 = search rules
    in
    record { right = fits_end g.D.Disk b g.B.Founded.sound g.B.Founded.premise g.B.Founded.began s.disk s.catalog s.standing s.groups.items s.trail s.late s.closed k at.running c.args.table c.args.index has short })

pub invariant_of-self-in-Ok-entered : goal.invariant_of-self-in-Ok-entered
invariant_of-self-in-Ok-entered g c = (let
    s = c.self.inside
    in let
    k = c.self.invariant.0
    in let
    b = g.B.Based.base
    in let
    v : Shown = shown_of s.seat s.trail.entries s.late s.closed s.groups.items s.lookback s.raising (g.D.Disk.calls s.disk) (g.D.Disk.faults s.disk)
    in let
    p = c.in_ok-place.place
    in let
    at : IsQuietPlace s.standing s.groups.items s.closed c.args.table c.args.index p = subst (λ (gs : List Group). IsQuietPlace s.standing gs s.closed c.args.table c.args.index p) c.as_slice.ensures.value c.in_ok-place.ensures.ok
    in let
    l = place_in s.groups.items s.standing.tables k.each.stand p.table at.table.low
    in let
    one = some_there s.groups.items p.table l
    in let
    h = one.0
    in let
    h_is : get_or s.groups.items p.table h ≡ h = one.1
    in let
    own : h.table.id ≡ c.args.table = group_of s.groups.items s.standing.tables k.each.stand p.table h l h_is c.args.table at.table.is
    in let
    has : HasIndexOf s.standing.indexes c.args.table c.args.index = has_at s.standing.indexes c.args.table c.args.index p.index at.low at.id at.own
    in let
    unused : length h.points.items + length h.batches.items ≡ 0 = at.unused h h_is
    in let
    h2_is : c.index_mut.result.now ≡ h = same_there s.groups.items p.table c.index_mut.result.now h l (sym c.index_mut.ensures.value) h_is
    in (
      entered_kept g.D.Disk b g.B.Founded.sound g.B.Founded.premise g.B.Founded.began c.append.new.disk c.append.new.self _ _ c.entered.new.trail s.late c.entered.new.late s.closed c.entered.new.closed _ _ c.in-Ok-entered.ensures.ok.1
          (dropping_kept g.D.Disk g.met.D.Disk.told g.met.D.Disk.up_to_now b g.B.Based.damaged g.B.Founded.sound g.B.Founded.premise g.B.Founded.began s.disk s.catalog s.standing s.groups.items s.trail s.late s.closed k at.running p.table h l h_is s.seat c.take_entry.new.trail c.take_entry.ensures.same c.in-Ok-take_entry.ensures.ok c.append.new.disk c.append.new.self c.append.ensures.counts c.append.ensures.touches c.args.table own c.args.index has unused c.append.ensures.any_moment (λ h. of_ok c.append.result tt _ c.in-Ok-entered.ensures.ok.0 (c.append.ensures.done h)) (of_ok c.append.result tt _ c.in-Ok-entered.ensures.ok.0 c.append.ensures.defined) c.index_mut.result.now h2_is c.drop_index.new.group c.drop_index.ensures c.replace-before.new.dest (c.replace-before.ensures.after ∙ c.in-Ok.ensures) c.entered.new.trail (g.D.Disk.calls c.append.new.disk) refl c.in-Ok-entered.ensures.ok.1.entries c.entered.ensures.room),
      (c.self.invariant.1.0, more_by_clock g.C.Clock g.B.Founded.times g.B.Based.base g.B.Founded.lookback s.lookback s.clock s.trail.entries c.self.invariant.1.1 c.entered.new.trail.entries (record { seat = s.seat; calls = g.D.Disk.calls c.append.new.disk; act = act.Dropped c.args.table (Some c.args.index) }) (c.in-Ok-entered.ensures.ok.1.entries ∙ ap (λ (es : List Entry). es ++ (record { seat = s.seat; calls = g.D.Disk.calls c.append.new.disk; act = act.Dropped c.args.table (Some c.args.index) }) ∷ []) c.take_entry.ensures.same) refl),
    ))

pub invariant_of-self-in-Err : goal.invariant_of-self-in-Err
invariant_of-self-in-Err g c = (let
    s = c.self.inside
    in let
    k = c.self.invariant.0
    in let
    b = g.B.Based.base
    in let
    v : Shown = shown_of s.seat s.trail.entries s.late s.closed s.groups.items s.lookback s.raising (g.D.Disk.calls s.disk) (g.D.Disk.faults s.disk)
    in let
    p = c.in_ok-place.place
    in let
    at : IsQuietPlace s.standing s.groups.items s.closed c.args.table c.args.index p = subst (λ (gs : List Group). IsQuietPlace s.standing gs s.closed c.args.table c.args.index p) c.as_slice.ensures.value c.in_ok-place.ensures.ok
    in let
    l = place_in s.groups.items s.standing.tables k.each.stand p.table at.table.low
    in let
    one = some_there s.groups.items p.table l
    in let
    h = one.0
    in let
    h_is : get_or s.groups.items p.table h ≡ h = one.1
    in let
    own : h.table.id ≡ c.args.table = group_of s.groups.items s.standing.tables k.each.stand p.table h l h_is c.args.table at.table.is
    in let
    has : HasIndexOf s.standing.indexes c.args.table c.args.index = has_at s.standing.indexes c.args.table c.args.index p.index at.low at.id at.own
    in let
    unused : length h.points.items + length h.batches.items ≡ 0 = at.unused h h_is
    in
    (dropping_failed g.D.Disk g.met.D.Disk.told g.met.D.Disk.up_to_now b g.B.Based.damaged g.B.Founded.sound g.B.Founded.premise g.B.Founded.began s.disk s.catalog s.standing s.groups.items s.trail s.late s.closed k at.running p.table h l h_is s.seat c.take_entry.new.trail c.take_entry.ensures.same c.in-Ok-take_entry.ensures.ok c.append.new.disk c.append.new.self c.append.ensures.counts c.append.ensures.touches c.args.table own c.args.index has unused c.append.ensures.any_moment c.entered.new.trail c.entered.new.late c.entered.new.closed c.in-Err.ensures.refused.0 (λ e. c.append.ensures.untouched (elim e [ inl x ↦ inl (c.in-Err.ensures.refused.1 ∙ ap Err x) | inr x ↦ inr (c.in-Err.ensures.refused.1 ∙ ap Err x) ])) (λ e. c.append.ensures.failed (c.in-Err.ensures.refused.1 ∙ ap Err e)) c.in-Err.ensures.refused.2.kept c.in-Err.ensures.refused.2.shut c.entered.ensures.room, (c.self.invariant.1.0, unwritten_entry_by_clock g.C.Clock g.B.Founded.times g.B.Based.base g.B.Founded.lookback s.lookback s.clock s.trail.entries c.self.invariant.1.1 c.take_entry.new.trail.entries c.take_entry.ensures.same c.in-Err.ensures.refused.0 _ c.entered.new.trail.entries _ _ _ _ _ c.in-Err.ensures.refused.2)))

pub returns-in-Ok-entered-clause-ok : goal.returns-in-Ok-entered-clause-ok
returns-in-Ok-entered-clause-ok g c = (let
    s = c.self.inside
    in let
    k = c.self.invariant.0
    in let
    b = g.B.Based.base
    in let
    v : Shown = shown_of s.seat s.trail.entries s.late s.closed s.groups.items s.lookback s.raising (g.D.Disk.calls s.disk) (g.D.Disk.faults s.disk)
    in let
    p = c.in_ok-place.place
    in let
    at : IsQuietPlace s.standing s.groups.items s.closed c.args.table c.args.index p = subst (λ (gs : List Group). IsQuietPlace s.standing gs s.closed c.args.table c.args.index p) c.as_slice.ensures.value c.in_ok-place.ensures.ok
    in let
    l = place_in s.groups.items s.standing.tables k.each.stand p.table at.table.low
    in let
    one = some_there s.groups.items p.table l
    in let
    h = one.0
    in let
    h_is : get_or s.groups.items p.table h ≡ h = one.1
    in let
    own : h.table.id ≡ c.args.table = group_of s.groups.items s.standing.tables k.each.stand p.table h l h_is c.args.table at.table.is
    in let
    has : HasIndexOf s.standing.indexes c.args.table c.args.index = has_at s.standing.indexes c.args.table c.args.index p.index at.low at.id at.own
    in let
    unused : length h.points.items + length h.batches.items ≡ 0 = at.unused h h_is
    in let
    h2_is : c.index_mut.result.now ≡ h = same_there s.groups.items p.table c.index_mut.result.now h l (sym c.index_mut.ensures.value) h_is
    in let
    v' : Shown = record v { entries = c.entered.new.trail.entries }
    in let
    m : Answered = record { number = c.args.index.0; stamp = 0; at = c.len.result }
    in
    subst (λ (w : Shown). DidDefine (known_by b g.B.Based.damaged w) (known_by b g.B.Based.damaged v') (definition.DropIndex c.args.table c.args.index) m) c.self.view_is
    (dropping_did g.D.Disk g.met.D.Disk.told g.met.D.Disk.up_to_now b g.B.Based.damaged g.B.Founded.sound g.B.Founded.premise g.B.Founded.began s.disk s.catalog s.standing s.groups.items s.trail s.late s.closed k at.running p.table h l h_is s.seat c.take_entry.new.trail c.take_entry.ensures.same c.in-Ok-take_entry.ensures.ok c.append.new.disk c.append.new.self c.append.ensures.counts c.append.ensures.touches c.args.table own c.args.index has unused c.append.ensures.any_moment (λ h. of_ok c.append.result tt _ c.in-Ok-entered.ensures.ok.0 (c.append.ensures.done h)) (of_ok c.append.result tt _ c.in-Ok-entered.ensures.ok.0 c.append.ensures.defined) c.index_mut.result.now h2_is c.drop_index.new.group c.drop_index.ensures c.replace-before.new.dest (c.replace-before.ensures.after ∙ c.in-Ok.ensures) c.entered.new.trail (g.D.Disk.calls c.append.new.disk) refl c.in-Ok-entered.ensures.ok.1.entries c.entered.ensures.room c.len.result c.len.ensures))

pub returns-in-Err-clause-refused : goal.returns-in-Err-clause-refused
returns-in-Err-clause-refused g c = (let
    s = c.self.inside
    in let
    k = c.self.invariant.0
    in let
    b = g.B.Based.base
    in let
    v : Shown = shown_of s.seat s.trail.entries s.late s.closed s.groups.items s.lookback s.raising (g.D.Disk.calls s.disk) (g.D.Disk.faults s.disk)
    in let
    p = c.in_ok-place.place
    in let
    at : IsQuietPlace s.standing s.groups.items s.closed c.args.table c.args.index p = subst (λ (gs : List Group). IsQuietPlace s.standing gs s.closed c.args.table c.args.index p) c.as_slice.ensures.value c.in_ok-place.ensures.ok
    in let
    l = place_in s.groups.items s.standing.tables k.each.stand p.table at.table.low
    in let
    one = some_there s.groups.items p.table l
    in let
    h = one.0
    in let
    h_is : get_or s.groups.items p.table h ≡ h = one.1
    in let
    own : h.table.id ≡ c.args.table = group_of s.groups.items s.standing.tables k.each.stand p.table h l h_is c.args.table at.table.is
    in let
    has : HasIndexOf s.standing.indexes c.args.table c.args.index = has_at s.standing.indexes c.args.table c.args.index p.index at.low at.id at.own
    in let
    unused : length h.points.items + length h.batches.items ≡ 0 = at.unused h h_is
    in let
    v' : Shown = record v { entries = c.entered.new.trail.entries; late = c.entered.new.late; closed = c.entered.new.closed }
    in
    subst (λ (w : Shown). Refuses (define_cause (definition.DropIndex c.args.table c.args.index)) (known_by b g.B.Based.damaged w) (known_by b g.B.Based.damaged v') c.in-Err.fault) c.self.view_is
    (dropping_refused g.D.Disk g.met.D.Disk.told g.met.D.Disk.up_to_now b g.B.Based.damaged g.B.Founded.sound g.B.Founded.premise g.B.Founded.began s.disk s.catalog s.standing s.groups.items s.trail s.late s.closed k at.running p.table h l h_is s.seat c.take_entry.new.trail c.take_entry.ensures.same c.in-Ok-take_entry.ensures.ok c.append.new.disk c.append.new.self c.append.ensures.counts c.append.ensures.touches c.args.table own c.args.index has unused c.append.ensures.any_moment c.entered.new.trail c.entered.new.late c.entered.new.closed c.in-Err.ensures.refused.0 (λ e. c.append.ensures.untouched (elim e [ inl x ↦ inl (c.in-Err.ensures.refused.1 ∙ ap Err x) | inr x ↦ inr (c.in-Err.ensures.refused.1 ∙ ap Err x) ])) (λ e. c.append.ensures.failed (c.in-Err.ensures.refused.1 ∙ ap Err e)) c.in-Err.ensures.refused.2.kept c.in-Err.ensures.refused.2.shut c.entered.ensures.room c.in-Err.fault c.in-Err.ensures.refused.2.full c.in-Err.ensures.refused.2.memory c.in-Err.ensures.refused.2.failed))

-- ---- the calls of the disk

pub returns-in_default-take_entry-clause-counts : goal.returns-in_default-take_entry-clause-counts
returns-in_default-take_entry-clause-counts g c = few_by c.self.view_is refl refl

pub returns-in-Ok-entered-clause-counts : goal.returns-in-Ok-entered-clause-counts
returns-in-Ok-entered-clause-counts g c = made_by g.D.Disk c.self.inside.disk c.append.new.disk (c.append.ensures.counts) (omega arith) c.self.view_is refl refl refl refl

pub returns-in-Err-clause-counts : goal.returns-in-Err-clause-counts
returns-in-Err-clause-counts g c = made_by g.D.Disk c.self.inside.disk c.append.new.disk (c.append.ensures.counts) (omega arith) c.self.view_is refl refl refl refl

pub returns-in-Err-clause-blames : goal.returns-in-Err-clause-blames
returns-in-Err-clause-blames g c = (let u = c.in-Err.ensures.refused in unwritten_blames c.args.self.now (record c.args.self.now { calls = g.D.Disk.calls c.append.new.disk; faults = g.D.Disk.faults c.append.new.disk }) u.0 _ _ _ _ _ _ _ c.in-Err.fault u.2 (λ failed. rose_by g.D.Disk c.self.inside.disk c.append.new.disk (c.append.ensures.failed (u.1 ∙ ap Err failed)) c.self.view_is refl))

pub returns-in_err-place-clause-blames : goal.returns-in_err-place-clause-blames
returns-in_err-place-clause-blames g c = (let e = err_from_is_err_and c.from_residual.result c.from_residual.ensures.1 in rw e.1 (subst (Blames c.args.self.now c.args.self.now) (sym e.2) (unquiet_blames c.args.self.now c.args.self.now c.self.inside.standing c.as_slice.result.now c.self.inside.closed c.args.table c.args.index c.in_err-place.field-0.0 c.in_err-place.ensures.refused)))
