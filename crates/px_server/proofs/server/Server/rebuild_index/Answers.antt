use Rattle.std.proofs.Common.{rules, ◌≡◌, ◌<◌, ◌≤◌, ◌^◌, inl, inr, ℕ, Err, List, [], ◌∷◌, ◌++◌, length, get_or, refl, sym, ap, subst, ◌∙◌, arith}
use Rattle.std.proofs.lemmas.Bool.{false≢true}
use Rattle.std.proofs.lemmas.Result.{err_from_is_err_and}
use Rattle.px_values.specs.Limits.{most_of}
use Rattle.px_values.specs.declared.limit.Limit.TheVariants as bound
use Rattle.px_values.specs.declared.name.TableId.{TableId}
use Rattle.px_tables.specs.declared.index.Index.{Index}
use Rattle.px_tables.specs.declared.index.IndexState.TheVariants.{Building}
use Rattle.px_trail.specs.Trail.{last_of}
use Rattle.px_trail.specs.declared.entry.Act.TheVariants as act
use Rattle.px_trail.specs.declared.entry.Entry.{Entry}
use Rattle.px_turns.specs.Turns.{drawn_stamp}
use Rattle.px_calls.specs.Calls.{DidDefine}
use Rattle.px_calls.specs.Causes.{Refuses, define_cause}
use Rattle.px_calls.specs.declared.definition.Definition.TheVariants as definition
use Rattle.px_calls.specs.declared.definition.Made.{Made as Answered}
use Rattle.px_calls.specs.declared.fault.StepFault.{StepFault}
use Rattle.px_calls.specs.declared.fault.StepFault.TheVariants.{Limit, Memory}
use Rattle.px_schema.specs.Counts.{HasNumbers}
use Rattle.px_schema.specs.Records.{IsRightCatalogItem}
use Rattle.px_schema.specs.declared.item.CatalogItem.TheVariants.{IndexIs}
use Rattle.px_catalog.specs.Catalogue.{standing_of}
use Rattle.px_group.specs.declared.group.Group.{Group}
use Rattle.px_disabled.specs.Disabled.{rebuilt}
use Rattle.px_server.specs.Shown.{Shown, known_by, shown_of}
use Rattle.px_server.specs.Stamps.{draw}
use Rattle.px_server.specs.inner.Quiet.{IsIndexToPut, IsQuietPlace, IsUnquiet}
use Rattle.px_server.proofs.Entered.{entered_kept, of_ok}
use Rattle.px_server.proofs.AnewPut.{put_there}
use Rattle.px_server.proofs.AnewSteps.{rebuilding_did, rebuilding_failed, rebuilding_kept, rebuilding_refused}
use Rattle.px_server.proofs.QuietPlaces.{fits_put, last_is as last_of_place, no_number, no_stamp, own as own_table, unquiet_rebuilding}
use Rattle.px_server.proofs.Released.{place_in}
use Rattle.px_server.proofs.Reserved.{roomy, same_there, some_there}
use Rattle.px_server.proofs.Stamping.{drawn_by_clock, read_by_clock, same_by_clock, unwritten_entry_by_clock}
use Rattle.px_server.proofs.Unwritten.{no_memory, reserved}
use Rattle.px_server.specs.DeviceCalls.{Blames}
use Rattle.px_server.proofs.DeviceCalls.{few_by, made_by, rose_by, unwritten_blames, unquiet_blames}
use Rattle.px_server.proofs.server.Server.rebuild_index.Goals as goal

pub returns-in_err-place-clause-refused : goal.returns-in_err-place-clause-refused
returns-in_err-place-clause-refused g c = (let
    s = c.self.inside
    in let
    k = c.self.invariant.0
    in let
    b = g.B.Based.base
    in let
    v : Shown = shown_of s.seat s.trail.entries s.late s.closed s.groups.items s.lookback s.raising (g.D.Disk.calls s.disk) (g.D.Disk.faults s.disk)
    in let
    f = c.in_err-place.field-0.0
    in let
    why : IsUnquiet s.standing s.groups.items s.closed c.args.table c.args.index f = subst (λ gs. IsUnquiet s.standing gs s.closed c.args.table c.args.index f) c.as_slice.ensures.value c.in_err-place.ensures.refused
    in let
    e = err_from_is_err_and c.from_residual.result c.from_residual.ensures.1
    in
    rw e.1 (subst (λ (x : StepFault). Refuses (define_cause (definition.Rebuilding c.args.table c.args.index)) (known_by b g.B.Based.damaged c.args.self.now) (known_by b g.B.Based.damaged c.args.self.now) x) (sym e.2)
    (subst (λ (w : Shown). Refuses (define_cause (definition.Rebuilding c.args.table c.args.index)) (known_by b g.B.Based.damaged w) (known_by b g.B.Based.damaged w) f) {x = v} c.self.view_is
    (unquiet_rebuilding g.D.Disk g.met.D.Disk.told g.met.D.Disk.up_to_now b g.B.Based.damaged g.B.Founded.sound g.B.Founded.premise g.B.Founded.began s.disk s.catalog s.standing s.groups.items s.trail s.late s.closed k s.seat c.args.table c.args.index f why))))

pub returns-then-index-most-clause-refused : goal.returns-then-index-most-clause-refused
returns-then-index-most-clause-refused g c = (let
    s = c.self.inside
    in let
    k = c.self.invariant.0
    in let
    b = g.B.Based.base
    in let
    v : Shown = shown_of s.seat s.trail.entries s.late s.closed s.groups.items s.lookback s.raising (g.D.Disk.calls s.disk) (g.D.Disk.faults s.disk)
    in let
    p = c.in_ok-place.place
    in let
    at : IsQuietPlace s.standing s.groups.items s.closed c.args.table c.args.index p = subst (λ gs. IsQuietPlace s.standing gs s.closed c.args.table c.args.index p) c.as_slice.ensures.value c.in_ok-place.ensures.ok
    in let
    one = some_there s.standing.indexes p.index at.low
    in let
    h = c.index.result.now
    in let
    h_is : get_or s.groups.items p.table h ≡ h = sym c.index.ensures
    in let
    past : most_of bound.Stamps ≤ h.last = (let z = c.if-index-most.true in let m = c.most.ensures in omega (arith, z, m))
    in
    subst (λ (f : StepFault). Refuses (define_cause (definition.Rebuilding c.args.table c.args.index)) (known_by b g.B.Based.damaged c.args.self.now) (known_by b g.B.Based.damaged c.args.self.now) f) {x = Limit bound.Stamps (most_of bound.Stamps)} (sym {b = Limit bound.Stamps (most_of bound.Stamps)} c.limit.ensures)
    (subst (λ (w : Shown). Refuses (define_cause (definition.Rebuilding c.args.table c.args.index)) (known_by b g.B.Based.damaged w) (known_by b g.B.Based.damaged w) (Limit bound.Stamps (most_of bound.Stamps))) {x = v} c.self.view_is
    (no_stamp g.D.Disk g.met.D.Disk.told g.met.D.Disk.up_to_now b g.B.Based.damaged g.B.Founded.sound g.B.Founded.premise g.B.Founded.began s.disk s.catalog s.standing s.groups.items s.trail s.late s.closed k s.seat c.args.table c.args.index p at one.0 one.1 h h_is past)))

pub returns-then-not-has_numbers-clause-refused : goal.returns-then-not-has_numbers-clause-refused
returns-then-not-has_numbers-clause-refused g c = (let
    s = c.self.inside
    in let
    k = c.self.invariant.0
    in let
    b = g.B.Based.base
    in let
    v : Shown = shown_of s.seat s.trail.entries s.late s.closed s.groups.items s.lookback s.raising (g.D.Disk.calls s.disk) (g.D.Disk.faults s.disk)
    in let
    p = c.in_ok-place.place
    in let
    at : IsQuietPlace s.standing s.groups.items s.closed c.args.table c.args.index p = subst (λ gs. IsQuietPlace s.standing gs s.closed c.args.table c.args.index p) c.as_slice.ensures.value c.in_ok-place.ensures.ok
    in let
    one = some_there s.standing.indexes p.index at.low
    in let
    h = c.index.result.now
    in let
    h_is : get_or s.groups.items p.table h ≡ h = sym c.index.ensures
    in let
    past : HasNumbers s.standing 1 → ⊥ = λ enough. false≢true (sym c.if-not-has_numbers.true ∙ c.has_numbers.ensures.1 enough)
    in
    subst (λ (f : StepFault). Refuses (define_cause (definition.Rebuilding c.args.table c.args.index)) (known_by b g.B.Based.damaged c.args.self.now) (known_by b g.B.Based.damaged c.args.self.now) f) {x = Limit bound.Ids (most_of bound.Ids)} (sym {b = Limit bound.Ids (most_of bound.Ids)} c.limit-then-not-has_numbers.ensures)
    (subst (λ (w : Shown). Refuses (define_cause (definition.Rebuilding c.args.table c.args.index)) (known_by b g.B.Based.damaged w) (known_by b g.B.Based.damaged w) (Limit bound.Ids (most_of bound.Ids))) {x = v} c.self.view_is
    (no_number g.D.Disk g.met.D.Disk.told g.met.D.Disk.up_to_now b g.B.Based.damaged g.B.Founded.sound g.B.Founded.premise g.B.Founded.began s.disk s.catalog s.standing s.groups.items s.trail s.late s.closed k s.seat c.args.table c.args.index p at one.0 one.1 h h_is past)))

pub invariant_of-self : goal.invariant_of-self
invariant_of-self g c = (let
    s = c.self.inside
    in let
    b = g.B.Based.base
    in
    (c.self.invariant.0, (c.self.invariant.1.0, read_by_clock g.C.Clock g.B.Founded.times b g.B.Founded.lookback s.lookback s.clock s.trail.entries c.self.invariant.1.1 c.next_stamp-stamp.new.clock c.next_stamp-stamp.ensures.rest)))

pub returns-in_err-made-clause-refused : goal.returns-in_err-made-clause-refused
returns-in_err-made-clause-refused g c = (let
    s = c.self.inside
    in let
    k = c.self.invariant.0
    in let
    b = g.B.Based.base
    in let
    v : Shown = shown_of s.seat s.trail.entries s.late s.closed s.groups.items s.lookback s.raising (g.D.Disk.calls s.disk) (g.D.Disk.faults s.disk)
    in let
    p = c.in_ok-place.place
    in let
    at : IsQuietPlace s.standing s.groups.items s.closed c.args.table c.args.index p = subst (λ gs. IsQuietPlace s.standing gs s.closed c.args.table c.args.index p) c.as_slice.ensures.value c.in_ok-place.ensures.ok
    in let
    e = err_from_is_err_and c.from_residual-in_err-made.result c.from_residual-in_err-made.ensures.1
    in
    rw e.1 (subst (λ (f : StepFault). Refuses (define_cause (definition.Rebuilding c.args.table c.args.index)) (known_by b g.B.Based.damaged c.args.self.now) (known_by b g.B.Based.damaged v) f) (sym (e.2 ∙ c.in_err-made.ensures.refused))
    (subst (λ (w : Shown). Refuses (define_cause (definition.Rebuilding c.args.table c.args.index)) (known_by b g.B.Based.damaged w) (known_by b g.B.Based.damaged v) Memory) c.self.view_is
    (no_memory (known_by b g.B.Based.damaged v) k.told.legal s.closed k.told.closing at.running (definition.Rebuilding c.args.table c.args.index)))))

pub invariant_of-self-in_default : goal.invariant_of-self-in_default
invariant_of-self-in_default g c = (let
    s = c.self.inside
    in let
    b = g.B.Based.base
    in
    (roomy g.D.Disk b g.B.Founded.sound g.B.Founded.premise g.B.Founded.began s.disk s.catalog s.standing s.groups.items s.trail s.late s.closed c.self.invariant.0 c.take_entry.new.trail c.take_entry.ensures.same c.take_entry.ensures.least, (c.self.invariant.1.0, same_by_clock g.C.Clock g.B.Founded.times b g.B.Founded.lookback s.lookback c.next_stamp-stamp.new.clock s.trail.entries (read_by_clock g.C.Clock g.B.Founded.times b g.B.Founded.lookback s.lookback s.clock s.trail.entries c.self.invariant.1.1 c.next_stamp-stamp.new.clock c.next_stamp-stamp.ensures.rest) c.take_entry.new.trail.entries c.take_entry.ensures.same)))

pub returns-in_default-clause-refused : goal.returns-in_default-clause-refused
returns-in_default-clause-refused g c = (let
    s = c.self.inside
    in let
    k = c.self.invariant.0
    in let
    b = g.B.Based.base
    in let
    v : Shown = shown_of s.seat s.trail.entries s.late s.closed s.groups.items s.lookback s.raising (g.D.Disk.calls s.disk) (g.D.Disk.faults s.disk)
    in let
    p = c.in_ok-place.place
    in let
    at : IsQuietPlace s.standing s.groups.items s.closed c.args.table c.args.index p = subst (λ gs. IsQuietPlace s.standing gs s.closed c.args.table c.args.index p) c.as_slice.ensures.value c.in_ok-place.ensures.ok
    in
    subst (λ (es : List Entry). Refuses (define_cause (definition.Rebuilding c.args.table c.args.index)) (known_by b g.B.Based.damaged c.args.self.now) (known_by b g.B.Based.damaged (record v { entries = es })) Memory) {x = s.trail.entries} (sym c.take_entry.ensures.same)
    (subst (λ (w : Shown). Refuses (define_cause (definition.Rebuilding c.args.table c.args.index)) (known_by b g.B.Based.damaged w) (known_by b g.B.Based.damaged v) Memory) {x = v} c.self.view_is
    (no_memory (known_by b g.B.Based.damaged v) k.told.legal s.closed k.told.closing at.running (definition.Rebuilding c.args.table c.args.index))))

pub invariant_of-self-in_default-reserve_index : goal.invariant_of-self-in_default-reserve_index
invariant_of-self-in_default-reserve_index g c = (let
    s = c.self.inside
    in let
    k = c.self.invariant.0
    in let
    b = g.B.Based.base
    in let
    p = c.in_ok-place.place
    in let
    at : IsQuietPlace s.standing s.groups.items s.closed c.args.table c.args.index p = subst (λ gs. IsQuietPlace s.standing gs s.closed c.args.table c.args.index p) c.as_slice.ensures.value c.in_ok-place.ensures.ok
    in let
    l : p.table < length s.groups.items = place_in s.groups.items s.standing.tables k.each.stand p.table at.table.low
    in let
    h = c.index_mut.result.now
    in let
    h_is : get_or s.groups.items p.table h ≡ h = sym c.index_mut.ensures.value
    in
    (reserved g.D.Disk b g.B.Founded.sound g.B.Founded.premise g.B.Founded.began s.disk s.catalog s.standing s.groups.items s.trail s.late s.closed k p.table h c.reserve_index.new.group l h_is c.reserve_index.ensures.same c.take_entry.new.trail c.take_entry.ensures.same c.take_entry.ensures.least, (c.self.invariant.1.0, same_by_clock g.C.Clock g.B.Founded.times b g.B.Founded.lookback s.lookback c.next_stamp-stamp.new.clock s.trail.entries (read_by_clock g.C.Clock g.B.Founded.times b g.B.Founded.lookback s.lookback s.clock s.trail.entries c.self.invariant.1.1 c.next_stamp-stamp.new.clock c.next_stamp-stamp.ensures.rest) c.take_entry.new.trail.entries c.take_entry.ensures.same)))

pub returns-in_default-reserve_index-clause-refused : goal.returns-in_default-reserve_index-clause-refused
returns-in_default-reserve_index-clause-refused g c = (let
    s = c.self.inside
    in let
    k = c.self.invariant.0
    in let
    b = g.B.Based.base
    in let
    v : Shown = shown_of s.seat s.trail.entries s.late s.closed s.groups.items s.lookback s.raising (g.D.Disk.calls s.disk) (g.D.Disk.faults s.disk)
    in let
    p = c.in_ok-place.place
    in let
    at : IsQuietPlace s.standing s.groups.items s.closed c.args.table c.args.index p = subst (λ gs. IsQuietPlace s.standing gs s.closed c.args.table c.args.index p) c.as_slice.ensures.value c.in_ok-place.ensures.ok
    in
    subst (λ (es : List Entry). Refuses (define_cause (definition.Rebuilding c.args.table c.args.index)) (known_by b g.B.Based.damaged c.args.self.now) (known_by b g.B.Based.damaged (record v { entries = es })) Memory) {x = s.trail.entries} (sym c.take_entry.ensures.same)
    (subst (λ (w : Shown). Refuses (define_cause (definition.Rebuilding c.args.table c.args.index)) (known_by b g.B.Based.damaged w) (known_by b g.B.Based.damaged v) Memory) {x = v} c.self.view_is
    (no_memory (known_by b g.B.Based.damaged v) k.told.legal s.closed k.told.closing at.running (definition.Rebuilding c.args.table c.args.index))))

pub append-requires : goal.append-requires
append-requires g c = (let
    s = c.self.inside
    in let
    k = c.self.invariant.0
    in let
    b = g.B.Based.base
    in let
    p = c.in_ok-place.place
    in let
    at : IsQuietPlace s.standing s.groups.items s.closed c.args.table c.args.index p = subst (λ gs. IsQuietPlace s.standing gs s.closed c.args.table c.args.index p) c.as_slice.ensures.value c.in_ok-place.ensures.ok
    in let
    one = some_there s.standing.indexes p.index at.low
    in let
    l : p.table < length s.groups.items = place_in s.groups.items s.standing.tables k.each.stand p.table at.table.low
    in let
    h = c.index_mut.result.now
    in let
    h_is : get_or s.groups.items p.table h ≡ h = sym c.index_mut.ensures.value
    in let
    put : IsIndexToPut h.table s.standing (rebuilt c.next_stamp-stamp.result s.standing.next one.0) c.in_ok-made.made = put_there c.index-3.result.now.table s.standing p.index one.0 one.1 c.next_stamp-stamp.result c.in_ok-made.made c.in_ok-made.ensures.ok h.table (ap (λ (x : Group). x.table) (same_there s.groups.items p.table c.index-3.result.now h l (sym c.index-3.ensures) h_is))
    in let
    short : c.args.table.0 < 256 ^ 4 = search rules
    in let
    own = own_table g.D.Disk g.met.D.Disk.told g.met.D.Disk.up_to_now b g.B.Based.damaged g.B.Founded.sound g.B.Founded.premise g.B.Founded.began s.disk s.catalog s.standing s.groups.items s.trail s.late s.closed k s.seat c.args.table c.args.index p at one.0 one.1 h h_is
    in
    record { right = subst (λ (y : Index). IsRightCatalogItem (standing_of s.catalog) (IndexIs y)) (sym put.item) (fits_put g.D.Disk g.met.D.Disk.told g.met.D.Disk.up_to_now b g.B.Based.damaged g.B.Founded.sound g.B.Founded.premise g.B.Founded.began s.disk s.catalog s.standing s.groups.items s.trail s.late s.closed k s.seat c.args.table c.args.index p at one.0 one.1 h h_is (rebuilt c.next_stamp-stamp.result s.standing.next one.0) refl put.right put.can (subst (λ (t : TableId). t.0 < 256 ^ 4) (sym own) short)) })

pub invariant_of-self-in-Ok-entered : goal.invariant_of-self-in-Ok-entered
invariant_of-self-in-Ok-entered g c = (let
    s = c.self.inside
    in let
    k = c.self.invariant.0
    in let
    b = g.B.Based.base
    in let
    p = c.in_ok-place.place
    in let
    at : IsQuietPlace s.standing s.groups.items s.closed c.args.table c.args.index p = subst (λ gs. IsQuietPlace s.standing gs s.closed c.args.table c.args.index p) c.as_slice.ensures.value c.in_ok-place.ensures.ok
    in let
    one = some_there s.standing.indexes p.index at.low
    in let
    l : p.table < length s.groups.items = place_in s.groups.items s.standing.tables k.each.stand p.table at.table.low
    in let
    h = c.index_mut.result.now
    in let
    h_is : get_or s.groups.items p.table h ≡ h = sym c.index_mut.ensures.value
    in let
    above : h.last < c.next_stamp-stamp.result = (let a = c.next_stamp-stamp.ensures.above in let same = ap (λ (x : Group). x.last) (same_there s.groups.items p.table h c.index-2.result.now l h_is (sym c.index-2.ensures)) in omega (arith, a, same))
    in let
    put : IsIndexToPut h.table s.standing (rebuilt c.next_stamp-stamp.result s.standing.next one.0) c.in_ok-made.made = put_there c.index-3.result.now.table s.standing p.index one.0 one.1 c.next_stamp-stamp.result c.in_ok-made.made c.in_ok-made.ensures.ok h.table (ap (λ (x : Group). x.table) (same_there s.groups.items p.table c.index-3.result.now h l (sym c.index-3.ensures) h_is))
    in let
    last_is : last_of b c.args.table.0 s.trail.entries ≡ c.index-2.result.now.last = last_of_place g.D.Disk g.met.D.Disk.told g.met.D.Disk.up_to_now b g.B.Based.damaged g.B.Founded.sound g.B.Founded.premise g.B.Founded.began s.disk s.catalog s.standing s.groups.items s.trail s.late s.closed k s.seat c.args.table c.args.index p at one.0 one.1 h h_is ∙ ap (λ (x : Group). x.last) (same_there s.groups.items p.table h c.index-2.result.now l h_is (sym c.index-2.ensures))
    in let
    e : Entry = record { seat = s.seat; calls = g.D.Disk.calls c.append.new.disk; act = act.IndexState c.args.table c.args.index Building c.next_stamp-stamp.result }
    in (
      entered_kept g.D.Disk b g.B.Founded.sound g.B.Founded.premise g.B.Founded.began c.append.new.disk c.append.new.self _ _ c.entered.new.trail s.late c.entered.new.late s.closed c.entered.new.closed _ _ c.in-Ok-entered.ensures.ok.1
          (rebuilding_kept g.D.Disk g.met.D.Disk.told g.met.D.Disk.up_to_now b g.B.Based.damaged g.B.Founded.sound g.B.Founded.premise g.B.Founded.began s.disk s.catalog s.standing s.groups.items s.trail s.late s.closed k s.seat c.args.table c.args.index p at one.0 one.1 h h_is c.next_stamp-stamp.result above c.next_stamp-stamp.ensures.most c.in_ok-made.made put c.reserve_index.new.group c.reserve_index.ensures.same c.take_entry.new.trail c.take_entry.ensures.same c.in-Ok.ensures.ok c.append.new.disk c.append.new.self c.append.ensures.counts c.append.ensures.touches c.append.ensures.any_moment (λ h. of_ok c.append.result tt _ c.in-Ok-entered.ensures.ok.0 (c.append.ensures.done h)) (of_ok c.append.result tt _ c.in-Ok-entered.ensures.ok.0 c.append.ensures.defined) c.index_mut-in-Ok-entered.result.now c.index_mut-in-Ok-entered.ensures.value c.replace_index.new.group c.replace_index.ensures c.replace-before.new.dest c.replace-before.ensures.after c.entered.new.trail (g.D.Disk.calls c.append.new.disk) refl c.in-Ok-entered.ensures.ok.1.entries c.entered.ensures.room),
      (
        c.self.invariant.1.0,
        drawn_by_clock g.C.Clock g.B.Founded.times b g.B.Founded.lookback s.lookback s.clock s.trail.entries c.self.invariant.1.1 c.next_stamp-stamp.new.clock c.next_stamp-stamp.ensures.rest c.entered.new.trail.entries e (draw c.args.table.0 c.next_stamp-stamp.result) (c.in-Ok-entered.ensures.ok.1.entries ∙ ap (λ (es : List Entry). es ++ e ∷ []) c.take_entry.ensures.same) refl
            (λ tells. ap (λ (n : ℕ). drawn_stamp n (g.C.Clock.times s.clock 0)) last_is ∙ c.next_stamp-stamp.ensures.drawn tells),
      ),
    ))

pub invariant_of-self-in-Err : goal.invariant_of-self-in-Err
invariant_of-self-in-Err g c = (let
    s = c.self.inside
    in let
    k = c.self.invariant.0
    in let
    b = g.B.Based.base
    in let
    p = c.in_ok-place.place
    in let
    at : IsQuietPlace s.standing s.groups.items s.closed c.args.table c.args.index p = subst (λ gs. IsQuietPlace s.standing gs s.closed c.args.table c.args.index p) c.as_slice.ensures.value c.in_ok-place.ensures.ok
    in let
    one = some_there s.standing.indexes p.index at.low
    in let
    l : p.table < length s.groups.items = place_in s.groups.items s.standing.tables k.each.stand p.table at.table.low
    in let
    h = c.index_mut.result.now
    in let
    h_is : get_or s.groups.items p.table h ≡ h = sym c.index_mut.ensures.value
    in let
    above : h.last < c.next_stamp-stamp.result = (let a = c.next_stamp-stamp.ensures.above in let same = ap (λ (x : Group). x.last) (same_there s.groups.items p.table h c.index-2.result.now l h_is (sym c.index-2.ensures)) in omega (arith, a, same))
    in let
    put : IsIndexToPut h.table s.standing (rebuilt c.next_stamp-stamp.result s.standing.next one.0) c.in_ok-made.made = put_there c.index-3.result.now.table s.standing p.index one.0 one.1 c.next_stamp-stamp.result c.in_ok-made.made c.in_ok-made.ensures.ok h.table (ap (λ (x : Group). x.table) (same_there s.groups.items p.table c.index-3.result.now h l (sym c.index-3.ensures) h_is))
    in (
      rebuilding_failed g.D.Disk g.met.D.Disk.told g.met.D.Disk.up_to_now b g.B.Based.damaged g.B.Founded.sound g.B.Founded.premise g.B.Founded.began s.disk s.catalog s.standing s.groups.items s.trail s.late s.closed k s.seat c.args.table c.args.index p at one.0 one.1 h h_is c.next_stamp-stamp.result above c.next_stamp-stamp.ensures.most c.in_ok-made.made put c.reserve_index.new.group c.reserve_index.ensures.same c.take_entry.new.trail c.take_entry.ensures.same c.in-Ok.ensures.ok c.append.new.disk c.append.new.self c.append.ensures.counts c.append.ensures.touches c.append.ensures.any_moment c.entered.new.trail c.entered.new.late c.entered.new.closed c.in-Err.ensures.refused.0 (λ e. c.append.ensures.untouched (elim e [ inl x ↦ inl (c.in-Err.ensures.refused.1 ∙ ap Err x) | inr x ↦ inr (c.in-Err.ensures.refused.1 ∙ ap Err x) ])) (λ e. c.append.ensures.failed (c.in-Err.ensures.refused.1 ∙ ap Err e)) c.in-Err.ensures.refused.2.kept c.in-Err.ensures.refused.2.shut c.entered.ensures.room,
      (
        c.self.invariant.1.0,
        unwritten_entry_by_clock g.C.Clock g.B.Founded.times b g.B.Founded.lookback s.lookback c.next_stamp-stamp.new.clock s.trail.entries (read_by_clock g.C.Clock g.B.Founded.times b g.B.Founded.lookback s.lookback s.clock s.trail.entries c.self.invariant.1.1 c.next_stamp-stamp.new.clock c.next_stamp-stamp.ensures.rest) c.take_entry.new.trail.entries c.take_entry.ensures.same c.in-Err.ensures.refused.0 _ c.entered.new.trail.entries _ _ _ _ _ c.in-Err.ensures.refused.2,
      ),
    ))

pub returns-in-Ok-entered-clause-ok : goal.returns-in-Ok-entered-clause-ok
returns-in-Ok-entered-clause-ok g c = (let
    s = c.self.inside
    in let
    k = c.self.invariant.0
    in let
    b = g.B.Based.base
    in let
    v : Shown = shown_of s.seat s.trail.entries s.late s.closed s.groups.items s.lookback s.raising (g.D.Disk.calls s.disk) (g.D.Disk.faults s.disk)
    in let
    p = c.in_ok-place.place
    in let
    at : IsQuietPlace s.standing s.groups.items s.closed c.args.table c.args.index p = subst (λ gs. IsQuietPlace s.standing gs s.closed c.args.table c.args.index p) c.as_slice.ensures.value c.in_ok-place.ensures.ok
    in let
    one = some_there s.standing.indexes p.index at.low
    in let
    l : p.table < length s.groups.items = place_in s.groups.items s.standing.tables k.each.stand p.table at.table.low
    in let
    h = c.index_mut.result.now
    in let
    h_is : get_or s.groups.items p.table h ≡ h = sym c.index_mut.ensures.value
    in let
    above : h.last < c.next_stamp-stamp.result = (let a = c.next_stamp-stamp.ensures.above in let same = ap (λ (x : Group). x.last) (same_there s.groups.items p.table h c.index-2.result.now l h_is (sym c.index-2.ensures)) in omega (arith, a, same))
    in let
    put : IsIndexToPut h.table s.standing (rebuilt c.next_stamp-stamp.result s.standing.next one.0) c.in_ok-made.made = put_there c.index-3.result.now.table s.standing p.index one.0 one.1 c.next_stamp-stamp.result c.in_ok-made.made c.in_ok-made.ensures.ok h.table (ap (λ (x : Group). x.table) (same_there s.groups.items p.table c.index-3.result.now h l (sym c.index-3.ensures) h_is))
    in let
    v' : Shown = record v { entries = c.entered.new.trail.entries }
    in let
    m : Answered = record { number = c.args.index.0; stamp = c.next_stamp-stamp.result; at = c.len.result }
    in
    subst (λ (w : Shown). DidDefine (known_by b g.B.Based.damaged w) (known_by b g.B.Based.damaged v') (definition.Rebuilding c.args.table c.args.index) m) {x = v} c.self.view_is
    (rebuilding_did g.D.Disk g.met.D.Disk.told g.met.D.Disk.up_to_now b g.B.Based.damaged g.B.Founded.sound g.B.Founded.premise g.B.Founded.began s.disk s.catalog s.standing s.groups.items s.trail s.late s.closed k s.seat c.args.table c.args.index p at one.0 one.1 h h_is c.next_stamp-stamp.result above c.next_stamp-stamp.ensures.most c.in_ok-made.made put c.reserve_index.new.group c.reserve_index.ensures.same c.take_entry.new.trail c.take_entry.ensures.same c.in-Ok.ensures.ok c.append.new.disk c.append.new.self c.append.ensures.counts c.append.ensures.touches c.append.ensures.any_moment (λ h. of_ok c.append.result tt _ c.in-Ok-entered.ensures.ok.0 (c.append.ensures.done h)) (of_ok c.append.result tt _ c.in-Ok-entered.ensures.ok.0 c.append.ensures.defined) c.index_mut-in-Ok-entered.result.now c.index_mut-in-Ok-entered.ensures.value c.replace_index.new.group c.replace_index.ensures c.replace-before.new.dest c.replace-before.ensures.after c.entered.new.trail (g.D.Disk.calls c.append.new.disk) refl c.in-Ok-entered.ensures.ok.1.entries c.entered.ensures.room c.len.result c.len.ensures))

pub returns-in-Err-clause-refused : goal.returns-in-Err-clause-refused
returns-in-Err-clause-refused g c = (let
    s = c.self.inside
    in let
    k = c.self.invariant.0
    in let
    b = g.B.Based.base
    in let
    v : Shown = shown_of s.seat s.trail.entries s.late s.closed s.groups.items s.lookback s.raising (g.D.Disk.calls s.disk) (g.D.Disk.faults s.disk)
    in let
    p = c.in_ok-place.place
    in let
    at : IsQuietPlace s.standing s.groups.items s.closed c.args.table c.args.index p = subst (λ gs. IsQuietPlace s.standing gs s.closed c.args.table c.args.index p) c.as_slice.ensures.value c.in_ok-place.ensures.ok
    in let
    one = some_there s.standing.indexes p.index at.low
    in let
    l : p.table < length s.groups.items = place_in s.groups.items s.standing.tables k.each.stand p.table at.table.low
    in let
    h = c.index_mut.result.now
    in let
    h_is : get_or s.groups.items p.table h ≡ h = sym c.index_mut.ensures.value
    in let
    above : h.last < c.next_stamp-stamp.result = (let a = c.next_stamp-stamp.ensures.above in let same = ap (λ (x : Group). x.last) (same_there s.groups.items p.table h c.index-2.result.now l h_is (sym c.index-2.ensures)) in omega (arith, a, same))
    in let
    put : IsIndexToPut h.table s.standing (rebuilt c.next_stamp-stamp.result s.standing.next one.0) c.in_ok-made.made = put_there c.index-3.result.now.table s.standing p.index one.0 one.1 c.next_stamp-stamp.result c.in_ok-made.made c.in_ok-made.ensures.ok h.table (ap (λ (x : Group). x.table) (same_there s.groups.items p.table c.index-3.result.now h l (sym c.index-3.ensures) h_is))
    in let
    v' : Shown = record v { entries = c.entered.new.trail.entries; late = c.entered.new.late; closed = c.entered.new.closed }
    in
    subst (λ (w : Shown). Refuses (define_cause (definition.Rebuilding c.args.table c.args.index)) (known_by b g.B.Based.damaged w) (known_by b g.B.Based.damaged v') c.in-Err.fault) {x = v} c.self.view_is
    (rebuilding_refused g.D.Disk g.met.D.Disk.told g.met.D.Disk.up_to_now b g.B.Based.damaged g.B.Founded.sound g.B.Founded.premise g.B.Founded.began s.disk s.catalog s.standing s.groups.items s.trail s.late s.closed k s.seat c.args.table c.args.index p at one.0 one.1 h h_is c.next_stamp-stamp.result above c.next_stamp-stamp.ensures.most c.in_ok-made.made put c.reserve_index.new.group c.reserve_index.ensures.same c.take_entry.new.trail c.take_entry.ensures.same c.in-Ok.ensures.ok c.append.new.disk c.append.new.self c.append.ensures.counts c.append.ensures.touches c.append.ensures.any_moment c.entered.new.trail c.entered.new.late c.entered.new.closed c.in-Err.ensures.refused.0 (λ e. c.append.ensures.untouched (elim e [ inl x ↦ inl (c.in-Err.ensures.refused.1 ∙ ap Err x) | inr x ↦ inr (c.in-Err.ensures.refused.1 ∙ ap Err x) ])) (λ e. c.append.ensures.failed (c.in-Err.ensures.refused.1 ∙ ap Err e)) c.in-Err.ensures.refused.2.kept c.in-Err.ensures.refused.2.shut c.entered.ensures.room c.in-Err.fault c.in-Err.ensures.refused.2.full c.in-Err.ensures.refused.2.memory c.in-Err.ensures.refused.2.failed))

-- ---- the calls of the disk

pub returns-in_default-clause-counts : goal.returns-in_default-clause-counts
returns-in_default-clause-counts g c = few_by c.self.view_is refl refl

pub returns-in_default-reserve_index-clause-counts : goal.returns-in_default-reserve_index-clause-counts
returns-in_default-reserve_index-clause-counts g c = few_by c.self.view_is refl refl

pub returns-in-Ok-entered-clause-counts : goal.returns-in-Ok-entered-clause-counts
returns-in-Ok-entered-clause-counts g c = made_by g.D.Disk c.self.inside.disk c.append.new.disk (c.append.ensures.counts) (omega arith) c.self.view_is refl refl refl refl

pub returns-in-Err-clause-counts : goal.returns-in-Err-clause-counts
returns-in-Err-clause-counts g c = made_by g.D.Disk c.self.inside.disk c.append.new.disk (c.append.ensures.counts) (omega arith) c.self.view_is refl refl refl refl

pub returns-in-Err-clause-blames : goal.returns-in-Err-clause-blames
returns-in-Err-clause-blames g c = (let u = c.in-Err.ensures.refused in unwritten_blames c.args.self.now (record c.args.self.now { calls = g.D.Disk.calls c.append.new.disk; faults = g.D.Disk.faults c.append.new.disk }) u.0 _ _ _ _ _ _ _ c.in-Err.fault u.2 (λ failed. rose_by g.D.Disk c.self.inside.disk c.append.new.disk (c.append.ensures.failed (u.1 ∙ ap Err failed)) c.self.view_is refl))

pub returns-in_err-place-clause-blames : goal.returns-in_err-place-clause-blames
returns-in_err-place-clause-blames g c = (let e = err_from_is_err_and c.from_residual.result c.from_residual.ensures.1 in rw e.1 (subst (Blames c.args.self.now c.args.self.now) (sym e.2) (unquiet_blames c.args.self.now c.args.self.now c.self.inside.standing c.as_slice.result.now c.self.inside.closed c.args.table c.args.index c.in_err-place.field-0.0 c.in_err-place.ensures.refused)))

pub returns-in_err-made-clause-blames : goal.returns-in_err-made-clause-blames
returns-in_err-made-clause-blames g c = (let e = err_from_is_err_and c.from_residual-in_err-made.result c.from_residual-in_err-made.ensures.1 in rw e.1 (subst (Blames c.args.self.now (record c.args.self.now { calls = g.D.Disk.calls c.self.inside.disk; faults = g.D.Disk.faults c.self.inside.disk })) (sym (e.2 ∙ c.in_err-made.ensures.refused)) tt))
