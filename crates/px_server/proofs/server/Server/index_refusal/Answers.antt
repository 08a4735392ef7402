use Rattle.std.proofs.Common.{IsSome, Option, refl, sym, ap, subst, ◌∙◌, arith}
use Rattle.px_values.specs.declared.limit.Limit.TheVariants as bound
use Rattle.px_values.specs.Limits.{most_of}
use Rattle.px_calls.specs.Causes.{Refuses, define_cause}
use Rattle.px_calls.specs.declared.definition.Definition.TheVariants.{Index as IndexDefinition}
use Rattle.px_calls.specs.declared.fault.StepFault.{StepFault}
use Rattle.px_calls.specs.declared.fault.StepFault.TheVariants.{Closed, Limit, NameExists, NoTable}
use Rattle.px_values.specs.declared.name.TableId.{TableId}
use Rattle.px_tables.specs.declared.table.Table.{Table}
use Rattle.px_trail.specs.Trail.{table_of}
use Rattle.std.proofs.lemmas.Bool.{false≢true}
use Rattle.px_server.specs.Kept.{HasTallied}
use Rattle.px_server.specs.Shown.{Shown, known_by, shown_of}
use Rattle.px_server.specs.inner.Indexing.{MayMakeIndex}
use Rattle.px_server.proofs.IndexCauses.{may_make, name_taken, no_numbers, no_stamp, no_table, too_many, when_closed}
use Rattle.px_server.proofs.Lists.{all_at}
use Rattle.px_server.proofs.Released.{group_of, place_in}
use Rattle.px_server.proofs.server.Server.index_refusal.Goals as goal

pub returns-in-Some-clause-refused : goal.returns-in-Some-clause-refused
returns-in-Some-clause-refused g c = (let
    s = c.self.inside
    in let
    told = c.self.invariant.0.told
    in let
    v : Shown = shown_of s.seat s.trail.entries s.late s.closed s.groups.items s.lookback s.raising (g.D.Disk.calls s.disk) (g.D.Disk.faults s.disk)
    in
    subst (λ (w : Shown). Refuses (define_cause (IndexDefinition c.args.what.now)) (known_by g.B.Based.base g.B.Based.damaged w) (known_by g.B.Based.base g.B.Based.damaged w) (Closed c.in-Some.call)) c.self.view_is
    (when_closed (known_by g.B.Based.base g.B.Based.damaged v) told.legal s.closed told.closing c.args.what.now c.in-Some.call c.in-Some.is))

pub returns-in_default-numbered_place-clause-refused : goal.returns-in_default-numbered_place-clause-refused
returns-in_default-numbered_place-clause-refused g c = (let
    s = c.self.inside
    in let
    told = c.self.invariant.0.told
    in let
    v : Shown = shown_of s.seat s.trail.entries s.late s.closed s.groups.items s.lookback s.raising (g.D.Disk.calls s.disk) (g.D.Disk.faults s.disk)
    in
    subst (λ (w : Shown). Refuses (define_cause (IndexDefinition c.args.what.now)) (known_by g.B.Based.base g.B.Based.damaged w) (known_by g.B.Based.base g.B.Based.damaged w) NoTable) c.self.view_is
    (no_table (known_by g.B.Based.base g.B.Based.damaged v) told.legal s.closed told.closing c.args.what.now s.standing told.agrees c.in_default.is c.in_default-numbered_place.ensures.none))

pub returns-then-not-is_free-clause-refused : goal.returns-then-not-is_free-clause-refused
returns-then-not-is_free-clause-refused g c = (let
    s = c.self.inside
    in let
    told = c.self.invariant.0.told
    in let
    v : Shown = shown_of s.seat s.trail.entries s.late s.closed s.groups.items s.lookback s.raising (g.D.Disk.calls s.disk) (g.D.Disk.faults s.disk)
    in
    subst (λ (w : Shown). Refuses (define_cause (IndexDefinition c.args.what.now)) (known_by g.B.Based.base g.B.Based.damaged w) (known_by g.B.Based.base g.B.Based.damaged w) NameExists) c.self.view_is
    (name_taken (known_by g.B.Based.base g.B.Based.damaged v) told.legal s.closed told.closing c.args.what.now s.standing told.agrees c.in_default.is
    (λ unused. false≢true (sym c.if-not-is_free.true ∙ c.is_free.ensures.1 unused))))

pub returns-then-not-has_room_for_index-clause-refused : goal.returns-then-not-has_room_for_index-clause-refused
returns-then-not-has_room_for_index-clause-refused g c = (let
    s = c.self.inside
    in let
    told = c.self.invariant.0.told
    in let
    v : Shown = shown_of s.seat s.trail.entries s.late s.closed s.groups.items s.lookback s.raising (g.D.Disk.calls s.disk) (g.D.Disk.faults s.disk)
    in
    subst (λ (f : StepFault). Refuses (define_cause (IndexDefinition c.args.what.now)) (known_by g.B.Based.base g.B.Based.damaged c.args.self.now) (known_by g.B.Based.base g.B.Based.damaged c.args.self.now) f) (sym c.limit.ensures)
    (subst (λ (w : Shown). Refuses (define_cause (IndexDefinition c.args.what.now)) (known_by g.B.Based.base g.B.Based.damaged w) (known_by g.B.Based.base g.B.Based.damaged w) (Limit bound.Indexes (most_of bound.Indexes))) c.self.view_is
    (too_many (known_by g.B.Based.base g.B.Based.damaged v) told.legal s.closed told.closing c.args.what.now s.standing told.agrees c.in_default.is
    (λ room. false≢true (sym c.if-not-has_room_for_index.true ∙ c.has_room_for_index.ensures.1 room)))))

pub returns-then-index-most-clause-refused : goal.returns-then-index-most-clause-refused
returns-then-index-most-clause-refused g c = (let
    s = c.self.inside
    in let
    k = c.self.invariant.0
    in let
    told = k.told
    in let
    v : Shown = shown_of s.seat s.trail.entries s.late s.closed s.groups.items s.lookback s.raising (g.D.Disk.calls s.disk) (g.D.Disk.faults s.disk)
    in let
    l = place_in s.groups.items s.standing.tables k.each.stand c.in-Some-numbered_place.place c.in-Some-numbered_place.ensures.found
    in let
    h = c.index.result.now
    in let
    tallied : HasTallied g.B.Based.base s.trail.entries h = all_at (HasTallied g.B.Based.base s.trail.entries) s.groups.items c.in-Some-numbered_place.place h l (sym c.index.ensures) (k.each.tallied c.in_default.is)
    in let
    own = group_of s.groups.items s.standing.tables k.each.stand c.in-Some-numbered_place.place h l (sym c.index.ensures) c.args.what.now.table c.in-Some-numbered_place.ensures.numbered
    in
    subst (λ (f : StepFault). Refuses (define_cause (IndexDefinition c.args.what.now)) (known_by g.B.Based.base g.B.Based.damaged c.args.self.now) (known_by g.B.Based.base g.B.Based.damaged c.args.self.now) f) (sym c.limit-then-index-most.ensures)
    (subst (λ (w : Shown). Refuses (define_cause (IndexDefinition c.args.what.now)) (known_by g.B.Based.base g.B.Based.damaged w) (known_by g.B.Based.base g.B.Based.damaged w) (Limit bound.Stamps (most_of bound.Stamps))) c.self.view_is
    (no_stamp (known_by g.B.Based.base g.B.Based.damaged v) told.legal s.closed told.closing c.args.what.now s.standing told.agrees c.in_default.is h tallied.held tallied.tallied own
    (let past = c.if-index-most.true in omega (arith, past)))))

pub returns-then-not-has_numbers-clause-refused : goal.returns-then-not-has_numbers-clause-refused
returns-then-not-has_numbers-clause-refused g c = (let
    s = c.self.inside
    in let
    told = c.self.invariant.0.told
    in let
    v : Shown = shown_of s.seat s.trail.entries s.late s.closed s.groups.items s.lookback s.raising (g.D.Disk.calls s.disk) (g.D.Disk.faults s.disk)
    in
    subst (λ (f : StepFault). Refuses (define_cause (IndexDefinition c.args.what.now)) (known_by g.B.Based.base g.B.Based.damaged c.args.self.now) (known_by g.B.Based.base g.B.Based.damaged c.args.self.now) f) (sym c.limit-then-not-has_numbers.ensures)
    (subst (λ (w : Shown). Refuses (define_cause (IndexDefinition c.args.what.now)) (known_by g.B.Based.base g.B.Based.damaged w) (known_by g.B.Based.base g.B.Based.damaged w) (Limit bound.Ids (most_of bound.Ids))) c.self.view_is
    (no_numbers (known_by g.B.Based.base g.B.Based.damaged v) told.legal s.closed told.closing c.args.what.now s.standing told.agrees c.in_default.is
    (λ room. false≢true (sym c.if-not-has_numbers.true ∙ c.has_numbers.ensures.1 room)))))

pub returns-clause-may : goal.returns-clause-may
returns-clause-may g c = (let
    s = c.self.inside
    in let
    k = c.self.invariant.0
    in let
    told = k.told
    in let
    v : Shown = shown_of s.seat s.trail.entries s.late s.closed s.groups.items s.lookback s.raising (g.D.Disk.calls s.disk) (g.D.Disk.faults s.disk)
    in let
    l = place_in s.groups.items s.standing.tables k.each.stand c.in-Some-numbered_place.place c.in-Some-numbered_place.ensures.found
    in let
    h = c.index.result.now
    in let
    tallied : HasTallied g.B.Based.base s.trail.entries h = all_at (HasTallied g.B.Based.base s.trail.entries) s.groups.items c.in-Some-numbered_place.place h l (sym c.index.ensures) (k.each.tallied c.in_default.is)
    in let
    own = group_of s.groups.items s.standing.tables k.each.stand c.in-Some-numbered_place.place h l (sym c.index.ensures) c.args.what.now.table c.in-Some-numbered_place.ensures.numbered
    in let
    below = c.if-index-most.false
    in subst (λ (w : Shown). MayMakeIndex (known_by g.B.Based.base g.B.Based.damaged w) c.args.what.now) c.self.view_is
    (may_make (known_by g.B.Based.base g.B.Based.damaged v) told.legal s.closed told.closing c.args.what.now s.standing told.agrees c.in_default.is h tallied.held tallied.tallied own
    (subst (λ (o : Option Table). IsSome o) (sym (ap (λ (t : TableId). table_of g.B.Based.base s.trail.entries t.0) (sym own) ∙ tallied.tallied.standing.table)) refl)
    (c.is_free.ensures.0 c.if-not-is_free.false) (c.has_numbers.ensures.0 c.if-not-has_numbers.false) (omega (arith, below))))
