use Rattle.std.proofs.Common.{◌∙◌, sym, ap, subst}
use Rattle.std.specs.Prelude.{IfErr, IfOk}
use Rattle.px_calls.specs.Calls.{DidWork}
use Rattle.px_calls.specs.Causes.{Refuses, upkeep_cause}
use Rattle.px_calls.specs.Requires.{HasOpen}
use Rattle.px_server.specs.Looks.{rows_looked}
use Rattle.px_server.proofs.Answered.{if_ok}
use Rattle.px_server.specs.Shown.{Shown, known_by}
use Rattle.px_server.specs.Sights.{have_doubt}
use Rattle.px_server.specs.Upkeep.{IsOrderedBy}
use Rattle.px_server.specs.DeviceCalls.{Blames}
use Rattle.px_server.proofs.DeviceCalls.{quiet_by, then_by}
use Rattle.px_server.proofs.Upkept.{same_ordered}
use Rattle.px_server.proofs.server.Server.upkeep.Goals as goal

-- the catalogue

pub returns-then-renewed-clause-ordered : goal.returns-then-renewed-clause-ordered
returns-then-renewed-clause-ordered g c = λ job was. same_ordered c.args.self.now c.renew_catalog.new.self c.in_ok-renewed.ensures.same.0 job was

pub returns-then-renewed-clause-unlooked : goal.returns-then-renewed-clause-unlooked
returns-then-renewed-clause-unlooked g c = ap rows_looked c.renew_catalog.ensures.groups

pub returns-in_err-renewed-clause-unlooked : goal.returns-in_err-renewed-clause-unlooked
returns-in_err-renewed-clause-unlooked g c = ap rows_looked c.renew_catalog.ensures.groups

pub returns-then-renewed-clause-doubts : goal.returns-then-renewed-clause-doubts
returns-then-renewed-clause-doubts g c = λ p open_ v. ap (λ gs. have_doubt gs p v) c.renew_catalog.ensures.groups

-- the horizons

pub raise_at-requires-clause-running : goal.raise_at-requires-clause-running
raise_at-requires-clause-running g c = ap (λ (w : Shown). w.closed) c.in_ok-renewed.ensures.same.0 ∙ c.in_ok-renewed.ensures.same.1

pub returns-in-Some-clause-ok : goal.returns-in-Some-clause-ok
returns-in-Some-clause-ok g c =
    let b = g.B.Based.base in
    let then = c.raise_at.new.self in
    subst (λ (w : Shown). IfOk c.raise_at.result (DidWork (known_by b g.B.Based.damaged w) (known_by b g.B.Based.damaged then))) c.in_ok-renewed.ensures.same.0 c.raise_at.ensures.ok

pub returns-in-Some-clause-ordered : goal.returns-in-Some-clause-ordered
returns-in-Some-clause-ordered g c =
    let then = c.raise_at.new.self in
    subst (λ (w : Shown). IfOk c.raise_at.result (λ work. (job : _) → IsOrderedBy w job → IsOrderedBy then job)) (c.in_ok-renewed.ensures.unmade c.if-renewed.false) c.raise_at.ensures.ordered

pub returns-in-Some-clause-refused : goal.returns-in-Some-clause-refused
returns-in-Some-clause-refused g c =
    let b = g.B.Based.base in
    let then = c.raise_at.new.self in
    subst (λ (w : Shown). IfErr c.raise_at.result (Refuses (upkeep_cause g.B.Founded.sound) (known_by b g.B.Based.damaged w) (known_by b g.B.Based.damaged then))) c.in_ok-renewed.ensures.same.0 c.raise_at.ensures.refused

pub returns-in-Some-clause-unlooked : goal.returns-in-Some-clause-unlooked
returns-in-Some-clause-unlooked g c = c.raise_at.ensures.unlooked ∙ ap rows_looked c.renew_catalog.ensures.groups

pub returns-in-Some-clause-doubts : goal.returns-in-Some-clause-doubts
returns-in-Some-clause-doubts g c =
    let b = g.B.Based.base in
    if_ok _ _ c.raise_at.result (λ w told p open_ v. told p (subst (λ (w : Shown). HasOpen (known_by b g.B.Based.damaged w) p) (sym c.in_ok-renewed.ensures.same.0) open_) v ∙ ap (λ gs. have_doubt gs p v) c.renew_catalog.ensures.groups) c.raise_at.ensures.doubts

-- the regions

pub upkeep_regions-requires-clause-running : goal.upkeep_regions-requires-clause-running
upkeep_regions-requires-clause-running g c = ap (λ (w : Shown). w.closed) c.in_ok-renewed.ensures.same.0 ∙ c.in_ok-renewed.ensures.same.1

pub returns-in-None-clause-ok : goal.returns-in-None-clause-ok
returns-in-None-clause-ok g c =
    let b = g.B.Based.base in
    let then = c.upkeep_regions.new.self in
    subst (λ (w : Shown). IfOk c.upkeep_regions.result (DidWork (known_by b g.B.Based.damaged w) (known_by b g.B.Based.damaged then))) c.in_ok-renewed.ensures.same.0 c.upkeep_regions.ensures.ok

pub returns-in-None-clause-ordered : goal.returns-in-None-clause-ordered
returns-in-None-clause-ordered g c =
    let then = c.upkeep_regions.new.self in
    subst (λ (w : Shown). IfOk c.upkeep_regions.result (λ work. (job : _) → IsOrderedBy w job → IsOrderedBy then job)) (c.in_ok-renewed.ensures.unmade c.if-renewed.false) c.upkeep_regions.ensures.ordered

pub returns-in-None-clause-refused : goal.returns-in-None-clause-refused
returns-in-None-clause-refused g c =
    let b = g.B.Based.base in
    let then = c.upkeep_regions.new.self in
    subst (λ (w : Shown). IfErr c.upkeep_regions.result (Refuses (upkeep_cause g.B.Founded.sound) (known_by b g.B.Based.damaged w) (known_by b g.B.Based.damaged then))) c.in_ok-renewed.ensures.same.0 c.upkeep_regions.ensures.refused

pub returns-in-None-clause-unlooked : goal.returns-in-None-clause-unlooked
returns-in-None-clause-unlooked g c = c.upkeep_regions.ensures.unlooked ∙ ap rows_looked c.renew_catalog.ensures.groups

pub returns-in-None-clause-doubts : goal.returns-in-None-clause-doubts
returns-in-None-clause-doubts g c =
    let b = g.B.Based.base in
    if_ok _ _ c.upkeep_regions.result (λ w told p open_ v. told p (subst (λ (w : Shown). HasOpen (known_by b g.B.Based.damaged w) p) (sym c.in_ok-renewed.ensures.same.0) open_) v ∙ ap (λ gs. have_doubt gs p v) c.renew_catalog.ensures.groups) c.upkeep_regions.ensures.doubts

-- ---- the calls of the disk

pub returns-in-Some-clause-counts : goal.returns-in-Some-clause-counts
returns-in-Some-clause-counts g c = then_by (c.in_ok-renewed.ensures.unmade c.if-renewed.false) (quiet_by c.raise_at.ensures.counts)

pub returns-in-None-clause-counts : goal.returns-in-None-clause-counts
returns-in-None-clause-counts g c = then_by (c.in_ok-renewed.ensures.unmade c.if-renewed.false) c.upkeep_regions.ensures.counts

pub returns-in-Some-clause-blames : goal.returns-in-Some-clause-blames
returns-in-Some-clause-blames g c =
    let then = c.raise_at.new.self in
    subst (λ (w : Shown). IfErr c.raise_at.result (Blames w then)) (c.in_ok-renewed.ensures.unmade c.if-renewed.false) c.raise_at.ensures.blames

pub returns-in-None-clause-blames : goal.returns-in-None-clause-blames
returns-in-None-clause-blames g c =
    let then = c.upkeep_regions.new.self in
    subst (λ (w : Shown). IfErr c.upkeep_regions.result (Blames w then)) (c.in_ok-renewed.ensures.unmade c.if-renewed.false) c.upkeep_regions.ensures.blames
