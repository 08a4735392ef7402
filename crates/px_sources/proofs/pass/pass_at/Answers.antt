use Rattle.std.proofs.Common.{◌≡◌, true, false, List, refl, sym, subst}
use Rattle.px_cells.specs.CellData.{CellData}
use Rattle.px_sources.specs.Passed.{place_of}
use Rattle.px_sources.specs.Sources.{Gives, shown_of}
use Rattle.px_sources.proofs.Sources.{pass_none, pass_other, pass_same, source_begins}
use Rattle.px_sources.proofs.pass.pass_at.Goals as goal

pub returns-in-None-clause-passed : goal.returns-in-None-clause-passed
returns-in-None-clause-passed g c = λ left gives.
    subst (λ (l : List CellData). Gives g.D.Disk c.args.source.now c.args.disk.now l)
    (sym (pass_none (place_of c.args.last.now) left (shown_of c.args.source.now) (source_begins g.D.Disk c.args.source.now c.args.disk.now left gives) c.in-None.ensures)) gives

pub returns-then-is_at-clause-passed : goal.returns-then-is_at-clause-passed
returns-then-is_at-clause-passed g c = λ left gives.
    let same = pass_same (place_of c.args.last.now) left c.in-Some.cell.now c.in-Some.ensures.0 (shown_of c.args.source.now) (source_begins g.D.Disk c.args.source.now c.args.disk.now left gives) c.in-Some.ensures.1 (c.if-is_at.ensures.0 refl) in
    c.step.ensures.stepped c.in-Some.cell.now _ (subst (λ (l : List CellData). Gives g.D.Disk c.args.source.now c.args.disk.now l) same gives)

pub returns-else-is_at-clause-passed : goal.returns-else-is_at-clause-passed
returns-else-is_at-clause-passed g c = λ left gives.
    subst (λ (l : List CellData). Gives g.D.Disk c.args.source.now c.args.disk.now l)
    (sym (pass_other (place_of c.args.last.now) left c.in-Some.cell.now c.in-Some.ensures.0 (shown_of c.args.source.now) (source_begins g.D.Disk c.args.source.now c.args.disk.now left gives) c.in-Some.ensures.1
    (λ same. (let z : false ≡ true = c.if-is_at.ensures.1 same in cc))))
    gives
