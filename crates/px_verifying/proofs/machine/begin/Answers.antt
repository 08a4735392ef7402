use Rattle.std.proofs.Common.{refl, sym, ◌∙◌}
use Rattle.px_verifying.proofs.Done.{without-first}
use Rattle.px_verifying.proofs.machine.begin.Goals as goal

pub returns-then-reports_first : goal.returns-then-reports_first
returns-then-reports_first c = (record { has = sym c.reports_first.ensures ∙ c.if-reports_first.true; before = refl; rebuilt = refl; after = refl }, c.report_of.ensures)

pub returns-else-reports_first : goal.returns-else-reports_first
returns-else-reports_first c = let none = sym c.reports_first.ensures ∙ c.if-reports_first.false in (record { has = without-first c.args.asked.kind none; before = sym none; rebuilt = refl; after = refl }, c.rebuilding_of.ensures)
