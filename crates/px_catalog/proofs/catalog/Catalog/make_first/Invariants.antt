use Rattle.px_catalog.specs.Catalogue.{catalogue_steps_left}
use Rattle.px_catalog.proofs.Opening.{Making}
use Rattle.px_catalog.proofs.catalog.Catalog.make_first.Given as goal

abbrev pub invariant-loop : goal.invariant-loop
invariant-loop g l = Making g.D.Disk l.initial.self l.initial.disk l.self l.disk

abbrev pub decreases-loop : goal.decreases-loop
decreases-loop g l = catalogue_steps_left l.self
