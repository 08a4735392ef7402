use Rattle.px_catalog.specs.Catalogue.{standing_of}
use Rattle.px_catalog.proofs.Values.{drawn_short}
use Rattle.px_catalog.proofs.catalog.Catalog.after.Goals as goal

pub after-requires : goal.after-requires
after-requires c = record { short = drawn_short (standing_of c.args.self.now) c.args.item c.requires.right }
