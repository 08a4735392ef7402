use Rattle.px_region.specs.Region.{read_of}
use Rattle.px_looks.proofs.Seen.{region_bare}
use Rattle.px_looks.proofs.keys.look_keys.Goals as goal

pub look_next-requires-clause-admits : goal.look_next-requires-clause-admits
look_next-requires-clause-admits g c = λ k. region_bare (read_of c.args.region.now) k c.requires.region
