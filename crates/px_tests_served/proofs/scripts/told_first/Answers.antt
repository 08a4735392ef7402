use Rattle.px_tests_served.proofs.Serving.{is_single}
use Rattle.px_tests_served.proofs.scripts.told_first.Goals as goal

pub told-requires-clause-single : goal.told-requires-clause-single
told-requires-clause-single g c κs within = is_single (g.S.Steps.known c.args.server) c.requires.alone c.requires.nothing
