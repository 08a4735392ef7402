use Rattle.px_tests_runs.proofs.Serving.{is_single}
use Rattle.px_tests_runs.proofs.runs.scheduled.Goals as goal

pub run_rounds-requires-clause-single : goal.run_rounds-requires-clause-single
run_rounds-requires-clause-single g c κs bounds = is_single (g.S.Steps.known c.args.server) c.requires.alone c.requires.nothing
