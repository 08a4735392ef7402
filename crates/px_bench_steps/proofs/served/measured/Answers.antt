use Rattle.px_bench_steps.proofs.Serving.{is_single}
use Rattle.px_bench_steps.proofs.served.measured.Goals as goal

pub run_rounds-server-requires-clause-single : goal.run_rounds-server-requires-clause-single
run_rounds-server-requires-clause-single g c κs bounds = is_single (g.S.Steps.known c.args.server) c.requires.alone c.requires.nothing
