use Rattle.px_tests_steps.proofs.Bares.{bound}
use Rattle.px_tests_steps.proofs.refused.a_query_is_refused.Goals as goal

pub run_query-answer-requires-clause-bound : goal.run_query-answer-requires-clause-bound
run_query-answer-requires-clause-bound g c = bound
