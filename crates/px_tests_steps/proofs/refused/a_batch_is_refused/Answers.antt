use Rattle.px_tests_steps.proofs.Bares.{distinct_of, few_of, fits, some_of}
use Rattle.px_tests_steps.proofs.refused.a_batch_is_refused.Goals as goal

pub run_batch-answer-requires-clause-some : goal.run_batch-answer-requires-clause-some
run_batch-answer-requires-clause-some g c = some_of _ c.in_ok-changes.ensures

pub run_batch-answer-requires-clause-rows : goal.run_batch-answer-requires-clause-rows
run_batch-answer-requires-clause-rows g c = few_of _ c.in_ok-changes.ensures

pub run_batch-answer-requires-clause-distinct : goal.run_batch-answer-requires-clause-distinct
run_batch-answer-requires-clause-distinct g c = distinct_of _ c.in_ok-changes.ensures

pub run_batch-answer-requires-clause-fits : goal.run_batch-answer-requires-clause-fits
run_batch-answer-requires-clause-fits g c = fits _
