use Rattle.px_tests_rounds.proofs.Bares.{single}
use Rattle.px_tests_rounds.proofs.runs.run.Goals as goal

pub run_rounds-transcripts-requires-clause-single : goal.run_rounds-transcripts-requires-clause-single
run_rounds-transcripts-requires-clause-single g c κs bounds = single c.new.result.seat
