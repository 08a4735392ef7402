use Rattle.px_tests_rounds.proofs.Bares.{single}
use Rattle.px_tests_rounds.proofs.ends.told_early.Goals as goal

pub run_rounds-transcripts-requires-clause-single : goal.run_rounds-transcripts-requires-clause-single
run_rounds-transcripts-requires-clause-single g c κs bounds = single c.new-3.result.seat
