use Rattle.std.proofs.Common.{refl}
use Rattle.px_tests_served.proofs.served.run_opened.Goals as goal

pub run_over-requires-clause-began : goal.run_over-requires-clause-began
run_over-requires-clause-began g c = λ κs bounds. record { moment = refl; left = λ file bytes is. is; seen = λ file. refl }
