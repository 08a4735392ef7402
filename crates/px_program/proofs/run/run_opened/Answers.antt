use Rattle.std.proofs.Common.{refl}
use Rattle.px_program.proofs.run.run_opened.Goals as goal

pub run_since-requires-clause-began : goal.run_since-requires-clause-began
run_since-requires-clause-began g c = λ κs bounds. record { moment = refl; left = λ file bytes is. is; seen = λ file. refl }

pub run_since-requires-clause-told : goal.run_since-requires-clause-told
run_since-requires-clause-told g c = λ κs bounds given tells. (given tells).sound
