use Rattle.std.proofs.Common.{refl}
use Rattle.px_bench_steps.proofs.served.over_opened.Goals as goal

pub over-requires-clause-began : goal.over-requires-clause-began
over-requires-clause-began g c = λ κs bounds. record { moment = refl; left = λ file bytes is. is; seen = λ file. refl }
