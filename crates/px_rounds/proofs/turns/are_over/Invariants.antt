use Rattle.std.proofs.Common.{ℕ, ◌≡◌, ◌≢◌, ◌<◌, Some, None}
use Rattle.std.specs.Prelude.{slice_get}
use Rattle.px_session.specs.declared.run.SessionRun.{SessionRun}
use Rattle.px_rounds.proofs.turns.are_over.Given as goal

abbrev pub invariant-loop-run : goal.invariant-loop-run
invariant-loop-run l = (n : ℕ) (run : SessionRun) → n < l.run-index → slice_get l.runs n ≡ Some run → run.ending ≢ None
