use Rattle.px_tests_steps.proofs.Bares.{begins_on}
use Rattle.px_tests_steps.proofs.deletes.a_delete_is_refused.Goals as goal

pub run_delete-deleted-requires : goal.run_delete-deleted-requires
run_delete-deleted-requires g c = let h = c.in_ok-run.ensures in record { new = (h.0, h.2, begins_on h.0 h.1) }
