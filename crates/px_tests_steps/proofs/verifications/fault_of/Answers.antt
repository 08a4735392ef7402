use Rattle.std.proofs.Crossing.{crosses}
use denote.Param.Send.{sendable}
use Rattle.px_tests_steps.proofs.Bares.{may_begin}
use Rattle.px_tests_steps.proofs.verifications.fault_of.Goals as goal

pub run_verify-requires : goal.run_verify-requires
run_verify-requires g c = (search (sendable, crosses) depth 40, may_begin c.args.kind)
