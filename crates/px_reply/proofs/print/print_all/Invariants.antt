use Rattle.std.proofs.Common.{◌≡◌, ◌++◌, take}
use Rattle.px_reply.specs.Printed.{printed}
use Rattle.px_reply.proofs.print.print_all.Given as goal

abbrev pub invariant-loop-transcript : goal.invariant-loop-transcript
invariant-loop-transcript l = l.to ≡ l.initial.to ++ printed (take l.transcript-index l.transcripts)
