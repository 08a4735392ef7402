use Rattle.std.proofs.Common.{◌≡◌, ◌++◌, take}
use Rattle.px_reply.specs.Printed.{index_lines as lines_of}
use Rattle.px_reply.proofs.print.index_lines.Given as goal

abbrev pub invariant-loop-index : goal.invariant-loop-index
invariant-loop-index l = l.to ≡ l.initial.to ++ lines_of (take l.index-index l.indexes)
