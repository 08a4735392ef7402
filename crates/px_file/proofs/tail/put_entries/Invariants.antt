use Rattle.std.proofs.Common.{◌≡◌, ◌++◌, take}
use Rattle.px_file.specs.Format.{entries_bytes}
use Rattle.px_file.proofs.tail.put_entries.Given as goal

abbrev pub invariant-loop-entry : goal.invariant-loop-entry
invariant-loop-entry l = l.to.items ≡ l.fn.to.items ++ entries_bytes (take l.entry-index l.entries)
