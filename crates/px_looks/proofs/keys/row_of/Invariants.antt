use Rattle.std.proofs.Common.{◌≡◌}
use Rattle.px_looks.specs.IndexKeys.{columns_shown}
use Rattle.px_looks.specs.inner.Seen.{value_in}
use Rattle.px_looks.proofs.keys.row_of.Given as goal

abbrev pub invariant-loop-place : goal.invariant-loop-place
invariant-loop-place l = l.row.items ≡ columns_shown l.table l.index l.values (value_in l.puts) l.place
