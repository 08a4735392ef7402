use Rattle.std.proofs.Common.{ℕ, ◌<◌, ◌≤◌}
use Rattle.std.specs.Prelude.{map}
use Rattle.px_wal.specs.SnapshotOf.{file_data}
use Rattle.px_files.specs.Locals.{IsNamed}
use Rattle.px_files.proofs.local.free_local.Given as goal

abbrev pub invariant-loop-local : goal.invariant-loop-local
invariant-loop-local l = (other : ℕ) → 4 ≤ other → other < l.local → IsNamed (map file_data l.files) other
