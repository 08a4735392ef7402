use Rattle.std.proofs.Common.{◌≡◌, ◌+◌, min, take}
use Rattle.std.specs.Prelude.{sum_by}
use Rattle.px_region.specs.Region.{logged_of}
use Rattle.px_server.specs.Shown.{logged_at}
use Rattle.px_server.proofs.status.cells_in.Given as goal

abbrev pub invariant-loop-part : goal.invariant-loop-part
invariant-loop-part l = l.cells ≡ min (logged_of l.group.rows + sum_by logged_at (take l.part-index l.group.indexes.items)) 18446744073709551615
