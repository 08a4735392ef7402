use Rattle.std.proofs.Common.{◌≡◌, take}
use Rattle.px_keyfilter.specs.Keys.{with_keys}
use Rattle.px_keyfilter.proofs.filter.KeyFilter.add_all.Given as goal

abbrev pub invariant-loop-cell : goal.invariant-loop-cell
invariant-loop-cell l = l.self ≡ with_keys l.fn.self (take l.cell-index l.cells)
