use Rattle.std.proofs.Common.{◌≡◌, ◌++◌, take}
use Rattle.px_reply.specs.Printed.{printed_items}
use Rattle.px_reply.proofs.print.print_items.Given as goal

abbrev pub invariant-loop-item : goal.invariant-loop-item
invariant-loop-item l = l.to ≡ l.initial.to ++ printed_items (take l.item-index l.items)
