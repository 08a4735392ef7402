use Rattle.std.proofs.Common.{◌≡◌, map, drop}
use Rattle.px_resolve.specs.Names.{known}
use Rattle.px_resolve.proofs.names.check_all_known.Given as goal

abbrev pub invariant-loop-item : goal.invariant-loop-item
invariant-loop-item g l = known (map g.C.Named.name_in l.columns) (map g.N.Named.name_in l.names) ≡ known (map g.C.Named.name_in l.columns) (map g.N.Named.name_in (drop l.item-index l.names))
