use Rattle.std.proofs.Common.{◌≡◌, ◌++◌, map}
use Rattle.std.specs.Vec.Iter.{into_iter_items}
use Rattle.px_verify.specs.Lists.{version_found}
use Rattle.px_verify.proofs.entries.keep_versions.Given as goal

abbrev pub invariant-loop-key : goal.invariant-loop-key
invariant-loop-key l = l.versions.items ++ map (version_found l.included) (into_iter_items l.key-iterator) ≡ l.fn.versions.items ++ map (version_found l.included) l.fn.keys
