use Rattle.std.proofs.Common.{◌≡◌, drop}
use Rattle.std.specs.List.{flat_map}
use Rattle.px_bind.specs.Upserts.{null_key}
use Rattle.px_bind.proofs.upserts.check_key.Given as goal

abbrev pub invariant-loop-part : goal.invariant-loop-part
invariant-loop-part l = flat_map (null_key l.columns l.places l.values) l.key ≡ flat_map (null_key l.columns l.places l.values) (drop l.part-index l.key)
