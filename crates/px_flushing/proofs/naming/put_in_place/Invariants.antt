use Rattle.std.proofs.Common.{◌≡◌, drop, vec_capacity}
use Rattle.px_flushing.proofs.naming.put_in_place.Given as goal

abbrev pub invariant-loop : goal.invariant-loop
invariant-loop l = record { items : l.files.items ≡ drop l.counter l.fn.files.items; capacity : vec_capacity l.files ≡ vec_capacity l.fn.files }
