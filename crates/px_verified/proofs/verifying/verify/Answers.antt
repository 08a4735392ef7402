use Rattle.std.proofs.Common.{◌≡◌, None, Some}
use Rattle.px_verified.specs.Verified.{id_of_index_named}
use Rattle.px_verified.proofs.Finding.{may-begin, not-found, not-indexed, verified}
use Rattle.px_verified.proofs.verifying.verify.Goals as goal

pub returns-in-Err : goal.returns-in-Err
returns-in-Err g c = rw c.unfound.ensures (not-found g.S.Steps.sound c.args.asked (g.S.Steps.known c.args.s.now) _ c.in-Err.fault c.in-Err.ensures.refused)

pub run_verify-came-requires-after_bounds : goal.run_verify-came-requires-after_bounds
run_verify-came-requires-after_bounds g c κs within =
    let k = g.S.Steps.known in
    let named : id_of_index_named c.in-Ok.found.indexes c.args.asked.index ≡ Some c.in-Some.index = cc (c.as_slice.ensures, c.in-Some.ensures) in
    may-begin g.S.Steps.sound c.args.asked (k c.args.s.now) (k c.find.new.self) c.in-Ok.found c.in-Ok.ensures.ok c.in-Some.index named

pub returns-in-None : goal.returns-in-None
returns-in-None g c =
    let k = g.S.Steps.known in
    let none : id_of_index_named c.in-Ok.found.indexes c.args.asked.index ≡ None = cc (c.as_slice.ensures, c.in-None.ensures) in
    rw c.not_indexed.ensures (not-indexed g.S.Steps.sound c.args.asked (k c.args.s.now) (k c.find.new.self) c.in-Ok.found c.in-Ok.ensures.ok none)

pub returns-in-Some : goal.returns-in-Some
returns-in-Some g c =
    let k = g.S.Steps.known in
    let named : id_of_index_named c.in-Ok.found.indexes c.args.asked.index ≡ Some c.in-Some.index = cc (c.as_slice.ensures, c.in-Some.ensures) in
    rw c.told.ensures (verified g.S.Steps.sound c.args.asked (k c.args.s.now) (k c.find.new.self) c.in-Ok.found c.in-Ok.ensures.ok c.in-Some.index named (k c.run_verify-came.new.s) c.run_verify-came.result c.run_verify-came.ensures)
