use Rattle.std.proofs.Common.{◌≡◌, length}
use Rattle.px_block.proofs.Steps.{HasBegun}
use Rattle.px_block.proofs.read.read_body.Given as goal

abbrev pub invariant-loop : goal.invariant-loop
invariant-loop l = record {
  begun : HasBegun l.before l.bytes l.cells l.at;
  counted : length l.cells ≡ l.counter;
}
