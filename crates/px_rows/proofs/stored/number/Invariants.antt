use Rattle.std.proofs.Common.{◌≡◌, ◌≤◌, ◌<◌, ◌^◌, take, length}
use Rattle.px_rows.specs.Stored.{number_of_bytes}
use Rattle.px_rows.proofs.stored.number.Given as goal

abbrev pub invariant-loop-byte : goal.invariant-loop-byte
invariant-loop-byte l = record {
  within : l.byte-index ≤ length l.first;
  short : length l.first ≤ 8;
  small : l.number < 256 ^ l.byte-index;
  read : l.number ≡ number_of_bytes 0 (take l.byte-index l.first);
}
