use Rattle.std.proofs.Common.{sym, arith}
use Rattle.px_server.proofs.defining.quiet.quiet_place.Goals as goal

pub returns-then-count-gt0-clause-refused : goal.returns-then-count-gt0-clause-refused
returns-then-count-gt0-clause-refused c = (
  c.in_default.is,
  record {
    place = c.in-Some-numbered_place.place;
    table = record { low = c.in-Some-numbered_place.ensures.found; is = c.in-Some-numbered_place.ensures.numbered };
    group = c.index-groups-place.result;
    is = sym c.index-groups-place.is;
    count_is = c.uses-count.ensures;
    some = (let some = c.if-count-gt0.true in omega (arith, some));
  },
)
