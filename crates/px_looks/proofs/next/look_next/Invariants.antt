use Rattle.std.proofs.Common.{◌≡◌, ◌+◌, ◌<◌, ◌≤◌, length, min}
use Rattle.std.specs.Option.{option_copied}
use Rattle.px_cells.specs.Contents.{value_at}
use Rattle.px_region.specs.OnlyRead.{HasOnlyRead}
use Rattle.px_region.specs.Promise.{IsAlike, IsSamePromise}
use Rattle.px_region.specs.Region.{read_of}
use Rattle.px_looks.specs.inner.Parts.{FoundTo}
use Rattle.px_looks.proofs.next.look_next.Given as goal

abbrev pub invariant-loop-round : goal.invariant-loop-round
invariant-loop-round g l = record {
  found : FoundTo (g.R.Reader.shows l.reader) (value_at (read_of l.fn.region)) l.initial.from (option_copied l.high) l.from l.found.items;
  few : length l.found.items < 64;
  alike : IsAlike l.fn.region l.region;
  promised : IsSamePromise l.fn.region l.region;
  counted : min (l.fn.region.looked + length l.found.items) 18446744073709551615 ≤ l.region.looked;
  risen : l.fn.region.looked ≤ l.region.looked;
  only_read : HasOnlyRead g.D.Disk l.fn.disk l.disk;
}
