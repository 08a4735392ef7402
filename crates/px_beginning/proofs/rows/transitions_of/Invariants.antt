use Rattle.std.proofs.Common.{◌≡◌, ◌≤◌, length, take}
use Rattle.std.specs.Prelude.{vec_len, vec_capacity}
use Rattle.px_region.specs.OnlyRead.{HasOnlyRead}
use Rattle.px_region.specs.Promise.{IsAlike, IsSamePromise}
use Rattle.px_region.specs.Region.{read_of}
use Rattle.px_phases.specs.Begun.{AreFrom}
use Rattle.px_phases.specs.Phases.{AreTransitions}
use Rattle.px_beginning.specs.Reads.{old_in}
use Rattle.px_beginning.proofs.rows.transitions_of.Given as goal

abbrev pub invariant-loop-place : goal.invariant-loop-place
invariant-loop-place g l = record {
  are : AreTransitions l.table (take l.place l.changes) l.transitions.items;
  from : AreFrom (old_in l.table (read_of l.fn.rows) l.batches) (take l.place l.changes) l.transitions.items;
  count : vec_len l.transitions ≡ l.place;
  room : length l.changes ≤ vec_capacity l.transitions;
  alike : IsAlike l.fn.rows l.rows;
  promised : IsSamePromise l.fn.rows l.rows;
  only_read : HasOnlyRead g.D.Disk l.fn.disk l.disk;
}
