use Rattle.std.proofs.Common.{inl, inr, refl}
use Rattle.px_reading.proofs.Looks.{part_plain}
use Rattle.px_repairs.proofs.Handing.{got_some}
use Rattle.px_server.proofs.status.count_of.Goals.{in-Some+in_ok-unverified-in-Some, in-None}
use Rattle.px_server.proofs.status.count_of.Goals as goal

pub unverified_in-requires : goal.unverified_in-requires
unverified_in-requires c = part_plain c.args.group.now c.requires c.in-Some.place c.in-Some.ensures.found.0 c.index.result.now c.index.result.now c.index.ensures

pub returns-clause-keys : goal.returns-clause-keys
returns-clause-keys c =
    elim c.match-index_place.branch [
      | in-Some+in_ok-unverified-in-Some w ↦ rw w.unverified-is (let there = got_some c.args.group.now.indexes.items w.in-Some.place w.index.result.now w.index.result.now w.in-Some.ensures.found.0 w.index.ensures in
          record { keys = inl (w.in-Some.place, w.index.result.now, there, w.in-Some.ensures.found.1 w.index.result.now there, w.in_ok-unverified-in-Some.ensures) })
      | in-None w ↦ rw w.unverified-is (record { keys = inr (w.in-None.ensures.none, refl) })
    ]
