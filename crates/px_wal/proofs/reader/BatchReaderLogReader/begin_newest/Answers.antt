use Rattle.std.proofs.Common.{refl}
use Rattle.px_wal.proofs.Taken.{older_now}
use Rattle.px_wal.proofs.reader.BatchReaderLogReader.begin_newest.Goals as goal

pub returns-clause-begun : goal.returns-clause-begun
returns-clause-begun c = λ records held. (
  (
    held.0,
    held.1,
    record {
      right = held.2.right;
      last = held.2.last;
      some = held.2.some;
      store = held.2.store;
      cells = held.2.cells;
      bytes = held.2.bytes;
    },
  ),
  older_now c.args.self.now records _ _ held refl refl,
)
