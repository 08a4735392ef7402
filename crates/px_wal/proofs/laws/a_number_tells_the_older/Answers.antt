use Rattle.px_wal.proofs.Parting.{upto_told}
use Rattle.px_wal.proofs.Switched.{number_tells}
use Rattle.px_wal.proofs.laws.a_number_tells_the_older.Goals as goal

pub returns : goal.returns
returns g c = λ region flushed wal disk batches has. (
  λ le. number_tells g.D.Disk region flushed wal disk batches has flushed le,
  λ all. upto_told flushed wal.older_to has.cut.older has.cut.upto_is all,
)
