-- The fields of an open batch.
use Rattle.std.specs.Prelude.{◌≡◌, length}
use Rattle.px_phases.specs.Batch.{BatchData}
use Rattle.px_phases.specs.declared.batch.OpenBatch.TheInside.{Inside}

abbrev pub batch_data : Inside → BatchData
batch_data b = record { stamp = b.stamp; changes = b.changes; met = b.met.items; marks = b.marks.items; puts = b.puts; closes = b.closes.items }

-- a truth value for each change
pub record IsBatch (b : Inside) : Type 0 where
  pub flags : length b.met.items ≡ length b.changes
