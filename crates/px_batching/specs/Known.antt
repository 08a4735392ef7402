-- What is known of the open batches, and what the table shows, after a step of one of them.
use Rattle.std.specs.Prelude.{ℕ, ◌+◌, List, get_or}
use Rattle.std.proofs.Math.ListN.{set}
use Rattle.px_region.specs.Region.{read_of}
use Rattle.px_region.specs.declared.region.Region.{Region}
use Rattle.px_groupworld.specs.Group.{GroupData}
use Rattle.px_groupworld.specs.Steps.{cells_data, gone_on}
use Rattle.px_openbatches.specs.Pending.{HeldBatch}
use Rattle.px_tablesteps.specs.Kept.{no_held, open_of}

-- the batch at the place
abbrev pub own_of : ℕ → List HeldBatch → HeldBatch
own_of m hs = get_or hs m no_held

-- it has marked one index more, or verified at one more
abbrev pub held_marked : ℕ → List HeldBatch → List HeldBatch
held_marked m hs = set hs m (record (own_of m hs) { done = (own_of m hs).done + 1; verified = (own_of m hs).verified })

abbrev pub held_verified : ℕ → List HeldBatch → List HeldBatch
held_verified m hs = set hs m (record (own_of m hs) { done = (own_of m hs).done; verified = (own_of m hs).verified + 1 })

-- the index that it marks, or verifies at, has the region's cells
abbrev pub shown_marked : ℕ → List HeldBatch → Region → GroupData → GroupData
shown_marked m hs new v = record (cells_data (own_of m hs).done (read_of new) v) { opens = set v.opens m (gone_on (open_of (own_of m hs))) }

abbrev pub shown_verified : ℕ → List HeldBatch → Region → GroupData → GroupData
shown_verified m hs new v = cells_data (own_of m hs).verified (read_of new) v
