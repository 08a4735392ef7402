use Rattle.px_pieces.specs.Reading.{reading_wrong}
use Rattle.px_schema.specs.Format.{index, index_full, standing_full, standing_piece, table, table_full}
use Rattle.px_schema.proofs.laws.places_are_first.Goals as goal

pub returns-clause-table : goal.returns-clause-table
returns-clause-table c = reading_wrong table

pub returns-clause-table_full : goal.returns-clause-table_full
returns-clause-table_full c = table_full

pub returns-clause-index : goal.returns-clause-index
returns-clause-index c = λ tables. reading_wrong (index tables)

pub returns-clause-index_full : goal.returns-clause-index_full
returns-clause-index_full c = index_full

pub returns-clause-snapshot : goal.returns-clause-snapshot
returns-clause-snapshot c = reading_wrong standing_piece

pub returns-clause-snapshot_full : goal.returns-clause-snapshot_full
returns-clause-snapshot_full c = standing_full
