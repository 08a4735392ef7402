-- What a batch that begins reads.
use Rattle.std.specs.Prelude.{ℕ, List, map}
use Rattle.px_cells.specs.CellData.{CellData}
use Rattle.px_cells.specs.Contents.{value_at}
use Rattle.px_forms.specs.Indexes.{IndexForm}
use Rattle.px_indexrow.specs.Form.{index_form}
use Rattle.px_group.specs.Group.{batch_in}
use Rattle.px_group.specs.declared.group.Begun.{Begun}
use Rattle.px_group.specs.declared.group.IndexRegion.{IndexRegion}
use Rattle.px_phases.specs.Batch.{pending_state}
use Rattle.px_rows.specs.Keys.{row_key}
use Rattle.px_rows.specs.Spelled.{row_form}
use Rattle.px_tables.specs.declared.table.Table.{Table}
use Rattle.px_trail.specs.States.{greatest_stamp}
use Rattle.px_trail.specs.Trail.{table_shape}
use Rattle.px_values.specs.States.{RowState}
use Rattle.px_values.specs.declared.change.Change.{Change}
use Rattle.px_values.specs.declared.row.Value.{Value}

abbrev pub keys_of_rows : Table → List Change → List (List ℕ)
keys_of_rows t cs = map (λ c. row_key t c.row) cs

-- the newest state that cells spell for a row
abbrev pub newest_in : Table → List CellData → List Value → RowState
newest_in t cells r = (row_form t).spelled (value_at cells) r greatest_stamp

-- the state of a row where all that is pending counts as written
abbrev pub old_in : Table → List CellData → List Begun → List Value → RowState
old_in t cells batches r = pending_state (table_shape t) r (newest_in t cells r) (map batch_in batches)

abbrev pub form_at : Table → IndexRegion → IndexForm
form_at t x = index_form t x.index

-- the forms of the indexes, in their order
abbrev pub index_forms : Table → List IndexRegion → List IndexForm
index_forms t indexes = map (form_at t) indexes
