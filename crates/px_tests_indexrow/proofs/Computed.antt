-- The cells of the change at all phases, as the definitions compute them.
use Rattle.std.proofs.Common.{◌≡◌, ℕ, None, List, [], ◌∷◌, refl}
use Rattle.px_cells.specs.declared.kind.CellKind.TheVariants.{Put, DeleteColumn, DeleteFamily}
use Rattle.px_cells.specs.CellData.{CellData}
use Rattle.px_rows.specs.Keys.{are_all_bytes, is_read_back, read_parts, row_key, text_size}
use Rattle.px_rows.specs.Stored.{number_of_bytes}
use Rattle.px_rows.specs.inner.Lists.{change_list, set_cells}
use Rattle.px_indexrow.specs.Form.{index_form, owns, rest_of, value_among, value_of_column}
use Rattle.px_indexrow.specs.Lists.{base_version, closes_of, column_cells, marks_of}
use Rattle.px_tests_indexrow.specs.Worked.{worked_change, worked_index, worked_new, worked_old, worked_table}

-- 80 00 00 00 00 00 00 01
abbrev data_key : List ℕ
data_key = 128 ∷ 0 ∷ 0 ∷ 0 ∷ 0 ∷ 0 ∷ 0 ∷ 1 ∷ []

-- fe 7f ff ff fa, and the primary key
abbrev old_key : List ℕ
old_key = 254 ∷ 127 ∷ 255 ∷ 255 ∷ 250 ∷ data_key

-- ff, and the primary key
abbrev new_key : List ℕ
new_key = 255 ∷ data_key

abbrev cell : List ℕ → ℕ → ℕ → List ℕ → CellData
cell k q s v = record { key = k; qualifier = q; stamp = s; kind = Put; value = v }

abbrev null : List ℕ → ℕ → ℕ → CellData
null k q s = record { key = k; qualifier = q; stamp = s; kind = DeleteColumn; value = [] }

-- the row's key
key_bytes : row_key worked_table worked_change.row ≡ data_key
unfolding row_key is_read_back read_parts are_all_bytes number_of_bytes
key_bytes = refl

-- first the marks: a version at the new key, and the status at the old one
marked : marks_of (index_form worked_table worked_index) worked_change.row 7 worked_old worked_new ≡ cell new_key 1 7 (2 ∷ []) ∷ cell new_key 5 7 (120 ∷ []) ∷ cell new_key 3 7 (97 ∷ 108 ∷ []) ∷ cell old_key 1 7 (2 ∷ []) ∷ []
unfolding owns value_of_column value_among rest_of read_parts number_of_bytes text_size column_cells
marked = refl

-- then the row
written : change_list worked_table.columns data_key 7 worked_change.what
    ≡ cell data_key 1 7 [] ∷ cell data_key 3 7 (97 ∷ 108 ∷ []) ∷ null data_key 4 7 ∷ cell data_key 5 7 (120 ∷ []) ∷ []
unfolding set_cells
written = refl

-- at last what closes the marks
closed : closes_of (index_form worked_table worked_index) worked_change.row 7 worked_old worked_new ≡ cell new_key 1 7 (1 ∷ []) ∷ record { key = old_key; qualifier = 0; stamp = 7; kind = DeleteFamily; value = [] } ∷ []
unfolding owns value_of_column value_among rest_of read_parts number_of_bytes text_size
closed = refl

-- the base version of the first state: NULL is a DeleteColumn
built : base_version (index_form worked_table worked_index) worked_change.row 3 worked_old ≡ cell old_key 1 3 (1 ∷ []) ∷ null old_key 5 3 ∷ cell old_key 3 3 (98 ∷ 111 ∷ []) ∷ []
unfolding owns value_of_column value_among rest_of read_parts number_of_bytes text_size column_cells
built = refl

-- a removed row leaves its key
removed : marks_of (index_form worked_table worked_index) worked_change.row 7 worked_old None ≡ cell old_key 1 7 (2 ∷ []) ∷ []
unfolding owns value_of_column value_among rest_of read_parts number_of_bytes text_size
removed = refl
