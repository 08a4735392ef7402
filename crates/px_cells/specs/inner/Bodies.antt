-- What a cell has besides its stamp, where its key and value lie in the cell itself or on the heap.
use Rattle.std.specs.Prelude.{ℕ, List, length, take, drop, ◌≤◌}
use Rattle.px_cells.specs.declared.kind.CellKind.{CellKind}
use Rattle.px_cells.specs.declared.cell.Body.{Body}
use Rattle.px_cells.specs.declared.cell.Body.TheVariants.{Short, Long}

-- the bytes of the key
abbrev pub body_key : Body → List ℕ
body_key (Short qualifier kind key_len len bytes) = take key_len bytes
body_key (Long qualifier kind key_len bytes) = take key_len bytes.items

-- the bytes of the value
abbrev pub value_in : Body → List ℕ
value_in (Short qualifier kind key_len len bytes) = drop key_len (take len bytes)
value_in (Long qualifier kind key_len bytes) = drop key_len bytes.items

abbrev pub qualifier_in : Body → ℕ
qualifier_in (Short qualifier kind key_len len bytes) = qualifier
qualifier_in (Long qualifier kind key_len bytes) = qualifier

abbrev pub kind_in : Body → CellKind
kind_in (Short qualifier kind key_len len bytes) = kind
kind_in (Long qualifier kind key_len bytes) = kind

-- the key ends within the bytes
abbrev pub IsSoundBody : Body → Type 0
IsSoundBody (Short qualifier kind key_len len bytes) = (key_len ≤ len) × (len ≤ 27)
IsSoundBody (Long qualifier kind key_len bytes) = key_len ≤ length bytes.items
