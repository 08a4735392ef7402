-- The rows of a load.
use Rattle.std.specs.Prelude.{ℕ, zero, suc, ◌+◌, ◌*◌, ◌/◌, ◌%◌, ◌^◌}
use Rattle.px_load.specs.declared.rows.LoadRow.{LoadRow}

-- the number behind another in the sequence
unfoldable pub next : ℕ → ℕ
next x = (x * 6364136223846793005 + 1442695040888963407) % 2 ^ 64

-- the number that many behind another
abbrev pub after : (count number : ℕ) → ℕ
after zero number = number
after (suc count) number = next (after count number)

-- what is drawn of a number of the sequence: all but its lower 33 bits
unfoldable pub drawn : ℕ → ℕ
drawn x = x / 2 ^ 33

-- the draw that many behind a number
abbrev pub draw_at : (place number : ℕ) → ℕ
draw_at place number = drawn (after place number)

-- the row that the next three draws make: its key is below the number of rows, its group below 50, and its amount below 1000
abbrev pub row_behind : (rows number : ℕ) → LoadRow
row_behind rows number = record { id = draw_at 1 number % rows; group = draw_at 2 number % 50; amount = draw_at 3 number % 1000 }

-- the number behind the draws of the first so many rows
abbrev pub behind_rows : (count number : ℕ) → ℕ
behind_rows count number = after (3 * count) number
