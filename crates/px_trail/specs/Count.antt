-- What the changes of a trail are counted with.
use Rattle.std.specs.Prelude.{ℕ, ◌+◌, List, length, sum_by}
use Rattle.px_values.specs.declared.row.Value.{Value}
use Rattle.px_values.specs.declared.row.Value.TheVariants.{Null, Number, Truth, Text}
use Rattle.px_values.specs.declared.change.Change.{Change}
use Rattle.px_values.specs.declared.change.What.{What}
use Rattle.px_values.specs.declared.change.What.TheVariants.{Set, Gone}
use Rattle.px_trail.specs.declared.entry.Act.{Act}
use Rattle.px_trail.specs.declared.entry.Act.TheVariants.{Begun}
use Rattle.px_trail.specs.declared.entry.Entry.{Entry}

-- the bytes of a value: those of a text, eight of a number, one of a truth value, none of NULL
abbrev pub value_bytes : Value → ℕ
value_bytes Null = 0
value_bytes (Number n) = 8
value_bytes (Truth t) = 1
value_bytes (Text bytes) = length bytes

abbrev pub row_bytes : List Value → ℕ
row_bytes values = sum_by value_bytes values

abbrev pub what_bytes : What → ℕ
what_bytes (Set assignments) = sum_by (λ a. value_bytes a.value) assignments
what_bytes Gone = 0

-- a change counts 64 bytes, those of its key and those of its values
abbrev pub counted_change : Change → ℕ
counted_change c = 64 + row_bytes c.row + what_bytes c.what

-- entries that begin no batch count nothing
abbrev pub counted_act : Act → ℕ
counted_act (Begun table stamp changes) = sum_by counted_change changes
counted_act act = 0

abbrev pub counted_bytes : List Entry → ℕ
counted_bytes entries = sum_by (λ e. counted_act e.act) entries
