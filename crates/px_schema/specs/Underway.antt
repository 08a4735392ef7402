-- The character under way of the code.
use Rattle.std.specs.Prelude.{◌≡◌}
use Rattle.px_schema.specs.declared.text.Character.{Character}
use Rattle.px_schema.specs.Texts.{CharState}

-- it has these numbers
abbrev pub state_in : Character → CharState
state_in c = record { need = c.need; least = c.least; most = c.most }

abbrev pub IsState : Character → CharState → Type 0
IsState c s = state_in c ≡ s
