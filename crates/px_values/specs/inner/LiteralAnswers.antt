-- The right answer for a literal at a type.
use Rattle.std.specs.Prelude.{List, ℕ, Result, Ok, Err}
use Rattle.px_values.specs.Literals.{HasZeroCharacter, IsNotOfType, IsOutOfRange, IsTooLong, SpellsValue}
use Rattle.px_values.specs.Types.{HasType}
use Rattle.px_values.specs.declared.column.ColType.{ColType}
use Rattle.px_values.specs.declared.row.Value.{Value}
use Rattle.px_values.specs.declared.literal.ValueFault.{ValueFault}
use Rattle.px_values.specs.declared.literal.ValueFault.TheVariants.{NotOfType, OutOfRange, TooLong, ZeroCharacter, Memory}

-- the right answer for a literal at a type; want of memory may come at any time
abbrev pub IsLiteralAnswer : List ℕ → ColType → Result Value ValueFault → Type 0
IsLiteralAnswer spelling ty (Ok v) = SpellsValue spelling v × HasType ty v
IsLiteralAnswer spelling ty (Err NotOfType) = IsNotOfType spelling ty
IsLiteralAnswer spelling ty (Err OutOfRange) = IsOutOfRange spelling ty
IsLiteralAnswer spelling ty (Err TooLong) = IsTooLong spelling ty
IsLiteralAnswer spelling ty (Err ZeroCharacter) = HasZeroCharacter spelling ty
IsLiteralAnswer spelling ty (Err Memory) = Unit {0}
