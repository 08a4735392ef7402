use Rattle.std.proofs.Common.{◌≡◌, ℕ, List, take}
use Rattle.std.specs.BTreeSet.{contains_text}
use Rattle.px_parse.specs.Nullness.{names_column}
use Rattle.px_parse.proofs.nullness.names_of.Given as goal

abbrev pub invariant-loop-part : goal.invariant-loop-part
invariant-loop-part l = (name : List ℕ) → contains_text l.names name ≡ names_column (take l.part-index l.parts) name
